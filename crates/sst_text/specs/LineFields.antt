-- What the code's fields of a line are.
-- For proofs alone.
use Rattle.sst_text.specs.declared.entry_line.Fields as code
use Rattle.sst_text.specs.Texts.{Fields}

-- the fields without where they lie in memory
-- Pinned by: run.ends
abbrev pub seen : code.Fields → Fields
seen f = record { user = f.user.now; seq = f.seq; kind = f.kind; value = f.value.now }
