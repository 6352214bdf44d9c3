-- What is printed where the input is refused. These texts are this project's own.
use Rattle.std.specs.Prelude.{ℕ, List, ◌++◌, codes}
use Rattle.std.specs.Fmt.{decimal}
use Rattle.sst_key.specs.declared.faults.WriteFault.{WriteFault}
use Rattle.sst_key.specs.declared.faults.WriteFault.TheVariants.{NotIncreasing, KeyLong, ValueLong, Heavy, ExternalShape, KeySize, ShortKey}
use Rattle.sst_cli.specs.declared.input.refusal.Reason.{Reason}
use Rattle.sst_cli.specs.declared.input.refusal.Reason.TheVariants.{LineLong, Line, Refused, Many}
use Rattle.sst_cli.specs.declared.input.refusal.Refusal.{Refusal}

-- the name of a reason that a writer gives
-- Pinned by: refused_lines, keys_and_values_past_their_limits, a_list_too_heavy
abbrev pub fault_text : WriteFault → List ℕ
fault_text NotIncreasing = codes "not-increasing"
fault_text KeyLong = codes "key-long"
fault_text ValueLong = codes "value-long"
fault_text Heavy = codes "heavy"
fault_text ExternalShape = codes "external-shape"
fault_text KeySize = codes "key-size"
fault_text ShortKey = codes "short-key"

-- the name of a reason: `line-long`, `line`, `many`, or that of the writer
-- Pinned by: long_lines, refused_lines
abbrev pub reason_text : Reason → List ℕ
reason_text LineLong = codes "line-long"
reason_text Line = codes "line"
reason_text (Refused fault) = fault_text fault
reason_text Many = codes "many"

-- the line that is printed for a refusal
-- Pinned by: refused_lines
abbrev pub refusal_text : Refusal → List ℕ
refusal_text refusal =
    codes "input " ++ (decimal refusal.line ++ (codes " " ++ (reason_text refusal.reason ++ codes "\n")))
