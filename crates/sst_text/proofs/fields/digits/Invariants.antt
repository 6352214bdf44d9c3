use Rattle.std.proofs.Common.{◌≡◌, ◌<◌, ◌^◌, drop, option_and_then}
use Rattle.sst_text.specs.Texts.{digits_from, in_range}
use Rattle.sst_text.proofs.fields.digits.Given as goal

abbrev pub invariant-loop-c : goal.invariant-loop-c
invariant-loop-c l = (l.value < 2 ^ 60) × (option_and_then in_range (digits_from l.value (drop l.c-index l.field)) ≡ option_and_then in_range (digits_from 0 l.field))
