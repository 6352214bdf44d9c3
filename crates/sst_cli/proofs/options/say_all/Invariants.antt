use Rattle.std.proofs.Common.{length, ◌-◌, ◌≡◌, map, drop}
use Rattle.std.specs.String.{string_bytes}
use Rattle.sst_cli.specs.Options as line
use Rattle.sst_cli.proofs.options.say_all.Given as goal

abbrev pub invariant-loop-done : goal.invariant-loop-done
invariant-loop-done l = line.say_all (map string_bytes l.words) line.none_said ≡ line.say_all (drop l.done (map string_bytes l.words)) l.said

abbrev pub decreases-loop-done : goal.decreases-loop-done
decreases-loop-done l = length l.words - l.done
