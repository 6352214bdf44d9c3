-- What words that are no command come to: a line, and nothing else is touched.
use Rattle.std.specs.Prelude.{◌≡◌, ℕ, List, codes}
use Rattle.sst_cli.specs.Behaviour.{Behaviour}
use Rattle.sst_cli.specs.declared.status.Status.TheVariants.{Usage}

-- the line for words that are no command
-- Pinned by: words_that_are_no_command
abbrev pub usage_text : List ℕ
usage_text = codes "usage\n"

-- what such words come to: there is nothing to find
-- Pinned by: what_a_run_comes_to.usage
abbrev pub no_command : Behaviour
no_command =
    record {
      Found = Unit {0};
      IsFound = λ told found. Unit {0};
      outcome = λ found. record { status = Usage; text = usage_text };
      Leaves = λ found before after. (after.held ≡ before.held) × (after.left ≡ before.left);
      MayChange = λ old new. new ≡ old;
      SparesFolder = λ told status. Unit {0};
      SparesInput = λ told status. Unit {0};
    }
