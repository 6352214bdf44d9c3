use Rattle.std.proofs.Common.{◌≡◌, Some, ap, ◌∙◌, arith}
use Rattle.sst_num.specs.NumberReading.{fixed_at}
use Rattle.sst_block.proofs.Parts.{behind-counted, parts-missing, parts-sound}
use Rattle.sst_block.proofs.check.check_parts.Goals as goal

pub overflow_cast-result : goal.overflow_cast-result
overflow_cast-result c =
    let counted = behind-counted _ _ c.args.places.now _ _ _ _ c.split_at.ensures.back c.in-Ok.ensures in
    let few = counted.few in
    omega (arith, few)

pub overflow_sub-result : goal.overflow_sub-result
overflow_sub-result c =
    let counted = behind-counted _ _ c.args.places.now _ _ _ _ c.split_at.ensures.back c.in-Ok.ensures in
    let few = counted.few in
    omega (arith, few)

pub returns-then-missing-gt0 : goal.returns-then-missing-gt0
returns-then-missing-gt0 c =
    let first : fixed_at 4 c.args.places.now ≡ Some 0 = c.fixed32.ensures.exact ∙ ap (λ n. Some n) c.if-fixed32-ne0.false in
    let counted = behind-counted _ _ c.args.places.now _ _ _ _ c.split_at.ensures.back c.in-Ok.ensures in
    parts-missing _ _ _ _ _ _ c.requires.some first counted (omega arith)

pub returns : goal.returns
returns c =
    let first : fixed_at 4 c.args.places.now ≡ Some 0 = c.fixed32.ensures.exact ∙ ap (λ n. Some n) c.if-fixed32-ne0.false in
    let counted = behind-counted _ _ c.args.places.now _ _ _ _ c.split_at.ensures.back c.in-Ok.ensures in
    parts-sound _ _ _ _ _ _ c.requires.some first counted (omega arith)
