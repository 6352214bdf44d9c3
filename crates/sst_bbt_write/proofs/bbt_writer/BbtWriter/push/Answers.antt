use Rattle.std.proofs.Common.{◌≡◌, ◌+◌, length, refl, ap, ◌∙◌, arith}
use Rattle.sst_key.specs.Entry.{entry_of, key_of}
use Rattle.sst_bbt_write.proofs.Entering.{block_takes, entry-space, entered_keeps}
use Rattle.sst_bbt_write.proofs.bbt_writer.BbtWriter.push.Goals as goal

pub add-requires : goal.add-requires
add-requires c =
    let k = c.requires.writer in
    block_takes c.args.self.now _ k.0 k.1 k.2 (entry_of c.args.e.now) _ _ k.3 k.4 (c.deref.ensures.value ∙ c.requires.key) refl

pub overflow_add-self : goal.overflow_add-self
overflow_add-self c =
    let k = c.requires.writer in
    let space = (entry-space c.args.self.now _ k.0 k.1 k.2 (entry_of c.args.e.now) k.3 k.4).keys in
    omega (arith, c.len.ensures, ap length c.requires.key)

pub overflow_add-self-2 : goal.overflow_add-self-2
overflow_add-self-2 c =
    let k = c.requires.writer in
    let space = (entry-space c.args.self.now _ k.0 k.1 k.2 (entry_of c.args.e.now) k.3 k.4).rows in
    omega arith

pub overflow_add-self-3 : goal.overflow_add-self-3
overflow_add-self-3 c =
    let k = c.requires.writer in
    let space = (entry-space c.args.self.now _ k.0 k.1 k.2 (entry_of c.args.e.now) k.3 k.4).count in
    omega arith

pub overflow_add-self-4 : goal.overflow_add-self-4
overflow_add-self-4 c =
    let k = c.requires.writer in
    let space = (entry-space c.args.self.now _ k.0 k.1 k.2 (entry_of c.args.e.now) k.3 k.4).values in
    omega arith

pub returns-clause-ok : goal.returns-clause-ok
returns-clause-ok c = λ cut entries bytes kept fits.
    let e = entry_of c.args.e.now in
    let keys : c.args.self.now.keys + c.len.result ≡ c.args.self.now.keys + length (key_of e) = omega (arith, c.len.ensures, ap length c.requires.key) in
    entered_keeps c.args.self.now cut entries bytes e c.deref.result.now _ kept fits (c.deref.ensures.value ∙ c.requires.key) c.in_ok-add.ensures.ok
    refl refl refl refl refl refl (ap (λ v. v.items) c.swap.ensures.x_after ∙ c.requires.key) refl keys refl refl
