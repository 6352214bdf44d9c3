use Rattle.std.proofs.Common.{◌≡◌, ◌≤◌, ℕ, List, take, length, ap, ◌∙◌, arith}
use Rattle.sst_block.specs.Block.{Row, common}
use Rattle.sst_block.proofs.Fronts.{common-take, common-le_right}
use Rattle.sst_block.proofs.Kept.{Keeps-put}
use Rattle.sst_block.proofs.Held.{value_short, fits-more}
use Rattle.sst_block.proofs.Putting.{stored-is, spelling-is, handles-more, holds-more, pairs-more}
use Rattle.sst_block.specs.declared.row_form.RowForm.TheVariants.{Index}
use Rattle.sst_block.specs.Builder.{row_put}
use Rattle.sst_block.proofs.builder.BlockBuilder.put.Goals as goal

-- what the common front gives the calls that take it
front-le : (lent key : List ℕ) (shared : ℕ) → shared ≡ common lent key → shared ≤ length key
front-le lent key shared is = omega (arith, is, common-le_right lent key)

front_same : (last lent key : List ℕ) (shared : ℕ) → lent ≡ last → shared ≡ common lent key → take shared last ≡ take shared key
front_same last lent key shared same is = rw (is, same) (common-take last key)

pub put_row-requires-clause-front : goal.put_row-requires-clause-front
put_row-requires-clause-front c = front-le c.deref.result.now c.args.key.now _ c.common_front-shared.ensures

pub put_row-requires-clause-value : goal.put_row-requires-clause-value
put_row-requires-clause-value c =
    let t = c.requires in
    let waits = c.in_ok-make_room.ensures t.form t.interval t.rows t.holds in
    let stored = stored-is t.form _ t.interval t.rows _ _ _ _ _ _ _ c.args.key.now c.args.value.now c.args.delta.now _ waits.ready waits.form_is c.deref.ensures.value c.common_front-shared.ensures c.value_put-stored.ensures in
    let short = value_short t.form t.interval t.rows _ t.short in
    omega (arith, short, ap length stored)

pub keep_key-requires-clause-front : goal.keep_key-requires-clause-front
keep_key-requires-clause-front c = front-le c.deref.result.now c.args.key.now _ c.common_front-shared.ensures

pub keep_key-requires-clause-same : goal.keep_key-requires-clause-same
keep_key-requires-clause-same c = front_same _ _ c.args.key.now _ c.deref.ensures.value c.common_front-shared.ensures

pub overflow_add-self : goal.overflow_add-self
overflow_add-self c =
    let t = c.requires in
    let waits = c.in_ok-make_room.ensures t.form t.interval t.rows t.holds in
    let room = waits.ready.room in
    let most = t.holds.fits.most in
    omega (arith, room, most)

-- the builder holds the rows and the one that was put
pub returns-clause-ok : goal.returns-clause-ok
returns-clause-ok c = λ form interval rows h.
    let t = c.requires in
    let row : Row = record { key = c.args.key.now; value = c.args.value.now } in
    let waits = c.in_ok-make_room.ensures t.form t.interval t.rows t.holds in
    let shared = c.common_front-shared.ensures ∙ ap (λ (l : List ℕ). common l c.args.key.now) c.deref.ensures.value in
    let stored = stored-is t.form _ t.interval t.rows _ _ _ _ _ _ _ c.args.key.now c.args.value.now c.args.delta.now _ waits.ready waits.form_is c.deref.ensures.value c.common_front-shared.ensures c.value_put-stored.ensures in
    let spelled = spelling-is t.form _ _ _ c.args.key.now _ _ _ waits.form_is stored c.in_ok-put_row.ensures in
    holds-more c.args.self.now _ row c.args.delta.now form interval rows t h
    (record {
      sound = waits.sound;
      form_is = waits.form_is;
      interval_is = waits.interval_is;
      keeps = Keeps-put t.form t.interval t.rows _ _ _ _ _ _ _ _ (row_put t.form t.interval t.rows row c.args.delta.now) waits.ready shared spelled c.in_ok-keep_key.ensures;
      fits = fits-more t.form t.interval t.rows (row_put t.form t.interval t.rows row c.args.delta.now) t.holds.fits t.has_form t.ordered
          (handles-more t.form t.interval t.rows row c.args.delta.now t.holds.fits.handles t.given) t.short;
    })

pub returns-clause-pairs : goal.returns-clause-pairs
returns-clause-pairs c = λ user_key delta interval pairs h held low small whole.
    let row : Row = record { key = c.args.key.now; value = c.args.value.now } in
    pairs-more c.args.self.now _ row c.args.delta.now user_key delta interval pairs h c.requires held low small whole
    (returns-clause-ok c (Index user_key delta) interval held.rows held.holds)
