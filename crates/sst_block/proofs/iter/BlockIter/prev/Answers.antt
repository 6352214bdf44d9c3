use Rattle.std.proofs.Common.{ℕ, ◌<◌, Some, refl, sym, subst, arith}
use Rattle.std.proofs.lemmas.Bool.{lt-ltb}
use Rattle.sst_block.proofs.RestartPlaces.{restart-room}
use Rattle.sst_block.proofs.Halves.{restarts-some}
use Rattle.sst_block.proofs.Back.{first-start, later-start, first-before, before-stands, prev-reaches, prev-in, prev-first}
use Rattle.sst_block.proofs.Walking.{start-at, walks-of}
use Rattle.sst_block.proofs.iter.BlockIter.prev.Goals as goal

pub overflow_sub-start : goal.overflow_sub-start
overflow_sub-start c =
    let (rows, i, w) = c.requires in
    omega (arith, start-at c.args.self.now w.form w.bytes rows w.block i w.walks)

pub returns-then-start-eq0-clause-moves : goal.returns-then-start-eq0-clause-moves
returns-then-start-eq0-clause-moves c = λ rows i w.
    walks-of _ _ _ _ _ _ (prev-first c.args.self.now _ w.form w.bytes rows w.block i w.walks c.if-start-eq0.true (record { form = refl; rows = refl; places = refl; count = refl }) refl)

pub returns-then-start-eq0-clause-within : goal.returns-then-start-eq0-clause-within
returns-then-start-eq0-clause-within c = λ form bytes rows b i w.
    prev-first c.args.self.now _ form bytes rows b i w c.if-start-eq0.true (record { form = refl; rows = refl; places = refl; count = refl }) refl

pub returns-then-start-eq0-clause-tells : goal.returns-then-start-eq0-clause-tells
returns-then-start-eq0-clause-tells c = λ rows i w.
    let none = first-start c.args.self.now w.form w.bytes rows w.block i w.walks c.if-start-eq0.true in
    rw none refl

pub restart_before-i-requires-clause-some : goal.restart_before-i-requires-clause-some
restart_before-i-requires-clause-some c =
    let (rows, i, w) = c.requires in
    subst (λ (n : ℕ). 0 < n) (sym w.walks.count) (restarts-some w.form w.bytes rows w.block)

pub restart_before-i-requires-clause-room : goal.restart_before-i-requires-clause-room
restart_before-i-requires-clause-room c =
    let (rows, i, w) = c.requires in
    let count = w.walks.count in
    omega (arith, count, restart-room c.args.self.now w.form w.bytes rows w.block (Some i) w.walks)

pub restart_before-i-requires-clause-first : goal.restart_before-i-requires-clause-first
restart_before-i-requires-clause-first c =
    let (rows, i, w) = c.requires in
    let some = c.if-start-eq0.false in
    first-before c.args.self.now w.form w.bytes rows w.block (Some i) _ w.walks (omega (arith, some))

pub at_restart-requires : goal.at_restart-requires
at_restart-requires c =
    let (rows, i, w) = c.requires in
    (w.form, w.bytes, rows, w.block, Some i, w.walks, subst (λ (n : ℕ). c.restart_before-i.result < n) w.walks.count c.restart_before-i.ensures.0)

pub forward-requires : goal.forward-requires
forward-requires c =
    let (rows, i, w) = c.requires in
    let within = subst (λ (n : ℕ). c.restart_before-i.result < n) (w.walks).count c.restart_before-i.ensures.0 in
    let (k, at, there, told, row) = c.at_restart.ensures.within w.form w.bytes rows w.block (Some i) w.walks within in
    let (before, stands) = before-stands c.args.self.now c.at_restart.new.self w.form w.bytes rows w.block i c.restart_before-i.result k w.walks within c.restart_before-i.ensures.1 at there in
    prev-reaches c.args.self.now c.at_restart.new.self w.form w.bytes rows w.block i k w.walks before stands

pub returns-clause-moves : goal.returns-clause-moves
returns-clause-moves c = λ rows i w.
    let within = subst (λ (n : ℕ). c.restart_before-i.result < n) (w.walks).count c.restart_before-i.ensures.0 in
    let (k, at, there, told, row) = c.at_restart.ensures.within w.form w.bytes rows w.block (Some i) w.walks within in
    let (before, stands) = before-stands c.args.self.now c.at_restart.new.self w.form w.bytes rows w.block i c.restart_before-i.result k w.walks within c.restart_before-i.ensures.1 at there in
    walks-of _ _ _ _ _ _ (prev-in c.args.self.now c.at_restart.new.self c.forward.new.self w.form w.bytes rows w.block i k w.walks before stands c.forward.ensures)

pub returns-clause-within : goal.returns-clause-within
returns-clause-within c = λ form bytes rows b i w.
    let within = subst (λ (n : ℕ). c.restart_before-i.result < n) (w).count c.restart_before-i.ensures.0 in
    let (k, at, there, told, row) = c.at_restart.ensures.within form bytes rows b (Some i) w within in
    let (before, stands) = before-stands c.args.self.now c.at_restart.new.self form bytes rows b i c.restart_before-i.result k w within c.restart_before-i.ensures.1 at there in
    prev-in c.args.self.now c.at_restart.new.self c.forward.new.self form bytes rows b i k w before stands c.forward.ensures

pub returns-clause-tells : goal.returns-clause-tells
returns-clause-tells c = λ rows i w.
    let some = c.if-start-eq0.false in
    sym (lt-ltb 0 i (later-start c.args.self.now w.form w.bytes rows w.block i w.walks (omega (arith, some))))
