use Rattle.std.proofs.Common.{Bool, true, not, position, refl, sym, ap, ◌∙◌}
use Rattle.sst_bbt_read.proofs.Seated.{first-free, full-none, full-not, opened-seats, still-of, still-belongs, still-on, still-at, still-kept, not-seated, new-belongs, new-on, new-at, new-kept}
use Rattle.sst_bbt_read.proofs.bbt_reader.BbtReader.cursor.Goals as goal

pub returns-in-None-clause-full : goal.returns-in-None-clause-full
returns-in-None-clause-full c =
    let none = ap (position (λ (taken : Bool). not taken)) (sym c.as_slice.ensures.value) ∙ sym c.free_seat.ensures ∙ c.in-None.is in
    (λ full. full-none _ c.args.self.now c.self.view_is none, λ all. refl)

pub returns-in-Some-clause-full : goal.returns-in-Some-clause-full
returns-in-Some-clause-full c =
    let some = ap (position (λ (taken : Bool). not taken)) (sym c.as_slice.ensures.value) ∙ sym c.free_seat.ensures ∙ c.in-Some.is in
    (λ full. absurd cc, λ all. absurd (full-not _ c.args.self.now c.in-Some.number c.self.view_is some all))

pub returns-in-Some-clause-ok : goal.returns-in-Some-clause-ok
returns-in-Some-clause-ok c =
    let free = first-free c.self.inside.seats.items c.in-Some.number (ap (position (λ (taken : Bool). not taken)) (sym c.as_slice.ensures.value) ∙ sym c.free_seat.ensures ∙ c.in-Some.is) in
    opened-seats _ c.args.self.now c.in-Some.number c.self.view_is free

pub returns-in-Some-clause-of : goal.returns-in-Some-clause-of
returns-in-Some-clause-of c =
    λ file of. still-of _ c.args.self.now c.in-Some.number true file c.self.view_is of

pub returns-in-Some-clause-belongs : goal.returns-in-Some-clause-belongs
returns-in-Some-clause-belongs c =
    let free = first-free c.self.inside.seats.items c.in-Some.number (ap (position (λ (taken : Bool). not taken)) (sym c.as_slice.ensures.value) ∙ sym c.free_seat.ensures ∙ c.in-Some.is) in
    new-belongs (record { name = _; table = c.self.inside.table; seats = c.self.inside.seats.items }) c.in-Some.number free

pub returns-in-Some-clause-on : goal.returns-in-Some-clause-on
returns-in-Some-clause-on c =
    let free = first-free c.self.inside.seats.items c.in-Some.number (ap (position (λ (taken : Bool). not taken)) (sym c.as_slice.ensures.value) ∙ sym c.free_seat.ensures ∙ c.in-Some.is) in
    λ file of. new-on _ c.args.self.now c.in-Some.number file c.self.view_is free of

pub returns-in-Some-clause-at : goal.returns-in-Some-clause-at
returns-in-Some-clause-at c =
    let free = first-free c.self.inside.seats.items c.in-Some.number (ap (position (λ (taken : Bool). not taken)) (sym c.as_slice.ensures.value) ∙ sym c.free_seat.ensures ∙ c.in-Some.is) in
    λ file entries of stands. new-at _ c.args.self.now c.in-Some.number file entries c.self.view_is free of stands

pub returns-in-Some-clause-two : goal.returns-in-Some-clause-two
returns-in-Some-clause-two c =
    let free = first-free c.self.inside.seats.items c.in-Some.number (ap (position (λ (taken : Bool). not taken)) (sym c.as_slice.ensures.value) ∙ sym c.free_seat.ensures ∙ c.in-Some.is) in
    λ d belongs. not-seated _ c.args.self.now c.in-Some.number d c.self.view_is free belongs

pub returns-in-Some-clause-others : goal.returns-in-Some-clause-others
returns-in-Some-clause-others c =
    let free = first-free c.self.inside.seats.items c.in-Some.number (ap (position (λ (taken : Bool). not taken)) (sym c.as_slice.ensures.value) ∙ sym c.free_seat.ensures ∙ c.in-Some.is) in
    λ d belongs. still-belongs _ c.args.self.now c.in-Some.number true d c.self.view_is (not-seated _ c.args.self.now c.in-Some.number d c.self.view_is free belongs) belongs

pub returns-in-Some-clause-others_on : goal.returns-in-Some-clause-others_on
returns-in-Some-clause-others_on c =
    let free = first-free c.self.inside.seats.items c.in-Some.number (ap (position (λ (taken : Bool). not taken)) (sym c.as_slice.ensures.value) ∙ sym c.free_seat.ensures ∙ c.in-Some.is) in
    λ d file place on. still-on _ c.args.self.now c.in-Some.number true d file place c.self.view_is (not-seated _ c.args.self.now c.in-Some.number d c.self.view_is free on.belongs) on

pub returns-in-Some-clause-others_at : goal.returns-in-Some-clause-others_at
returns-in-Some-clause-others_at c =
    let free = first-free c.self.inside.seats.items c.in-Some.number (ap (position (λ (taken : Bool). not taken)) (sym c.as_slice.ensures.value) ∙ sym c.free_seat.ensures ∙ c.in-Some.is) in
    λ d file entries place at. still-at _ c.args.self.now c.in-Some.number true d file entries place c.self.view_is (not-seated _ c.args.self.now c.in-Some.number d c.self.view_is free at.on.belongs) at

pub returns-in-Some-clause-kept : goal.returns-in-Some-clause-kept
returns-in-Some-clause-kept c =
    let free = first-free c.self.inside.seats.items c.in-Some.number (ap (position (λ (taken : Bool). not taken)) (sym c.as_slice.ensures.value) ∙ sym c.free_seat.ensures ∙ c.in-Some.is) in
    λ parts keeps. new-kept _ c.args.self.now c.in-Some.number parts c.self.view_is free keeps

pub returns-in-Some-clause-others_kept : goal.returns-in-Some-clause-others_kept
returns-in-Some-clause-others_kept c =
    let free = first-free c.self.inside.seats.items c.in-Some.number (ap (position (λ (taken : Bool). not taken)) (sym c.as_slice.ensures.value) ∙ sym c.free_seat.ensures ∙ c.in-Some.is) in
    λ d parts place stands. still-kept _ c.args.self.now c.in-Some.number true d parts place c.self.view_is (not-seated _ c.args.self.now c.in-Some.number d c.self.view_is free stands.belongs) stands
