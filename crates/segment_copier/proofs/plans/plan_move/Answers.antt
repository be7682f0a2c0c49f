use Rattle.std.proofs.Common.{◌≡◌, ◌∷◌, [], inl, inr, Option, refl, sym, ap, subst, ◌∙◌, ℕ, filter, IsSome}
use Rattle.std.proofs.lemmas.Result.{err_from_is_err_and}
use Rattle.object_map.specs.declared.map.Row.{Row}
use Rattle.object_map.specs.Rows.{row_of}
use Rattle.segment_word.specs.Frames.{Sealed}
use Rattle.segment_word.specs.Handles.{pin_of}
use Rattle.segment_word.specs.Layout.{frame_at}
use Rattle.segment_table.specs.Table.{Table, held_at}
use Rattle.segment_table.specs.Room.{pointers_in}
use Rattle.segment_table.specs.Laws.{IsListed}
use Rattle.segment_table.proofs.Emptying.{sealed_is}
use Rattle.segment_table.proofs.Listing.{of_some}
use Rattle.drive.specs.Fields.{DriveFields}
use Rattle.segment_copier.specs.Moves.{is_data, data_in}
use Rattle.segment_copier.proofs.Listed.{first_listed}
use Rattle.segment_copier.proofs.Kept.{pin_over}
use Rattle.segment_copier.proofs.plans.plan_move.Goals as goal

pub pin-requires-clause-held : goal.pin-requires-clause-held
pin-requires-clause-held g c =
    let t : Table = c.args.drive.now.store.table in
    let first : IsListed t c.args.object c.args.frame c.in-Some-first.first.now = first_listed c.what_is_listed_is_held.ensures t c.args.object c.args.frame c.as_slice.result.now c.in-Some-first.first.now (c.as_slice.ensures.value ∙ c.in_ok-held.ensures.pointers) c.in-Some-first.ensures.value in
    subst (λ (d : DriveFields). IsSome (held_at d.store.table c.in-Some-first.first.now)) (sym c.held_in.ensures.same) (of_some c.args.object _ first.held)

pub pin-requires-clause-sealed : goal.pin-requires-clause-sealed
pin-requires-clause-sealed g c =
    let t : Table = c.args.drive.now.store.table in
    let first : IsListed t c.args.object c.args.frame c.in-Some-first.first.now = first_listed c.what_is_listed_is_held.ensures t c.args.object c.args.frame c.as_slice.result.now c.in-Some-first.first.now (c.as_slice.ensures.value ∙ c.in_ok-held.ensures.pointers) c.in-Some-first.ensures.value in
    subst (λ (d : DriveFields). (frame_at d.store.table.seat.frames c.in-Some-first.first.now.frame).phase ≡ Sealed) (sym c.held_in.ensures.same)
    (ap (λ (n : ℕ). (frame_at t.seat.frames n).phase) first.frame ∙ sealed_is (frame_at t.seat.frames c.args.frame).phase first.sealed)

pub invariant_of-result-2 : goal.invariant_of-result-2
invariant_of-result-2 g c =
    let t : Table = c.args.drive.now.store.table in
    let first : IsListed t c.args.object c.args.frame c.in-Some-first.first.now = first_listed c.what_is_listed_is_held.ensures t c.args.object c.args.frame c.as_slice.result.now c.in-Some-first.first.now (c.as_slice.ensures.value ∙ c.in_ok-held.ensures.pointers) c.in-Some-first.ensures.value in
    let pins : c.in_ok-pin.pin.pins ≡ pin_of t.seat.frames c.args.frame ∷ [] =
    c.in_ok-pin.ensures.pinned ∙ ap (λ (d : DriveFields). pin_of d.store.table.seat.frames c.in-Some-first.first.now.frame ∷ []) c.held_in.ensures.same ∙ ap (λ (n : ℕ). pin_of t.seat.frames n ∷ []) first.frame in
    let pointers : c.as_slice-2.result.now ≡ pointers_in t c.args.object c.args.frame = c.as_slice-2.ensures.value ∙ c.in_ok-held.ensures.pointers in
    let places : c.in_ok-places.places.items ≡ data_in t c.args.object c.args.frame =
    c.in_ok-places.ensures.found ∙ ap (λ (d : DriveFields). filter (λ p. is_data (held_at d.store.table p)) c.as_slice-2.result.now) (c.pin.ensures.same ∙ c.held_in.ensures.same)
    ∙ ap (filter (λ p. is_data (held_at t p))) pointers in
    pin_over c.what_is_listed_is_held.ensures t c.args.object c.args.frame g.J.Naming.frames c.in_ok-places.places.items c.in_ok-pin.pin c.in_ok-pin.ensures.table pins places

pub returns-clause-pinned : goal.returns-clause-pinned
returns-clause-pinned g c =
    let t : Table = c.args.drive.now.store.table in
    let first : IsListed t c.args.object c.args.frame c.in-Some-first.first.now = first_listed c.what_is_listed_is_held.ensures t c.args.object c.args.frame c.as_slice.result.now c.in-Some-first.first.now (c.as_slice.ensures.value ∙ c.in_ok-held.ensures.pointers) c.in-Some-first.ensures.value in
    (c.in_ok-pin.ensures.table, c.in_ok-pin.ensures.pinned ∙ ap (λ (d : DriveFields). pin_of d.store.table.seat.frames c.in-Some-first.first.now.frame ∷ []) c.held_in.ensures.same ∙ ap (λ (n : ℕ). pin_of t.seat.frames n ∷ []) first.frame)

-- there is no row
pub returns-in_default-clause-told : goal.returns-in_default-clause-told
returns-in_default-clause-told g c = inl (refl, sym c.in_default.ensures)

-- there is one, and what it was refused for was told by the call
pub returns-in_err-held-clause-told : goal.returns-in_err-held-clause-told
returns-in_err-held-clause-told g c =
    let p = err_from_is_err_and c.from_residual.result c.from_residual.ensures.1 in
    let there : IsSome (row_of c.args.drive.now.store.rows c.args.object) = subst (λ (r : Option Row). IsSome r) c.in-Some.ensures refl in
    rw (p.1, p.2) (inr (inl c.in_err-held.ensures.refusal, there))

pub returns-in_err-pin-clause-told : goal.returns-in_err-pin-clause-told
returns-in_err-pin-clause-told g c =
    let p = err_from_is_err_and c.from_residual-in_err-pin.result c.from_residual-in_err-pin.ensures.1 in
    let there : IsSome (row_of c.args.drive.now.store.rows c.args.object) = subst (λ (r : Option Row). IsSome r) c.in-Some.ensures refl in
    rw (p.1, p.2) (inr (c.in_err-pin.ensures.refusal, there))

pub returns-in_err-places-clause-told : goal.returns-in_err-places-clause-told
returns-in_err-places-clause-told g c =
    let p = err_from_is_err_and c.from_residual-in_err-places.result c.from_residual-in_err-places.ensures.1 in
    let there : IsSome (row_of c.args.drive.now.store.rows c.args.object) = subst (λ (r : Option Row). IsSome r) c.in-Some.ensures refl in
    rw (p.1, p.2) (inr (inl c.in_err-places.ensures.refusal, there))
