-- What is changed in a segment table stays in its drive's table of frames.
use Rattle.std.proofs.Common.{◌≡◌, ℕ, ◌≤◌, List, [], ◌∷◌, length, refl, sym, ap, subst, arith}
use Rattle.std.specs.Prelude.{Result, Ok, Err, IfOk, OnErr}
use Rattle.s4_types.specs.Pointer.{Place}
use Rattle.s4_types.specs.declared.refusals.Refusal.{Refusal}
use Rattle.codec.specs.declared.summaries.BlockRole.{BlockRole}
use Rattle.segment_word.specs.Handles.{Drive}
use Rattle.segment_table.specs.Table.{Table}
use Rattle.segment_table.specs.Room.{is_filling, numbers}
use Rattle.segment_table.specs.Changes.{IsFilling, NoneIsFilling, IsAppended, IsSealedIn, MarksFrame}

-- what is equal is equal in each part
pub along : {A B : Type 0} {x y : A} (p : x ≡ y) (f : A → B) → f x ≡ f y
along p f = ap f p

-- what holds of the one holds of the other
pub across : {A : Type 0} {x y : A} (p : x ≡ y) (P : A → Type 0) → P y → P x
across p P h = subst P (sym p) h

pub appended_here : (r : Result Place Refusal) (role : BlockRole) (block : List ℕ) (old new : Table) → IfOk r (λ p. IsAppended p role block old new) → OnErr r (new ≡ old) → new.seat.table ≡ old.seat.table
appended_here (Ok p) role block old new exact same = ap (λ (d : Drive). d.table) exact.alone
appended_here (Err e) role block old new exact same = ap (λ (t : Table). t.seat.table) same

by_filling : (filling : List ℕ) (old new : Table) → length filling ≤ 1 → (filling ≡ [] → new ≡ old) → ((f : ℕ) → filling ≡ f ∷ [] → IsSealedIn f old new) → new.seat.table ≡ old.seat.table
by_filling [] old new one idle sealed = ap (λ (t : Table). t.seat.table) (idle refl)
by_filling (f ∷ []) old new one idle sealed = ap (λ (d : Drive). d.table) (sealed f refl).0.alone
by_filling (f ∷ g ∷ filling) old new one idle sealed = absurd (omega (arith, one))

pub sealed_here : (old new : Table) → length (numbers is_filling 0 old.seat.frames) ≤ 1 → (NoneIsFilling old → new ≡ old) → ((f : ℕ) → IsFilling f old → IsSealedIn f old new) → new.seat.table ≡ old.seat.table
sealed_here old new one idle sealed = by_filling (numbers is_filling 0 old.seat.frames) old new one idle sealed

pub marked_here : (r : Result (Unit {0}) Refusal) (f : ℕ) (old new : Table) → MarksFrame f old r new → new.seat.table ≡ old.seat.table
marked_here (Ok x) f old new marks = ap (λ (d : Drive). d.table) marks.marked.seat
marked_here (Err e) f old new marks = ap (λ (t : Table). t.seat.table) marks.refused
