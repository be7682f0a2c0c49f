-- What is refused at a moment that can be read, and which moments the entries of an object have.
use Rattle.std.proofs.Common.{◌≡◌, ◌⊎◌, ◌<◌, ◌≤◌, ℕ, zero, suc, List, [], ◌∷◌, length, get_or, Option, Some, None, Result, Ok, Err, IfErr, inl, inr, refl, ap, arith}
use Rattle.s4_types.specs.declared.refusals.Refusal.{Refusal}
use Rattle.s4_types.specs.declared.refusals.Refusal.TheVariants.{NoMemory, Busy}
use Rattle.s4_model.specs.State.{State}
use Rattle.s4_model.specs.Refusals.{moment_refusal}
use Rattle.s4_model.specs.Visible.{IsVisible}
use Rattle.codec.specs.Entry.{EntryFields}
use Rattle.object_map.specs.declared.map.Row.{Row}
use Rattle.object_map.specs.Rows.{row_of}
use Rattle.time_read.specs.Rows.{entries_of}
use Rattle.time_read.specs.Orderly.{IsFromTo}
use Rattle.version_store.specs.Store.{StoreFields, IsStore}
use Rattle.version_store.specs.Versions.{entries_of_object, entries_of_row}
use Rattle.std.specs.List.{AllByRecursion}
use Rattle.drive.proofs.Told.{visible_not_refused}

-- ---- a moment that can be read is refused for want alone

not_some : (x : Option Refusal) (e : Refusal) → x ≡ None → x ≡ Some e → ⊥
not_some x e none some = absurd cc

pub only_want : (s : State) (o t : ℕ) (e : Refusal) → IsVisible s o t → (moment_refusal s o t ≡ Some e) ⊎ (e ≡ NoMemory) ⊎ (e ≡ Busy) → (e ≡ NoMemory) ⊎ (e ≡ Busy)
only_want s o t e v (inl refused) = absurd (not_some (moment_refusal s o t) e (visible_not_refused s o t v) refused)
only_want s o t e v (inr want) = want

-- ---- the entries of an object

-- no entry of an object is later than the last change
pub by_row : (store : StoreFields) (o : ℕ) (found : Option Row) → IsStore store → row_of store.rows o ≡ found → AllByRecursion (λ e. e.moment ≤ store.latest) (entries_of_row store.log.held o found)
by_row store o None stands is = tt
by_row store o (Some row) stands is = all_up_to row.created store.latest (entries_of store.log.held o row) (stands.orderly o row is).chain.moments
  where
    all_up_to : (created latest : ℕ) (entries : List EntryFields) → AllByRecursion (λ e. IsFromTo created latest e.moment) entries → AllByRecursion (λ e. e.moment ≤ latest) entries
    all_up_to created latest [] all = tt
    all_up_to created latest (e ∷ entries) all = (all.0.1, all_up_to created latest entries all.1)

one_of : (latest : ℕ) (entries : List EntryFields) (i : ℕ) (d : EntryFields) → AllByRecursion (λ e. e.moment ≤ latest) entries → i < length entries → (get_or entries i d).moment ≤ latest
one_of latest [] i d all lt = absurd (omega (arith, lt))
one_of latest (e ∷ entries) zero d all lt = all.0
one_of latest (e ∷ entries) (suc i) d all lt = one_of latest entries i d all.1 (omega (arith, lt))

-- so each is of a moment that the clock has reached
pub entry_reached : (s : State) (store : StoreFields) (o i : ℕ) (e : EntryFields) → IsStore store → store.latest ≤ s.clock → i < length (entries_of_object store o) → e ≡ get_or (entries_of_object store o) i e → e.moment ≤ s.clock
entry_reached s store o i e stands past lt is =
    let up : (get_or (entries_of_object store o) i e).moment ≤ store.latest = one_of store.latest (entries_of_object store o) i e (by_row store o (row_of store.rows o) stands refl) lt in
    omega (arith, up, past, ap (λ (x : EntryFields). x.moment) is)

-- ---- what is refused of a call

-- where a call at a moment that can be read is refused, that is for want
pub if_refused : {A : Type 0} → (s : State) (o t : ℕ) (result : Result A Refusal) → IsVisible s o t → IfErr result (λ e. (moment_refusal s o t ≡ Some e) ⊎ (e ≡ NoMemory) ⊎ (e ≡ Busy)) → IfErr result (λ e. (e ≡ NoMemory) ⊎ (e ≡ Busy))
if_refused s o t (Ok value) v refused = tt
if_refused s o t (Err e) v refused = only_want s o t e v refused
