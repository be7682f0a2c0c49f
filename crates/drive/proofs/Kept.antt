-- What holds of a drive between calls goes on with each record of its history.
use Rattle.std.proofs.Common.{◌≡◌, ℕ, ◌<◌, ◌≤◌, ◌==◌, ◌||◌, Bool, false, inl, inr, Option, Some, None, refl, sym, ap, subst, ◌∙◌, arith}
use Rattle.std.proofs.lemmas.Bool.{cases_Bool, cond-true, cond-false, and_parts, and_left, leb-true, cases_lt, ne_eqb, true≢false}
use Rattle.std.specs.Prelude.{nat_le, is_some, zero, suc}
use Rattle.s4_types.specs.declared.changes.Accepted.{Accepted}
use Rattle.s4_types.specs.declared.changes.Change.{Change}
use Rattle.s4_types.specs.declared.changes.Change.TheVariants.{Create, Delete, Write, Truncate, SetAttr, SetWindow, Flush, FlushO}
use Rattle.s4_types.specs.declared.versions.Version.{Version}
use Rattle.s4_types.specs.declared.versions.Version.TheVariants.{Absent}
use Rattle.s4_model.specs.Effect.{effect, is_change_of, object_of, is_of_versions}
use Rattle.s4_model.specs.Numbers.{next_by}
use Rattle.s4_model.specs.Refusals.{is_absent}
use Rattle.s4_model.specs.State.{State, seen, took}
use Rattle.s4_model.specs.VersionAt.{version_of, is_by}
use Rattle.s4_model.specs.Sound.{IsSound}
use Rattle.object_map.specs.declared.map.Row.{Row}
use Rattle.object_map.specs.Rows.{row_of}
use Rattle.version_store.specs.Store.{StoreFields, IsStore}
use Rattle.version_store.specs.Versions.{version_in, version_taken}
use Rattle.version_store.specs.Taking.{IsReadyFor, IsThere}
use Rattle.version_store.specs.Laws.{ThePresentStays}
use Rattle.window.specs.Timeline.{Timeline, StandsFor}
use Rattle.s4_model.specs.Plain.{HasNext}
use Rattle.s4_model.proofs.SoundLemmas.{next_by-grows}
use Rattle.s4_model.proofs.VersionLemmas.{version_of-skipped}
use Rattle.drive.specs.Keeping.{IsKeptDrive, IsNeeded}
use Rattle.drive.proofs.Needed.{needed_before_moment, needed_before_change, present_needed}
use Rattle.drive.proofs.Versions.{version_of-its_own, counted_by_moments}

-- ---- a moment seen

pub kept_seen : (s : State) (store : StoreFields) (w later : Timeline) (next now : ℕ) → IsKeptDrive s store w next → StandsFor later (seen s now) → IsSound (seen s now) → IsKeptDrive (seen s now) store later next
kept_seen s store w later next now kept stands sound = let past : store.latest ≤ s.clock = kept.past in record {
  window = stands;
  next = kept.next;
  store = kept.store;
  versions = λ o t needed. kept.versions o t (needed_before_moment s now o t needed);
  past = omega arith;
  unborn = kept.unborn;
  sound = sound;
}

-- ---- a change that makes no version

no_object : (change : Change) (o : ℕ) → is_of_versions change ≡ false → is_change_of o change ≡ false
no_object (SetWindow window) o is = refl
no_object (Flush first last) o is = refl
no_object (FlushO object first last) o is = refl
no_object (Create object attribute) o is = absurd (true≢false is)
no_object (Delete object) o is = absurd (true≢false is)
no_object (Write object offset bytes) o is = absurd (true≢false is)
no_object (Truncate object size) o is = absurd (true≢false is)
no_object (SetAttr object attribute) o is = absurd (true≢false is)

same_next : (change : Change) (next : ℕ) → is_of_versions change ≡ false → next_by change next ≡ next
same_next (SetWindow window) next is = refl
same_next (Flush first last) next is = refl
same_next (FlushO object first last) next is = refl
same_next (Create object attribute) next is = absurd (true≢false is)
same_next (Delete object) next is = refl
same_next (Write object offset bytes) next is = refl
same_next (Truncate object size) next is = refl
same_next (SetAttr object attribute) next is = refl

pub kept_hidden : (s : State) (store : StoreFields) (w later : Timeline) (next : ℕ) (a : Accepted) → IsKeptDrive s store w next → is_of_versions a.change ≡ false → s.clock < a.moment → StandsFor later (took s a) → IsSound (took s a) → IsKeptDrive (took s a) store later next
kept_hidden s store w later next a kept none lt stands sound =
    let past : store.latest ≤ s.clock = kept.past in
    let number : next_by a.change s.next ≡ s.next = same_next a.change s.next none in
    record {
      window = stands;
      next = kept.next ∙ sym number;
      store = kept.store;
      versions = λ o t needed. kept.versions o t (needed_before_change s a o t lt needed) ∙ sym (version_of-skipped s a o t (and_left (is_change_of o a.change) (nat_le a.moment t) (no_object a.change o none)));
      past = omega arith;
      unborn = λ o ge. kept.unborn o (subst (λ (n : ℕ). n ≤ o) number ge);
      sound = sound;
    }

-- ---- a change that makes a version

-- a sound state's base began by its clock
opened_by : (s : State) → IsSound s → s.opened ≤ s.clock
opened_by s sound = let most = counted_by_moments s.opened s.changes s.clock sound.stamped in omega arith

-- the store's versions after it are the state's, where they are needed
versions_taken : ThePresentStays → (s : State) (store : StoreFields) (w : Timeline) (next : ℕ) (a : Accepted) → IsKeptDrive s store w next → s.clock < a.moment
    → (o t : ℕ) → IsNeeded (took s a) o t → version_taken store a.change a.moment o t ≡ version_of (took s a) o t
versions_taken stays s store w next a kept lt o t needed =
    elim (cases_Bool (is_by o t a)) [
      | inl is ↦
          let late : a.moment ≤ t = leb-true a.moment t (and_parts (is_change_of o a.change) (nat_le a.moment t) is).1 in
          let low : s.opened ≤ s.clock = opened_by s kept.sound in
          let past : store.latest ≤ s.clock = kept.past in
          cond-true (is_by o t a) (effect a.change a.moment (version_in store o store.latest)) (version_in store o t) is
          ∙ ap (λ (v : Version). effect a.change a.moment v) (sym (stays store o t kept.store (omega arith)).1 ∙ kept.versions o t (inr (omega arith)))
          ∙ sym (version_of-its_own s a o t (omega arith) is)
      | inr other ↦
          cond-false (is_by o t a) (effect a.change a.moment (version_in store o store.latest)) (version_in store o t) other
          ∙ kept.versions o t (needed_before_change s a o t lt needed)
          ∙ sym (version_of-skipped s a o t other)
    ]

-- no object is there whose number wasn't given
pub none_unless : (r : Option Row) → is_some r ≡ false → r ≡ None
none_unless None e = refl
none_unless (Some row) e = absurd (true≢false e)

pub some_none : (r : Option Row) → r ≡ None → is_some r ≡ false
some_none r e = ap (λ (x : Option Row). is_some x) e

unborn_taken : (s : State) (store later : StoreFields) (w : Timeline) (next : ℕ) (a : Accepted) → IsKeptDrive s store w next
    → ((o : ℕ) → is_some (row_of later.rows o) ≡ (is_some (row_of store.rows o) || o == object_of a.change))
    → s.next ≤ next_by a.change s.next → object_of a.change < next_by a.change s.next
    → (o : ℕ) → next_by a.change s.next ≤ o → row_of later.rows o ≡ None
unborn_taken s store later w next a kept rows grows given o ge =
    none_unless (row_of later.rows o)
    (rows o
    ∙ ap (λ (b : Bool). b || o == object_of a.change) (some_none (row_of store.rows o) (kept.unborn o (omega arith)))
    ∙ ne_eqb o (object_of a.change) (λ e. absurd (omega arith)))

pub kept_taken : ThePresentStays → (s : State) (store later : StoreFields) (w last : Timeline) (next : ℕ) (a : Accepted) → IsKeptDrive s store w next → s.clock < a.moment
    → IsStore later
    → ((o t : ℕ) → version_in later o t ≡ version_taken store a.change a.moment o t)
    → later.latest ≡ a.moment
    → ((o : ℕ) → is_some (row_of later.rows o) ≡ (is_some (row_of store.rows o) || o == object_of a.change))
    → object_of a.change < next_by a.change s.next
    → StandsFor last (took s a) → IsSound (took s a) → IsKeptDrive (took s a) later last (next_by a.change next)
kept_taken stays s store later w last next a kept lt is_store versions latest rows given stands sound = record {
  window = stands;
  next = ap (λ (n : ℕ). next_by a.change n) kept.next;
  store = is_store;
  versions = λ o t needed. versions o t ∙ versions_taken stays s store w next a kept lt o t needed;
  past = omega (arith, latest);
  unborn = unborn_taken s store later w next a kept rows (next_by-grows a.change s.next) given;
  sound = sound;
}

-- ---- which changes can be taken

there_absurd : (v : Version) → v ≡ Absent → is_absent v ≡ false → ⊥
there_absurd v e there = true≢false (sym (ap (λ (x : Version). is_absent x) e) ∙ there)

-- an object's version at the last change is the one at the clock
pub latest_is_present : ThePresentStays → (s : State) (store : StoreFields) (w : Timeline) (next o : ℕ) → IsKeptDrive s store w next → version_in store o store.latest ≡ version_of s o s.clock
latest_is_present stays s store w next o kept = sym (stays store o s.clock kept.store kept.past).1 ∙ kept.versions o s.clock (present_needed s o)

there_is_numbered : ThePresentStays → (s : State) (store : StoreFields) (w : Timeline) (next o : ℕ) → IsKeptDrive s store w next → IsThere store o → 1 ≤ o
there_is_numbered stays s store w next zero kept there = absurd (there_absurd (version_in store 0 store.latest) (latest_is_present stays s store w next 0 kept ∙ kept.sound.nobody s.clock) there)
there_is_numbered stays s store w next (suc o) kept there = omega arith

there_is_below : ThePresentStays → (s : State) (store : StoreFields) (w : Timeline) (next o : ℕ) → IsKeptDrive s store w next → IsThere store o → o < s.next
there_is_below stays s store w next o kept there =
    elim (cases_lt o s.next) [
      | inl lt ↦ lt
      | inr ge ↦ absurd (there_absurd (version_in store o store.latest) (latest_is_present stays s store w next o kept ∙ kept.sound.unborn o s.clock ge) there)
    ]

-- an object that is there has a number that was given
pub there_is_given : ThePresentStays → (s : State) (store : StoreFields) (w : Timeline) (next o : ℕ) → IsKeptDrive s store w next → IsThere store o → (1 ≤ o) × (o < s.next)
there_is_given stays s store w next o kept there = (there_is_numbered stays s store w next o kept there, there_is_below stays s store w next o kept there)

-- so the object of a change that can be taken has one, once it is taken
pub given_by : ThePresentStays → (s : State) (store : StoreFields) (w : Timeline) (next : ℕ) (change : Change) → IsKeptDrive s store w next → IsReadyFor store change → HasNext s.next change → object_of change < next_by change s.next
given_by stays s store w next (Create object attribute) kept ready is = let o : object ≡ s.next = is.1 in omega arith
given_by stays s store w next (Delete object) kept ready is = (there_is_given stays s store w next object kept ready).1
given_by stays s store w next (Write object offset bytes) kept ready is = (there_is_given stays s store w next object kept ready).1
given_by stays s store w next (Truncate object size) kept ready is = (there_is_given stays s store w next object kept ready).1
given_by stays s store w next (SetAttr object attribute) kept ready is = (there_is_given stays s store w next object kept ready).1
given_by stays s store w next (SetWindow window) kept ready is = absurd ready
given_by stays s store w next (Flush first last) kept ready is = absurd ready
given_by stays s store w next (FlushO object first last) kept ready is = absurd ready
