-- Whether a moment can be read among some, and what is added object by object.
use Rattle.std.proofs.Common.{◌≡◌, ◌∙◌, ◌+◌, ◌-◌, ◌<◌, ◌≤◌, ◌++◌, ◌||◌, ℕ, zero, suc, Bool, true, false, List, length, get_or, take, inl, inr, ap, sym, subst, arith}
use Rattle.std.specs.Prelude.{MatchBool}
use Rattle.std.specs.List.{flat_map}
use Rattle.std.proofs.lemmas.Bool.{true≢false, false_from_ne_true, or_left, or_right, and_parts, cases_Bool, cases_eq}
use Rattle.lemmas.proofs.List.{flat_map_take_next}
use Rattle.s4_model.specs.State.{State, state_of}
use Rattle.s4_model.specs.Visible.{IsSeenBetween}
use Rattle.segment_word.specs.AcceptViews.{Ledger}
use Rattle.version_store.specs.Store.{StoreFields}
use Rattle.drive.specs.Fields.{DriveFields, state_in, store_of}
use Rattle.history_view.specs.Listing.{is_visible}
use Rattle.history_view.proofs.Shown.{visible_then, then_visible}
use Rattle.codec.specs.Entry.{EntryFields}
use Rattle.history_aging.specs.Ends.{IsLost, IsSeenBefore, any_from, ends_of, ends_readable}

-- a number that passes a test, of as many from one on
record IsPassing (passes : ℕ → Bool) (t n : ℕ) : Type 0 where
  place : ℕ
  from : t ≤ place
  below : place < t + n
  is : passes place ≡ true

-- where the test says so one does
passing : (passes : ℕ → Bool) (t n : ℕ) → any_from passes t n ≡ true → IsPassing passes t n
passing passes t zero any = absurd (true≢false (sym any))
passing passes t (suc n) any =
    elim (cases_Bool (passes t)) [
      | inl is ↦ record { place = t; from = omega arith; below = omega arith; is = is }
      | inr fails ↦
          let later = passing passes (t + 1) n (subst (λ (b : Bool). (b || any_from passes (t + 1) n) ≡ true) fails any) in
          record { place = later.place; from = omega (arith, later.from); below = omega (arith, later.below); is = later.is }
    ]

-- and where one does the test says so
any_passes : (passes : ℕ → Bool) (t n place : ℕ) → t ≤ place → place < t + n → passes place ≡ true → any_from passes t n ≡ true
any_passes passes t zero place from below is = absurd (omega (arith, from, below))
any_passes passes t (suc n) place from below is =
    elim (cases_eq place t) [
      | inl same ↦ or_left (passes t) (any_from passes (t + 1) n) (ap passes (sym same) ∙ is)
      | inr apart ↦ or_right (passes t) (any_from passes (t + 1) n) (any_passes passes (t + 1) n place (omega (arith, from, apart)) (omega (arith, below)) is)
    ]

-- whether some moment can be read, from one on and before another
pub seen_before : (b : Bool) (s : State) (o first end last : ℕ) → first < end → last ≡ end - 1 → MatchBool b (IsSeenBetween s o first last) (IsSeenBetween s o first last → ⊥)
    → b ≡ any_from (is_visible s o) first (end - first)
seen_before true s o first end last more is seen =
    sym (any_passes (is_visible s o) first (end - first) seen.moment seen.begun (omega (arith, more, is, seen.ended)) (then_visible s o seen.moment seen.visible))
seen_before false s o first end last more is never =
    sym (false_from_ne_true (any_from (is_visible s o) first (end - first)) (λ any.
    let found = passing (is_visible s o) first (end - first) any in
    never (record { moment = found.place; begun = found.from; ended = omega (arith, more, is, found.below); visible = visible_then s o found.place found.is })))

-- what the test says can be read
test_seen : (s : State) (o first end : ℕ) → any_from (is_visible s o) first (end - first) ≡ true → IsSeenBefore s o first end
test_seen s o first end any =
    let found = passing (is_visible s o) first (end - first) any in
    record { moment = found.place; begun = found.from; before = omega (arith, found.from, found.below); visible = visible_then s o found.place found.is }

-- what ages is lost
pub ages : (s later : State) (o : ℕ) (e : EntryFields) → ends_readable s o e ≡ true → e.moment ≤ later.floor → IsLost s later o e.before.changed e.moment
ages s later o e is over = record {
  seen = test_seen s o e.before.changed e.moment (and_parts e.before.alive (any_from (is_visible s o) e.before.changed (e.moment - e.before.changed)) is).1;
  gone = λ seen. absurd (omega (arith, seen.visible.kept, seen.before, over));
}

-- ---- object by object

-- a drive that stayed has the versions of before
ends_as_before : (d e : DriveFields) (o : ℕ) → d.ledger ≡ e.ledger → store_of d ≡ store_of e → ends_of (state_in d) (store_of d) o ≡ ends_of (state_in e) (store_of e) o
ends_as_before d e o ledger store =
    ap (λ (l : Ledger). ends_of (state_of l.history) (store_of d) o) ledger ∙ ap (λ (x : StoreFields). ends_of (state_in e) x o) store

-- those of one object more are added
pub ends_on : (d e : DriveFields) (objects : List ℕ) (i o : ℕ) (ends more grown : List ℕ) → d.ledger ≡ e.ledger → store_of d ≡ store_of e → i < length objects → o ≡ get_or objects i o
    → more ≡ ends_of (state_in d) (store_of d) o → ends ≡ flat_map (ends_of (state_in e) (store_of e)) (take i objects) → grown ≡ ends ++ more
    → grown ≡ flat_map (ends_of (state_in e) (store_of e)) (take (i + 1) objects)
ends_on d e objects i o ends more grown ledger store lt here are so_far is =
    let f = ends_of (state_in e) (store_of e) in
    is ∙ ap (λ (l : List ℕ). l ++ more) so_far ∙ ap (λ (l : List ℕ). flat_map f (take i objects) ++ l) (are ∙ ends_as_before d e o ledger store)
    ∙ sym (flat_map_take_next f objects i o lt here)
