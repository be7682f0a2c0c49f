-- What holds of a pass over all objects that has come to one.
use Rattle.std.proofs.Common.{◌≡◌, ◌⊎◌, ℕ, zero, suc, ◌+◌, ◌-◌, ◌<◌, ◌≤◌, ◌==◌, Bool, true, false, cond, inl, inr, List, Option, Some, None, IsSome, refl, sym, ap, subst, ◌∙◌, arith}
use Rattle.std.specs.Prelude.{IfSome, count_by}
use Rattle.std.specs.List.{range_with_len}
use Rattle.std.proofs.lemmas.Bool.{cases_lt, ne_eqb, false≢true}
use Rattle.s4_types.specs.Pointer.{Place}
use Rattle.s4_types.specs.declared.refusals.Refusal.{Refusal}
use Rattle.s4_types.specs.declared.refusals.Refusal.TheVariants.{NoMemory, NoRoom, InUse}
use Rattle.lemmas.proofs.Option.{none_not_some}
use Rattle.lemmas.proofs.Range.{tally}
use Rattle.block_log.specs.declared.kinds.BlockKind.TheVariants.{Journal, Data}
use Rattle.block_log.specs.Log.{of_kind}
use Rattle.codec.specs.Entry.{EntryFields}
use Rattle.undo_redo.specs.Runs.{entries_by}
use Rattle.object_map.specs.declared.map.Row.{Row}
use Rattle.object_map.specs.Rows.{row_of}
use Rattle.object_map.specs.Objects.{IsNextAbove}
use Rattle.time_read.specs.Rows.{entries_of}
use Rattle.segment_word.specs.AcceptViews.{Ledger}
use Rattle.s4_model.specs.State.{State, state_of}
use Rattle.s4_model.specs.Visible.{IsVisible}
use Rattle.segment_table.specs.Rules.{HasFramesInOrder}
use Rattle.time_read.proofs.Staying.{same_entries}
use Rattle.version_store.specs.Store.{StoreFields, IsStore}
use Rattle.version_store.specs.Versions.{inode_in}
use Rattle.drive.specs.Fields.{DriveFields, state_in, store_of}
use Rattle.drive.specs.Keeping.{KeepsVersions}
use Rattle.history_cleaner.specs.Cleaning.{IsUntouched, OthersStay, IsSeenThroughout, IsClean, HasNoRoom}
use Rattle.history_cleaner.specs.Passing.{is_other, is_gone, has_other_row, has_lost_row, IsCount, IsCleaned, StoppedAt, StoppedAtReader}
use Rattle.version_store.specs.Upkeep.{KeepsObjects}
use Rattle.drive.proofs.Opening.{no_row_of_0}
use Rattle.history_cleaner.specs.Emptying.{StopsAtReader}
use Rattle.history_cleaner.specs.Reaching.{IsReached, HoldsWhatIsReached, HeldIsWhatIsReached, RowTellsOfSeenPlaces}
use Rattle.history_cleaner.specs.private.Counting.{NamesPlaces}
use Rattle.history_cleaner.proofs.Emptied.{count_alike, count_more}
use Rattle.history_cleaner.proofs.Few.{HasBlock, LeadsToItsOwn, few_with_blocks, row_block}

-- ---- counts over a range of numbers

none_more : (p : ℕ → Bool) (b n : ℕ) → ((q : ℕ) → b ≤ q → q < b + n → p q ≡ false) → count_by p (range_with_len 0 (b + n)) ≡ count_by p (range_with_len 0 b)
none_more p b zero none =
    let same : b + zero ≡ b = omega arith in
    ap (λ (x : ℕ). count_by p (range_with_len 0 x)) same
none_more p b (suc n) none =
    let same : b + suc n ≡ (b + n) + 1 = omega arith in
    let before : count_by p (range_with_len 0 (b + n)) ≡ count_by p (range_with_len 0 b) = none_more p b n (λ q low high. none q low (omega (arith, high))) in
    let more : count_by p (range_with_len 0 ((b + n) + 1)) ≡ count_by p (range_with_len 0 (b + n)) + tally (p (b + n)) = count_more p p (b + n) (λ k below. refl) in
    let last : tally (p (b + n)) ≡ 0 = ap tally (none (b + n) (omega arith) (omega arith)) in
    let sum : count_by p (range_with_len 0 ((b + n) + 1)) ≡ count_by p (range_with_len 0 b) = omega (arith, before, more, last) in
    ap (λ (x : ℕ). count_by p (range_with_len 0 x)) same ∙ sum

-- up to one number a test holds of as many as another, between it and a next one of none
count_step : (p later : ℕ → Bool) (o next : ℕ) → o < next → ((q : ℕ) → q ≤ o → later q ≡ p q) → ((q : ℕ) → o < q → q < next → later q ≡ false)
    → count_by later (range_with_len 0 (next + 1)) ≡ count_by p (range_with_len 0 (o + 1)) + tally (later next)
count_step p later o next above agree none =
    let here : next ≡ (o + 1) + (next - (o + 1)) = omega (arith, above) in
    let more : count_by later (range_with_len 0 (next + 1)) ≡ count_by later (range_with_len 0 next) + tally (later next) = count_more later later next (λ k below. refl) in
    let between : count_by later (range_with_len 0 ((o + 1) + (next - (o + 1)))) ≡ count_by later (range_with_len 0 (o + 1)) = none_more later (o + 1) (next - (o + 1)) (λ q low high. none q (omega (arith, low)) (omega (arith, high, above))) in
    let up : count_by later (range_with_len 0 next) ≡ count_by later (range_with_len 0 (o + 1)) = ap (λ (x : ℕ). count_by later (range_with_len 0 x)) here ∙ between in
    let before : count_by later (range_with_len 0 (o + 1)) ≡ count_by p (range_with_len 0 (o + 1)) = count_alike later p 0 (o + 1) (λ q low high. agree q (omega (arith, high))) in
    omega (arith, more, up, before)

one_more : (b : Bool) (n m : ℕ) → m ≡ cond b (n + 1) n → m ≡ n + tally b
one_more true n m is = is
one_more false n m is = is ∙ omega arith

-- ---- what stays of an object that isn't touched

seen_stays : (s later : StoreFields) (state : State) (o : ℕ) (r : Option Row) → ((row : Row) → entries_of later.log.held o row ≡ entries_of s.log.held o row) → IfSome r (IsSeenThroughout s state o) → IfSome r (IsSeenThroughout later state o)
seen_stays s later state o None same clean = tt
seen_stays s later state o (Some row) same clean = subst (λ (es : List EntryFields). (t : ℕ) → (u : ℕ) × (IsVisible state o u × (entries_by u es ≡ entries_by t es))) (sym (same row)) clean

clean_stays : (s later : StoreFields) (state : State) (o : ℕ) → IsUntouched s later o → IsClean s state o → IsClean later state o
clean_stays s later state o same clean =
    subst (λ (r : Option Row). IfSome r (IsSeenThroughout later state o)) (sym same.row)
    (seen_stays s later state o (row_of s.rows o) (λ row. same_entries s.log.held later.log.held o row (same.blocks Journal)) clean)

reached_again : (s later : StoreFields) (state : State) (o : ℕ) (p : Place) → ((t : ℕ) → inode_in later o t ≡ inode_in s o t) → IsReached s state o p → IsReached later state o p
reached_again s later state o p same reached = record {
  moment = reached.moment;
  visible = reached.visible;
  inode = reached.inode;
  current = same reached.moment ∙ reached.current;
  alive = reached.alive;
  index = reached.index;
  at = reached.at;
}

holds_again : (s later : StoreFields) (state : State) (o : ℕ) → of_kind Data o later.log.held ≡ of_kind Data o s.log.held → ((t : ℕ) → inode_in later o t ≡ inode_in s o t) → HoldsWhatIsReached s state o → HoldsWhatIsReached later state o
holds_again s later state o views same holds p = (
  λ held. reached_again s later state o p same ((holds p).0 (subst (λ (view : Place → Option (List ℕ)). IsSome (view p)) views held)),
  λ reached. subst (λ (view : Place → Option (List ℕ)). IsSome (view p)) (sym views) ((holds p).1 (reached_again later s state o p (λ t. sym (same t)) reached)),
)

-- it stays cleaned
pub cleaned_stays : (s mid later : StoreFields) (state : State) (o : ℕ) → IsUntouched mid later o → IsCleaned s mid state o → IsCleaned s later state o
cleaned_stays s mid later state o same is = record {
  clean = clean_stays mid later state o same is.clean;
  gone = λ unseen. same.row ∙ is.gone unseen;
  held = holds_again mid later state o (same.blocks Data) same.inodes is.held;
}

touched_none : (s : StoreFields) (o : ℕ) → IsUntouched s s o
touched_none s o = record { row = refl; blocks = λ kind. refl; inodes = λ t. refl }

touched_by : (s mid later : StoreFields) (o : ℕ) → IsUntouched s mid o → IsUntouched mid later o → IsUntouched s later o
touched_by s mid later o first second = record {
  row = second.row ∙ first.row;
  blocks = λ kind. second.blocks kind ∙ first.blocks kind;
  inodes = λ t. second.inodes t ∙ first.inodes t;
}

-- an object without a row is cleaned
bare_cleaned : HeldIsWhatIsReached → (s later : StoreFields) (state : State) (o : ℕ) → IsStore later → row_of later.rows o ≡ None → IsCleaned s later state o
bare_cleaned reached s later state o store none = record {
  clean = subst (λ (r : Option Row). IfSome r (IsSeenThroughout later state o)) (sym none) tt;
  gone = λ unseen. none;
  held = reached later state o store (subst (λ (r : Option Row). IfSome r (RowTellsOfSeenPlaces later state o)) (sym none) tt);
}

-- ---- the pass

-- All objects up to one were cleaned, and their rows counted; those above are as they were. Those up to it that had a row had a block.
pub record HasPassed (d later : DriveFields) (o n m : ℕ) : Type 0 where
  pub cleaned : (q : ℕ) → q ≤ o → IsCleaned (store_of d) (store_of later) (state_in d) q
  pub rest : (q : ℕ) → o < q → IsUntouched (store_of d) (store_of later) q
  pub blocks : (q : ℕ) → q ≤ o → IsSome (row_of d.store.rows q) → HasBlock d.store.table q
  pub rewritten : n ≡ count_by (has_other_row d.store.rows later.store.rows) (range_with_len 0 (o + 1))
  pub removed : m ≡ count_by (has_lost_row d.store.rows later.store.rows) (range_with_len 0 (o + 1))
  pub few_rewritten : n ≤ 1048576
  pub few_removed : m ≤ 1048576
  pub store : IsStore (store_of later)
  pub ledger : later.ledger ≡ d.ledger
  pub needed : KeepsVersions (state_in d) (store_of d) (store_of later)

-- an object was cleaned, and counted
pub record HasStepped (d later : DriveFields) (o n m more lost : ℕ) : Type 0 where
  pub cleaned : IsCleaned (store_of d) (store_of later) (state_in d) o
  pub others : OthersStay (store_of d) o (store_of later)
  pub rewritten : more ≡ cond (is_other (row_of d.store.rows o) (row_of later.store.rows o)) (n + 1) n
  pub removed : lost ≡ cond (is_gone (row_of d.store.rows o) (row_of later.store.rows o)) (m + 1) m
  pub store : IsStore (store_of later)
  pub ledger : later.ledger ≡ d.ledger
  pub needed : KeepsVersions (state_in d) (store_of d) (store_of later)

is_zero : (q : ℕ) → q ≤ 0 → 0 ≡ q
is_zero q le = omega (arith, le)

pub begun : HeldIsWhatIsReached → (d : DriveFields) → IsStore (store_of d) → HasPassed d d 0 0 0
begun reached d store =
    let rows : List (ℕ × Row) = d.store.rows in
    let none : row_of rows 0 ≡ None = no_row_of_0 (store_of d) (row_of rows 0) refl store in
    let other : tally (has_other_row rows rows 0) ≡ 0 = ap (λ (r : Option Row). tally (is_other r (row_of rows 0))) none in
    let lost : tally (has_lost_row rows rows 0) ≡ 0 = ap (λ (r : Option Row). tally (is_gone r (row_of rows 0))) none in
    record {
      cleaned = λ q le. subst (IsCleaned (store_of d) (store_of d) (state_in d)) (is_zero q le) (bare_cleaned reached (store_of d) (store_of d) (state_in d) 0 store none);
      rest = λ q above. touched_none (store_of d) q;
      blocks = λ q le some. absurd (none_not_some (row_of rows 0) none (subst (λ (x : ℕ). IsSome (row_of rows x)) (sym (is_zero q le)) some));
      rewritten = omega (arith, other, count_more (has_other_row rows rows) (has_other_row rows rows) 0 (λ k below. refl));
      removed = omega (arith, lost, count_more (has_lost_row rows rows) (has_lost_row rows rows) 0 (λ k below. refl));
      few_rewritten = omega arith;
      few_removed = omega arith;
      store = store;
      ledger = refl;
      needed = λ o t needed. refl;
    }

test_none : (p : Option Row → Option Row → Bool) → ((r : Option Row) → p None r ≡ false) → (r x : Option Row) → r ≡ None → p r x ≡ false
test_none p none r x is = ap (λ (y : Option Row). p y x) is ∙ none x

same_number : (next q : ℕ) → q ≤ next → next ≤ q → next ≡ q
same_number next q le ge = omega (arith, le, ge)

had_row : (p : Option Row → Option Row → Bool) → ((r : Option Row) → p None r ≡ false) → (r x : Option Row) → p r x ≡ true → IsSome r
had_row p none None x is = absurd (false≢true (sym (none x) ∙ is))
had_row p none (Some row) x is = refl

-- of the objects that a test holds of there are few, where it holds of none without a row
few_rows : (p : Option Row → Option Row → Bool) → ((r : Option Row) → p None r ≡ false) → (d later : DriveFields) (o n : ℕ) → ((q : ℕ) → q ≤ o → IsSome (row_of d.store.rows q) → HasBlock d.store.table q)
    → n ≡ count_by (λ q. p (row_of d.store.rows q) (row_of later.store.rows q)) (range_with_len 0 (o + 1)) → n ≤ 1048576
few_rows p none d later o n blocks is =
    subst (λ (x : ℕ). x ≤ 1048576) (sym is)
    (few_with_blocks d.store.table (λ q. p (row_of d.store.rows q) (row_of later.store.rows q)) (o + 1) (λ q below holds. blocks q (omega (arith, below)) (had_row p none (row_of d.store.rows q) (row_of later.store.rows q) holds)))

named_block : LeadsToItsOwn → (d : DriveFields) (o : ℕ) (r : Option Row) → IsStore (store_of d) → row_of d.store.rows o ≡ r → IfSome r NamesPlaces → IsSome r → HasBlock d.store.table o
named_block own d o None store is places some = absurd (false≢true some)
named_block own d o (Some row) store is places some = row_block own d o row store is places.checkpoint places.head

-- the count of a test goes on by one object
counted_on : (p : Option Row → Option Row → Bool) → ((r : Option Row) → p None r ≡ false) → (d mid later : DriveFields) (o next n more : ℕ) → IsNextAbove mid.store.rows o next → OthersStay (store_of mid) next (store_of later)
    → ((q : ℕ) → o < q → IsUntouched (store_of d) (store_of mid) q) → n ≡ count_by (λ q. p (row_of d.store.rows q) (row_of mid.store.rows q)) (range_with_len 0 (o + 1))
    → more ≡ cond (p (row_of mid.store.rows next) (row_of later.store.rows next)) (n + 1) n → more ≡ count_by (λ q. p (row_of d.store.rows q) (row_of later.store.rows q)) (range_with_len 0 (next + 1))
counted_on p none d mid later o next n more is others rest so here =
    let above : o < next = is.above in
    let old : ℕ → Bool = λ q. p (row_of d.store.rows q) (row_of mid.store.rows q) in
    let new : ℕ → Bool = λ q. p (row_of d.store.rows q) (row_of later.store.rows q) in
    let stays : (q : ℕ) → q < next → row_of later.store.rows q ≡ row_of mid.store.rows q = λ q below. (others q (ne_eqb next q (λ same. absurd (omega (arith, same, below))))).row in
    let counted : count_by new (range_with_len 0 (next + 1)) ≡ count_by old (range_with_len 0 (o + 1)) + tally (new next) =
    count_step old new o next above
    (λ q le. ap (λ (r : Option Row). p (row_of d.store.rows q) r) (stays q (omega (arith, le, above))))
    (λ q low high. test_none p none (row_of d.store.rows q) (row_of later.store.rows q) (sym (rest q low).row ∙ is.least q low high)) in
    let added : more ≡ n + tally (p (row_of mid.store.rows next) (row_of later.store.rows next)) = one_more (p (row_of mid.store.rows next) (row_of later.store.rows next)) n more here in
    let same : tally (p (row_of mid.store.rows next) (row_of later.store.rows next)) ≡ tally (new next) = ap (λ (r : Option Row). tally (p r (row_of later.store.rows next))) (rest next above).row in
    omega (arith, counted, added, same, so)

-- the object itself, by the drive before the pass
cleaned_since : (s mid later : StoreFields) (state : State) (o : ℕ) → KeepsVersions state s mid → IsCleaned mid later state o → IsCleaned s later state o
cleaned_since s mid later state o needed is = record {
  clean = is.clean;
  gone = λ unseen. is.gone (λ t seen. needed o t (inl seen) ∙ unseen t seen);
  held = is.held;
}

pub state_stays : (d later : DriveFields) → later.ledger ≡ d.ledger → state_in later ≡ state_in d
state_stays d later same = ap (λ (l : Ledger). state_of l.history) same

pub passed : LeadsToItsOwn → HeldIsWhatIsReached → (d mid later : DriveFields) (o next n m more lost : ℕ) → IsStore (store_of d) → HasPassed d mid o n m → IsNextAbove mid.store.rows o next → IfSome (row_of mid.store.rows next) NamesPlaces → HasStepped mid later next n m more lost
    → HasPassed d later next more lost
passed own reached d mid later o next n m more lost store so is places step =
    let above : o < next = is.above in
    let state : State = state_in d in
    let same : state_in mid ≡ state = state_stays d mid so.ledger in
    let apart : (q : ℕ) → q < next → (next == q) ≡ false = λ q below. ne_eqb next q (λ same. absurd (omega (arith, same, below))) in
    let blocks : (q : ℕ) → q ≤ next → IsSome (row_of d.store.rows q) → HasBlock d.store.table q = λ q le some. elim (cases_lt q next) [
      | inr ge ↦ subst (HasBlock d.store.table) (same_number next q le ge)
          (named_block own d next (row_of d.store.rows next) store refl (subst (λ (r : Option Row). IfSome r NamesPlaces) (so.rest next above).row places) (subst (λ (x : ℕ). IsSome (row_of d.store.rows x)) (sym (same_number next q le ge)) some))
      | inl below ↦ elim (cases_lt o q) [
        | inl past ↦ absurd (none_not_some (row_of d.store.rows q) (sym (so.rest q past).row ∙ is.least q past below) some)
        | inr old ↦ so.blocks q old some
      ]
    ] in
    let rewritten : more ≡ count_by (has_other_row d.store.rows later.store.rows) (range_with_len 0 (next + 1)) = counted_on is_other (λ r. refl) d mid later o next n more is step.others so.rest so.rewritten step.rewritten in
    let removed : lost ≡ count_by (has_lost_row d.store.rows later.store.rows) (range_with_len 0 (next + 1)) = counted_on is_gone (λ r. refl) d mid later o next m lost is step.others so.rest so.removed step.removed in
    record {
      cleaned = λ q le. elim (cases_lt q next) [
        | inr ge ↦ subst (IsCleaned (store_of d) (store_of later) state) (same_number next q le ge)
            (cleaned_since (store_of d) (store_of mid) (store_of later) state next so.needed (subst (λ (x : State). IsCleaned (store_of mid) (store_of later) x next) same step.cleaned))
        | inl below ↦ cleaned_stays (store_of d) (store_of mid) (store_of later) state q (step.others q (apart q below)) (elim (cases_lt o q) [
          | inl past ↦ bare_cleaned reached (store_of d) (store_of mid) state q so.store (is.least q past below)
          | inr old ↦ so.cleaned q old
        ])
      ];
      rest = λ q past. touched_by (store_of d) (store_of mid) (store_of later) q (so.rest q (omega (arith, past, above))) (step.others q (ne_eqb next q (λ same. absurd (omega (arith, same, past)))));
      blocks = blocks;
      rewritten = rewritten;
      removed = removed;
      few_rewritten = few_rows is_other (λ r. refl) d later next more blocks rewritten;
      few_removed = few_rows is_gone (λ r. refl) d later next lost blocks removed;
      store = step.store;
      ledger = step.ledger ∙ so.ledger;
      needed = λ q t needed. subst (λ (x : State). KeepsVersions x (store_of mid) (store_of later)) same step.needed q t needed ∙ so.needed q t needed;
    }

-- ---- where the pass ends

pub all_cleaned : HeldIsWhatIsReached → (d later : DriveFields) (o n m : ℕ) → HasPassed d later o n m → ((q : ℕ) → o < q → row_of later.store.rows q ≡ None) → (q : ℕ) → IsCleaned (store_of d) (store_of later) (state_in d) q
all_cleaned reached d later o n m so none q = elim (cases_lt o q) [
  | inl past ↦ bare_cleaned reached (store_of d) (store_of later) (state_in d) q so.store (none q past)
  | inr old ↦ so.cleaned q old
]

counted : (p : Option Row → Option Row → Bool) → ((r : Option Row) → p None r ≡ false) → (d later : DriveFields) (o n : ℕ) → ((q : ℕ) → o < q → IsUntouched (store_of d) (store_of later) q) → ((q : ℕ) → o < q → row_of later.store.rows q ≡ None)
    → n ≡ count_by (λ q. p (row_of d.store.rows q) (row_of later.store.rows q)) (range_with_len 0 (o + 1)) → IsCount (λ q. p (row_of d.store.rows q) (row_of later.store.rows q)) n
counted p bare d later o n rest none is = record {
  bound = o + 1;
  past = λ q le.
      let above : o < q = omega (arith, le) in
      test_none p bare (row_of d.store.rows q) (row_of later.store.rows q) (sym (rest q above).row ∙ none q above);
  count = is;
}

pub others_counted : (d later : DriveFields) (o n m : ℕ) → HasPassed d later o n m → ((q : ℕ) → o < q → row_of later.store.rows q ≡ None) → IsCount (has_other_row d.store.rows later.store.rows) n
others_counted d later o n m so none = counted is_other (λ r. refl) d later o n so.rest none so.rewritten

pub lost_counted : (d later : DriveFields) (o n m : ℕ) → HasPassed d later o n m → ((q : ℕ) → o < q → row_of later.store.rows q ≡ None) → IsCount (has_lost_row d.store.rows later.store.rows) m
lost_counted d later o n m so none = counted is_gone (λ r. refl) d later o m so.rest none so.removed

pub stopped : HeldIsWhatIsReached → (d mid later : DriveFields) (o next n m : ℕ) (e : Refusal) → HasPassed d mid o n m → IsNextAbove mid.store.rows o next → store_of later ≡ store_of mid
    → (e ≡ NoMemory) ⊎ ((e ≡ NoRoom) × HasNoRoom (store_of mid) (state_in mid) next) → StoppedAt (store_of d) (store_of later) (state_in d) e
stopped reached d mid later o next n m e so is stays why = subst (λ (x : StoreFields). StoppedAt (store_of d) x (state_in d) e) (sym stays) (record {
  object = next;
  below = λ q below. elim (cases_lt o q) [
    | inl past ↦ bare_cleaned reached (store_of d) (store_of mid) (state_in d) q so.store (is.least q past below)
    | inr old ↦ so.cleaned q old
  ];
  rest = λ q le.
      let above : o < next = is.above in
      so.rest q (omega (arith, le, above));
  why = subst (λ (x : State). (e ≡ NoMemory) ⊎ ((e ≡ NoRoom) × HasNoRoom (store_of mid) x next)) (state_stays d mid so.ledger) why;
})

-- ---- the frames are emptied

kept_untouched : (s later : StoreFields) (o : ℕ) → KeepsObjects s later → IsUntouched s later o
kept_untouched s later o kept = record {
  row = ap (λ (rows : List (ℕ × Row)). row_of rows o) kept.rows;
  blocks = λ kind. ap (of_kind kind o) kept.held;
  inodes = λ t. kept.inodes o t;
}

-- what was cleaned stays cleaned
pub cleaned_kept : (s mid later : StoreFields) (state : State) (o : ℕ) → IsCleaned s mid state o → KeepsObjects mid later → IsCleaned s later state o
cleaned_kept s mid later state o cleaned kept = cleaned_stays s mid later state o (kept_untouched mid later o kept) cleaned

pub all_kept : (s mid later : StoreFields) (state : State) → ((o : ℕ) → IsCleaned s mid state o) → KeepsObjects mid later → (o : ℕ) → IsCleaned s later state o
all_kept s mid later state all kept o = cleaned_kept s mid later state o (all o) kept

pub stopped_at_reader : (d mid later : DriveFields) (e : Refusal) → ((o : ℕ) → IsCleaned (store_of d) (store_of mid) (state_in d) o) → mid.ledger ≡ d.ledger → KeepsVersions (state_in d) (store_of d) (store_of mid)
    → HasFramesInOrder d.store.table.seat.table mid.store.table → KeepsObjects (store_of mid) (store_of later) → (e ≡ InUse) × StopsAtReader mid.store.table later.store.table
    → StoppedAt (store_of d) (store_of later) (state_in d) e ⊎ StoppedAtReader d later e
stopped_at_reader d mid later e all ledger needed frames kept found = inr (record {
  refusal = found.0;
  all = all_kept (store_of d) (store_of mid) (store_of later) (state_in d) all kept;
  since = mid;
  cleaned = all;
  ledger = ledger;
  needed = needed;
  frames = frames;
  objects = kept;
  reader = found.1;
})

-- ---- with the frames noted before, and counted after

pub all_same : (d begun done later : DriveFields) → begun ≡ d → later ≡ done → ((o : ℕ) → IsCleaned (store_of begun) (store_of done) (state_in begun) o) → (o : ℕ) → IsCleaned (store_of d) (store_of later) (state_in d) o
all_same d begun done later first last all o =
    subst (λ (x : DriveFields). IsCleaned (store_of x) (store_of later) (state_in x) o) first (subst (λ (x : DriveFields). IsCleaned (store_of begun) (store_of x) (state_in begun) o) (sym last) (all o))

-- a test of rows holds of as many objects
pub count_same : (test : List (ℕ × Row) → List (ℕ × Row) → ℕ → Bool) (d begun done later : DriveFields) (n : ℕ) → begun ≡ d → later ≡ done → IsCount (test begun.store.rows done.store.rows) n → IsCount (test d.store.rows later.store.rows) n
count_same test d begun done later n first last is =
    subst (λ (x : DriveFields). IsCount (test x.store.rows later.store.rows) n) first (subst (λ (x : DriveFields). IsCount (test begun.store.rows x.store.rows) n) (sym last) is)

-- the versions stay that can be read
pub kept_same : (d begun done later : DriveFields) → begun ≡ d → later ≡ done → KeepsVersions (state_in begun) (store_of begun) (store_of done) → KeepsVersions (state_in d) (store_of d) (store_of later)
kept_same d begun done later first last kept =
    subst (λ (x : DriveFields). KeepsVersions (state_in x) (store_of x) (store_of later)) first (subst (λ (x : DriveFields). KeepsVersions (state_in begun) (store_of begun) (store_of x)) (sym last) kept)
