-- Turns, one after the other.
use Rattle.std.proofs.Common.{◌≡◌, ℕ, suc, ◌+◌, Bool, true, false, List, Option, refl, sym, ap, subst, ◌∙◌, arith}
use Rattle.drive.specs.Fields.{DriveFields, store_of}
use Rattle.history_cleaner.specs.declared.passes.PassReport.{PassReport}
use Rattle.segment_copier.specs.Gathering.{free_count}
use Rattle.version_store.specs.Store.{StoreFields}
use Rattle.drive_compaction.specs.declared.freeing.Swept.{Swept}
use Rattle.drive_compaction.specs.declared.turns.Ending.{Ending}
use Rattle.drive_compaction.specs.declared.turns.Ending.TheVariants.{Done, OutOfRoom, Limit}
use Rattle.drive_compaction.specs.declared.turns.Turn.{Turn}
use Rattle.drive_compaction.specs.declared.turns.Work.{Work}
use Rattle.drive_compaction.specs.Choosing.{AreCounts, NoneCanBeFreed}
use Rattle.drive_compaction.specs.Cleaning.{Passes}
use Rattle.drive_compaction.specs.Emptying.{Sweeps}
use Rattle.drive_compaction.specs.Turns.{no_work, with_turn, IsTurn, IsBare, TakesTurns, EndsWith, EndsAt, Runs}
use Rattle.drive_compaction.proofs.Freed.{freed_nothing}

-- ---- one turn

pub turned : (cleans : Bool) (d between since later : DriveFields) (pass : Option PassReport) (swept : Swept) (counts : List (ℕ × ℕ)) → Passes cleans d pass between → store_of since ≡ store_of between
    → AreCounts (store_of between) counts → Sweeps counts since swept.frames swept.moves swept.ran_out later → IsTurn cleans d (record { pass = pass; swept = swept }) later
turned cleans d between since later pass swept counts passed same counted sweeps = record {
  between = between;
  passed = passed;
  since = since;
  same = same;
  counts = counts;
  counted = subst (λ (s : StoreFields). AreCounts s counts) (sym same) counted;
  swept = sweeps;
}

swept_nothing : (counts : List (ℕ × ℕ)) (since later : DriveFields) (frames moves : ℕ) (out : Bool) → Sweeps counts since frames moves out later → out ≡ false → frames ≡ 0 → later ≡ since
swept_nothing counts since later frames moves true sweeps room nothing = absurd (cc)
swept_nothing counts since later frames moves false sweeps room nothing = freed_nothing counts since later frames moves sweeps nothing

pub left_bare : (counts : List (ℕ × ℕ)) (between since later : DriveFields) (frames moves : ℕ) (out : Bool) → store_of since ≡ store_of between → AreCounts (store_of between) counts → Sweeps counts since frames moves out later
    → NoneCanBeFreed counts later → frames ≡ 0 → out ≡ false → IsBare later
left_bare counts between since later frames moves out same counted sweeps none nothing room = record {
  counts = counts;
  counted = subst (λ (s : StoreFields). AreCounts s counts) (sym (ap store_of (swept_nothing counts since later frames moves out sweeps room nothing) ∙ same)) counted;
  none = none;
}

-- ---- turn after turn

pub none_taken : (cleans : Bool) (d : DriveFields) → TakesTurns cleans d 0 no_work d
unfolding TakesTurns
none_taken cleans d = (refl, refl)

pub taken_more : (cleans : Bool) (d between later : DriveFields) (n : ℕ) (work next : Work) (turn : Turn) → TakesTurns cleans d n work between → IsTurn cleans between turn later → next ≡ with_turn work turn → TakesTurns cleans d (n + 1) next later
unfolding TakesTurns
taken_more cleans d between later n work next turn taken last sum =
    let one_more : suc n ≡ n + 1 = omega arith in
    let all : TakesTurns cleans d (suc n) next later = (between, work, turn, taken, last, sum) in
    subst (λ (x : ℕ). TakesTurns cleans d x next later) one_more all

ends_at : (cleans : Bool) (d between later : DriveFields) (n turns before : ℕ) (work next : Work) (turn : Turn) (ending : Ending) → TakesTurns cleans d n work between → IsTurn cleans between turn later → next ≡ with_turn work turn
    → turns ≡ n + 1 → before ≡ free_count between.store.table → EndsWith before turn ending later → EndsAt cleans d turns next ending later
ends_at cleans d between later n turns before work next turn ending taken last sum number free ends = record {
  before = n;
  number = number;
  between = between;
  earlier = work;
  taken = taken;
  turn = turn;
  last = last;
  sum = sum;
  ends = subst (λ (x : ℕ). EndsWith x turn ending later) free ends;
}

pub runs_to : (cleans : Bool) (d between later : DriveFields) (n turns before : ℕ) (work next : Work) (turn : Turn) (ending : Ending) → TakesTurns cleans d n work between → IsTurn cleans between turn later → next ≡ with_turn work turn
    → turns ≡ n + 1 → before ≡ free_count between.store.table → EndsWith before turn ending later → (turn.swept.frames ≡ 0 → turn.swept.ran_out ≡ false → IsBare later) → Runs cleans d turns next ending later
runs_to cleans d between later n turns before work next turn Done taken last sum number free ends bare = (ends_at cleans d between later n turns before work next turn Done taken last sum number free ends, bare ends.frames ends.room)
runs_to cleans d between later n turns before work next turn OutOfRoom taken last sum number free ends bare = ends_at cleans d between later n turns before work next turn OutOfRoom taken last sum number free ends
runs_to cleans d between later n turns before work next turn Limit taken last sum number free ends bare = absurd ends
