-- Frames that are swept, those with few held blocks first.
use Rattle.std.proofs.Common.{◌≡◌, inl, inr, ℕ, ◌+◌, ◌*◌, ◌<◌, ◌≤◌, List, length, Option, None, sym, ap, subst, arith}
use Rattle.std.proofs.lemmas.Bool.{cases_lt}
use Rattle.std.proofs.lemmas.List.{get_or_past}
use Rattle.s4_types.specs.declared.refusals.Refusal.{Refusal}
use Rattle.segment_word.specs.Frames.{Free, Sealed, Frame, no_frame}
use Rattle.segment_word.specs.Layout.{frame_at}
use Rattle.segment_table.specs.Counts.{held_count}
use Rattle.drive.specs.Fields.{DriveFields}
use Rattle.segment_copier.proofs.FrameCounts.{few_held}
use Rattle.drive_compaction.specs.Choosing.{CanBeFreed, NoneCanBeFreed}
use Rattle.drive_compaction.specs.Emptying.{KeepsAll, Frees, FreesInTurn}
use Rattle.drive_compaction.specs.private.Sweeping.{IsNext}
use Rattle.drive_compaction.proofs.Keeping.{keeps_all, keeps_on}
use Rattle.drive_compaction.proofs.Freed.{none_freed, freed_nothing, freed_more, freed_on}

-- ---- of the frames with one number of held blocks

-- Of the frames below this one those were freed that could be.
pub record SweepsTo (counts : List (ℕ × ℕ)) (d : DriveFields) (held frame frames moves : ℕ) (later : DriveFields) : Type 0 where
  pub few : frames ≤ frame
  pub few_moves : moves ≤ 15 * frames
  pub freed : FreesInTurn counts d frames moves later
  pub none : frames ≡ 0 → (k : ℕ) → k < frame → IsNext counts held d k → ⊥
  pub keeps : KeepsAll d later

pub begun : (counts : List (ℕ × ℕ)) (d : DriveFields) (held : ℕ) → SweepsTo counts d held 0 0 0 d
begun counts d held = record {
  few = omega arith;
  few_moves = omega arith;
  freed = none_freed counts d;
  none = λ zero_frames k below next. absurd (omega (arith, below));
  keeps = keeps_all d;
}

pub passed_over : (counts : List (ℕ × ℕ)) (d later : DriveFields) (held frame frames moves : ℕ) → SweepsTo counts d held frame frames moves later → (IsNext counts held later frame → ⊥) → SweepsTo counts d held (frame + 1) frames moves later
passed_over counts d later held frame frames moves so other =
    let few = so.few in
    record {
      few = omega (arith, few);
      few_moves = so.few_moves;
      freed = so.freed;
      none = λ nothing k below next. elim (cases_lt k frame) [
        | inl under ↦ so.none nothing k under next
        | inr above ↦ (let same : k ≡ frame = omega (arith, below, above) in
            other (subst (λ (x : DriveFields). IsNext counts held x frame) (sym (freed_nothing counts d later frames moves so.freed nothing)) (subst (λ (x : ℕ). IsNext counts held d x) same next)))
      ];
      keeps = so.keeps;
    }

pub freed_next : (counts : List (ℕ × ℕ)) (d between later : DriveFields) (held frame frames moves m : ℕ) (stopped : Option Refusal) → SweepsTo counts d held frame frames moves between → IsNext counts held between frame
    → Frees between frame m stopped later → stopped ≡ None → m ≤ 15 → KeepsAll between later → SweepsTo counts d held (frame + 1) (frames + 1) (moves + m) later
freed_next counts d between later held frame frames moves m stopped so next frees all few_more keeps =
    let few = so.few in
    let few_moves = so.few_moves in
    record {
      few = omega (arith, few);
      few_moves = omega (arith, few_moves, few_more);
      freed = freed_more counts d between later frames frame moves m stopped so.freed next.can frees all;
      none = λ nothing k below is. absurd (omega (arith, nothing));
      keeps = keeps_on d between later so.keeps keeps;
    }

-- a frame that isn't there isn't sealed
pub none_outside : (frames : List Frame) (f : ℕ) → length frames ≤ f → (frame_at frames f).phase ≡ Sealed → ⊥
none_outside frames f outside sealed =
    let none : (frame_at frames f).phase ≡ Free = ap (λ (k : Frame). k.phase) (get_or_past frames f no_frame outside) in
    absurd (cc)

-- ---- of all frames

-- Of the frames with at most this number of held blocks those were freed that could be.
pub record SweepsFew (counts : List (ℕ × ℕ)) (d : DriveFields) (held frames moves : ℕ) (later : DriveFields) : Type 0 where
  pub few : frames ≤ 65535 * held
  pub few_moves : moves ≤ 1000000 * held
  pub freed : FreesInTurn counts d frames moves later
  pub none : frames ≡ 0 → (k : ℕ) → held_count d.store.table k ≤ held → CanBeFreed counts d k → ⊥
  pub keeps : KeepsAll d later

pub begun_few : (counts : List (ℕ × ℕ)) (d : DriveFields) → SweepsFew counts d 0 0 0 d
begun_few counts d = record {
  few = omega arith;
  few_moves = omega arith;
  freed = none_freed counts d;
  none = λ zero_frames k few can. (let some = can.some in omega (arith, few, some));
  keeps = keeps_all d;
}

pub swept_level : (counts : List (ℕ × ℕ)) (d between later : DriveFields) (held frames moves n m : ℕ) → SweepsFew counts d held frames moves between → FreesInTurn counts between n m later → n ≤ 65535 → m ≤ 1000000
    → (n ≡ 0 → (f : ℕ) → IsNext counts (held + 1) between f → ⊥) → KeepsAll between later → SweepsFew counts d (held + 1) (frames + n) (moves + m) later
swept_level counts d between later held frames moves n m so freed few_more few_moves_more none keeps =
    let few = so.few in
    let few_moves = so.few_moves in
    record {
      few = omega (arith, few, few_more);
      few_moves = omega (arith, few_moves, few_moves_more);
      freed = freed_on counts d between later frames n moves m so.freed freed;
      none = λ nothing k up_to can. (let first : frames ≡ 0 = omega (arith, nothing) in
          let second : n ≡ 0 = omega (arith, nothing) in
          let same : between ≡ d = freed_nothing counts d between frames moves so.freed first in
          elim (cases_lt (held_count d.store.table k) (held + 1)) [
            | inl under ↦ so.none first k (omega (arith, under)) can
            | inr above ↦ (let exact : held_count d.store.table k ≡ held + 1 = omega (arith, up_to, above) in
                none second k (subst (λ (x : DriveFields). IsNext counts (held + 1) x k) (sym same) (record { held_is = exact; can = can })))
          ]);
      keeps = keeps_on d between later so.keeps keeps;
    }

-- no frame has more held blocks than it has blocks
pub swept_all : (counts : List (ℕ × ℕ)) (d later : DriveFields) (held frames moves : ℕ) → held ≡ 15 → SweepsFew counts d held frames moves later → frames ≡ 0 → NoneCanBeFreed counts later
swept_all counts d later held frames moves all so nothing f can =
    let same : later ≡ d = freed_nothing counts d later frames moves so.freed nothing in
    let few = few_held d.store.table f in
    so.none nothing f (omega (arith, few, all)) (subst (λ (x : DriveFields). CanBeFreed counts x f) same can)
