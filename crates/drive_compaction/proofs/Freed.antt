-- Frames that are freed, one after the other.
use Rattle.std.proofs.Common.{◌≡◌, ℕ, zero, suc, ◌+◌, List, Option, Some, None, refl, sym, subst, arith}
use Rattle.s4_types.specs.declared.refusals.Refusal.{Refusal}
use Rattle.s4_types.specs.declared.refusals.Refusal.TheVariants.{NoRoom}
use Rattle.drive.specs.Fields.{DriveFields}
use Rattle.drive_compaction.specs.Choosing.{CanBeFreed}
use Rattle.drive_compaction.specs.Emptying.{Frees, FreesInTurn, RunsOut}

pub none_freed : (counts : List (ℕ × ℕ)) (d : DriveFields) → FreesInTurn counts d 0 0 d
unfolding FreesInTurn
none_freed counts d = (refl, refl)

-- where no frame was freed nothing has changed
pub freed_nothing : (counts : List (ℕ × ℕ)) (d later : DriveFields) (frames moves : ℕ) → FreesInTurn counts d frames moves later → frames ≡ 0 → later ≡ d
unfolding FreesInTurn
freed_nothing counts d later zero moves so none = so.1
freed_nothing counts d later (suc n) moves so none = absurd (omega (arith, none))

pub freed_more : (counts : List (ℕ × ℕ)) (d between later : DriveFields) (n f k m : ℕ) (stopped : Option Refusal) → FreesInTurn counts d n k between → CanBeFreed counts between f → Frees between f m stopped later → stopped ≡ None
    → FreesInTurn counts d (n + 1) (k + m) later
unfolding FreesInTurn
freed_more counts d between later n f k m stopped so can frees none =
    let next : suc n ≡ n + 1 = omega arith in
    let all : FreesInTurn counts d (suc n) (k + m) later = (between, f, k, m, so, can, subst (λ (s : Option Refusal). Frees between f m s later) none frees, refl) in
    subst (λ (x : ℕ). FreesInTurn counts d x (k + m) later) next all

pub freed_on : (counts : List (ℕ × ℕ)) (d mid later : DriveFields) (a b m n : ℕ) → FreesInTurn counts d a m mid → FreesInTurn counts mid b n later → FreesInTurn counts d (a + b) (m + n) later
unfolding FreesInTurn
freed_on counts d mid later a zero m n first second =
    let frames : a ≡ a + zero = omega arith in
    let none : n ≡ 0 = second.0 in
    let moves : m ≡ m + n = omega (arith, none) in
    subst (λ (x : ℕ). FreesInTurn counts d x (m + n) later) frames (subst (λ (x : ℕ). FreesInTurn counts d a x later) moves (subst (λ (x : DriveFields). FreesInTurn counts d a m x) (sym second.1) first))
freed_on counts d mid later a (suc b) m n first (between, f, k, more, so, can, frees, sum) =
    let before : FreesInTurn counts d (a + b) (m + k) between = freed_on counts d mid between a b m k first so in
    let frames : suc (a + b) ≡ a + suc b = omega arith in
    let moves : m + n ≡ (m + k) + more = omega (arith, sum) in
    let all : FreesInTurn counts d (suc (a + b)) (m + n) later = (between, f, m + k, more, before, can, frees, moves) in
    subst (λ (x : ℕ). FreesInTurn counts d x (m + n) later) frames all

-- the emptying of a further frame stopped
pub ran_out : (counts : List (ℕ × ℕ)) (d between later : DriveFields) (n f k m : ℕ) (stopped : Option Refusal) → FreesInTurn counts d n k between → CanBeFreed counts between f → Frees between f m stopped later → stopped ≡ Some NoRoom
    → RunsOut counts d n (k + m) later
ran_out counts d between later n f k m stopped so can frees is = record {
  between = between;
  before = k;
  freed = so;
  frame = f;
  can = can;
  more = m;
  stopped = subst (λ (s : Option Refusal). Frees between f m s later) is frees;
  sum = refl;
}

pub ran_out_on : (counts : List (ℕ × ℕ)) (d mid later : DriveFields) (a b m n : ℕ) → FreesInTurn counts d a m mid → RunsOut counts mid b n later → RunsOut counts d (a + b) (m + n) later
ran_out_on counts d mid later a b m n first out =
    let sum = out.sum in
    record {
      between = out.between;
      before = m + out.before;
      freed = freed_on counts d mid out.between a b m out.before first out.freed;
      frame = out.frame;
      can = out.can;
      more = out.more;
      stopped = out.stopped;
      sum = omega (arith, sum);
    }
