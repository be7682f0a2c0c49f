-- What a flush of an object leaves.
use Rattle.std.proofs.Common.{◌≡◌, ◌≢◌, ◌∙◌, ◌-◌, ◌<◌, ◌≤◌, ◌&&◌, ◌||◌, ◌==◌, ℕ, max, Bool, true, false, refl, ap, sym, subst, arith}
use Rattle.std.specs.Prelude.{nat_le}
use Rattle.std.proofs.lemmas.Option.{none-some, same_Some}
use Rattle.std.proofs.lemmas.Bool.{ne_eqb}
use Rattle.s4_types.specs.History.{History, Took}
use Rattle.s4_types.specs.declared.changes.Accepted.{Accepted}
use Rattle.s4_types.specs.declared.changes.Change.{Change}
use Rattle.s4_types.specs.declared.changes.Change.TheVariants as change
use Rattle.s4_types.specs.declared.requests.Role.{Role}
use Rattle.s4_types.specs.declared.requests.Request.TheVariants.{Control}
use Rattle.s4_types.specs.declared.requests.AdminRequest.TheVariants.{FlushO}
use Rattle.s4_types.specs.declared.refusals.Refusal.{Refusal}
use Rattle.s4_types.specs.declared.replies.Reply.{Reply}
use Rattle.s4_types.specs.declared.replies.Reply.TheVariants.{Refused}
use Rattle.s4_model.specs.State.{State, state_of, grown, seen, took}
use Rattle.s4_model.specs.Numbers.{next_by, window_by}
use Rattle.s4_model.specs.Visible.{is_hidden}
use Rattle.s4_model.specs.VersionAt.{version_of}
use Rattle.s4_model.specs.Step.{Step, accepted_record}
use Rattle.s4_model.specs.Sound.{IsSound}
use Rattle.s4_model.specs.Laws.{LeavesVersions, AFlushOfAnObjectHidesItsSpan}
use Rattle.history_restore.specs.Room.{HidesBetween, LeavesObjects}
use Rattle.history_restore.proofs.Stepping.{BySeen, ByTook, IsTaken, refused_saw, granted_took, present_of_seen}

objects_of_seen : (s : State) (o now : ℕ) → IsSound s → LeavesObjects s o (seen s now)
objects_of_seen s o now sound = record {
  objects = present_of_seen s now sound;
  versions = λ q t le. refl;
  hidden = λ q t apart. refl;
  clock = omega arith;
  window = refl;
  floor = omega arith;
  reach = omega arith;
  next = refl;
}

pub refused_flush : (h after : History) (role : Role) (o first last now : ℕ) (reply : Reply) (e : Refusal) → BySeen → IsSound (state_of h) → reply ≡ Refused e → Step h role (Control (FlushO o first last)) now reply after
    → LeavesObjects (state_of h) o (state_of after)
refused_flush h after role o first last now reply e by_seen sound refused step =
    subst (LeavesObjects (state_of h) o) (sym (ap state_of (refused_saw h after role (Control (FlushO o first last)) now reply e (λ s r is. none-some r is) refused step) ∙ by_seen h now)) (objects_of_seen (state_of h) o now sound)

-- what another object hides is hidden as before
hidden_as_before : (b c : Bool) (q o : ℕ) → q ≢ o → (b || (o == q && c)) ≡ b
hidden_as_before b c q o apart = ap (λ e. b || (e && c)) (ne_eqb o q (λ same. apart (sym same))) ∙ or_none b
  where
    or_none : (b : Bool) → (b || false) ≡ b
    or_none true = refl
    or_none false = refl

-- what a flush that was granted leaves
pub record FlushLeaves (s : State) (o first last : ℕ) (later : State) : Type 0 where
  pub hides : HidesBetween s o first last later
  pub objects : LeavesObjects s o later
  pub versions : (q t : ℕ) → version_of later q t ≡ version_of s q t

-- the numbers that a flush leaves
record NumbersStay (s later : State) : Type 0 where
  pub clock : s.clock ≤ later.clock
  pub window : later.window ≡ s.window
  pub floor : s.floor ≤ later.floor
  pub reach : later.floor ≤ max s.floor (later.clock - s.window)
  pub next : later.next ≡ s.next

-- a flush leaves the window and the next number
numbers_by : (s : State) (a : Accepted) (o first last : ℕ) → change.FlushO o first last ≡ a.change → s.clock < a.moment → NumbersStay s (took s a)
numbers_by s a o first last is later =
    let window : window_by a.change s.window ≡ s.window = sym (ap (λ (c : Change). window_by c s.window) is) in
    record {
      clock = omega (arith, later);
      window = window;
      floor = omega arith;
      reach = subst (λ w. max s.floor (a.moment - w) ≤ max s.floor (a.moment - s.window)) (sym window) (omega arith);
      next = sym (ap (λ (c : Change). next_by c s.next) is);
    }

flushed : (s later : State) (o first last : ℕ) → HidesBetween s o first last later → LeavesVersions s later → NumbersStay s later → FlushLeaves s o first last later
flushed s later o first last hides leaves numbers = record {
  hides = hides;
  objects = record {
    objects = leaves.current;
    versions = λ q t before. leaves.versions q t;
    hidden = λ q t apart. hides q t ∙ hidden_as_before (is_hidden s q t) (nat_le first t && nat_le t last) q o apart;
    clock = numbers.clock;
    window = numbers.window;
    floor = numbers.floor;
    reach = numbers.reach;
    next = numbers.next;
  };
  versions = leaves.versions;
}

pub granted_flush : (h after : History) (role : Role) (o first last now : ℕ) (reply : Reply) → ByTook → AFlushOfAnObjectHidesItsSpan → IsSound (state_of h) → ((e : Refusal) → reply ≡ Refused e → ⊥)
    → Step h role (Control (FlushO o first last)) now reply after → FlushLeaves (state_of h) o first last (state_of after)
granted_flush h after role o first last now reply by_took hides_law sound free step =
    let s : State = state_of h in
    let taken : IsTaken h (Control (FlushO o first last)) now after = granted_took h after role (Control (FlushO o first last)) now reply (λ s r is. none-some r is) free step in
    let a : Accepted = accepted_record s taken.change now in
    let both = hides_law h role o first last now reply a sound (subst (λ k. Step h role (Control (FlushO o first last)) now reply k) taken.took step) in
    let numbers : NumbersStay s (took s a) = numbers_by s a o first last (same_Some (change.FlushO o first last) taken.change taken.asked) (omega arith) in
    subst (FlushLeaves s o first last) (sym (ap state_of taken.took)) (flushed s (state_of (grown h (Took a))) o first last both.0 both.1 (subst (NumbersStay s) (sym (by_took h a)) numbers))
