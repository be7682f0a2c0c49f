-- What a flush keeps has its reach as its clock.
use Rattle.std.proofs.Common.{◌≡◌, ◌+◌, ◌-◌, ◌^◌, ◌<◌, ◌≤◌, ℕ, List, length, max, min, ap, sym, subst, ◌∙◌, arith}
use mathlib.Core.List.{IsPrefix}
use Rattle.s4_types.specs.History.{Base, History, Seen, accepted}
use Rattle.s4_types.specs.declared.changes.Accepted.{Accepted}
use Rattle.s4_model.specs.Numbers.{clock_of, window_of}
use Rattle.s4_model.specs.Sound.{IsSound}
use Rattle.s4_model.specs.State.{State, grown, state_of}
use Rattle.s4_model.proofs.SoundLemmas.{IsSound-seen}
use Rattle.s4_model.proofs.StateLemmas.{state_of-seen}
use Rattle.kept_drive.specs.Reach.{ahead}
use Rattle.kept_drive.specs.Images.{IsFlushedOf, Keeps, KeepsFrom}
use Rattle.kept_drive.proofs.Counting.{counted}
use Rattle.kept_drive.proofs.Fronts.{begins_longer}

-- it isn't below the drive's clock
high : (last clock ahead reach : ℕ) → clock < 2 ^ 64 → reach ≡ max last (min (clock + ahead) (2 ^ 64 - 1)) → max clock reach ≡ reach
high last clock ahead reach fits is = omega (arith, fits, is)

later : (last clock ahead reach : ℕ) → reach ≡ max last (min (clock + ahead) (2 ^ 64 - 1)) → last ≤ reach
later last clock ahead reach is = omega (arith, is)

pub flushed_keeps : (history : History) (base : Base) (seen : List Accepted) (last reach : ℕ) (bytes : List ℕ) → IsFlushedOf history base seen last reach bytes → Keeps base seen reach bytes
flushed_keeps history base seen last reach bytes is =
    let state = state_of-seen history reach in
    record {
      history = grown history (Seen reach);
      begins = is.begins;
      took = ap (λ (s : State). s.changes) state ∙ is.met;
      came_to = ap (λ (s : State). s.clock) state ∙ high last (clock_of history) (ahead (window_of history)) reach is.fits is.ahead_of;
      sound = subst IsSound (sym state) (IsSound-seen _ reach is.sound);
      image = is.image;
    }

pub flushed_later : (history : History) (base : Base) (seen : List Accepted) (last reach : ℕ) (bytes : List ℕ) → IsFlushedOf history base seen last reach bytes → last ≤ reach
flushed_later history base seen last reach bytes is = later last (clock_of history) (ahead (window_of history)) reach is.ahead_of

-- and so it is kept by what a later flush keeps
pub kept_by : (history : History) (base : Base) (kept seen : List Accepted) (clock last reach : ℕ) (bytes : List ℕ) → IsPrefix kept seen → clock ≤ last → IsFlushedOf history base seen last reach bytes → KeepsFrom base kept clock bytes
kept_by history base kept seen clock last reach bytes more le is =
    let above = flushed_later history base seen last reach bytes is in
    record { all = seen; reached = reach; more = more; later = omega (arith, le, above); keeps = flushed_keeps history base seen last reach bytes is }

-- What a session has come to is kept where a flush has kept as many changes, at a clock that isn't below its own.
pub covered : (answered flushed : History) (base : Base) (all kept : List Accepted) (number last reach : ℕ) (bytes : List ℕ) → IsSound (state_of answered) → clock_of answered < 2 ^ 64 → number ≡ min (length (accepted answered)) (2 ^ 64 - 1)
    → number ≤ length kept → clock_of answered ≤ reach → IsPrefix (accepted answered) all → IsPrefix kept all → IsFlushedOf flushed base kept last reach bytes → KeepsFrom base (accepted answered) (clock_of answered) bytes
covered answered flushed base all kept number last reach bytes sound fits is many le p q of =
    let count = counted (state_of answered) number sound fits is in
    record { all = kept; reached = reach; more = begins_longer all (accepted answered) kept p q (omega (arith, count, many)); later = le; keeps = flushed_keeps flushed base kept last reach bytes of }
