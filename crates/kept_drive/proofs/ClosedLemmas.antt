-- What is kept at the end of a service has the drive's own clock.
use Rattle.std.proofs.Common.{◌≡◌, ◌<◌, ◌≤◌, ℕ, zero, suc, List, max, ap, refl, sym, subst, ◌∙◌, arith}
use mathlib.Core.List.{IsPrefix}
use Rattle.s4_types.specs.History.{Base, History, Seen, accepted}
use Rattle.s4_types.specs.declared.changes.Accepted.{Accepted}
use Rattle.s4_model.specs.Numbers.{clock_of}
use Rattle.s4_model.specs.Sound.{IsSound}
use Rattle.s4_model.specs.State.{State, grown, state_of}
use Rattle.s4_model.proofs.SoundLemmas.{IsSound-seen}
use Rattle.s4_model.proofs.StateLemmas.{state_of-seen}
use Rattle.kept_drive.specs.Images.{IsClosedOf, IsImageOf, Keeps, KeepsFrom, last_clock, last_history}

pub own_clock : (start clock : ℕ) → 0 < clock → last_clock start clock ≡ clock
own_clock start zero some = absurd (omega (arith, some))
own_clock start (suc clock) some = refl

not_below : (start clock : ℕ) → clock ≤ last_clock start clock
not_below start zero = omega arith
not_below start (suc clock) = omega arith

from_zero : (clock start seen : ℕ) → clock ≡ 0 → seen ≡ max clock start → seen ≡ start
from_zero clock start seen none is = omega (arith, none, is)

kept_at : (history : History) (base : Base) (seen : List Accepted) (start clock : ℕ) (bytes : List ℕ) → clock_of history ≡ clock → history.base ≡ base → accepted history ≡ seen → IsSound (state_of history)
    → IsImageOf (last_history start clock history) bytes → Keeps base seen (last_clock start clock) bytes
kept_at history base seen start zero bytes at begins met sound image =
    let state = state_of-seen history start in
    record {
      history = grown history (Seen start);
      begins = begins;
      took = ap (λ (s : State). s.changes) state ∙ met;
      came_to = from_zero (clock_of history) start _ at (ap (λ (s : State). s.clock) state);
      sound = subst IsSound (sym state) (IsSound-seen _ start sound);
      image = image;
    }
kept_at history base seen start (suc clock) bytes at begins met sound image =
    record { history = history; begins = begins; took = met; came_to = at; sound = sound; image = image }

pub closed_keeps : (history : History) (base : Base) (seen : List Accepted) (start : ℕ) (bytes : List ℕ) → IsClosedOf history base seen start bytes → Keeps base seen (last_clock start (clock_of history)) bytes
closed_keeps history base seen start bytes is = kept_at history base seen start (clock_of history) bytes refl is.begins is.met is.sound is.image

-- and what a session has come to is kept by it
pub answered_lasts : (answered closed : History) (base : Base) (seen : List Accepted) (start : ℕ) (bytes : List ℕ) → IsPrefix (accepted answered) seen → clock_of answered ≤ clock_of closed → IsClosedOf closed base seen start bytes
    → KeepsFrom base (accepted answered) (clock_of answered) bytes
answered_lasts answered closed base seen start bytes more le is =
    let above = not_below start (clock_of closed) in
    record { all = seen; reached = last_clock start (clock_of closed); more = more; later = omega (arith, le, above); keeps = closed_keeps closed base seen start bytes is }
