-- Moments of a clock that ticks.
use Rattle.std.proofs.Common.{◌≡◌, ◌<◌, ◌∙◌, ℕ, suc, ◌+◌, List, [], ◌∷◌, ◌++◌, ap, arith, get_or, length, length-append, sym}
use Rattle.std.proofs.Math.Seq.{get_or-append_seam}
use Rattle.s4_types.specs.History.{Base}
use Rattle.s4_types.specs.declared.requests.Request.{Request}
use Rattle.s4_types.specs.declared.replies.Reply.{Reply}
use Rattle.drive.specs.Fields.{SessionFields}
use Rattle.server.specs.Drawing.{AreTicks, ClockFields, moment_at}
use Rattle.server.specs.Sharing.{SharedAnswer}

-- the moments are those of the clock after k others
abbrev pub AreTicksFrom : ClockFields → ℕ → List ℕ → Type 0
AreTicksFrom clock k moments = (i : ℕ) → i < length moments → get_or moments i 0 ≡ moment_at clock (k + i + 1)

pub ticks_from_first : (clock : ClockFields) (moments : List ℕ) → AreTicks clock moments → AreTicksFrom clock 0 moments
ticks_from_first clock moments ticks i lt = ticks i lt ∙ ap (moment_at clock) (omega arith)

pub first_tick : (clock : ClockFields) (k now : ℕ) (moments : List ℕ) → AreTicksFrom clock k (now ∷ moments) → now ≡ moment_at clock (k + 1)
first_tick clock k now moments ticks = ticks 0 (omega arith) ∙ ap (moment_at clock) (omega arith)

pub later_ticks : (clock : ClockFields) (k now : ℕ) (moments : List ℕ) → AreTicksFrom clock k (now ∷ moments) → AreTicksFrom clock (k + 1) moments
later_ticks clock k now moments ticks i lt = ticks (suc i) (omega (arith, lt)) ∙ ap (moment_at clock) (omega arith)

-- the last of them is that of their count
pub last_tick : (clock : ClockFields) (before : List ℕ) (now : ℕ) → AreTicks clock (before ++ now ∷ []) → now ≡ moment_at clock (length before + 1)
last_tick clock before now ticks =
    let len : length (before ++ now ∷ []) ≡ length before + 1 = length-append before (now ∷ []) in
    sym (get_or-append_seam before now [] 0) ∙ ticks (length before) (omega (arith, len))

pub answer_ticks : (base : Base) (reserve : ℕ) (clock : ClockFields) (own : ℕ) (old new : SessionFields) (request : Request) (reply : Reply) (came_to : ℕ)
    → (answer : SharedAnswer base reserve (AreTicks clock) own old request reply new came_to) → (own < length answer.before + 1) × (answer.now ≡ moment_at clock (length answer.before + 1))
answer_ticks base reserve clock own old new request reply came_to answer = let late = answer.late in (omega (arith, late), last_tick clock answer.before answer.now answer.drawn)
