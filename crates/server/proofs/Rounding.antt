-- A round of the cleaner that is under way.
use Rattle.std.proofs.Common.{◌≡◌, ◌≤◌, ◌<◌, ℕ, ◌+◌, ◌++◌, List, [], ◌∷◌, length, false, true, refl, sym, ap, subst, ◌∙◌, arith}
use Rattle.std.proofs.lemmas.List.Elements.{All-nil, All-push}
use Rattle.std.proofs.lemmas.List.{length-append}
use Rattle.std.proofs.lemmas.Bool.{false≢true}
use Rattle.std.specs.List.{All}
use Rattle.s4_types.specs.History.{Base}
use Rattle.history_cleaner.specs.declared.rounds.Turn.{Turn}
use Rattle.history_cleaner.specs.declared.rounds.Turn.TheVariants.{Cleaned, PassedOver, Ended}
use Rattle.server.specs.Upkeep.{SharedTurn, TakesTurns, IsRound, ends_round}
use Rattle.server.specs.declared.upkeep.Round.{Round}

-- Turns were taken from before the first object on, one for each of this many objects, and none of them ended the round.
pub record IsUnderway (base : Base) (passed count : ℕ) : Type 0 where
  pub turns : List Turn
  pub taken : TakesTurns base 0 turns passed
  pub going : All (λ turn. ends_round turn ≡ false) turns
  pub counted : length turns ≡ count
  pub fits : count ≤ passed

-- before the first turn
pub underway_first : (base : Base) → IsUnderway base 0 0
underway_first base = record { turns = []; taken = refl; going = All-nil (λ turn. ends_round turn ≡ false); counted = refl; fits = omega arith }

-- one turn more
taken_more : (base : Base) (first : ℕ) (turns : List Turn) (turn : Turn) (passed next : ℕ) → TakesTurns base first turns passed → SharedTurn base passed turn next → TakesTurns base first (turns ++ turn ∷ []) next
taken_more base first [] turn passed next same taken = (next, subst (λ (m : ℕ). SharedTurn base m turn next) same taken, refl)
taken_more base first (t ∷ ts) turn passed next (m, one, rest) taken = (m, one, taken_more base m ts turn passed next rest taken)

-- an object that had its turn stands above the one before it
risen : (base : Base) (passed next : ℕ) (turn : Turn) → ends_round turn ≡ false → SharedTurn base passed turn next → passed < next
risen base passed next (Cleaned object) going taken = subst (λ (n : ℕ). passed < n) (sym taken.turns.comes_to) taken.turns.above.above
risen base passed next (PassedOver object refusal) going taken = subst (λ (n : ℕ). passed < n) (sym taken.turns.comes_to) taken.turns.above.above
risen base passed next Ended going taken = absurd (false≢true (sym going))

pub underway_more : (base : Base) (passed next count : ℕ) (turn : Turn) → IsUnderway base passed count → SharedTurn base passed turn next → ends_round turn ≡ false → IsUnderway base next (count + 1)
underway_more base passed next count turn under taken going =
    let above : passed < next = risen base passed next turn going taken in
    let fits = under.fits in record {
      turns = under.turns ++ turn ∷ [];
      taken = taken_more base 0 under.turns turn passed next under.taken taken;
      going = All-push (λ t. ends_round t ≡ false) under.turns turn under.going going;
      counted = length-append under.turns (turn ∷ []) ∙ ap (λ (n : ℕ). n + 1) under.counted;
      fits = omega (arith, above, fits);
    }

-- the number of the last object rises
pub underway_rises : (base : Base) (passed next : ℕ) (turn : Turn) → SharedTurn base passed turn next → ends_round turn ≡ false → passed < next
underway_rises base passed next turn taken going = risen base passed next turn going taken

-- a turn that ended the round begins the next one
ended : (base : Base) (passed next : ℕ) (turn : Turn) → ends_round turn ≡ true → SharedTurn base passed turn next → SharedTurn base passed Ended 0
ended base passed next (Cleaned object) ends taken = absurd (false≢true ends)
ended base passed next (PassedOver object refusal) ends taken = absurd (false≢true ends)
ended base passed next Ended ends taken = subst (λ (m : ℕ). SharedTurn base passed Ended m) taken.turns.begins taken

-- a turn that finds none left ends the round
pub underway_ends : (base : Base) (passed next count : ℕ) (turn : Turn) (round : Round) → IsUnderway base passed count → ends_round turn ≡ true → SharedTurn base passed turn next → round.turns ≡ count → IsRound base round
underway_ends base passed next count turn round under ends taken counted = record {
  turns = under.turns;
  last = passed;
  taken = under.taken;
  ended = ended base passed next turn ends taken;
  going = under.going;
  counted = under.counted ∙ sym counted;
}
