-- Which changes the replies to a session acknowledge.
use Rattle.std.specs.Prelude.{◌≡◌, ℕ, ◌-◌, List, [], ◌∷◌, Some, MatchBool}
use mathlib.Core.Option.{some}
use lib.ListN.{get_elem?}
use Rattle.s4_types.specs.declared.changes.Accepted.{Accepted}
use Rattle.s4_types.specs.declared.changes.Change.{Change}
use Rattle.s4_types.specs.declared.requests.Request.{Request}
use Rattle.s4_types.specs.declared.replies.Reply.{Reply}
use Rattle.s4_model.specs.State.{State}
use Rattle.s4_model.specs.Step.{change_of, reply_at}
use Rattle.rpc.specs.declared.items.Item.{Item}
use Rattle.rpc.specs.declared.items.Item.TheVariants.{Whole, BadFrame}
use Rattle.drive.specs.Answering.{is_acceptance}

-- an item asks for a change, in some state of the drive: where an Append writes and which object a Create makes rests on that
abbrev pub Asks : Item Request → Change → Type 0
Asks (Whole request) change = (s : State) × (change_of s request ≡ Some change)
Asks BadFrame change = ⊥

-- A reply acknowledges the accepted change of this number: the item asked for it, and the reply has its moment, and its object where
-- it made one.
pub record Acknowledges (changes : List Accepted) (item : Item Request) (reply : Reply) (number : ℕ) : Type 0 where
  pub change : Accepted
  pub there : get_elem? changes (number - 1) ≡ some change
  pub numbered : change.number ≡ number
  pub asked : Asks item change.change
  pub reply_is : reply ≡ reply_at change.change change.moment

-- the numbers are those of the accepted changes that the replies acknowledge, one for each such reply and in their order
abbrev pub AreAcknowledged : List Accepted → List (Item Request) → List Reply → List ℕ → Type 0
AreAcknowledged changes [] replies numbers = numbers ≡ []
AreAcknowledged changes (item ∷ items) [] numbers = numbers ≡ []
AreAcknowledged changes (item ∷ items) (reply ∷ replies) numbers = MatchBool (is_acceptance reply)
    ((n : ℕ) × (others : List ℕ) × (numbers ≡ n ∷ others) × Acknowledges changes item reply n × AreAcknowledged changes items replies others)
    (AreAcknowledged changes items replies numbers)
