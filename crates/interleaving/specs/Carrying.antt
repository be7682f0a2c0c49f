-- What the values that an actor carries mean.
use Rattle.interleaving.specs.Moving.{Move, Moving, Still, Planned, Copied}
use Rattle.interleaving.specs.declared.actors.Carried.{Carried}
use Rattle.interleaving.specs.declared.actors.Carried.TheVariants as carried

-- what an actor has of a move, where this is what its plans and its copied moves are of
abbrev pub moving_of : {P Q : Type 0} → (P → Move) → (Q → Move) → Carried P Q → Moving
moving_of planned copied carried.Nothing = Still
moving_of planned copied (carried.Plan plan) = Planned (planned plan)
moving_of planned copied (carried.Moved moved) = Copied (copied moved)
