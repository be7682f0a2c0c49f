-- What contracts see of an actor.
use Rattle.std.specs.Prelude.{Option}
use Rattle.time_read.specs.Plans.{PlanFields}
use Rattle.drive.specs.Fields.{SessionFields}
use Rattle.interleaving.specs.Moving.{Moving}

-- an actor: its session, the plan of a read that it has, and what it has of a move
pub record ActorFields : Type 0 where
  pub session : SessionFields
  pub plan : Option PlanFields
  pub moving : Moving
