-- What whoever sends replies owes.
use Rattle.std.specs.Prelude.{ℕ, List, Option}
use Rattle.std.specs.List.{AllByRecursion}
use Rattle.s4_types.specs.History.{Base}
use Rattle.s4_types.specs.declared.requests.Role.{Role}
use Rattle.s4_types.specs.declared.replies.Reply.{Reply}
use Rattle.rpc.specs.declared.items.Item.{Item}
use Rattle.s4_types.specs.declared.requests.Request.{Request}
use Rattle.serving.specs.Answering.{Answered, said}
use Rattle.batch_serving.specs.Saying.{Completes}
use Rattle.kept_drive.specs.Receipts.{ReceiptFields}
use Rattle.server.specs.Attending.{IsSeated}
use Rattle.server.specs.Drawing.{DrawsNothing}
use Rattle.server.specs.declared.clocks.Undrawn.{Undrawn as Nothing}
use Rattle.s4serve.specs.Seats.{ServedFields}
use Rattle.s4serve.specs.Traces.{CoversStep, TracedFields, TracedSteps, untraced}

-- What was sent, where it is known, and these bytes are the replies of a session of this role to all that it was asked since it was had. It
-- was answered by steps of the drive with this base, and the receipt covers each of them.
pub record AreOwed (base : Base) (reserve : ℕ) (moments : List ℕ → Type 0) (role : Role) (sent : Option (List ℕ)) (bytes : List ℕ) (receipt : ReceiptFields) : Type 0 where
  pub first : ServedFields
  pub seated : IsSeated base role first.seat
  pub before : Nothing
  pub after : Nothing
  pub items : List (Item Request)
  pub replies : List Reply
  pub last : TracedFields
  pub answered : Answered (TracedSteps base reserve moments) DrawsNothing items replies (untraced first) before last after
  pub all : Completes sent bytes (said replies)
  pub covered : AllByRecursion (CoversStep (λ (r : ReceiptFields). r.number) (λ (r : ReceiptFields). r.reach) receipt) last.steps
