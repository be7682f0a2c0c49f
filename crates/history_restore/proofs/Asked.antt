-- What a granted request for a change made.
use Rattle.std.proofs.Common.{◌≡◌, Result, Some, OnOk}
use Rattle.std.proofs.lemmas.Result.{on_ok_weaker}
use Rattle.s4_types.specs.declared.changes.Change.{Change}
use Rattle.s4_types.specs.declared.requests.Request.{Request}
use Rattle.s4_model.specs.State.{State}
use Rattle.s4_model.specs.Effect.{effect, object_of}
use Rattle.s4_model.specs.Numbers.{next_by}
use Rattle.s4_model.specs.Refusals.{present}
use Rattle.s4_model.specs.Step.{change_of}
use Rattle.history_restore.specs.Content.{content_of}
use Rattle.history_restore.specs.Asking.{Grants}

pub content_granted : {T E : Type 0} (r : Result T E) (s later : State) (request : Request) (change : Change) → change_of s request ≡ Some change → OnOk r (Grants s request later)
    → OnOk r (content_of (present later (object_of change)) ≡ content_of (effect change 0 (present s (object_of change))))
content_granted r s later request change is granted = on_ok_weaker r (λ (grants : Grants s request later). (grants change is).content) granted

pub next_granted : {T E : Type 0} (r : Result T E) (s later : State) (request : Request) (change : Change) → change_of s request ≡ Some change → OnOk r (Grants s request later) → OnOk r (later.next ≡ next_by change s.next)
next_granted r s later request change is granted = on_ok_weaker r (λ (grants : Grants s request later). (grants change is).next) granted
