use Rattle.std.proofs.Common.{◌∙◌, ℕ, List, ap}
use Rattle.std.specs.List.{flat_map}
use Rattle.std.proofs.lemmas.Result.{IfOk-weaker}
use Rattle.drive.specs.Fields.{state_in, store_of}
use Rattle.history_aging.specs.Ends.{ends_of}
use Rattle.history_aging.proofs.ends.ended_versions.Goals as goal

pub returns-clause-ends : goal.returns-clause-ends
returns-clause-ends g c =
    let f : ℕ → List ℕ = ends_of (state_in c.args.drive.now) (store_of c.args.drive.now) in
    IfOk-weaker c.ends_in.result _ _
    (λ ends are. record { objects = c.in_ok-objects.objects.items; have_rows = c.in_ok-objects.ensures; are = are ∙ ap (λ (l : List ℕ). flat_map f l) c.as_slice.ensures.value })
    c.ends_in.ensures.ends
