use Rattle.std.proofs.Common.{◌≡◌, ◌∙◌, ◌<◌, ℕ, List, length, take, ap, arith}
use Rattle.std.proofs.lemmas.List.{take_all}
use Rattle.std.specs.List.{sum_by}
use Rattle.drive.specs.Fields.{state_in, store_of}
use Rattle.history_export.specs.Checks.{capped}
use Rattle.s4_copy.specs.Counting.{versions_lost}
use Rattle.s4_copy.proofs.Lost.{lost_on}
use Rattle.s4_copy.proofs.counting.lost_of_drive.Goals as goal

pub loop-object-preserved : goal.loop-object-preserved
loop-object-preserved g c =
    let before = c.loop-object.invariant in
    let lt : c.loop-object.object-index < length c.as_slice-object-items.result.now = omega arith in
    record {
      ledger = c.lost_of_object.ensures.ledger ∙ before.ledger;
      store = c.lost_of_object.ensures.store ∙ before.store;
      lost = lost_on c.args.wanted.now c.loop-object.drive c.args.drive.now c.as_slice-object-items.result.now c.loop-object.object-index c.object-item.result c.loop-object.lost c.in_ok-versions.versions c.saturating_add-lost.result before.ledger before.store
          lt c.object-item.is c.in_ok-versions.ensures.lost before.lost c.saturating_add-lost.ensures;
    }

pub returns-clause-lost : goal.returns-clause-lost
returns-clause-lost g c =
    let objects : List ℕ = c.in_ok-objects.objects.items in
    let whole : take c.loop-object.object-index c.as_slice-object-items.result.now ≡ objects
    = take_all c.loop-object.object-index c.as_slice-object-items.result.now (omega arith) ∙ c.as_slice-object-items.ensures.value in
    record {
      objects = objects;
      have_rows = c.in_ok-objects.ensures;
      count_is = c.loop-object.invariant.lost ∙ ap (λ (os : List ℕ). capped (sum_by (versions_lost c.args.wanted.now (state_in c.args.drive.now) (store_of c.args.drive.now)) os)) whole;
    }
