use Rattle.std.proofs.Common.{ℕ, List, [], sym, subst}
use Rattle.image_parts.specs.declared.rows.RowPart.{RowPart}
use Rattle.verifier.specs.SavedRows.{AreSavedUpTo}
use Rattle.verifier.proofs.SavedRows.{none_saved, saved_on, all_saved}
use Rattle.verifier.proofs.SavedWhole.{few_parts, no_row_0}
use Rattle.verifier.proofs.saved_rows.rows_saved.Goals as goal

pub loop-object-init : goal.loop-object-init
loop-object-init g c =
    let all = c.args.drive.now.store.rows in
    let first : AreSavedUpTo all 0 [] = none_saved all (no_row_0 c.args.drive.now c.rules.ensures.store) in
    let behind : AreSavedUpTo all 0 c.new-parts.result.items = subst (AreSavedUpTo all 0) (sym c.new-parts.ensures.items) first in
    subst (λ (o : ℕ). AreSavedUpTo all o c.new-parts.result.items) (sym c.new-last.ensures) behind

pub loop-object-preserved : goal.loop-object-preserved
loop-object-preserved g c =
    let all = c.args.drive.now.store.rows in
    subst (λ (l : List RowPart). AreSavedUpTo all c.in-Some.object l) (sym c.in_ok-push.ensures.items)
    (saved_on all c.loop-object.last c.in-Some.object c.loop-object.parts.items c.in-Some-row.row c.part_of.result c.loop-object.invariant c.in-Some.ensures.some (sym c.in-Some-row.ensures)
    c.part_of.ensures.spelled c.part_of.ensures.is)

pub returns-clause-saved : goal.returns-clause-saved
returns-clause-saved g c = all_saved c.args.drive.now.store.rows c.loop-object.last c.loop-object.parts.items c.loop-object.invariant c.in_default.ensures.none

pub returns-clause-few : goal.returns-clause-few
returns-clause-few g c =
    few_parts (record { held = c.a_checkpoint_is_in_its_blocks.ensures.held; first = c.a_checkpoint_is_in_its_blocks.ensures.first }) c.args.drive.now c.loop-object.parts.items c.rules.ensures.store
    (all_saved c.args.drive.now.store.rows c.loop-object.last c.loop-object.parts.items c.loop-object.invariant c.in_default.ensures.none)
