use Rattle.std.proofs.Common.{◌++◌, List, ◌∙◌, sym, ap}
use Rattle.lemmas.proofs.Option.{IfNone_weaker}
use Rattle.image_parts.specs.declared.rows.RowPart.{RowPart}
use Rattle.image_objects.specs.Versions.{entries_used_by}
use Rattle.verifier.proofs.AllRows.{one_on}
use Rattle.earlier_images.specs.Used.{used_in}
use Rattle.earlier_images.proofs.AllRows.{HaveRead, none_read, one_read, row_read, row_falls, one_falls, have_all, all_stand, moments_fall, both_some}
use Rattle.earlier_images.proofs.rows.read_rows.Goals.{After-finish}
use Rattle.earlier_images.proofs.rows.read_rows.Goals as goal

pub loop-part-init : goal.loop-part-init
loop-part-init c = record {
  read = none_read c.args.version (used_in c.args.frames.now) c.args.clock c.new-reading.result c.new-reading.ensures.rows c.new-reading.ensures.moments;
  whole = sym (c.into_iter-part-iterator.ensures.into_iter_gives ∙ c.rows-part-items.ensures);
}

pub loop-part-preserved : goal.loop-part-preserved
loop-part-preserved c =
    let used = used_in c.args.frames.now in
    let old = c.loop-part.reading in
    let new = c.read_row.new.self in
    record {
      read = one_read c.args.version c.rows_are_read_in_order.ensures.next c.rows_are_read_in_order.ensures.only used c.args.clock c.loop-part.yielded c.in-Some.part old new c.loop-part.invariant.read
          (row_read c.args.version c.in_ok-read_row.field-0 used c.in-Some.part c.args.clock old new c.if-not-branch.false c.in_ok-read_row.ensures.read);
      whole = one_on c.args.parts.now.rows c.loop-part.yielded c.in-Some.part c.loop-part.part-iterator c.next.new.self c.loop-part.invariant.whole c.in-Some.ensures.steps;
    }

pub returns-then-not-branch-clause-none : goal.returns-then-not-branch-clause-none
returns-then-not-branch-clause-none c =
    let used = used_in c.args.frames.now in
    one_falls c.args.version c.rows_are_read_in_order.ensures.listed used c.args.clock c.loop-part.yielded c.in-Some.part c.next.new.self c.args.parts.now.rows
    (row_falls c.args.version c.in_ok-read_row.field-0 used c.in-Some.part c.args.clock c.loop-part.reading c.read_row.new.self c.if-not-branch.true c.in_ok-read_row.ensures.read)
    (c.loop-part.invariant.whole ∙ ap (λ (l : List RowPart). c.loop-part.yielded ++ l) c.in-Some.ensures.steps)

-- all rows were read
all : (c : After-finish) → HaveRead c.args.version (used_in c.args.frames.now) c.args.clock c.args.parts.now.rows c.loop-part.reading
all c = have_all c.args.version (used_in c.args.frames.now) c.args.clock c.args.parts.now.rows c.loop-part.yielded c.loop-part.part-iterator c.loop-part.reading c.loop-part.invariant.read c.loop-part.invariant.whole c.in-None.ensures.steps.0

pub returns-clause-stand : goal.returns-clause-stand
returns-clause-stand c =
    let used = used_in c.args.frames.now in
    both_some c.args.version c.finish.result _ _ _ (λ rows is once. all_stand c.args.version used c.args.clock c.args.parts.now.rows c.loop-part.reading rows.items (all c) (c.moments_told_once_are_not_shared.ensures.apart (entries_used_by c.args.version used)) is once) c.finish.ensures.rows c.finish.ensures.once

pub returns-clause-none : goal.returns-clause-none
returns-clause-none c =
    let used = used_in c.args.frames.now in
    IfNone_weaker c.finish.result _ _ c.finish.ensures.none (moments_fall c.args.version used c.args.clock c.args.parts.now.rows c.loop-part.reading (all c) (c.moments_told_once_are_not_shared.ensures.standing_by c.args.version used))
