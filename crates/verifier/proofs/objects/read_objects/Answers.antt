use Rattle.std.proofs.Common.{◌≡◌, List, ◌++◌, ◌∙◌, sym, ap, map}
use Rattle.std.proofs.lemmas.Option.{IfSome_then}
use Rattle.lemmas.proofs.Option.{IfNone_weaker}
use Rattle.image_objects.specs.Chains.{entries_used}
use Rattle.image_objects.specs.Moments.{StandOnce}
use Rattle.segment_table.specs.Table.{Table, slots_at}
use Rattle.segment_table.specs.Used.{used_at}
use Rattle.image_parts.specs.declared.rows.RowPart.{RowPart}
use Rattle.verifier.specs.declared.objects.Read.{Read}
use Rattle.verifier.proofs.AllRows.{HaveRead, none_read, one_read, row_read, row_falls, one_on, one_falls, have_all, all_read, moments_fall, all_of}
use Rattle.verifier.proofs.objects.read_objects.Goals as goal

pub loop-part-init : goal.loop-part-init
loop-part-init c = record {
  read = none_read c.args.table c.args.clock c.new-reading.result c.requires c.rules.ensures.names c.new-reading.ensures.table c.new-reading.ensures.objects c.new-reading.ensures.moments;
  whole = sym (c.into_iter-part-iterator.ensures.into_iter_gives ∙ c.rows-part-items.ensures);
}

pub loop-part-preserved : goal.loop-part-preserved
loop-part-preserved c =
    let old = c.loop-part.reading in
    let new = c.read_row.new.self in
    record {
      read = one_read c.args.table c.args.clock c.loop-part.yielded c.in-Some.part old new c.loop-part.invariant.read
          (row_read c.in_ok-read_row.field-0 (used_at old.table) c.in-Some.part c.args.clock old new c.if-not-branch.false c.in_ok-read_row.ensures.read);
      whole = one_on c.args.parts.now.rows c.loop-part.yielded c.in-Some.part c.loop-part.part-iterator c.next.new.self c.loop-part.invariant.whole c.in-Some.ensures.steps;
    }

pub returns-then-not-branch-clause-none : goal.returns-then-not-branch-clause-none
returns-then-not-branch-clause-none c =
    let old = c.loop-part.reading in
    one_falls c.args.table c.args.clock c.loop-part.yielded c.in-Some.part c.next.new.self c.args.parts.now.rows old c.loop-part.invariant.read
    (row_falls c.in_ok-read_row.field-0 (used_at old.table) c.in-Some.part c.args.clock old c.read_row.new.self c.if-not-branch.true c.in_ok-read_row.ensures.read)
    (c.loop-part.invariant.whole ∙ ap (λ (l : List RowPart). c.loop-part.yielded ++ l) c.in-Some.ensures.steps)

-- all rows were read
all : (c : goal.After-finish) → HaveRead c.args.table c.args.clock c.args.parts.now.rows c.loop-part.reading
all c = have_all c.args.table c.args.clock c.args.parts.now.rows c.loop-part.yielded c.loop-part.part-iterator c.loop-part.reading c.loop-part.invariant.read c.loop-part.invariant.whole c.in-None.ensures.steps.0

pub returns-clause-found : goal.returns-clause-found
returns-clause-found c =
    let reading = c.loop-part.reading in
    IfSome_then c.finish.result
    (all_of c.finish.result (λ (read : Read). read.table ≡ reading.table) (λ (read : Read). read.objects.items ≡ reading.objects.items) (λ (read : Read). StandOnce reading.moments.items)
    c.finish.ensures.table c.finish.ensures.objects c.finish.ensures.once)
    (λ (read : Read) found. all_read c.args.table c.args.clock c.args.parts.now.rows reading read.table read.objects.items (all c) (λ used. c.moments_told_once_are_not_shared.ensures.apart (entries_used used)) found)

pub returns-clause-none : goal.returns-clause-none
returns-clause-none c = IfNone_weaker c.finish.result _ _ c.finish.ensures.none
    (moments_fall c.args.table c.args.clock c.args.parts.now.rows c.loop-part.reading (all c) c.moments_told_once_are_not_shared.ensures.standing)

pub returns-clause-used : goal.returns-clause-used
returns-clause-used c = IfSome_then c.finish.result c.finish.ensures.table
    (λ (read : Read) same p. ap (λ (t : Table). used_at t p) same ∙ c.loop-part.invariant.read.alike.used p)

pub returns-clause-frames : goal.returns-clause-frames
returns-clause-frames c = IfSome_then c.finish.result c.finish.ensures.table
    (λ (read : Read) same. ap (λ (t : Table). t.seat.frames) same ∙ c.loop-part.invariant.read.alike.frames)

pub returns-clause-slots : goal.returns-clause-slots
returns-clause-slots c = IfSome_then c.finish.result c.finish.ensures.table
    (λ (read : Read) same f. ap (λ (t : Table). map (λ slot. slot.role) (slots_at t.slots f)) same ∙ c.loop-part.invariant.read.alike.slots f)
