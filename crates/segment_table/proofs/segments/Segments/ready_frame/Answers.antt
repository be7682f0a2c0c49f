use Rattle.std.proofs.Common.{◌<◌, length, refl, subst}
use Rattle.segment_table.specs.Table.{Table}
use Rattle.segment_table.specs.Changes.{IsFilling}
use Rattle.segment_table.proofs.Reading.{current_filling}
use Rattle.segment_table.proofs.Steps.{AtFilling, at_filling, ready_same}
use Rattle.segment_table.proofs.segments.Segments.ready_frame.Goals as goal

pub returns-in-Some-clause-ready : goal.returns-in-Some-clause-ready
returns-in-Some-clause-ready c =
    let old : Table = record { seat = c.self.inside.seat; slots = c.self.inside.slots.items } in
    let filling : IsFilling c.in-Some.frame old = current_filling old c.self.inside.free.items c.self.inside.current c.in-Some.frame c.self.invariant.0 c.in-Some.is in
    let at : AtFilling old c.in-Some.frame = at_filling old old c.self.inside.free.items c.self.inside.current c.in-Some.frame refl c.self.invariant.0 filling in
    let F : Table → Type 0 = λ t. (c.in-Some.frame < length t.slots) × IsFilling c.in-Some.frame t in
    let here = subst F c.self.view_is (at.within, at.filling) in
    ready_same c.args.self.now c.in-Some.frame here.0 here.1 c.requires
