use Rattle.std.proofs.Common.{◌<◌, length, subst}
use Rattle.segment_table.specs.declared.slots.Slot.{Slot}
use Rattle.segment_table.specs.Table.{Table}
use Rattle.segment_table.specs.Changes.{IsPut}
use Rattle.segment_table.proofs.Sound.{put_filling}
use Rattle.segment_table.proofs.Steps.{put_appended}
use Rattle.segment_table.proofs.segments.Segments.put.Goals as goal

pub returns-clause-filling : goal.returns-clause-filling
returns-clause-filling c =
    let slot : Slot = record { role = c.args.role; named = 1 } in
    let P : Table → Type 0 = λ t. IsPut c.args.frame slot c.args.block.now t c.fill.new.self in
    put_filling c.args.self.now c.fill.new.self c.args.frame slot c.args.block.now c.requires.filling (subst P c.next_place-place.ensures.same c.fill.ensures.put)

pub returns-clause-appended : goal.returns-clause-appended
returns-clause-appended c =
    let slot : Slot = record { role = c.args.role; named = 1 } in
    let P : Table → Type 0 = λ t. IsPut c.args.frame slot c.args.block.now t c.fill.new.self × (c.args.frame < length t.slots) in
    let made = subst P c.next_place-place.ensures.same (c.fill.ensures.put, c.fill.ensures.inside) in
    put_appended c.args.self.now c.fill.new.self c.args.frame c.args.role c.args.block.now c.next_place-place.result c.requires.filling made.1 c.requires.room made.0 c.next_place-place.ensures.place
