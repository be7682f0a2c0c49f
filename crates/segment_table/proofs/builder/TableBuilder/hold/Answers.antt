use Rattle.std.proofs.Common.{slice_set, refl}
use Rattle.segment_table.specs.Table.{Table}
use Rattle.segment_table.specs.Building.{unnamed}
use Rattle.segment_table.proofs.BuilderSteps.{held_made}
use Rattle.segment_table.proofs.builder.TableBuilder.hold.Goals as goal

pub invariant_of-self : goal.invariant_of-self
invariant_of-self c =
    let old : Table = unnamed c.self.inside.words c.self.inside.slots.items in
    let new : Table = unnamed c.self.inside.words (slice_set c.self.inside.slots.items c.frame.result c.hold.new.self) in
    (held_made old new c.args.self.now c.self.inside.current c.args.place c.frame.result c.block.result c.index_mut.result.now c.hold.new.self c.self.view_is c.frame.ensures c.block.ensures.block c.self.invariant c.requires c.index_mut.ensures.value c.hold.ensures refl refl).sound

pub returns-clause-held : goal.returns-clause-held
returns-clause-held c =
    let old : Table = unnamed c.self.inside.words c.self.inside.slots.items in
    let new : Table = unnamed c.self.inside.words (slice_set c.self.inside.slots.items c.frame.result c.hold.new.self) in
    (held_made old new c.args.self.now c.self.inside.current c.args.place c.frame.result c.block.result c.index_mut.result.now c.hold.new.self c.self.view_is c.frame.ensures c.block.ensures.block c.self.invariant c.requires c.index_mut.ensures.value c.hold.ensures refl refl).held

pub returns-clause-named : goal.returns-clause-named
returns-clause-named c =
    let old : Table = unnamed c.self.inside.words c.self.inside.slots.items in
    let new : Table = unnamed c.self.inside.words (slice_set c.self.inside.slots.items c.frame.result c.hold.new.self) in
    (held_made old new c.args.self.now c.self.inside.current c.args.place c.frame.result c.block.result c.index_mut.result.now c.hold.new.self c.self.view_is c.frame.ensures c.block.ensures.block c.self.invariant c.requires c.index_mut.ensures.value c.hold.ensures refl refl).named

pub returns-clause-used : goal.returns-clause-used
returns-clause-used c =
    let old : Table = unnamed c.self.inside.words c.self.inside.slots.items in
    let new : Table = unnamed c.self.inside.words (slice_set c.self.inside.slots.items c.frame.result c.hold.new.self) in
    (held_made old new c.args.self.now c.self.inside.current c.args.place c.frame.result c.block.result c.index_mut.result.now c.hold.new.self c.self.view_is c.frame.ensures c.block.ensures.block c.self.invariant c.requires c.index_mut.ensures.value c.hold.ensures refl refl).used

pub returns-clause-roles : goal.returns-clause-roles
returns-clause-roles c =
    let old : Table = unnamed c.self.inside.words c.self.inside.slots.items in
    let new : Table = unnamed c.self.inside.words (slice_set c.self.inside.slots.items c.frame.result c.hold.new.self) in
    (held_made old new c.args.self.now c.self.inside.current c.args.place c.frame.result c.block.result c.index_mut.result.now c.hold.new.self c.self.view_is c.frame.ensures c.block.ensures.block c.self.invariant c.requires c.index_mut.ensures.value c.hold.ensures refl refl).roles
