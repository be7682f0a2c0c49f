use Rattle.std.proofs.Common.{slice_set, refl}
use Rattle.segment_table.specs.Table.{Table}
use Rattle.segment_table.proofs.MoreNames.{more_made}
use Rattle.segment_table.proofs.segments.Segments.hold.Goals as goal

pub invariant_of-self : goal.invariant_of-self
invariant_of-self c =
    let old : Table = record { seat = c.self.inside.seat; slots = c.self.inside.slots.items } in
    let new : Table = record { seat = c.self.inside.seat; slots = slice_set c.self.inside.slots.items c.frame.result c.name.new.self } in (
      (more_made old new c.args.self.now c.self.inside.free.items c.self.inside.current c.args.place c.frame.result c.block.result c.index_mut.result.now c.name.new.self c.self.view_is c.frame.ensures c.block.ensures.block c.block.ensures.range.lowest_block c.self.invariant.0
          c.requires.of_data c.index_mut.ensures.value c.name.ensures refl refl).sound,
      c.self.invariant.1,
    )

pub returns-clause-log : goal.returns-clause-log
returns-clause-log c =
    let old : Table = record { seat = c.self.inside.seat; slots = c.self.inside.slots.items } in
    let new : Table = record { seat = c.self.inside.seat; slots = slice_set c.self.inside.slots.items c.frame.result c.name.new.self } in
    (more_made old new c.args.self.now c.self.inside.free.items c.self.inside.current c.args.place c.frame.result c.block.result c.index_mut.result.now c.name.new.self c.self.view_is c.frame.ensures c.block.ensures.block c.block.ensures.range.lowest_block c.self.invariant.0
    c.requires.of_data c.index_mut.ensures.value c.name.ensures refl refl).log

pub returns-clause-used : goal.returns-clause-used
returns-clause-used c =
    let old : Table = record { seat = c.self.inside.seat; slots = c.self.inside.slots.items } in
    let new : Table = record { seat = c.self.inside.seat; slots = slice_set c.self.inside.slots.items c.frame.result c.name.new.self } in
    (more_made old new c.args.self.now c.self.inside.free.items c.self.inside.current c.args.place c.frame.result c.block.result c.index_mut.result.now c.name.new.self c.self.view_is c.frame.ensures c.block.ensures.block c.block.ensures.range.lowest_block c.self.invariant.0
    c.requires.of_data c.index_mut.ensures.value c.name.ensures refl refl).used

pub returns-clause-roles : goal.returns-clause-roles
returns-clause-roles c =
    let old : Table = record { seat = c.self.inside.seat; slots = c.self.inside.slots.items } in
    let new : Table = record { seat = c.self.inside.seat; slots = slice_set c.self.inside.slots.items c.frame.result c.name.new.self } in
    (more_made old new c.args.self.now c.self.inside.free.items c.self.inside.current c.args.place c.frame.result c.block.result c.index_mut.result.now c.name.new.self c.self.view_is c.frame.ensures c.block.ensures.block c.block.ensures.range.lowest_block c.self.invariant.0
    c.requires.of_data c.index_mut.ensures.value c.name.ensures refl refl).roles
