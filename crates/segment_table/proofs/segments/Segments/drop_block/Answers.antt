use Rattle.std.proofs.Common.{slice_set, refl, ◌∙◌}
use Rattle.segment_table.specs.Table.{Table}
use Rattle.segment_table.proofs.Reading.{gone_made}
use Rattle.segment_table.proofs.segments.Segments.drop_block.Goals as goal

pub invariant_of-self : goal.invariant_of-self
invariant_of-self c =
    let old : Table = record { seat = c.self.inside.seat; slots = c.self.inside.slots.items } in
    let new : Table = record { seat = c.self.inside.seat; slots = slice_set c.self.inside.slots.items c.frame.result c.let_go.new.self } in (
      (gone_made old new c.args.self.now c.self.inside.free.items c.self.inside.current c.args.place c.frame.result c.block.result c.index_mut.result.now c.let_go.new.self (c.self.view_is ∙ c.is_current.ensures.same) c.frame.ensures c.block.ensures.block c.block.ensures.range.lowest_block c.self.invariant.0
          c.if-is_current.ensures.found.0 c.if-is_current.ensures.found.1 c.index_mut.ensures.value c.let_go.ensures refl refl).0,
      c.self.invariant.1,
    )

pub returns-then-is_current-clause-log : goal.returns-then-is_current-clause-log
returns-then-is_current-clause-log c =
    let old : Table = record { seat = c.self.inside.seat; slots = c.self.inside.slots.items } in
    let new : Table = record { seat = c.self.inside.seat; slots = slice_set c.self.inside.slots.items c.frame.result c.let_go.new.self } in
    (gone_made old new c.args.self.now c.self.inside.free.items c.self.inside.current c.args.place c.frame.result c.block.result c.index_mut.result.now c.let_go.new.self (c.self.view_is ∙ c.is_current.ensures.same) c.frame.ensures c.block.ensures.block c.block.ensures.range.lowest_block c.self.invariant.0
    c.if-is_current.ensures.found.0 c.if-is_current.ensures.found.1 c.index_mut.ensures.value c.let_go.ensures refl refl).1.0

pub returns-then-is_current-clause-roles : goal.returns-then-is_current-clause-roles
returns-then-is_current-clause-roles c =
    let old : Table = record { seat = c.self.inside.seat; slots = c.self.inside.slots.items } in
    let new : Table = record { seat = c.self.inside.seat; slots = slice_set c.self.inside.slots.items c.frame.result c.let_go.new.self } in
    (gone_made old new c.args.self.now c.self.inside.free.items c.self.inside.current c.args.place c.frame.result c.block.result c.index_mut.result.now c.let_go.new.self (c.self.view_is ∙ c.is_current.ensures.same) c.frame.ensures c.block.ensures.block c.block.ensures.range.lowest_block c.self.invariant.0
    c.if-is_current.ensures.found.0 c.if-is_current.ensures.found.1 c.index_mut.ensures.value c.let_go.ensures refl refl).1.1
