use Rattle.std.proofs.Common.{◌≡◌, sym, refl, subst, arith}
use Rattle.segment_table.specs.Table.{Table}
use Rattle.segment_table.specs.Room.{log_of}
use Rattle.segment_table.specs.Changes.{NoneIsFilling, IsReadyFrame}
use Rattle.segment_table.proofs.Alone.{length-alone}
use Rattle.segment_table.proofs.Sound.{sound_opened, opened_alone}
use Rattle.segment_table.proofs.Steps.{first_vacant, ready_opened, log_opened}
use Rattle.segment_table.proofs.segments.Segments.open_lowest.Goals as goal

pub open-requires-clause-inside : goal.open-requires-clause-inside
open-requires-clause-inside c =
    let old : Table = record { seat = c.self.inside.seat; slots = c.self.inside.slots.items } in
    (first_vacant old c.self.inside.free.items c.pop.new.self.items c.self.inside.current c.in_ok-frame.frame c.self.invariant.0 c.in_ok-frame.ensures.items).inside

pub open-requires-clause-free : goal.open-requires-clause-free
open-requires-clause-free c =
    let old : Table = record { seat = c.self.inside.seat; slots = c.self.inside.slots.items } in
    (first_vacant old c.self.inside.free.items c.pop.new.self.items c.self.inside.current c.in_ok-frame.frame c.self.invariant.0 c.in_ok-frame.ensures.items).free

pub open-requires-clause-goes_on : goal.open-requires-clause-goes_on
open-requires-clause-goes_on c =
    let old : Table = record { seat = c.self.inside.seat; slots = c.self.inside.slots.items } in
    (first_vacant old c.self.inside.free.items c.pop.new.self.items c.self.inside.current c.in_ok-frame.frame c.self.invariant.0 c.in_ok-frame.ensures.items).goes_on

pub invariant_of-self-2 : goal.invariant_of-self-2
invariant_of-self-2 c =
    let old : Table = record { seat = c.self.inside.seat; slots = c.self.inside.slots.items } in
    let new : Table = record { seat = c.open.new.self; slots = c.self.inside.slots.items } in
    let N : Table → Type 0 = λ t. NoneIsFilling t in
    let inside = (first_vacant old c.self.inside.free.items c.pop.new.self.items c.self.inside.current c.in_ok-frame.frame c.self.invariant.0 c.in_ok-frame.ensures.items).inside in (
      sound_opened old new c.self.inside.free.items c.pop.new.self.items c.self.inside.current c.in_ok-frame.frame c.self.invariant.0 (subst N (sym c.self.view_is) c.requires) c.in_ok-frame.ensures.items c.open.ensures refl,
      omega (arith, length-alone old.seat new.seat c.in_ok-frame.frame (opened_alone old.seat new.seat c.in_ok-frame.frame inside c.open.ensures).0, c.self.invariant.1, c.pop.ensures.capacity),
    )

pub returns-clause-ready : goal.returns-clause-ready
returns-clause-ready c =
    let old : Table = record { seat = c.self.inside.seat; slots = c.self.inside.slots.items } in
    let new : Table = record { seat = c.open.new.self; slots = c.self.inside.slots.items } in
    let N : Table → Type 0 = λ t. NoneIsFilling t in
    let R : Table → Type 0 = λ t. IsReadyFrame c.in_ok-frame.frame t new in
    subst R c.self.view_is (ready_opened old new c.self.inside.free.items c.pop.new.self.items c.self.inside.current c.in_ok-frame.frame c.self.invariant.0 (subst N (sym c.self.view_is) c.requires) c.in_ok-frame.ensures.items c.open.ensures refl)

pub returns-clause-log : goal.returns-clause-log
returns-clause-log c =
    let old : Table = record { seat = c.self.inside.seat; slots = c.self.inside.slots.items } in
    let new : Table = record { seat = c.open.new.self; slots = c.self.inside.slots.items } in
    let N : Table → Type 0 = λ t. NoneIsFilling t in
    let R : Table → Type 0 = λ t. log_of new ≡ log_of t in
    subst R c.self.view_is (log_opened old new c.self.inside.free.items c.pop.new.self.items c.self.inside.current c.in_ok-frame.frame c.self.invariant.0 (subst N (sym c.self.view_is) c.requires) c.in_ok-frame.ensures.items c.open.ensures refl)
