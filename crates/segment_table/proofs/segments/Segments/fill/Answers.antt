use Rattle.std.proofs.Common.{◌≡◌, ◌<◌, length, slice_set, [], refl, sym, ap, subst, ◌∙◌, arith}
use Rattle.std.proofs.lemmas.List.{get_or_read}
use Rattle.segment_table.specs.declared.slots.Slot.{Slot}
use Rattle.segment_table.specs.Table.{Table, slots_at}
use Rattle.segment_table.specs.Changes.{IsPut}
use Rattle.segment_table.proofs.Alone.{length-alone}
use Rattle.segment_table.proofs.Sound.{sound_put}
use Rattle.segment_table.proofs.Steps.{AtFilling, at_filling, put_made}
use Rattle.segment_table.proofs.segments.Segments.fill.Goals as goal

pub index-requires : goal.index-requires
index-requires c =
    let old : Table = record { seat = c.self.inside.seat; slots = c.self.inside.slots.items } in
    let at : AtFilling old c.args.frame = at_filling old c.args.self.now c.self.inside.free.items c.self.inside.current c.args.frame c.self.view_is c.self.invariant.0 c.requires.filling in
    let within : c.args.frame < length c.self.inside.slots.items = at.within in
    omega arith

pub store-requires-clause-inside : goal.store-requires-clause-inside
store-requires-clause-inside c =
    let old : Table = record { seat = c.self.inside.seat; slots = c.self.inside.slots.items } in
    let at : AtFilling old c.args.frame = at_filling old c.args.self.now c.self.inside.free.items c.self.inside.current c.args.frame c.self.view_is c.self.invariant.0 c.requires.filling in
    let R : Table → Type 0 = λ t. length (slots_at t.slots c.args.frame) < 15 in
    let room : R old = subst R (sym c.self.view_is) c.requires.room in
    let count : c.len-next.result ≡ length (slots_at old.slots c.args.frame) = c.len-next.ensures.count ∙ ap length (get_or_read old.slots c.args.frame c.index.result.now at.within c.index.ensures []) in
    (at.inside, omega arith)

pub store-requires-clause-open : goal.store-requires-clause-open
store-requires-clause-open c =
    let old : Table = record { seat = c.self.inside.seat; slots = c.self.inside.slots.items } in
    (at_filling old c.args.self.now c.self.inside.free.items c.self.inside.current c.args.frame c.self.view_is c.self.invariant.0 c.requires.filling).phase

pub index_mut-requires : goal.index_mut-requires
index_mut-requires c =
    let old : Table = record { seat = c.self.inside.seat; slots = c.self.inside.slots.items } in
    let at : AtFilling old c.args.frame = at_filling old c.args.self.now c.self.inside.free.items c.self.inside.current c.args.frame c.self.view_is c.self.invariant.0 c.requires.filling in
    let within : c.args.frame < length c.self.inside.slots.items = at.within in
    omega arith

pub push-requires : goal.push-requires
push-requires c =
    let old : Table = record { seat = c.self.inside.seat; slots = c.self.inside.slots.items } in
    let at : AtFilling old c.args.frame = at_filling old c.args.self.now c.self.inside.free.items c.self.inside.current c.args.frame c.self.view_is c.self.invariant.0 c.requires.filling in
    let R : Table → Type 0 = λ t. length (slots_at t.slots c.args.frame) < 15 in
    let room : R old = subst R (sym c.self.view_is) c.requires.room in
    let count : length c.index_mut.result.now ≡ length (slots_at old.slots c.args.frame) = ap length (get_or_read old.slots c.args.frame c.index_mut.result.now at.within c.index_mut.ensures.value []) in
    omega arith

pub returns-clause-put : goal.returns-clause-put
returns-clause-put c =
    let old : Table = record { seat = c.self.inside.seat; slots = c.self.inside.slots.items } in
    let new : Table = record { seat = c.store.new.self; slots = slice_set c.self.inside.slots.items c.args.frame c.push.new.self } in
    let slot : Slot = record { role = c.args.role; named = 1 } in
    let at : AtFilling old c.args.frame = at_filling old c.args.self.now c.self.inside.free.items c.self.inside.current c.args.frame c.self.view_is c.self.invariant.0 c.requires.filling in
    let P : Table → Type 0 = λ t. IsPut c.args.frame slot c.args.block.now t new in
    subst P c.self.view_is (put_made old new c.args.frame c.len-next.result c.args.role c.args.block.now c.index.result.now c.index_mut.result.now c.push.new.self at c.len-next.ensures.count c.index.ensures c.index_mut.ensures.value c.push.ensures c.store.ensures.changed c.store.ensures.stored c.store.ensures.others refl)

pub returns-clause-inside : goal.returns-clause-inside
returns-clause-inside c =
    let old : Table = record { seat = c.self.inside.seat; slots = c.self.inside.slots.items } in
    let P : Table → Type 0 = λ t. c.args.frame < length t.slots in
    subst P c.self.view_is (at_filling old c.args.self.now c.self.inside.free.items c.self.inside.current c.args.frame c.self.view_is c.self.invariant.0 c.requires.filling).within

pub invariant_of-self : goal.invariant_of-self
invariant_of-self c =
    let old : Table = record { seat = c.self.inside.seat; slots = c.self.inside.slots.items } in
    let new : Table = record { seat = c.store.new.self; slots = slice_set c.self.inside.slots.items c.args.frame c.push.new.self } in
    let slot : Slot = record { role = c.args.role; named = 1 } in
    let at : AtFilling old c.args.frame = at_filling old c.args.self.now c.self.inside.free.items c.self.inside.current c.args.frame c.self.view_is c.self.invariant.0 c.requires.filling in
    let R : Table → Type 0 = λ t. length (slots_at t.slots c.args.frame) < 15 in
    let put : IsPut c.args.frame slot c.args.block.now old new =
    put_made old new c.args.frame c.len-next.result c.args.role c.args.block.now c.index.result.now c.index_mut.result.now c.push.new.self at c.len-next.ensures.count c.index.ensures c.index_mut.ensures.value c.push.ensures c.store.ensures.changed c.store.ensures.stored c.store.ensures.others refl in (
      sound_put old new c.self.inside.free.items c.self.inside.current c.args.frame slot c.args.block.now c.self.invariant.0 at.filling (subst R (sym c.self.view_is) c.requires.room) c.requires.owned c.told-block put,
      omega (arith, length-alone old.seat new.seat c.args.frame put.alone, c.self.invariant.1),
    )
