use Rattle.std.proofs.Common.{◌≡◌, ◌++◌, [], List, refl, subst, arith}
use Rattle.std.proofs.lemmas.List.{get_or_read}
use Rattle.segment_table.specs.declared.slots.Slot.{Slot}
use Rattle.segment_table.specs.Table.{Table, slots_at, held_at, named_at}
use Rattle.segment_table.specs.Room.{rest_of, places_ahead, places_spent}
use Rattle.segment_table.specs.Changes.{IsSealed}
use Rattle.segment_table.proofs.Alone.{length-alone, generation_alone}
use Rattle.segment_table.proofs.Sound.{sound_sealed, sealed_filling}
use Rattle.segment_table.proofs.Naming.{named_same}
use Rattle.segment_table.proofs.Spending.{spent_kept}
use Rattle.segment_table.proofs.Steps.{AtFilling, at_filling, held_sealed, rest_sealed}
use Rattle.segment_table.proofs.segments.Segments.seal.Goals as goal

pub seal-requires-clause-open : goal.seal-requires-clause-open
seal-requires-clause-open c =
    let old : Table = record { seat = c.self.inside.seat; slots = c.self.inside.slots.items } in
    (at_filling old c.args.self.now c.self.inside.free.items c.self.inside.current c.args.frame c.self.view_is c.self.invariant.0 c.requires.filling).phase

pub invariant_of-self : goal.invariant_of-self
invariant_of-self c =
    let old : Table = record { seat = c.self.inside.seat; slots = c.self.inside.slots.items } in
    let new : Table = record { seat = c.seal.new.seat; slots = c.self.inside.slots.items } in
    let at : AtFilling old c.args.frame = at_filling old c.args.self.now c.self.inside.free.items c.self.inside.current c.args.frame c.self.view_is c.self.invariant.0 c.requires.filling in
    let S : List Slot → Type 0 = λ l. IsSealed c.args.frame l old.seat new.seat in
    let sealed : S (slots_at old.slots c.args.frame) = subst S (get_or_read old.slots c.args.frame c.index.result.now at.within c.index.ensures []) c.seal.ensures in
    (sound_sealed old new c.self.inside.free.items c.self.inside.current c.args.frame c.self.invariant.0 at.filling sealed refl, omega (arith, length-alone old.seat new.seat c.args.frame sealed.alone, c.self.invariant.1))

pub returns-clause-filling : goal.returns-clause-filling
returns-clause-filling c =
    let old : Table = record { seat = c.self.inside.seat; slots = c.self.inside.slots.items } in
    let at : AtFilling old c.args.frame = at_filling old c.args.self.now c.self.inside.free.items c.self.inside.current c.args.frame c.self.view_is c.self.invariant.0 c.requires.filling in
    sealed_filling old.seat c.seal.new.seat c.args.frame at.filling c.seal.ensures.alone c.seal.ensures.phase

pub returns-clause-held : goal.returns-clause-held
returns-clause-held c =
    let old : Table = record { seat = c.self.inside.seat; slots = c.self.inside.slots.items } in
    let new : Table = record { seat = c.seal.new.seat; slots = c.self.inside.slots.items } in
    let at : AtFilling old c.args.frame = at_filling old c.args.self.now c.self.inside.free.items c.self.inside.current c.args.frame c.self.view_is c.self.invariant.0 c.requires.filling in
    let S : List Slot → Type 0 = λ l. IsSealed c.args.frame l old.seat new.seat in
    let H : Table → Type 0 = λ t. held_at new ≡ held_at t in
    let sealed : S (slots_at old.slots c.args.frame) = subst S (get_or_read old.slots c.args.frame c.index.result.now at.within c.index.ensures []) c.seal.ensures in
    subst H c.self.view_is (held_sealed old new c.args.frame sealed refl)

pub returns-clause-named : goal.returns-clause-named
returns-clause-named c =
    let old : Table = record { seat = c.self.inside.seat; slots = c.self.inside.slots.items } in
    let new : Table = record { seat = c.seal.new.seat; slots = c.self.inside.slots.items } in
    let N : Table → Type 0 = λ t. named_at new ≡ named_at t in
    subst N c.self.view_is (named_same old new (λ g. generation_alone old.seat new.seat c.args.frame g c.seal.ensures.alone c.seal.ensures.generation) refl)

pub returns-clause-ahead : goal.returns-clause-ahead
returns-clause-ahead c =
    let old : Table = record { seat = c.self.inside.seat; slots = c.self.inside.slots.items } in
    let new : Table = record { seat = c.seal.new.seat; slots = c.self.inside.slots.items } in
    let at : AtFilling old c.args.frame = at_filling old c.args.self.now c.self.inside.free.items c.self.inside.current c.args.frame c.self.view_is c.self.invariant.0 c.requires.filling in
    let S : List Slot → Type 0 = λ l. IsSealed c.args.frame l old.seat new.seat in
    let R : Table → Type 0 = λ t. rest_of t c.args.frame ++ places_ahead new ≡ places_ahead t in
    let sealed : S (slots_at old.slots c.args.frame) = subst S (get_or_read old.slots c.args.frame c.index.result.now at.within c.index.ensures []) c.seal.ensures in
    subst R c.self.view_is (rest_sealed old new c.args.frame at.filling sealed)

pub returns-clause-spent : goal.returns-clause-spent
returns-clause-spent c =
    let old : Table = record { seat = c.self.inside.seat; slots = c.self.inside.slots.items } in
    let new : Table = record { seat = c.seal.new.seat; slots = c.self.inside.slots.items } in
    let S : Table → Type 0 = λ t. places_spent new ≡ places_spent t in
    subst S c.self.view_is (spent_kept old new c.args.frame c.seal.ensures.alone c.seal.ensures.generation refl)
