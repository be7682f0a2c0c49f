use Rattle.std.proofs.Common.{◌≡◌, ◌≤◌, ◌<◌, ◌-◌, ◌+◌, ◌*◌, length, [], List, ℕ, refl, ap, subst, ◌∙◌, arith}
use Rattle.std.proofs.lemmas.List.{get_or_read, length-reverse}
use Rattle.segment_table.specs.declared.table.SegmentTable.TheInside.{Inside}
use Rattle.segment_table.specs.Table.{Table, slots_at}
use Rattle.segment_table.specs.Room.{places_ahead, is_filling, can_open, numbers}
use Rattle.segment_table.specs.Changes.{IsFilling}
use Rattle.segment_table.proofs.Ahead.{left_filling, left_none, numbers_apart}
use Rattle.segment_table.proofs.Steps.{AtFilling, at_filling}
use Rattle.segment_table.proofs.Reading.{current_filling, current_none, free_few}
use Rattle.segment_table.proofs.table.SegmentTableBlocks.blocks_left.Goals as goal

pub overflow_mul-whole : goal.overflow_mul-whole
overflow_mul-whole c =
    let old : Table = record { seat = c.self-inside.inside.0.1.0.seat; slots = c.self-inside.inside.0.1.0.slots.items } in
    let few : length c.self-inside.inside.0.1.0.free.items ≤ 1024 = free_few old c.self-inside.inside.0.1.0.free.items c.self-inside.inside.0.1.0.current c.self-inside.invariant.0 in
    omega arith

pub index-requires : goal.index-requires
index-requires c =
    let old : Table = record { seat = c.self-inside.inside.0.1.0.seat; slots = c.self-inside.inside.0.1.0.slots.items } in
    let filling : IsFilling c.in-Some.frame old = current_filling old c.self-inside.inside.0.1.0.free.items c.self-inside.inside.0.1.0.current c.in-Some.frame c.self-inside.invariant.0 c.in-Some.is in
    let at : AtFilling old c.in-Some.frame = at_filling old old c.self-inside.inside.0.1.0.free.items c.self-inside.inside.0.1.0.current c.in-Some.frame refl c.self-inside.invariant.0 filling in
    let within : c.in-Some.frame < length c.self-inside.inside.0.1.0.slots.items = at.within in
    omega arith

pub overflow_add-result : goal.overflow_add-result
overflow_add-result c =
    let old : Table = record { seat = c.self-inside.inside.0.1.0.seat; slots = c.self-inside.inside.0.1.0.slots.items } in
    let few : length c.self-inside.inside.0.1.0.free.items ≤ 1024 = free_few old c.self-inside.inside.0.1.0.free.items c.self-inside.inside.0.1.0.current c.self-inside.invariant.0 in
    omega arith

pub returns-in-Some-clause-count : goal.returns-in-Some-clause-count
returns-in-Some-clause-count c =
    let old : Table = record { seat = c.self-inside.inside.0.1.0.seat; slots = c.self-inside.inside.0.1.0.slots.items } in
    let filling : IsFilling c.in-Some.frame old = current_filling old c.self-inside.inside.0.1.0.free.items c.self-inside.inside.0.1.0.current c.in-Some.frame c.self-inside.invariant.0 c.in-Some.is in
    let at : AtFilling old c.in-Some.frame = at_filling old old c.self-inside.inside.0.1.0.free.items c.self-inside.inside.0.1.0.current c.in-Some.frame refl c.self-inside.invariant.0 filling in
    let count : c.len.result ≡ length (slots_at old.slots c.in-Some.frame) = c.len.ensures.count ∙ ap length (get_or_read old.slots c.in-Some.frame c.index.result.now at.within c.index.ensures []) in
    let left : length (places_ahead old) ≡ 15 * length c.self-inside.inside.0.1.0.free.items + (15 - length (slots_at old.slots c.in-Some.frame)) = left_filling old c.in-Some.frame c.self-inside.inside.0.1.0.free.items filling c.self-inside.invariant.0.vacant in
    let P : Table → Type 0 = λ t. 15 * c.len-whole.result + (15 - c.len.result) ≡ length (places_ahead t) in
    subst P (ap (λ (i : Inside). i.segments) c.self-inside.view_is ∙ c.self.view_is) (omega arith)

pub returns-in-None-clause-count : goal.returns-in-None-clause-count
returns-in-None-clause-count c =
    let old : Table = record { seat = c.self-inside.inside.0.1.0.seat; slots = c.self-inside.inside.0.1.0.slots.items } in
    let left : length (places_ahead old) ≡ 15 * length c.self-inside.inside.0.1.0.free.items =
    left_none old c.self-inside.inside.0.1.0.free.items (current_none old c.self-inside.inside.0.1.0.free.items c.self-inside.inside.0.1.0.current c.self-inside.invariant.0 c.in-None.is) c.self-inside.invariant.0.vacant in
    let P : Table → Type 0 = λ t. 15 * c.len-whole.result ≡ length (places_ahead t) in
    subst P (ap (λ (i : Inside). i.segments) c.self-inside.view_is ∙ c.self.view_is) (omega arith)

pub returns-in-None-clause-most : goal.returns-in-None-clause-most
returns-in-None-clause-most c =
    let old : Table = record { seat = c.self-inside.inside.0.1.0.seat; slots = c.self-inside.inside.0.1.0.slots.items } in
    let few : length c.self-inside.inside.0.1.0.free.items ≤ 1024 = free_few old c.self-inside.inside.0.1.0.free.items c.self-inside.inside.0.1.0.current c.self-inside.invariant.0 in
    omega arith

pub returns-in-Some-clause-most : goal.returns-in-Some-clause-most
returns-in-Some-clause-most c =
    let old : Table = record { seat = c.self-inside.inside.0.1.0.seat; slots = c.self-inside.inside.0.1.0.slots.items } in
    let filling : IsFilling c.in-Some.frame old = current_filling old c.self-inside.inside.0.1.0.free.items c.self-inside.inside.0.1.0.current c.in-Some.frame c.self-inside.invariant.0 c.in-Some.is in
    let opens : List ℕ = numbers can_open 0 old.seat.frames in
    let count : length c.self-inside.inside.0.1.0.free.items ≡ length opens = ap length c.self-inside.invariant.0.vacant ∙ length-reverse opens in
    let one : length (numbers is_filling 0 old.seat.frames) ≡ 1 = ap length filling in
    let most : length old.seat.frames ≤ 1024 = c.self-inside.invariant.0.most in
    omega (arith, numbers_apart 0 old.seat.frames, count, one, most)
