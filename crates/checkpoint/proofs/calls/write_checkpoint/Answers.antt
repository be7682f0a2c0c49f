use Rattle.std.proofs.Common.{◌≡◌, ◌≤◌, ◌+◌, length, ap, subst, ◌∙◌, arith}
use Rattle.std.specs.Prelude.{IfOk}
use Rattle.codec.specs.FirstBlock.{SpellsFirst}
use Rattle.checkpoint.specs.Held.{checkpoint_blocks, part_blocks}
use Rattle.checkpoint.proofs.Writing.{PartsWritten, ReadLaws, WholeLaws, Written, ok_written, ok_told, ok_puts, ok_order, ok_takes, first_stored, room_one, room_left, answers, no_error}
use Rattle.checkpoint.proofs.calls.write_checkpoint.Given.{Over}
use Rattle.checkpoint.proofs.calls.write_checkpoint.Goals.{After-append, After-write_part-one, After-write_part-three, After-write_part-two, Else-blocks_left-checkpoint_blocks}
use Rattle.checkpoint.proofs.calls.write_checkpoint.Goals as goal

-- there is room for all blocks, and after each part for the others
most : (g : Over) (c : Else-blocks_left-checkpoint_blocks g) → checkpoint_blocks c.args.checkpoint.now.inode ≤ length (g.B.Blocks.log c.args.table.now).ahead
most g c =
    let count : c.checkpoint_blocks.result ≡ checkpoint_blocks c.args.checkpoint.now.inode = c.checkpoint_blocks.ensures.blocks ∙ ap checkpoint_blocks c.inode.ensures.inode in
    omega (arith, count, c.blocks_left.ensures, c.if-blocks_left-checkpoint_blocks.false)

room : (g : Over) (c : Else-blocks_left-checkpoint_blocks g)
    → part_blocks c.args.checkpoint.now.inode 1 + (part_blocks c.args.checkpoint.now.inode 2 + (part_blocks c.args.checkpoint.now.inode 3 + 1)) ≤ length (g.B.Blocks.log c.args.table.now).ahead
room g c = room_one c.args.checkpoint.now.inode (length (g.B.Blocks.log c.args.table.now).ahead) (most g c)

second : (g : Over) (c : After-write_part-one g) → part_blocks c.args.checkpoint.now.inode 1 + (part_blocks c.args.checkpoint.now.inode 2 + (part_blocks c.args.checkpoint.now.inode 3 + 1)) ≤ length (g.B.Blocks.log c.args.table.now).ahead
    → part_blocks c.args.checkpoint.now.inode 2 + (part_blocks c.args.checkpoint.now.inode 3 + 1) ≤ length (g.B.Blocks.log c.write_part-one.new.table).ahead
second g c = room_left (part_blocks c.args.checkpoint.now.inode 1) (g.B.Blocks.log c.args.table.now) (g.B.Blocks.log c.write_part-one.new.table) c.write_part-one.ensures.takes (part_blocks c.args.checkpoint.now.inode 2 + (part_blocks c.args.checkpoint.now.inode 3 + 1))

third : (g : Over) (c : After-write_part-two g) → part_blocks c.args.checkpoint.now.inode 2 + (part_blocks c.args.checkpoint.now.inode 3 + 1) ≤ length (g.B.Blocks.log c.write_part-one.new.table).ahead
    → part_blocks c.args.checkpoint.now.inode 3 + 1 ≤ length (g.B.Blocks.log c.write_part-two.new.table).ahead
third g c = room_left (part_blocks c.args.checkpoint.now.inode 2) (g.B.Blocks.log c.write_part-one.new.table) (g.B.Blocks.log c.write_part-two.new.table) c.write_part-two.ensures.takes (part_blocks c.args.checkpoint.now.inode 3 + 1)

last : (g : Over) (c : After-write_part-three g) → part_blocks c.args.checkpoint.now.inode 3 + 1 ≤ length (g.B.Blocks.log c.write_part-two.new.table).ahead → 1 ≤ length (g.B.Blocks.log c.write_part-three.new.table).ahead
last g c = room_left (part_blocks c.args.checkpoint.now.inode 3) (g.B.Blocks.log c.write_part-two.new.table) (g.B.Blocks.log c.write_part-three.new.table) c.write_part-three.ensures.takes 1

-- the checkpoint is written
written : (g : Over) (c : After-append g) → IfOk c.append.result (λ p. Written c.args.checkpoint.now (g.B.Blocks.log c.args.table.now) p (g.B.Blocks.log c.append.new.self))
written g c =
    let parts : PartsWritten c.args.checkpoint.now (g.B.Blocks.log c.args.table.now) (g.B.Blocks.log c.write_part-one.new.table) (g.B.Blocks.log c.write_part-two.new.table) (g.B.Blocks.log c.write_part-three.new.table) c.write_part-one.result c.write_part-two.result c.write_part-three.result c.encode_first_block-bytes.result = record {
      rules = c.inode.ensures.rules;
      len = c.first_block-first.ensures.count;
      first = c.write_part-one.ensures.wrote;
      second = c.write_part-two.ensures.wrote;
      third = c.write_part-three.ensures.wrote;
      spells = subst (SpellsFirst c.encode_first_block-bytes.result) c.first_block-first.ensures.first c.encode_first_block-bytes.ensures;
    } in
    let read : ReadLaws = record { first = c.a_checkpoint_is_its_blocks.ensures.first; part = c.a_checkpoint_is_its_blocks.ensures.pointers; first_begins = c.blocks_have_their_parts.ensures.first_begins; part_begins = c.blocks_have_their_parts.ensures.part_begins } in
    let whole : WholeLaws = record { whole = c.a_checkpoint_is_its_blocks.ensures.whole; told = c.a_checkpoint_is_its_blocks.ensures.told; holes = c.a_checkpoint_is_its_blocks.ensures.holes } in
    ok_written read whole g.met.B.Blocks.one_place_has_one_name g.met.B.Blocks.an_append_puts_one_block c.args.checkpoint.now (g.B.Blocks.log c.args.table.now) (g.B.Blocks.log c.write_part-one.new.table) (g.B.Blocks.log c.write_part-two.new.table) (g.B.Blocks.log c.write_part-three.new.table) (g.B.Blocks.log c.append.new.self)
    c.write_part-one.result c.write_part-two.result c.write_part-three.result c.encode_first_block-bytes.result c.object.result c.object.ensures.object parts c.append.result c.append.ensures.appended c.append.ensures.fresh

pub write_part-one-requires-clause-room : goal.write_part-one-requires-clause-room
write_part-one-requires-clause-room g c =
    let all = room g (goal.at.write_part-one-requires-clause-room g c).Else-blocks_left-checkpoint_blocks in
    omega (arith, all)

pub write_part-two-requires-clause-room : goal.write_part-two-requires-clause-room
write_part-two-requires-clause-room g c =
    let at = goal.at.write_part-two-requires-clause-room g c in
    let left = second g at.After-write_part-one (room g at.Else-blocks_left-checkpoint_blocks) in
    omega (arith, left)

pub write_part-three-requires-clause-room : goal.write_part-three-requires-clause-room
write_part-three-requires-clause-room g c =
    let at = goal.at.write_part-three-requires-clause-room g c in
    let left = third g at.After-write_part-two (second g at.After-write_part-one (room g at.Else-blocks_left-checkpoint_blocks)) in
    omega (arith, left)

pub returns-clause-written : goal.returns-clause-written
returns-clause-written g c = ok_told c.args.checkpoint.now (g.B.Blocks.log c.args.table.now) (g.B.Blocks.log c.append.new.self) c.append.result (written g (goal.at.returns-clause-written g c).After-append)

pub returns-clause-growth : goal.returns-clause-growth
returns-clause-growth g c = ok_puts c.args.checkpoint.now (g.B.Blocks.log c.args.table.now) (g.B.Blocks.log c.append.new.self) c.append.result (written g (goal.at.returns-clause-growth g c).After-append)

pub returns-clause-order : goal.returns-clause-order
returns-clause-order g c = ok_order c.args.checkpoint.now (g.B.Blocks.log c.args.table.now) (g.B.Blocks.log c.append.new.self) c.append.result (written g (goal.at.returns-clause-order g c).After-append)

pub returns-clause-takes : goal.returns-clause-takes
returns-clause-takes g c =
    ok_takes g.met.B.Blocks.places_taken_add_up g.met.B.Blocks.an_append_takes_one_place c.args.checkpoint.now.inode (g.B.Blocks.log c.args.table.now) (g.B.Blocks.log c.write_part-one.new.table) (g.B.Blocks.log c.write_part-two.new.table) (g.B.Blocks.log c.write_part-three.new.table) (g.B.Blocks.log c.append.new.self) (first_stored c.object.result c.encode_first_block-bytes.result) c.write_part-one.ensures.takes c.write_part-two.ensures.takes c.write_part-three.ensures.takes c.append.result c.append.ensures.appended

pub returns-clause-answer : goal.returns-clause-answer
returns-clause-answer g c =
    let at = goal.at.returns-clause-answer g c in
    let left = last g at.After-write_part-three (third g at.After-write_part-two (second g at.After-write_part-one (room g at.Else-blocks_left-checkpoint_blocks))) in
    answers c.append.result (checkpoint_blocks c.args.checkpoint.now.inode) (length (g.B.Blocks.log c.args.table.now).ahead) (g.B.Blocks.log c.write_part-three.new.table) (g.B.Blocks.log c.append.new.self) (most g at.Else-blocks_left-checkpoint_blocks) left c.append.ensures.full

pub returns-clause-unchanged : goal.returns-clause-unchanged
returns-clause-unchanged g c =
    let at = goal.at.returns-clause-unchanged g c in
    let left = last g at.After-write_part-three (third g at.After-write_part-two (second g at.After-write_part-one (room g at.Else-blocks_left-checkpoint_blocks))) in
    no_error c.append.result (g.B.Blocks.log c.args.table.now) (g.B.Blocks.log c.write_part-three.new.table) (g.B.Blocks.log c.append.new.self) left c.append.ensures.full
