use Rattle.std.proofs.Common.{subst}
use Rattle.std.proofs.lemmas.Result.{on_ok_weaker}
use Rattle.codec.proofs.SummaryLaws.{kept_by, block_length}
use Rattle.segment_word.specs.Layout.{frame_at}
use Rattle.segment_table.specs.Table.{Table, slots_at}
use Rattle.segment_table.specs.Sealing.{IsFit, summary_of}
use Rattle.verifier.proofs.SavedFrames.{AreBlocksOf, free_added, used_added}
use Rattle.verifier.proofs.saved_frames.push_saved.Goals as goal

pub returns-then-word-eq0-clause-frame : goal.returns-then-word-eq0-clause-frame
returns-then-word-eq0-clause-frame g c =
    let table : Table = g.F.OverFrames.table c.args.frames.now in
    on_ok_weaker c.push_frame.result
    (free_added table c.args.frame c.saved_word-word.result c.args.out.now.items c.push_frame.new.out.items (c.frame_rules.ensures.fit c.args.frame c.requires) c.saved_word-word.ensures.word c.if-word-eq0.true)
    c.push_frame.ensures.items

pub returns-clause-frame : goal.returns-clause-frame
returns-clause-frame g c =
    let table : Table = g.F.OverFrames.table c.args.frames.now in
    let n = c.args.frame in
    let fit : IsFit n (frame_at table.seat.frames n) (slots_at table.slots n) = c.frame_rules.ensures.fit n c.requires in
    let blocks = c.save_blocks.new.blocks in
    let summary = summary_of n (frame_at table.seat.frames n) (slots_at table.slots n) in
    let of : AreBlocksOf table n blocks = subst (λ (f : _). AreBlocksOf (g.F.OverFrames.table f) n blocks) c.saved_word-word.ensures.same (record { spelled = c.save_blocks.ensures.spelled; kept = c.save_blocks.ensures.kept }) in
    let keeps = kept_by summary of.spelled.0.0 in
    on_ok_weaker c.push_frame-2.result
    (used_added table n c.saved_word-word.result blocks c.args.out.now.items c.push_frame-2.new.out.items fit (λ e. (c.frame_rules.ensures.part_filled n c.requires e).1) c.saved_word-word.ensures.word c.if-word-eq0.false
    c.save_blocks.array_long (block_length summary _ keeps.room) c.type_inv.out keeps of)
    c.push_frame-2.ensures.items
