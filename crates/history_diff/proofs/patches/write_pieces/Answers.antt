use Rattle.std.proofs.Common.{rules, ◌<◌, ◌∙◌, length, refl, subst}
use Rattle.std.specs.List.{flat_map, range_with_len}
use Rattle.std.specs.Int.{div_ceil}
use Rattle.std.specs.Io.KnownBytes.{Appends}
use Rattle.std.proofs.KnownBytes.{Appends-trans, Appends-nil}
use Rattle.history_diff.specs.Patches.{line_at}
use Rattle.history_diff.proofs.Pieces.{begins_within, lines_more}
use Rattle.history_diff.proofs.patches.write_pieces.Goals as goal

pub loop-index-init : goal.loop-index-init
loop-index-init g c = record { failures = refl; wrote = Appends-nil (g.W.Sink.passed c.args.writer.now) }

pub piece_at-piece-requires : goal.piece_at-piece-requires
piece_at-piece-requires g c =
    let below : c.loop-index.index < div_ceil (length c.args.bytes.now) 32 = search rules in
    begins_within (length c.args.bytes.now) c.loop-index.index below

pub loop-index-preserved : goal.loop-index-preserved
loop-index-preserved g c =
    let passed = g.W.Sink.passed in
    let so_far = c.loop-index.invariant in
    let i = c.loop-index.index in
    let line = line_at c.args.side c.args.first c.args.bytes.now in
    let one : Appends (passed c.loop-index.writer) (passed c.write_piece.new.writer) (line i) = search rules in
    record {
      failures = c.in_ok-write_piece.ensures.failures ∙ so_far.failures;
      wrote = subst (Appends (passed c.args.writer.now) (passed c.write_piece.new.writer)) (lines_more line i)
          (Appends-trans (passed c.args.writer.now) (passed c.loop-index.writer) (passed c.write_piece.new.writer) (flat_map line (range_with_len 0 i)) (line i) so_far.wrote one);
    }
