use Rattle.std.proofs.Common.{rules, ◌<◌, ◌∙◌, length, take, get_or, refl, subst, arith}
use Rattle.std.specs.List.{flat_map}
use Rattle.std.specs.Io.KnownBytes.{Appends}
use Rattle.std.proofs.lemmas.List.{get_or_default}
use Rattle.history_diff.specs.declared.ranges.ByteRange.{ByteRange}
use Rattle.std.proofs.KnownBytes.{Appends-trans, Appends-nil}
use Rattle.history_diff.specs.Patches.{range_lines}
use Rattle.history_diff.proofs.Took.{flat_took}
use Rattle.history_diff.proofs.patches.write_patch.Goals as goal

pub loop-range-init : goal.loop-range-init
loop-range-init g c = record { failures = refl; wrote = Appends-nil (g.W.Sink.passed c.args.writer.now) }

pub loop-range-preserved : goal.loop-range-preserved
loop-range-preserved g c =
    let passed = g.W.Sink.passed in
    let so_far = c.loop-range.invariant in
    let lines = range_lines c.args.before.now c.args.after.now in
    let ranges = c.args.ranges.now in
    let i = c.loop-range.range-index in
    let lt : i < length ranges = omega arith in
    let none : ByteRange = record { first = 0; last = 0 } in
    let range : ByteRange = get_or ranges i none in
    let one : Appends (passed c.loop-range.writer) (passed c.write_range.new.writer) (lines (get_or ranges i (record { first = 0; last = 0 }))) = search rules in
    record {
      failures = c.in_ok-write_range.ensures.failures ∙ so_far.failures;
      wrote = subst (Appends (passed c.args.writer.now) (passed c.write_range.new.writer)) (flat_took lines ranges i range lt (get_or_default ranges i none range lt))
          (Appends-trans (passed c.args.writer.now) (passed c.loop-range.writer) (passed c.write_range.new.writer) (flat_map lines (take i ranges)) (lines range) so_far.wrote one);
    }
