use Rattle.std.proofs.Common.{sym, ◌∙◌}
use Rattle.image_objects.specs.private.Standing.{is_earlier}
use Rattle.image_objects.proofs.Earlier.{one_more_passes, one_fails, all_pass}
use Rattle.image_objects.proofs.links.are_earlier.Goals as goal

pub returns-then-not-is_earlier : goal.returns-then-not-is_earlier
returns-then-not-is_earlier c =
    sym (one_fails (is_earlier c.args.inode.now) c.args.triples.now c.loop-triple.triple-index c.triple-item.result c.loop-triple-test.true c.triple-item.is (sym c.is_earlier.ensures ∙ c.if-not-is_earlier.true))

pub loop-triple-preserved : goal.loop-triple-preserved
loop-triple-preserved c =
    one_more_passes (is_earlier c.args.inode.now) c.args.triples.now c.loop-triple.triple-index c.triple-item.result c.loop-triple-test.true c.triple-item.is (sym c.is_earlier.ensures ∙ c.if-not-is_earlier.false) c.loop-triple.invariant

pub returns : goal.returns
returns c = sym (all_pass (is_earlier c.args.inode.now) c.args.triples.now c.loop-triple.triple-index c.loop-triple-test.false c.loop-triple.invariant)
