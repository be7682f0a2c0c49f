use Rattle.inode.specs.Contents.{contents_of}
use Rattle.image_objects.proofs.Sizes.{tidy_from, zeros_of}
use Rattle.image_objects.proofs.tidiness.is_tidy.Goals as goal

pub returns-clause-is : goal.returns-clause-is
returns-clause-is g c = λ good.
    tidy_from (contents_of (g.U.UsedBlocks.used c.args.used.now)) c.args.inode.now c.div_ceil.result c.div_ceil.ensures c.requires c.if-size.false (c.has_holes_from.ensures.is c.if-not-has_holes_from.false) (c.ends_tidily.ensures.is good)

pub returns-clause-only : goal.returns-clause-only
returns-clause-only g c = λ h. c.ends_tidily.ensures.only (zeros_of (contents_of (g.U.UsedBlocks.used c.args.used.now)) c.args.inode.now h)
