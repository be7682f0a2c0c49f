use Rattle.std.proofs.lemmas.Bool.{both_ways}
use Rattle.image_objects.proofs.inodes.first_inode_by.Goals as goal

pub returns-then-not-is_checkpoint_of-clause-only : goal.returns-then-not-is_checkpoint_of-clause-only
returns-then-not-is_checkpoint_of-clause-only g c = λ h.
    both_ways c.is_checkpoint_of.result c.if-not-is_checkpoint_of.true (c.is_checkpoint_of.ensures.only h.1)

pub returns-in_default-clause-only : goal.returns-in_default-clause-only
returns-in_default-clause-only g c = λ h. c.in_default.ensures.only h.0

pub returns-clause-stands : goal.returns-clause-stands
returns-clause-stands g c = (c.in-Some.ensures.stands, c.is_checkpoint_of.ensures.is c.if-not-is_checkpoint_of.false)
