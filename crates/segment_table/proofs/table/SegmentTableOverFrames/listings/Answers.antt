use Rattle.segment_table.proofs.Listing.{lists_fit}
use Rattle.segment_table.proofs.table.SegmentTableOverFrames.listings.Goals as goal

pub returns : goal.returns
returns c = lists_fit c.args.self.now c.frame_rules.ensures.sizes.1 c.frame_rules.ensures.fit
