use Rattle.segment_table.proofs.Listing.{listed_held}
use Rattle.segment_table.proofs.laws.what_is_listed_is_held.Goals as goal

pub returns : goal.returns
returns c = listed_held
