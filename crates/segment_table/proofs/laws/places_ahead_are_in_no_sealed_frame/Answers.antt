use Rattle.segment_table.proofs.Listing.{ahead_unsealed}
use Rattle.segment_table.proofs.laws.places_ahead_are_in_no_sealed_frame.Goals as goal

pub returns : goal.returns
returns c = ahead_unsealed
