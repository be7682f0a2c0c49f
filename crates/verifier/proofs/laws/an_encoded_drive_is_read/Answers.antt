use Rattle.verifier.proofs.Encoded.{as_many_objects, image_read}
use Rattle.verifier.proofs.laws.an_encoded_drive_is_read.Goals as goal

pub returns : goal.returns
returns c = record { read = image_read; objects = as_many_objects }
