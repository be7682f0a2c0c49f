use Rattle.chain_rewriting.proofs.Told.{out_of_the_frame}
use Rattle.chain_rewriting.proofs.renaming_laws.a_renamed_chain_is_out_of_the_frame.Goals as goal

pub returns : goal.returns
returns c = out_of_the_frame
