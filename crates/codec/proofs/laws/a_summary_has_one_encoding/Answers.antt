use Rattle.codec.proofs.SummaryLaws.{kept_by, keeps, one_summary, block_length}
use Rattle.codec.proofs.laws.a_summary_has_one_encoding.Goals as goal

pub returns : goal.returns
returns c = record { rules = λ s. (kept_by s, keeps s); one = one_summary; bytes = block_length }
