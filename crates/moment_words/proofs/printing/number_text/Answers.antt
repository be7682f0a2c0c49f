use Rattle.std.proofs.Common.{List, ℕ, inl, subst, sym}
use Rattle.std.proofs.lemmas.Result.{IfOk-weaker}
use Rattle.moment_words.specs.Words.{IsNumber}
use Rattle.moment_words.proofs.ReadBack.{number_read}
use Rattle.moment_words.proofs.printing.number_text.Goals as goal

pub returns-clause-read : goal.returns-clause-read
returns-clause-read c =
    IfOk-weaker c.format.result _ _ (λ text e now. inl (subst (λ (ds : List ℕ). IsNumber ds c.args.moment) (sym e) (number_read c.args.moment c.ranges.moment.fits))) c.format.ensures.ok
