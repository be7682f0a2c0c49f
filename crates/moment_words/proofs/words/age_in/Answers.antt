use Rattle.std.proofs.Common.{List, ℕ, subst}
use Rattle.moment_words.specs.Words.{IsNumber}
use Rattle.moment_words.proofs.Ages.{same_digits}
use Rattle.moment_words.proofs.words.age_in.Goals as goal

pub returns-in_default-number_of-clause-none : goal.returns-in_default-number_of-clause-none
returns-in_default-number_of-clause-none c = λ n h.
    let same = same_digits c.args.text.now c.in-Some.digits.now h.0 c.args.unit c.in-Some.ensures h.2 in
    c.in_default-number_of.ensures.none h.1 (subst (λ (ds : List ℕ). IsNumber ds h.1) same h.3)
