use Rattle.std.proofs.Common.{◌≤◌, ℕ, subst}
use Rattle.moment_words.proofs.Ages.{no_word, same_age}
use Rattle.moment_words.proofs.words.read.Goals as goal

pub returns-in_default-age_of-clause-none : goal.returns-in_default-age_of-clause-none
returns-in_default-age_of-clause-none c =
    no_word c.args.now c.args.text.now c.time_of.result c.in_default.ensures.none c.time_of.ensures c.in_default-time_of.is (λ age is _. c.in_default-age_of.ensures.none age is)

pub returns-in-None-clause-none : goal.returns-in-None-clause-none
returns-in-None-clause-none c =
    no_word c.args.now c.args.text.now c.time_of.result c.in_default.ensures.none c.time_of.ensures c.in_default-time_of.is
    (λ age is low. c.in-None.ensures (subst (λ (n : ℕ). n ≤ c.args.now) (same_age c.args.text.now age c.in-Some-age_of.age is c.in-Some-age_of.ensures.some) low))
