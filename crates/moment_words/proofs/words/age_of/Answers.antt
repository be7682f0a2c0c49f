use Rattle.moment_words.proofs.Ages.{no_age}
use Rattle.moment_words.proofs.words.age_of.Goals as goal

pub returns-in-None-clause-none : goal.returns-in-None-clause-none
returns-in-None-clause-none c =
    no_age c.args.text.now c.in_default.ensures.none c.in_default-age_in.ensures.none c.in_default-age_in-2.ensures.none c.in_default-age_in-3.ensures.none c.in-None.ensures.none
