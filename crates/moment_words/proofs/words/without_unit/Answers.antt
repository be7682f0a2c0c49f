use Rattle.std.proofs.lemmas.Str.Pattern.{strip_suffix_char}
use Rattle.moment_words.proofs.Ages.{letter_is_ascii}
use Rattle.moment_words.proofs.words.without_unit.Goals as goal

pub returns : goal.returns
returns c =
    rw (← c.letter.ensures) (strip_suffix_char c.letter.result c.args.text.now c.strip_suffix.result c.strip_suffix.ensures.cases (rw c.letter.ensures (letter_is_ascii c.args.unit)))
