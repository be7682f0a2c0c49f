use Rattle.std.proofs.Common.{rules, tests}
use Rattle.std.proofs.lemmas.Iterator.{YieldsList-from_chars}
use Rattle.std.proofs.lemmas.Iterator.Search.{all_from_yields_List}
use Rattle.history_text.specs.Lines.{is_printable}
use Rattle.history_text.proofs.attributes.has_printable.Goals as goal

pub returns : goal.returns
returns c = all_from_yields_List is_printable _ _ _ c.all.ensures.ran (YieldsList-from_chars c.args.text.now c.utf8.text cc) (λ x b q k. search (rules, tests))
