use Rattle.std.proofs.Common.{◌∙◌, ap, codes, inl, sym}
use Rattle.std.proofs.lemmas.Bool.{true≢false}
use Rattle.std.proofs.lemmas.Str.Pattern.{contains_text}
use Rattle.s4_restore.specs.Maps.{anew_line}
use Rattle.s4_restore.proofs.maps.said_by.Goals as goal

pub returns-then-not-contains : goal.returns-then-not-contains
returns-then-not-contains c = record {
  said = λ has. true≢false (sym ((contains_text c.contains.result (codes "made anew") c.args.line.now c.contains.ensures.cases).1 has) ∙ c.if-not-contains.true);
}

pub returns-then-branch : goal.returns-then-branch
returns-then-branch c = record { said = inl (c.in_ok-is_line_of.ensures c.if-branch.true ∙ ap anew_line (sym c.stand_in.ensures)) }
