use Rattle.std.proofs.Common.{◌≡◌, true, Option, sym, ap, ◌∙◌, subst}
use Rattle.std.specs.Prelude.{IfSome}
use Rattle.std.specs.List.{list_all}
use Rattle.codec.specs.declared.entries.Pair.{Pair}
use Rattle.time_read.proofs.Undone.{triples_ascend}
use Rattle.image_objects.specs.private.Standing.{is_earlier}
use Rattle.image_objects.proofs.Earlier.{told_before, are_told}
use Rattle.image_objects.proofs.links.stands_before.Goals as goal

pub returns-then-not-has_status-clause-only : goal.returns-then-not-has_status-clause-only
returns-then-not-has_status-clause-only c = λ s. sym c.if-not-has_status.true ∙ c.has_status.ensures.only (s.status ∙ sym c.before-status.ensures)

pub returns-then-not-has_attribute-clause-only : goal.returns-then-not-has_attribute-clause-only
returns-then-not-has_attribute-clause-only c = λ s. sym c.if-not-has_attribute.true
    ∙ c.has_attribute.ensures.only (subst (λ (q : Option Pair). IfSome q (λ p. c.args.inode.now.attribute ≡ p.before)) (sym c.pair-pair.ensures) s.attribute)

pub returns-clause-stands : goal.returns-clause-stands
returns-clause-stands c = λ good.
    let i = c.args.inode.now in
    let e = c.args.entry.now in
    let pass : list_all (is_earlier i) e.triples ≡ true = ap (list_all (is_earlier i)) (sym c.triples.ensures.triples) ∙ sym c.are_earlier.ensures ∙ good in
    record {
      status = c.has_status.ensures.is c.if-not-has_status.false ∙ c.before-status.ensures;
      attribute = subst (λ (q : Option Pair). IfSome q (λ p. i.attribute ≡ p.before)) c.pair-pair.ensures (c.has_attribute.ensures.is c.if-not-has_attribute.false);
      count = c.requires;
      pointers = λ n lt. sym (told_before i e.triples n pass);
    }

pub returns-clause-only : goal.returns-clause-only
returns-clause-only c = λ s.
    let i = c.args.inode.now in
    let e = c.args.entry.now in
    c.are_earlier.ensures ∙ ap (list_all (is_earlier i)) c.triples.ensures.triples ∙ are_told i 0 e.triples (triples_ascend e c.triples.ensures.rules) s.pointers
