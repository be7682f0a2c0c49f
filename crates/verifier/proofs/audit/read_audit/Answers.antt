use Rattle.std.proofs.Common.{◌<◌, ◌++◌, ◌∷◌, [], List, None, refl, sym, ap, subst, ◌∙◌}
use Rattle.std.specs.List.{AllByRecursion}
use Rattle.std.proofs.lemmas.Option.{none-some}
use Rattle.s4_types.specs.declared.audit_rows.AuditRow.{AuditRow}
use Rattle.s4_model.specs.Audit.{IsRowBetween}
use Rattle.image_parts.specs.declared.headers.Header.{Header}
use Rattle.verifier.proofs.AuditRows.{none_read, row_read, no_row, bad_row, later_than_all, all_read, audit_stands}
use Rattle.verifier.proofs.audit.read_audit.Goals as goal

pub loop-part-init : goal.loop-part-init
loop-part-init c =
    none_read c.args.parts.now None c.new-log.result.rows c.into_iter-part-iterator.result refl c.new-log.ensures (c.into_iter-part-iterator.ensures.into_iter_gives ∙ c.audit-part-items.ensures)

pub push-requires-clause-later : goal.push-requires-clause-later
push-requires-clause-later c =
    let row : AuditRow = c.in-Some-row_of_part.row in
    let may = rw c.if-not-may_follow.false at c.may_follow.ensures in
    subst (λ (rows : List AuditRow). AllByRecursion (λ other. other.moment < row.moment) rows) (sym c.in_ok-reserve.ensures.rows)
    (later_than_all c.loop-part.last c.loop-part.log.rows row.moment c.loop-part.invariant.end c.loop-part.invariant.ascend may.0)

pub loop-part-preserved : goal.loop-part-preserved
loop-part-preserved c =
    let row : AuditRow = c.in-Some-row_of_part.row in
    let may = rw c.if-not-may_follow.false at c.may_follow.ensures in
    row_read c.args.parts.now c.loop-part.last c.loop-part.log.rows c.push.new.self.rows c.in-Some.part c.next.new.self c.loop-part.part-iterator row c.loop-part.invariant c.in-Some.ensures.steps
    c.in-Some-row_of_part.ensures.found may.0 (subst (λ (h : Header). IsRowBetween h.floor h.clock h.next row) c.header-header.ensures may.1)
    (c.push.ensures ∙ ap (λ (rows : List AuditRow). rows ++ row ∷ []) c.in_ok-reserve.ensures.rows)

pub returns-in_default-clause-none : goal.returns-in_default-clause-none
returns-in_default-clause-none c =
    no_row c.args.parts.now c.loop-part.last c.loop-part.log.rows c.in-Some.part c.next.new.self c.loop-part.part-iterator c.loop-part.invariant c.in-Some.ensures.steps
    (λ row spelled. none-some row (sym c.in_default.is ∙ c.row_of_part.ensures.only row spelled))

pub returns-then-not-may_follow-clause-none : goal.returns-then-not-may_follow-clause-none
returns-then-not-may_follow-clause-none c =
    let row : AuditRow = c.in-Some-row_of_part.row in
    let breaks = rw c.if-not-may_follow.true at c.may_follow.ensures in
    bad_row c.args.parts.now c.loop-part.last c.loop-part.log.rows c.in-Some.part c.next.new.self c.loop-part.part-iterator row c.loop-part.invariant c.in-Some.ensures.steps c.in-Some-row_of_part.ensures.found
    (λ later between. breaks later (subst (λ (h : Header). IsRowBetween h.floor h.clock h.next row) (sym c.header-header.ensures) between))

pub returns-clause-rows : goal.returns-clause-rows
returns-clause-rows c = all_read c.args.parts.now c.loop-part.last c.loop-part.log.rows c.loop-part.part-iterator c.loop-part.invariant c.in-None.ensures.steps.0

pub returns-clause-kept : goal.returns-clause-kept
returns-clause-kept c = record { each = c.loop-part.invariant.each; ascend = c.loop-part.invariant.ascend }

pub returns-clause-stands : goal.returns-clause-stands
returns-clause-stands c = audit_stands c.args.parts.now c.loop-part.last c.loop-part.log.rows c.loop-part.part-iterator c.loop-part.invariant c.in-None.ensures.steps.0
