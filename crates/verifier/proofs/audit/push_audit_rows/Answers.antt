use Rattle.std.proofs.Common.{◌<◌, ℕ, List, [], ◌∷◌, ◌++◌, ◌∙◌, sym, ap, subst, length, take, get_or, arith}
use Rattle.std.specs.List.{AllByRecursion, flat_map}
use Rattle.std.proofs.lemmas.List.{take_more, take_all}
use Rattle.std.proofs.lemmas.List.Folds.{flat_map-map}
use Rattle.s4_types.specs.declared.audit_rows.AuditRow.{AuditRow}
use Rattle.lemmas.proofs.List.{all_append}
use Rattle.image_parts.specs.Audit.{IsAuditPart, audit_bytes}
use Rattle.image_parts.specs.declared.audit.AuditPart.{AuditPart}
use Rattle.verifier.specs.Audit.{audit_part}
use Rattle.verifier.proofs.Lists.{flat_more}
use Rattle.verifier.proofs.audit.push_audit_rows.Goals as goal

abbrev spelled : AuditRow → List ℕ
spelled row = audit_bytes (audit_part row)

abbrev Fits : AuditRow → Type 0
Fits row = IsAuditPart (audit_part row)

pub loop-row-preserved : goal.loop-row-preserved
loop-row-preserved c =
    let rows : List AuditRow = c.args.rows.now in
    let i : ℕ = c.loop-row.row-index in
    let row : AuditRow = c.row-item.result in
    let lt : i < length rows = omega arith in
    let done : List ℕ = c.args.out.now.items ++ flat_map spelled (take i rows) in
    let fits : Fits row = subst IsAuditPart c.part_of_row.ensures.part c.part_of_row.ensures.is in
    record {
      items = c.in_ok-push_audit.ensures.items
          ∙ ap (λ (b : List ℕ). b ++ audit_bytes c.part_of_row.result) c.loop-row.invariant.items
          ∙ ap (λ (p : AuditPart). done ++ audit_bytes p) c.part_of_row.ensures.part
          ∙ ap (λ (r : AuditRow). done ++ spelled r) c.row-item.is
          ∙ flat_more spelled c.args.out.now.items rows i row lt;
      fit = subst (AllByRecursion Fits) (sym (take_more rows i row lt))
          (all_append Fits (take i rows) (get_or rows i row ∷ []) c.loop-row.invariant.fit (subst Fits c.row-item.is fits, tt));
    }

pub returns-clause-items : goal.returns-clause-items
returns-clause-items c =
    let rows : List AuditRow = c.args.rows.now in
    c.loop-row.invariant.items
    ∙ ap (λ (done : List AuditRow). c.args.out.now.items ++ flat_map spelled done) (take_all c.loop-row.row-index rows c.loop-row-test.false)
    ∙ ap (λ (b : List ℕ). c.args.out.now.items ++ b) (sym (flat_map-map audit_bytes audit_part rows))

pub returns-clause-fit : goal.returns-clause-fit
returns-clause-fit c = subst (AllByRecursion Fits) (take_all c.loop-row.row-index c.args.rows.now c.loop-row-test.false) c.loop-row.invariant.fit
