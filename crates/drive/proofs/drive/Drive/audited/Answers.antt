use Rattle.std.proofs.Common.{◌≡◌, ℕ, max, take, inl, refl, ap, ◌∙◌, rules}
use Rattle.std.proofs.lemmas.Result.{err_from_is_err_and}
use Rattle.s4_model.specs.Audit.{rows_from, KeepsAudit}
use Rattle.drive.specs.Fields.{DriveFields, state_in, store_of}
use Rattle.drive.specs.Keeping.{IsKeptDrive}
use Rattle.drive.proofs.Parts.{kept_of}
use Rattle.drive.proofs.Auditing.{audit_of_parts, audit_answered, audit_fits}
use Rattle.drive.proofs.drive.Drive.audited.Goals as goal

pub returns-in_err-rows-clause-refused : goal.returns-in_err-rows-clause-refused
returns-in_err-rows-clause-refused g c =
    let p = err_from_is_err_and c.from_residual.result c.from_residual.ensures.1 in
    rw (p.1, p.2) (inl (c.in_err-rows.ensures.err, refl))

pub returns-clause-ok : goal.returns-clause-ok
returns-clause-ok g c =
    let d : DriveFields = c.args.self.now in
    let kept : KeepsAudit (state_in d) d.audit = audit_of_parts d g.J.Naming.base c.self.inside.history c.self.inside.store c.self.inside.audit.rows c.self.inside.window c.self.inside.next c.self.view_is c.self.invariant in
    let stands : IsKeptDrive (state_in d) (store_of d) c.self.inside.window c.self.inside.next = kept_of d g.J.Naming.base c.self.inside.history c.self.inside.store c.self.inside.audit.rows c.self.inside.window c.self.inside.next c.self.view_is c.self.invariant in
    let higher : c.max-lowest.result ≡ max c.args.from c.floor.result = search rules in
    let low : c.max-lowest.result ≡ max c.args.from (state_in d).floor = higher ∙ ap (λ (t : ℕ). max c.args.from t) (c.floor.ensures ∙ stands.window.floor) in
    audit_answered c.the_audit_goes_on_row_by_row.ensures.kept (state_in d) d.audit c.in_ok-rows.rows c.args.from c.max-lowest.result c.args.most kept low
    (c.in_ok-rows.ensures.ok ∙ ap (λ (x : DriveFields). take c.args.most (rows_from c.max-lowest.result x.audit)) c.self.view_is)

pub returns-clause-fits : goal.returns-clause-fits
returns-clause-fits g c = audit_fits (rows_from c.max-lowest.result c.self.inside.audit.rows) c.args.most c.in_ok-rows.rows c.in_ok-rows.ensures.ok c.requires
