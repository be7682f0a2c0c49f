use Rattle.std.proofs.Common.{inl}
use Rattle.std.proofs.lemmas.Result.{err_from_is_err_and}
use Rattle.drive.specs.Fields.{state_in, store_of}
use Rattle.drive.specs.Keeping.{IsKeptDrive}
use Rattle.drive.proofs.Parts.{kept_of, drive_as}
use Rattle.drive.proofs.Told.{moment_told, read_version, unread_version}
use Rattle.drive.proofs.drive.Drive.read_at.Goals as goal

pub returns-in_err-visible-clause-refused : goal.returns-in_err-visible-clause-refused
returns-in_err-visible-clause-refused g c =
    let p = err_from_is_err_and c.from_residual.result c.from_residual.ensures.1 in
    let kept : IsKeptDrive (state_in c.args.self.now) (store_of c.args.self.now) c.self.inside.window c.self.inside.next = kept_of c.args.self.now g.J.Naming.base c.self.inside.history c.self.inside.store c.self.inside.audit.rows c.self.inside.window c.self.inside.next c.self.view_is c.self.invariant in
    rw (p.1, p.2) (inl (moment_told (state_in c.args.self.now) c.args.object c.moment_asked-moment.result _ _ c.moment_asked-moment.ensures (c.in_err-visible.ensures (state_in c.args.self.now) kept.window)))

pub returns-clause-free : goal.returns-clause-free
returns-clause-free g c =
    let kept : IsKeptDrive (state_in c.args.self.now) (store_of c.args.self.now) c.self.inside.window c.self.inside.next = kept_of c.args.self.now g.J.Naming.base c.self.inside.history c.self.inside.store c.self.inside.audit.rows c.self.inside.window c.self.inside.next c.self.view_is c.self.invariant in
    (read_version c.read_at.result (drive_as c.self.inside.history c.self.inside.store c.self.inside.audit.rows) c.args.self.now c.self.inside.window c.self.inside.next c.args.object c.moment_asked-moment.result _ _
    c.self.view_is c.moment_asked-moment.ensures kept (c.in_ok-visible.ensures (state_in c.args.self.now) kept.window) c.read_at.ensures.reads).0

pub returns-clause-read : goal.returns-clause-read
returns-clause-read g c =
    let kept : IsKeptDrive (state_in c.args.self.now) (store_of c.args.self.now) c.self.inside.window c.self.inside.next = kept_of c.args.self.now g.J.Naming.base c.self.inside.history c.self.inside.store c.self.inside.audit.rows c.self.inside.window c.self.inside.next c.self.view_is c.self.invariant in
    (read_version c.read_at.result (drive_as c.self.inside.history c.self.inside.store c.self.inside.audit.rows) c.args.self.now c.self.inside.window c.self.inside.next c.args.object c.moment_asked-moment.result _ _
    c.self.view_is c.moment_asked-moment.ensures kept (c.in_ok-visible.ensures (state_in c.args.self.now) kept.window) c.read_at.ensures.reads).1

pub returns-clause-refused : goal.returns-clause-refused
returns-clause-refused g c =
    let kept : IsKeptDrive (state_in c.args.self.now) (store_of c.args.self.now) c.self.inside.window c.self.inside.next = kept_of c.args.self.now g.J.Naming.base c.self.inside.history c.self.inside.store c.self.inside.audit.rows c.self.inside.window c.self.inside.next c.self.view_is c.self.invariant in
    unread_version c.read_at.result (drive_as c.self.inside.history c.self.inside.store c.self.inside.audit.rows) c.args.self.now c.self.inside.window c.self.inside.next c.args.object c.moment_asked-moment.result _ _
    c.self.view_is c.moment_asked-moment.ensures kept (c.in_ok-visible.ensures (state_in c.args.self.now) kept.window) c.read_at.ensures.refused
