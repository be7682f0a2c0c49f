use Rattle.std.proofs.Common.{subst}
use Rattle.segment_table.specs.Rules.{HasFramesInOrder}
use Rattle.drive.specs.Fields.{DriveFields, state_in, store_of}
use Rattle.drive.specs.Keeping.{IsKeptDrive}
use Rattle.drive.proofs.Needed.{decodes_where_needed}
use Rattle.drive.proofs.Parts.{kept_of}
use Rattle.drive.proofs.drive.Drive.rules.Goals as goal

pub returns-clause-decodes : goal.returns-clause-decodes
returns-clause-decodes g c =
    let kept : IsKeptDrive (state_in c.args.self.now) (store_of c.args.self.now) c.self.inside.window c.self.inside.next = kept_of c.args.self.now g.J.Naming.base c.self.inside.history c.self.inside.store c.self.inside.audit.rows c.self.inside.window c.self.inside.next c.self.view_is c.self.invariant in
    decodes_where_needed (store_of c.args.self.now) (state_in c.args.self.now) kept.versions

pub returns-clause-past : goal.returns-clause-past
returns-clause-past g c =
    let kept : IsKeptDrive (state_in c.args.self.now) (store_of c.args.self.now) c.self.inside.window c.self.inside.next = kept_of c.args.self.now g.J.Naming.base c.self.inside.history c.self.inside.store c.self.inside.audit.rows c.self.inside.window c.self.inside.next c.self.view_is c.self.invariant in
    kept.past

pub returns-clause-unborn : goal.returns-clause-unborn
returns-clause-unborn g c =
    let kept : IsKeptDrive (state_in c.args.self.now) (store_of c.args.self.now) c.self.inside.window c.self.inside.next = kept_of c.args.self.now g.J.Naming.base c.self.inside.history c.self.inside.store c.self.inside.audit.rows c.self.inside.window c.self.inside.next c.self.view_is c.self.invariant in
    kept.unborn

pub returns-clause-frames : goal.returns-clause-frames
returns-clause-frames g c = subst (λ (d : DriveFields). HasFramesInOrder g.J.Naming.frames d.store.table) c.self.view_is c.frame_rules.ensures
