use Rattle.std.proofs.Common.{[], sym, ap, arith}
use Rattle.codec.specs.Checkpoint.{pointer_at}
use Rattle.codec.specs.declared.inodes.Inode.{Inode}
use Rattle.s4_types.specs.declared.changes.Change.TheVariants.{Delete}
use Rattle.inode.specs.Contents.{contents_of}
use Rattle.version_store.specs.Store.{StoreFields, fields_of}
use Rattle.version_store.proofs.Kind.{can_turn, bytes_made, taken_of}
use Rattle.version_store.proofs.Touched.{same_everywhere}
use Rattle.version_store.proofs.Making.{can_subject, no_hand, subject_is, deleted_makes}
use Rattle.version_store.proofs.store.Store.delete.Goals as goal

pub turn-requires : goal.turn-requires
turn-requires g c =
    let s : StoreFields = fields_of g.B.Blocks.log c.args.self.now in
    let subject = can_subject s (Delete c.args.object) c.args.moment c.args.plan.now.inode.now c.requires.can c.requires.can.takes.ready in
    let makes = deleted_makes s c.args.object c.args.moment c.args.plan.now.inode.now c.deleted-after.result c.requires.can subject c.deleted-after.ensures.inode (c.deleted-after.ensures.meaning (contents_of s.log.held) c.args.object c.args.moment) (c.deleted-after.ensures.tidy (contents_of s.log.held) subject.tidy) in
    record {
      laws = c.requires.laws;
      can = can_turn c.requires.laws.one_place c.requires.laws.orderly c.requires.laws.row c.requires.laws.inode c.requires.laws.journal c.requires.laws.meaning c.requires.laws.entry_sizes c.requires.laws.sizes_add_up
          s (Delete c.args.object) c.args.moment s.log c.args.plan.now.inode.now c.deleted-after.result [] c.requires.can subject makes
          (no_hand s (Delete c.args.object) c.args.moment c.args.plan.now.inode.now c.deleted-after.result c.requires.can);
      row = subject_is s c.args.object c.args.moment c.args.plan.now.inode.now c.args.plan.now.row.now subject c.requires.row;
      bytes = bytes_made c.requires.laws.entry_sizes c.requires.laws.sizes_add_up s (Delete c.args.object) c.args.moment c.args.plan.now.inode.now s.log c.deleted-after.result c.args.plan.now.bytes makes c.requires.bytes;
      range = (omega arith, omega arith);
      same = same_everywhere c.args.plan.now.inode.now c.deleted-after.result (λ k. ap (λ (x : Inode). pointer_at x k) (sym c.deleted-after.ensures.inode));
    }

pub returns : goal.returns
returns g c =
    let s : StoreFields = fields_of g.B.Blocks.log c.args.self.now in
    let subject = can_subject s (Delete c.args.object) c.args.moment c.args.plan.now.inode.now c.requires.can c.requires.can.takes.ready in
    let makes = deleted_makes s c.args.object c.args.moment c.args.plan.now.inode.now c.deleted-after.result c.requires.can subject c.deleted-after.ensures.inode (c.deleted-after.ensures.meaning (contents_of s.log.held) c.args.object c.args.moment) (c.deleted-after.ensures.tidy (contents_of s.log.held) subject.tidy) in
    taken_of c.requires.laws.places_add_up c.requires.laws.inode c.requires.laws.meaning c.requires.laws.entry_sizes
    s (fields_of g.B.Blocks.log c.turn.new.self) (Delete c.args.object) c.args.moment s.log c.args.plan.now.inode.now c.deleted-after.result c.requires.can subject makes c.turn.ensures
