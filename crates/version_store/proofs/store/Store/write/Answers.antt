use Rattle.std.proofs.Common.{◌≡◌, ℕ, ◌+◌, ◌/◌, ◌≤◌, length, take, drop, sym, ap, subst, ◌∙◌, arith}
use Rattle.s4_types.specs.declared.limits.TheConstants.{OBJECT_BLOCKS}
use Rattle.s4_types.specs.declared.changes.Change.TheVariants.{Write}
use Rattle.version_store.specs.Store.{StoreOf, StoreFields, fields_of}
use Rattle.version_store.specs.Costs.{subject_row}
use Rattle.version_store.specs.private.Turning.{CanTake, IsTaken}
use Rattle.inode.specs.Contents.{contents_of}
use Rattle.inode.specs.Changed.{blocks_written}
use Rattle.version_store.specs.private.Beside.{inode_beside}
use Rattle.version_store.proofs.Beside.{grown_indexed}
use Rattle.version_store.proofs.Cached.{stays_true}
use Rattle.version_store.proofs.Frames.{growth_stays}
use Rattle.version_store.proofs.Present.{grown_keeps}
use Rattle.version_store.proofs.Kind.{can_turn, bytes_made, taken_of}
use Rattle.undo_redo.specs.Between.{AreSameOutside}
use Rattle.version_store.proofs.Handed.{written_within}
use Rattle.version_store.proofs.Touched.{same_unwritten}
use Rattle.version_store.proofs.Making.{can_subject, subject_is, written_makes, written_hand}
use Rattle.version_store.proofs.store.Store.write.Goals as goal

pub write-requires-clause-tidy : goal.write-requires-clause-tidy
write-requires-clause-tidy g c =
    let s : StoreFields = record { rows = c.self.inside.objects.rows; log = g.B.Blocks.log c.self.inside.table; latest = c.self.inside.latest } in
    let can = subst (λ (v : StoreOf _). CanTake (fields_of g.B.Blocks.log v) (Write c.args.object c.args.offset c.args.bytes.now) c.args.moment c.args.plan.now.inode.now) (sym c.self.view_is) c.requires.can in
    (can_subject s (Write c.args.object c.args.offset c.args.bytes.now) c.args.moment c.args.plan.now.inode.now can can.takes.ready).tidy

pub write-requires-clause-pointers : goal.write-requires-clause-pointers
write-requires-clause-pointers g c =
    let s : StoreFields = record { rows = c.self.inside.objects.rows; log = g.B.Blocks.log c.self.inside.table; latest = c.self.inside.latest } in
    let can = subst (λ (v : StoreOf _). CanTake (fields_of g.B.Blocks.log v) (Write c.args.object c.args.offset c.args.bytes.now) c.args.moment c.args.plan.now.inode.now) (sym c.self.view_is) c.requires.can in
    (can_subject s (Write c.args.object c.args.offset c.args.bytes.now) c.args.moment c.args.plan.now.inode.now can can.takes.ready).pointers

pub turn-requires : goal.turn-requires
turn-requires g c =
    let s : StoreFields = record { rows = c.self.inside.objects.rows; log = g.B.Blocks.log c.self.inside.table; latest = c.self.inside.latest } in
    let can = subst (λ (v : StoreOf _). CanTake (fields_of g.B.Blocks.log v) (Write c.args.object c.args.offset c.args.bytes.now) c.args.moment c.args.plan.now.inode.now) (sym c.self.view_is) c.requires.can in
    let subject = can_subject s (Write c.args.object c.args.offset c.args.bytes.now) c.args.moment c.args.plan.now.inode.now can can.takes.ready in
    let makes = written_makes c.requires.laws.one_place c.requires.laws.pointers_lead s c.args.object c.args.moment c.args.offset c.args.bytes.now (g.B.Blocks.log c.write.new.table) c.args.plan.now.inode.now c.write.new.next can subject c.write.ensures.growth c.write.ensures.log c.write.ensures.inode c.write.ensures.tidy c.write.ensures.pointers c.write.ensures.meaning in
    let row = subst (λ (v : StoreOf _). c.args.plan.now.row.now ≡ subject_row (fields_of g.B.Blocks.log v) c.args.object c.args.moment) (sym c.self.view_is) c.requires.row in
    record {
      laws = c.requires.laws;
      can = can_turn c.requires.laws.one_place c.requires.laws.orderly c.requires.laws.row c.requires.laws.inode c.requires.laws.journal c.requires.laws.meaning c.requires.laws.entry_sizes c.requires.laws.sizes_add_up
          s (Write c.args.object c.args.offset c.args.bytes.now) c.args.moment (g.B.Blocks.log c.write.new.table) c.args.plan.now.inode.now c.write.new.next c.appended-hand.result.now can subject makes
          (written_hand s c.args.object c.args.moment c.args.offset c.args.bytes.now (g.B.Blocks.log c.write.new.table) c.args.plan.now.inode.now c.write.new.next c.appended-hand.result.now can c.write.ensures.growth c.write.ensures.log c.write.ensures.inode c.write.ensures.tidy
          (c.appended-hand.ensures ∙ ap (λ (n : ℕ). take n (drop (c.args.offset / 512) c.write.new.next.pointers)) c.blocks_of_write-count.ensures) c.names.ensures);
      row = subject_is s c.args.object c.args.moment c.args.plan.now.inode.now c.args.plan.now.row.now subject row;
      bytes = bytes_made c.requires.laws.entry_sizes c.requires.laws.sizes_add_up s (Write c.args.object c.args.offset c.args.bytes.now) c.args.moment c.args.plan.now.inode.now (g.B.Blocks.log c.write.new.table) c.write.new.next c.args.plan.now.bytes makes c.requires.bytes;
      range = (omega arith, subst (λ (n : ℕ). c.args.offset / 512 + n ≤ OBJECT_BLOCKS) (sym c.blocks_of_write-count.ensures) (written_within c.args.offset (length c.args.bytes.now) can.takes.fits));
      same = subst (λ (n : ℕ). AreSameOutside (c.args.offset / 512) (c.args.offset / 512 + n) c.args.plan.now.inode.now c.write.new.next) (sym c.blocks_of_write-count.ensures)
          (same_unwritten s.log.ahead c.args.moment c.args.offset (length c.args.bytes.now) c.args.plan.now.inode.now c.write.new.next c.write.ensures.inode);
    }

pub returns : goal.returns
returns g c =
    let s : StoreFields = record { rows = c.self.inside.objects.rows; log = g.B.Blocks.log c.self.inside.table; latest = c.self.inside.latest } in
    let can = subst (λ (v : StoreOf _). CanTake (fields_of g.B.Blocks.log v) (Write c.args.object c.args.offset c.args.bytes.now) c.args.moment c.args.plan.now.inode.now) (sym c.self.view_is) c.requires.can in
    let subject = can_subject s (Write c.args.object c.args.offset c.args.bytes.now) c.args.moment c.args.plan.now.inode.now can can.takes.ready in
    let makes = written_makes c.requires.laws.one_place c.requires.laws.pointers_lead s c.args.object c.args.moment c.args.offset c.args.bytes.now (g.B.Blocks.log c.write.new.table) c.args.plan.now.inode.now c.write.new.next can subject c.write.ensures.growth c.write.ensures.log c.write.ensures.inode c.write.ensures.tidy c.write.ensures.pointers c.write.ensures.meaning in
    let later : StoreFields = fields_of g.B.Blocks.log c.turn.new.self in
    subst (λ (v : StoreOf _). IsTaken (fields_of g.B.Blocks.log v) (Write c.args.object c.args.offset c.args.bytes.now) c.args.moment c.args.plan.now.inode.now later) c.self.view_is
    (taken_of c.requires.laws.places_add_up c.requires.laws.inode c.requires.laws.meaning c.requires.laws.entry_sizes
    s later (Write c.args.object c.args.offset c.args.bytes.now) c.args.moment (g.B.Blocks.log c.write.new.table) c.args.plan.now.inode.now c.write.new.next can subject makes c.turn.ensures)

pub invariant_of-self : goal.invariant_of-self
invariant_of-self g c =
    let s : StoreFields = record { rows = c.self.inside.objects.rows; log = g.B.Blocks.log c.self.inside.table; latest = c.self.inside.latest } in
    let log = g.B.Blocks.log c.write.new.table in
    let blocks = blocks_written (contents_of s.log.held) c.args.plan.now.inode.now c.args.offset c.args.bytes.now in
    record {
      inodes = grown_keeps c.requires.laws.inode s log c.args.object blocks (inode_beside c.self.inside.objects.values) c.write.ensures.growth c.self.invariant.inodes;
      indexes = grown_indexed s log c.args.object blocks c.self.inside.objects.values c.write.ensures.growth c.self.invariant.indexes;
      cached = stays_true s.log.held log.held s.rows c.self.inside.cache.pairs (λ q. (growth_stays c.args.object blocks s.log log q c.write.ensures.growth).checkpoints) c.self.invariant.cached;
    }
