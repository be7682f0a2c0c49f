use Rattle.std.proofs.Common.{◌≡◌, ℕ, ◌/◌, take, drop, sym, ap, subst, ◌∙◌, arith}
use Rattle.s4_types.specs.declared.changes.Change.TheVariants.{Truncate}
use Rattle.version_store.specs.Store.{StoreOf, StoreFields, fields_of}
use Rattle.version_store.specs.Costs.{subject_row}
use Rattle.version_store.specs.private.Turning.{CanTake, IsTaken}
use Rattle.inode.specs.Contents.{contents_of}
use Rattle.inode.specs.Changed.{blocks_cut}
use Rattle.version_store.specs.private.Beside.{inode_beside}
use Rattle.version_store.proofs.Beside.{grown_indexed}
use Rattle.version_store.proofs.Cached.{stays_true}
use Rattle.version_store.proofs.Frames.{growth_stays}
use Rattle.version_store.proofs.Present.{grown_keeps}
use Rattle.version_store.proofs.Kind.{can_turn, bytes_made, taken_of}
use Rattle.version_store.proofs.Touched.{same_uncut}
use Rattle.version_store.proofs.Making.{can_subject, subject_is, truncated_makes, truncated_hand}
use Rattle.version_store.proofs.store.Store.truncate.Goals as goal

pub truncate-after-requires-clause-tidy : goal.truncate-after-requires-clause-tidy
truncate-after-requires-clause-tidy g c =
    let s : StoreFields = record { rows = c.self.inside.objects.rows; log = g.B.Blocks.log c.self.inside.table; latest = c.self.inside.latest } in
    let can = subst (λ (v : StoreOf _). CanTake (fields_of g.B.Blocks.log v) (Truncate c.args.object c.args.size) c.args.moment c.args.plan.now.inode.now) (sym c.self.view_is) c.requires.can in
    (can_subject s (Truncate c.args.object c.args.size) c.args.moment c.args.plan.now.inode.now can can.takes.ready).tidy

pub truncate-after-requires-clause-pointers : goal.truncate-after-requires-clause-pointers
truncate-after-requires-clause-pointers g c =
    let s : StoreFields = record { rows = c.self.inside.objects.rows; log = g.B.Blocks.log c.self.inside.table; latest = c.self.inside.latest } in
    let can = subst (λ (v : StoreOf _). CanTake (fields_of g.B.Blocks.log v) (Truncate c.args.object c.args.size) c.args.moment c.args.plan.now.inode.now) (sym c.self.view_is) c.requires.can in
    (can_subject s (Truncate c.args.object c.args.size) c.args.moment c.args.plan.now.inode.now can can.takes.ready).pointers

pub turn-requires : goal.turn-requires
turn-requires g c =
    let s : StoreFields = record { rows = c.self.inside.objects.rows; log = g.B.Blocks.log c.self.inside.table; latest = c.self.inside.latest } in
    let can = subst (λ (v : StoreOf _). CanTake (fields_of g.B.Blocks.log v) (Truncate c.args.object c.args.size) c.args.moment c.args.plan.now.inode.now) (sym c.self.view_is) c.requires.can in
    let subject = can_subject s (Truncate c.args.object c.args.size) c.args.moment c.args.plan.now.inode.now can can.takes.ready in
    let makes = truncated_makes c.requires.laws.one_place c.requires.laws.pointers_lead s c.args.object c.args.moment c.args.size (g.B.Blocks.log c.truncate-after.new.table) c.args.plan.now.inode.now c.truncate-after.result can subject c.truncate-after.ensures.growth c.truncate-after.ensures.log c.truncate-after.ensures.inode c.truncate-after.ensures.tidy c.truncate-after.ensures.pointers c.truncate-after.ensures.meaning in
    let row = subst (λ (v : StoreOf _). c.args.plan.now.row.now ≡ subject_row (fields_of g.B.Blocks.log v) c.args.object c.args.moment) (sym c.self.view_is) c.requires.row in
    record {
      laws = c.requires.laws;
      can = can_turn c.requires.laws.one_place c.requires.laws.orderly c.requires.laws.row c.requires.laws.inode c.requires.laws.journal c.requires.laws.meaning c.requires.laws.entry_sizes c.requires.laws.sizes_add_up
          s (Truncate c.args.object c.args.size) c.args.moment (g.B.Blocks.log c.truncate-after.new.table) c.args.plan.now.inode.now c.truncate-after.result c.appended-hand.result.now can subject makes
          (truncated_hand s c.args.object c.args.moment c.args.size (g.B.Blocks.log c.truncate-after.new.table) c.args.plan.now.inode.now c.truncate-after.result c.appended-hand.result.now can subject c.truncate-after.ensures.growth c.truncate-after.ensures.log c.truncate-after.ensures.inode c.truncate-after.ensures.tidy
          (c.appended-hand.ensures ∙ ap (λ (n : ℕ). take n (drop (c.args.size / 512) c.truncate-after.result.pointers)) c.blocks_of_truncate.ensures) c.names.ensures);
      row = subject_is s c.args.object c.args.moment c.args.plan.now.inode.now c.args.plan.now.row.now subject row;
      bytes = bytes_made c.requires.laws.entry_sizes c.requires.laws.sizes_add_up s (Truncate c.args.object c.args.size) c.args.moment c.args.plan.now.inode.now (g.B.Blocks.log c.truncate-after.new.table) c.truncate-after.result c.args.plan.now.bytes makes c.requires.bytes;
      range = (let most = can.takes.fits in omega (arith, most), omega arith);
      same = same_uncut s.log.ahead c.args.moment c.args.size c.args.plan.now.inode.now c.truncate-after.result c.truncate-after.ensures.inode;
    }

pub returns : goal.returns
returns g c =
    let s : StoreFields = record { rows = c.self.inside.objects.rows; log = g.B.Blocks.log c.self.inside.table; latest = c.self.inside.latest } in
    let can = subst (λ (v : StoreOf _). CanTake (fields_of g.B.Blocks.log v) (Truncate c.args.object c.args.size) c.args.moment c.args.plan.now.inode.now) (sym c.self.view_is) c.requires.can in
    let subject = can_subject s (Truncate c.args.object c.args.size) c.args.moment c.args.plan.now.inode.now can can.takes.ready in
    let makes = truncated_makes c.requires.laws.one_place c.requires.laws.pointers_lead s c.args.object c.args.moment c.args.size (g.B.Blocks.log c.truncate-after.new.table) c.args.plan.now.inode.now c.truncate-after.result can subject c.truncate-after.ensures.growth c.truncate-after.ensures.log c.truncate-after.ensures.inode c.truncate-after.ensures.tidy c.truncate-after.ensures.pointers c.truncate-after.ensures.meaning in
    let later : StoreFields = fields_of g.B.Blocks.log c.turn.new.self in
    subst (λ (v : StoreOf _). IsTaken (fields_of g.B.Blocks.log v) (Truncate c.args.object c.args.size) c.args.moment c.args.plan.now.inode.now later) c.self.view_is
    (taken_of c.requires.laws.places_add_up c.requires.laws.inode c.requires.laws.meaning c.requires.laws.entry_sizes
    s later (Truncate c.args.object c.args.size) c.args.moment (g.B.Blocks.log c.truncate-after.new.table) c.args.plan.now.inode.now c.truncate-after.result can subject makes c.turn.ensures)

pub invariant_of-self : goal.invariant_of-self
invariant_of-self g c =
    let s : StoreFields = record { rows = c.self.inside.objects.rows; log = g.B.Blocks.log c.self.inside.table; latest = c.self.inside.latest } in
    let log = g.B.Blocks.log c.truncate-after.new.table in
    let blocks = blocks_cut (contents_of s.log.held) c.args.plan.now.inode.now c.args.size in
    record {
      inodes = grown_keeps c.requires.laws.inode s log c.args.object blocks (inode_beside c.self.inside.objects.values) c.truncate-after.ensures.growth c.self.invariant.inodes;
      indexes = grown_indexed s log c.args.object blocks c.self.inside.objects.values c.truncate-after.ensures.growth c.self.invariant.indexes;
      cached = stays_true s.log.held log.held s.rows c.self.inside.cache.pairs (λ q. (growth_stays c.args.object blocks s.log log q c.truncate-after.ensures.growth).checkpoints) c.self.invariant.cached;
    }
