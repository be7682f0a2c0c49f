use Rattle.std.proofs.Common.{◌≡◌, ◌≤◌, Some, sym, ap, subst, ◌∙◌}
use Rattle.std.proofs.lemmas.Map.Keys.{le_from_is_le}
use Rattle.block_log.specs.Log.{Log}
use Rattle.codec.specs.declared.inodes.Inode.{Inode}
use Rattle.inode.specs.Tidiness.{PointersHeld}
use Rattle.version_store.specs.Store.{StoreOf, IsStore, fields_of}
use Rattle.version_store.specs.Versions.{inode_by, inode_in}
use Rattle.time_read.specs.Presents.{IsIndexOf}
use Rattle.time_read.specs.Rows.{inode_of}
use Rattle.version_store.proofs.Beside.{entries_here, inode_kept, index_kept, present_last, beside_added}
use Rattle.version_store.proofs.Cached.{true_of}
use Rattle.version_store.proofs.Inside.{opened}
use Rattle.version_store.proofs.Present.{can_read}
use Rattle.version_store.proofs.ReadByInode.{read_by_inode, unread_by_inode, agreeing_reads, agreeing_refuses, either_held, led_small, led_count}
use Rattle.version_store.proofs.store.Store.read_at.Given.{Over}
use Rattle.version_store.proofs.store.Store.read_at.Goals.{In-Some, Then-le, After-lead_back_to_read}
use Rattle.version_store.proofs.store.Store.read_at.Goals as goal

-- what is asked holds of the opened store
sound : (g : Over) (c : In-Some g) → IsStore (opened g.B.Blocks.log c.self.inside)
sound g c = subst (λ (v : StoreOf _). IsStore (fields_of g.B.Blocks.log v)) (sym c.self.view_is) c.requires

-- the inode beside the row is the present one
present : (g : Over) (c : In-Some g) → Some c.in-Some.kept.now.value.inode ≡ inode_in (opened g.B.Blocks.log c.self.inside) c.args.object c.self.inside.latest
present g c = inode_kept c.self.inside.objects.values c.self.inside.cache.pairs (opened g.B.Blocks.log c.self.inside) c.args.object c.in-Some.kept.now.value c.in-Some.ensures.value c.self.invariant

-- and the row has one at the moment
past : (g : Over) (c : In-Some g) → inode_in (opened g.B.Blocks.log c.self.inside) c.args.object c.args.at ≡ Some (inode_of (g.B.Blocks.log c.self.inside.table).held c.args.object c.in-Some.kept.now.row c.args.at)
past g c = ap (inode_by (g.B.Blocks.log c.self.inside.table).held c.args.object c.args.at) (sym c.in-Some.ensures.row)

-- from the last change on it is the present one
still : (g : Over) (c : Then-le g) → IsStore (opened g.B.Blocks.log c.self.inside) → Some c.in-Some.kept.now.value.inode ≡ inode_in (opened g.B.Blocks.log c.self.inside) c.args.object c.self.inside.latest
    → inode_in (fields_of g.B.Blocks.log c.args.self.now) c.args.object c.args.at ≡ Some c.in-Some.kept.now.value.inode
still g c store kept =
    let later : c.self.inside.latest ≤ c.args.at = le_from_is_le c.self.inside.latest c.args.at (sym c.if-le.ensures) in
    subst (λ (v : StoreOf _). inode_in (fields_of g.B.Blocks.log v) c.args.object c.args.at ≡ Some c.in-Some.kept.now.value.inode) c.self.view_is
    ((c.what_reads_rest_on.ensures.present (opened g.B.Blocks.log c.self.inside) c.args.object c.args.at store later).0 ∙ sym kept)

pub read_live-requires-clause-lead : goal.read_live-requires-clause-lead
read_live-requires-clause-lead g c =
    let at = (goal.at.read_live-requires-clause-lead g c).In-Some in
    let i = c.in-Some.kept.now.value.inode in
    c.what_reads_rest_on.ensures.lead (g.B.Blocks.log c.self.inside.table).held c.args.object i
    (can_read (opened g.B.Blocks.log c.self.inside) c.args.object c.self.inside.latest i (sound g at) (sym (present g at))).1

pub lead_back_to_read-requires-clause-row : goal.lead_back_to_read-requires-clause-row
lead_back_to_read-requires-clause-row g c =
    ((sound g (goal.at.lead_back_to_read-requires-clause-row g c).In-Some).objects c.args.object c.in-Some.kept.now.row (sym c.in-Some.ensures.row)).stands

pub lead_back_to_read-requires-clause-index : goal.lead_back_to_read-requires-clause-index
lead_back_to_read-requires-clause-index g c =
    let s = opened g.B.Blocks.log c.self.inside in
    let kept = c.in-Some.kept.now in
    subst (IsIndexOf kept.value.index) (entries_here s c.args.object kept.row (sym c.in-Some.ensures.row))
    (index_kept c.self.inside.objects.values c.self.inside.cache.pairs s c.args.object kept.value c.in-Some.ensures.value c.self.invariant)

pub lead_back_to_read-requires-clause-cached : goal.lead_back_to_read-requires-clause-cached
lead_back_to_read-requires-clause-cached g c =
    true_of (g.B.Blocks.log c.self.inside.table).held c.self.inside.objects.rows c.args.object c.in-Some.kept.now.row c.self.inside.cache.pairs (sym c.in-Some.ensures.row) c.self.invariant.cached

pub lead_back_to_read-requires-clause-present : goal.lead_back_to_read-requires-clause-present
lead_back_to_read-requires-clause-present g c =
    let at = (goal.at.lead_back_to_read-requires-clause-present g c).In-Some in
    let kept = c.in-Some.kept.now in
    present_last c.what_reads_rest_on.ensures.last (opened g.B.Blocks.log c.self.inside) c.args.object kept.row kept.value.inode (sound g at) (sym c.in-Some.ensures.row) (sym (present g at))

pub read_live-requires-2-clause-size : goal.read_live-requires-2-clause-size
read_live-requires-2-clause-size g c =
    let at = (goal.at.read_live-requires-2-clause-size g c).In-Some in
    led_small (opened g.B.Blocks.log c.self.inside) c.args.object c.args.at c.needed-needed.result c.in-Some.kept.now.value.inode (inode_of (g.B.Blocks.log c.self.inside.table).held c.args.object c.in-Some.kept.now.row c.args.at) c.lead_back_to_read.new.inode
    (sound g at) (past g at) c.lead_back_to_read.ensures.inode

pub read_live-requires-2-clause-count : goal.read_live-requires-2-clause-count
read_live-requires-2-clause-count g c =
    let at = (goal.at.read_live-requires-2-clause-count g c).In-Some in
    led_count (opened g.B.Blocks.log c.self.inside) c.args.object c.args.at c.needed-needed.result c.in-Some.kept.now.value.inode (inode_of (g.B.Blocks.log c.self.inside.table).held c.args.object c.in-Some.kept.now.row c.args.at) c.lead_back_to_read.new.inode
    (sound g at) (past g at) c.lead_back_to_read.ensures.inode

pub read_live-requires-2-clause-lead : goal.read_live-requires-2-clause-lead
read_live-requires-2-clause-lead g c =
    let at = (goal.at.read_live-requires-2-clause-lead g c).In-Some in
    let s = opened g.B.Blocks.log c.self.inside in
    let then : Inode = inode_of s.log.held c.args.object c.in-Some.kept.now.row c.args.at in
    let now : Inode = c.in-Some.kept.now.value.inode in
    let held = either_held s.log.held c.args.object c.needed-needed.result now then c.lead_back_to_read.new.inode c.lead_back_to_read.ensures.inode (can_read s c.args.object c.args.at then (sound g at) (past g at)).1
    (can_read s c.args.object s.latest now (sound g at) (sym (present g at))).1 in
    c.what_reads_rest_on.ensures.lead (g.B.Blocks.log c.lead_back_to_read.new.table).held c.args.object c.lead_back_to_read.new.inode
    (subst (λ (l : Log). PointersHeld l.held c.args.object c.lead_back_to_read.new.inode) (sym c.lead_back_to_read.ensures.same) held)

pub returns-then-le-clause-reads : goal.returns-then-le-clause-reads
returns-then-le-clause-reads g c =
    let at = goal.at.returns-then-le-clause-reads g c in
    read_by_inode c.read_live.result (fields_of g.B.Blocks.log c.args.self.now) c.args.object c.args.at c.in-Some.kept.now.value.inode _
    (still g at.Then-le (sound g at.In-Some) (present g at.In-Some)) c.read_live.ensures.reads

pub returns-then-le-clause-refused : goal.returns-then-le-clause-refused
returns-then-le-clause-refused g c =
    let at = goal.at.returns-then-le-clause-refused g c in
    unread_by_inode c.read_live.result (fields_of g.B.Blocks.log c.args.self.now) c.args.object c.args.at c.in-Some.kept.now.value.inode _
    (still g at.Then-le (sound g at.In-Some) (present g at.In-Some)) c.read_live.ensures.refused

pub invariant_of-self-2 : goal.invariant_of-self-2
invariant_of-self-2 g c =
    beside_added c.self.inside.objects.values c.self.inside.cache.pairs c.lead_back_to_read.new.cache.pairs (opened g.B.Blocks.log c.self.inside) (g.B.Blocks.log c.read_live-2.new.table) c.args.object c.in-Some.kept.now.row
    (c.read_live-2.ensures.same ∙ c.lead_back_to_read.ensures.same) (sym c.in-Some.ensures.row) c.lead_back_to_read.ensures.added c.self.invariant

-- before it the row's inode is what is read by, and it is small
led : (g : Over) (c : After-lead_back_to_read g) → inode_in (opened g.B.Blocks.log c.self.inside) c.args.object c.args.at ≡ Some (inode_of (g.B.Blocks.log c.self.inside.table).held c.args.object c.in-Some.kept.now.row c.args.at)
    → inode_in (fields_of g.B.Blocks.log c.args.self.now) c.args.object c.args.at ≡ Some (inode_of (g.B.Blocks.log c.self.inside.table).held c.args.object c.in-Some.kept.now.row c.args.at)
led g c there = subst (λ (v : StoreOf _). inode_in (fields_of g.B.Blocks.log v) c.args.object c.args.at ≡ Some (inode_of (g.B.Blocks.log c.self.inside.table).held c.args.object c.in-Some.kept.now.row c.args.at)) c.self.view_is there

pub returns-clause-reads : goal.returns-clause-reads
returns-clause-reads g c =
    let at = goal.at.returns-clause-reads g c in
    let then : Inode = inode_of (g.B.Blocks.log c.self.inside.table).held c.args.object c.in-Some.kept.now.row c.args.at in
    let small = led_small (opened g.B.Blocks.log c.self.inside) c.args.object c.args.at c.needed-needed.result c.in-Some.kept.now.value.inode then c.lead_back_to_read.new.inode (sound g at.In-Some) (past g at.In-Some) c.lead_back_to_read.ensures.inode in
    let agrees = c.lead_back_to_read.ensures.inode.agrees in
    read_by_inode c.read_live-2.result (fields_of g.B.Blocks.log c.args.self.now) c.args.object c.args.at then _ (led g at.After-lead_back_to_read (past g at.In-Some))
    (agreeing_reads c.read_live-2.result c.needed-needed.result c.lead_back_to_read.new.inode then (λ inode read. g.R.Reader.reads c.args.reader c.read_live-2.new.table inode read) agrees
    (λ read is. c.needed-needed.ensures.reads c.read_live-2.new.table read c.lead_back_to_read.new.inode then small agrees is) c.read_live-2.ensures.reads)

pub returns-clause-refused : goal.returns-clause-refused
returns-clause-refused g c =
    let at = goal.at.returns-clause-refused g c in
    let then : Inode = inode_of (g.B.Blocks.log c.self.inside.table).held c.args.object c.in-Some.kept.now.row c.args.at in
    let small = led_small (opened g.B.Blocks.log c.self.inside) c.args.object c.args.at c.needed-needed.result c.in-Some.kept.now.value.inode then c.lead_back_to_read.new.inode (sound g at.In-Some) (past g at.In-Some) c.lead_back_to_read.ensures.inode in
    let agrees = c.lead_back_to_read.ensures.inode.agrees in
    unread_by_inode c.read_live-2.result (fields_of g.B.Blocks.log c.args.self.now) c.args.object c.args.at then _ (led g at.After-lead_back_to_read (past g at.In-Some))
    (agreeing_refuses c.read_live-2.result c.needed-needed.result c.lead_back_to_read.new.inode then (λ inode e. g.R.Reader.refuses c.args.reader c.read_live-2.new.table inode e) agrees
    (λ e is. c.needed-needed.ensures.refuses c.read_live-2.new.table e c.lead_back_to_read.new.inode then small agrees is) c.read_live-2.ensures.refused)
