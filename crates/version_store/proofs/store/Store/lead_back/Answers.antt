use Rattle.std.proofs.Common.{◌≡◌, ◌≤◌, Some, sym, ap, subst, ◌∙◌}
use Rattle.std.proofs.lemmas.Map.Keys.{le_from_is_le}
use Rattle.codec.specs.declared.inodes.Inode.{Inode}
use Rattle.version_store.specs.Store.{StoreOf, StoreFields, IsStore, fields_of}
use Rattle.version_store.specs.Versions.{inode_by, inode_in}
use Rattle.time_read.specs.Presents.{IsIndexOf}
use Rattle.version_store.proofs.Beside.{entries_here, index_kept, present_last, beside_added}
use Rattle.version_store.proofs.Cached.{true_of}
use Rattle.version_store.proofs.store.Store.lead_back.Goals as goal

pub returns-then-le-clause-inode : goal.returns-then-le-clause-inode
returns-then-le-clause-inode g c =
    let s : StoreFields = fields_of g.B.Blocks.log c.args.self.now in
    let past : s.latest ≤ c.args.at = subst (λ (v : StoreOf _). v.latest ≤ c.args.at) c.self.view_is (le_from_is_le c.self.inside.latest c.args.at (sym c.if-le.ensures)) in
    (c.what_reads_rest_on.ensures.present s c.args.object c.args.at c.requires.store past).0 ∙ c.requires.present

pub lead_back-requires-clause-row : goal.lead_back-requires-clause-row
lead_back-requires-clause-row g c =
    let s : StoreFields = record { rows = c.self.inside.objects.rows; log = g.B.Blocks.log c.self.inside.table; latest = c.self.inside.latest } in
    let store : IsStore s = subst (λ (v : StoreOf _). IsStore (fields_of g.B.Blocks.log v)) (sym c.self.view_is) c.requires.store in
    (store.objects c.args.object c.in-Some.kept.now.row (sym c.in-Some.ensures.row)).stands

pub lead_back-requires-clause-index : goal.lead_back-requires-clause-index
lead_back-requires-clause-index g c =
    let s : StoreFields = record { rows = c.self.inside.objects.rows; log = g.B.Blocks.log c.self.inside.table; latest = c.self.inside.latest } in
    let kept = c.in-Some.kept.now in
    subst (IsIndexOf kept.value.index) (entries_here s c.args.object kept.row (sym c.in-Some.ensures.row))
    (index_kept c.self.inside.objects.values c.self.inside.cache.pairs s c.args.object kept.value c.in-Some.ensures.value c.self.invariant)

pub lead_back-requires-clause-cached : goal.lead_back-requires-clause-cached
lead_back-requires-clause-cached g c =
    true_of (g.B.Blocks.log c.self.inside.table).held c.self.inside.objects.rows c.args.object c.in-Some.kept.now.row c.self.inside.cache.pairs (sym c.in-Some.ensures.row) c.self.invariant.cached

pub lead_back-requires-clause-present : goal.lead_back-requires-clause-present
lead_back-requires-clause-present g c =
    let s : StoreFields = record { rows = c.self.inside.objects.rows; log = g.B.Blocks.log c.self.inside.table; latest = c.self.inside.latest } in
    let store : IsStore s = subst (λ (v : StoreOf _). IsStore (fields_of g.B.Blocks.log v)) (sym c.self.view_is) c.requires.store in
    present_last c.what_reads_rest_on.ensures.last s c.args.object c.in-Some.kept.now.row c.args.inode.now store (sym c.in-Some.ensures.row)
    (subst (λ (v : StoreOf _). inode_in (fields_of g.B.Blocks.log v) c.args.object v.latest ≡ Some c.args.inode.now) (sym c.self.view_is) c.requires.present)

pub invariant_of-self : goal.invariant_of-self
invariant_of-self g c =
    let s : StoreFields = record { rows = c.self.inside.objects.rows; log = g.B.Blocks.log c.self.inside.table; latest = c.self.inside.latest } in
    beside_added c.self.inside.objects.values c.self.inside.cache.pairs c.lead_back.new.cache.pairs s (g.B.Blocks.log c.lead_back.new.table) c.args.object c.in-Some.kept.now.row
    c.lead_back.ensures.same (sym c.in-Some.ensures.row) c.lead_back.ensures.added c.self.invariant

pub returns-clause-inode : goal.returns-clause-inode
returns-clause-inode g c =
    let s : StoreFields = record { rows = c.self.inside.objects.rows; log = g.B.Blocks.log c.self.inside.table; latest = c.self.inside.latest } in
    let at : inode_in s c.args.object c.args.at ≡ Some c.lead_back.new.inode =
    ap (inode_by s.log.held c.args.object c.args.at) (sym c.in-Some.ensures.row) ∙ ap (λ (i : Inode). Some i) (sym c.lead_back.ensures.inode) in
    subst (λ (v : StoreOf _). inode_in (fields_of g.B.Blocks.log v) c.args.object c.args.at ≡ Some c.lead_back.new.inode) c.self.view_is at
