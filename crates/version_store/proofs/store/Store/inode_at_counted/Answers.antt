-- The row's facts are those of the store as it was passed; the table and what is kept are those of the opened store.
use Rattle.std.proofs.Common.{◌≡◌, Some, sym, subst}
use Rattle.object_map.specs.Rows.{row_of}
use Rattle.version_store.specs.Store.{StoreOf, StoreFields, IsStore, fields_of}
use Rattle.version_store.proofs.Beside.{beside_added}
use Rattle.version_store.proofs.Cached.{true_of}
use Rattle.version_store.proofs.store.Store.inode_at_counted.Goals as goal

pub inode_at_counted-requires-clause-row : goal.inode_at_counted-requires-clause-row
inode_at_counted-requires-clause-row g c =
    let s : StoreFields = record { rows = c.self.inside.objects.rows; log = g.B.Blocks.log c.self.inside.table; latest = c.self.inside.latest } in
    let store : IsStore s = subst (λ (v : StoreOf _). IsStore (fields_of g.B.Blocks.log v)) (sym c.self.view_is) c.requires in
    (store.objects c.args.object c.in-Some.row (subst (λ (v : StoreOf _). row_of v.rows c.args.object ≡ Some c.in-Some.row) (sym c.self.view_is) (sym c.in-Some.ensures))).stands

pub inode_at_counted-requires-clause-cached : goal.inode_at_counted-requires-clause-cached
inode_at_counted-requires-clause-cached g c =
    let there = subst (λ (v : StoreOf _). row_of v.rows c.args.object ≡ Some c.in-Some.row) (sym c.self.view_is) (sym c.in-Some.ensures) in
    true_of (g.B.Blocks.log c.self.inside.table).held c.self.inside.objects.rows c.args.object c.in-Some.row c.self.inside.cache.pairs there c.self.invariant.cached

pub invariant_of-self : goal.invariant_of-self
invariant_of-self g c =
    let s : StoreFields = record { rows = c.self.inside.objects.rows; log = g.B.Blocks.log c.self.inside.table; latest = c.self.inside.latest } in
    let there = subst (λ (v : StoreOf _). row_of v.rows c.args.object ≡ Some c.in-Some.row) (sym c.self.view_is) (sym c.in-Some.ensures) in
    beside_added c.self.inside.objects.values c.self.inside.cache.pairs c.inode_at_counted.new.cache.pairs s (g.B.Blocks.log c.inode_at_counted.new.table) c.args.object c.in-Some.row
    c.inode_at_counted.ensures.same there c.inode_at_counted.ensures.kept c.self.invariant

pub invariant_of-self-2 : goal.invariant_of-self-2
invariant_of-self-2 g c =
    let s : StoreFields = record { rows = c.self.inside.objects.rows; log = g.B.Blocks.log c.self.inside.table; latest = c.self.inside.latest } in
    let there = subst (λ (v : StoreOf _). row_of v.rows c.args.object ≡ Some c.in-Some.row) (sym c.self.view_is) (sym c.in-Some.ensures) in
    beside_added c.self.inside.objects.values c.self.inside.cache.pairs c.inode_at_counted.new.cache.pairs s (g.B.Blocks.log c.inode_at_counted.new.table) c.args.object c.in-Some.row
    c.inode_at_counted.ensures.same there c.inode_at_counted.ensures.kept c.self.invariant
