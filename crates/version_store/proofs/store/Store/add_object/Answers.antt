use Rattle.std.proofs.Common.{◌≡◌, List, Some, None, refl, sym, ap, subst, ◌∙◌}
use Rattle.std.proofs.lemmas.Option.{none-some}
use Rattle.time_read.specs.Undoings.{Undoing}
use Rattle.object_map.specs.Objects.{MapOf}
use Rattle.object_map.specs.Rows.{row_of, fresh_row}
use Rattle.time_read.specs.declared.presents.Present.{Present}
use Rattle.version_store.specs.Store.{StoreOf, StoreFields, fields_of}
use Rattle.version_store.specs.private.Beside.{inode_beside, IsBeside}
use Rattle.version_store.proofs.Beside.{inode_put, added_indexed}
use Rattle.version_store.proofs.Present.{added_keeps}
use Rattle.version_store.proofs.Cached.{put_true}
use Rattle.version_store.proofs.store.Store.add_object.Goals as goal

pub invariant_of-self : goal.invariant_of-self
invariant_of-self g c =
    subst (λ (m : MapOf Present). IsBeside m.values c.self.inside.cache.pairs (fields_of g.B.Blocks.log (record { rows = m.rows; table = c.self.inside.table; latest = c.self.inside.latest }))) (sym c.in_err-add.ensures.unchanged) c.self.invariant

pub invariant_of-self-2 : goal.invariant_of-self-2
invariant_of-self-2 g c =
    let s : StoreFields = record { rows = c.self.inside.objects.rows; log = g.B.Blocks.log c.self.inside.table; latest = c.self.inside.latest } in
    let o = c.args.object in
    let m = c.args.moment in
    let beside : Present = record { inode = c.args.first.now; index = Some c.new.result } in
    let put = c.in_ok-add.ensures.added in
    let none = subst (λ (v : StoreOf _). row_of v.rows o ≡ None) (sym c.self.view_is) c.requires.none in
    record {
      inodes = added_keeps c.requires.laws.fresh_inode s c.add.new.self.rows o m c.args.first.now (inode_beside c.self.inside.objects.values) (inode_beside c.add.new.self.values) c.requires.first
          put.rows (inode_put c.self.inside.objects.values c.add.new.self.values o beside put.values) c.self.invariant.inodes;
      indexes = added_indexed s c.add.new.self.rows o m beside c.self.inside.objects.values c.add.new.self.values (ap (λ (us : List Undoing). Some us) c.new.ensures) put.rows put.values c.self.invariant.indexes;
      cached = put_true s.log.held s.log.held s.rows c.add.new.self.rows o (fresh_row m) c.self.inside.cache.pairs (λ old there. absurd (none-some old (sym none ∙ there))) put.rows (λ q other. refl) c.self.invariant.cached;
    }
