use Rattle.std.proofs.Common.{◌≡◌, ◌≤◌, ◌+◌, ℕ, List, length, Option, Some, IfSome, sym, ap, subst, ◌∙◌, arith}
use Rattle.std.proofs.lemmas.Option.{same_Some}
use Rattle.block_log.specs.declared.kinds.BlockKind.TheVariants.{Checkpoint, Pointers}
use Rattle.codec.specs.declared.inodes.Inode.{Inode}
use Rattle.object_map.specs.declared.map.Row.{Row}
use Rattle.object_map.specs.Objects.{Puts, with_value}
use Rattle.object_map.specs.Rows.{row_of}
use Rattle.chain_rewriting.specs.Renaming.{RenamingFields, renamed_entries, renamed_inode}
use Rattle.time_read.specs.Rows.{entries_of}
use Rattle.time_read.specs.declared.presents.Present.{Present}
use Rattle.checkpoint.proofs.OwnBlocks.{same_checkpoints}
use Rattle.version_store.specs.Store.{StoreOf, IsStore, fields_of}
use Rattle.version_store.specs.Versions.{inode_in}
use Rattle.version_store.specs.Relocating.{blocks_relocated, renaming_by}
use Rattle.time_read.specs.Presents.{IsIndexOf}
use Rattle.version_store.specs.private.Beside.{inode_beside}
use Rattle.version_store.specs.private.Relocating.{RelocatesIn}
use Rattle.version_store.proofs.Beside.{inode_put, replaced_indexed}
use Rattle.version_store.proofs.Asides.{store_few}
use Rattle.version_store.proofs.Recounted.{pointers_few}
use Rattle.version_store.proofs.CheckpointSteps.{next_store}
use Rattle.version_store.proofs.Inside.{opened}
use Rattle.version_store.proofs.RelocatedStore.{Laws, relocated, renamed_beside}
use Rattle.version_store.proofs.Cached.{put_true}
use Rattle.version_store.proofs.store.Store.put_relocation.Given.{Over}
use Rattle.version_store.proofs.store.Store.put_relocation.Goals.{After-relocate_blocks-moved, After-change}
use Rattle.version_store.proofs.store.Store.put_relocation.Goals as goal

-- what is asked holds of the opened store
sound : (g : Over) (c : After-relocate_blocks-moved g) → IsStore (opened g.B.Blocks.log c.self.inside)
sound g c = subst (λ (v : StoreOf _). IsStore (fields_of g.B.Blocks.log v)) (sym c.self.view_is) c.requires.store

there : (g : Over) (c : After-relocate_blocks-moved g) → row_of c.self.inside.objects.rows c.args.object ≡ Some c.args.row.now
there g c = subst (λ (v : StoreOf _). row_of v.rows c.args.object ≡ Some c.args.row.now) (sym c.self.view_is) c.requires.row

-- the map has the new row, and beside it the renamed inode
put : (g : Over) (c : After-change g) → row_of c.self.inside.objects.rows c.args.object ≡ Some c.args.row.now
    → Puts c.self.inside.objects c.args.object (record c.relocate_blocks-moved.result.row { stamp = c.args.row.now.stamp + 1 }) (record { inode = c.rename_inode.new.inode; index = c.index_of.result }) c.change.new.self
put g c here =
    let beside : Present = record { inode = c.rename_inode.new.inode; index = c.index_of.result } in
    subst (λ (r : Option Row). IfSome r (λ old. Puts c.self.inside.objects c.args.object (record c.relocate_blocks-moved.result.row { stamp = old.stamp + 1 }) beside c.change.new.self)) here c.change.ensures.changed

-- the object's blocks are moved
made : (g : Over) (c : After-change g) → IsStore (opened g.B.Blocks.log c.self.inside) → row_of c.self.inside.objects.rows c.args.object ≡ Some c.args.row.now
    → RelocatesIn (opened g.B.Blocks.log c.self.inside) c.args.object c.args.row.now c.args.copies.now (next_store (opened g.B.Blocks.log c.self.inside) c.change.new.self.rows (g.B.Blocks.log c.relocate_blocks-moved.new.table))
made g c store here =
    let o = c.args.object in
    let row = c.args.row.now in
    let copies = c.args.copies.now in
    let moved = c.relocate_blocks-moved.ensures in
    let room = subst (λ (v : StoreOf _). blocks_relocated (g.B.Blocks.log v.table).held o row copies ≤ length (g.B.Blocks.log v.table).ahead) (sym c.self.view_is) c.requires.room in
    let laws : Laws = record {
      rest = c.what_changes_rest_on.ensures;
      means = c.what_relocations_rest_on.ensures.means;
      points = c.what_relocations_rest_on.ensures.pointers;
      tells = c.what_relocations_rest_on.ensures.places;
      within = c.what_relocations_rest_on.ensures.within;
      old = c.what_relocations_rest_on.ensures.old;
    } in
    relocated laws (opened g.B.Blocks.log c.self.inside) c.change.new.self.rows (g.B.Blocks.log c.relocate_blocks-moved.new.table) o row c.relocate_blocks-moved.result.row copies c.relocate_blocks-moved.result.renaming
    store here moved.moved room (put g c here).rows moved.named

pub relocate_blocks-moved-requires-clause-counted : goal.relocate_blocks-moved-requires-clause-counted
relocate_blocks-moved-requires-clause-counted g c =
    let store = subst (λ (v : StoreOf _). IsStore (fields_of g.B.Blocks.log v)) (sym c.self.view_is) c.requires.store in
    store.counted c.args.object c.args.row.now (subst (λ (v : StoreOf _). row_of v.rows c.args.object ≡ Some c.args.row.now) (sym c.self.view_is) c.requires.row)

pub relocate_blocks-moved-requires-clause-few_names : goal.relocate_blocks-moved-requires-clause-few_names
relocate_blocks-moved-requires-clause-few_names g c = store_few (opened g.B.Blocks.log c.self.inside) (subst (λ (v : StoreOf _). IsStore (fields_of g.B.Blocks.log v)) (sym c.self.view_is) c.requires.store)

pub relocate_blocks-moved-requires-clause-few : goal.relocate_blocks-moved-requires-clause-few
relocate_blocks-moved-requires-clause-few g c =
    let store = subst (λ (v : StoreOf _). IsStore (fields_of g.B.Blocks.log v)) (sym c.self.view_is) c.requires.store in
    let here = subst (λ (v : StoreOf _). row_of v.rows c.args.object ≡ Some c.args.row.now) (sym c.self.view_is) c.requires.row in
    pointers_few (g.B.Blocks.log c.self.inside.table).held c.args.object c.args.row.now c.self.inside.latest (store.objects c.args.object c.args.row.now here) (store.few c.args.object c.args.row.now here)

pub returns : goal.returns
returns g c =
    let at = goal.at.returns g c in
    let relocates = made g at.After-change (sound g at.After-relocate_blocks-moved) (there g at.After-relocate_blocks-moved) in
    let later = next_store (opened g.B.Blocks.log c.self.inside) c.change.new.self.rows (g.B.Blocks.log c.relocate_blocks-moved.new.table) in
    subst (λ (v : StoreOf _). RelocatesIn (fields_of g.B.Blocks.log v) c.args.object c.args.row.now c.args.copies.now later) c.self.view_is relocates

pub invariant_of-self : goal.invariant_of-self
invariant_of-self g c =
    let at = goal.at.invariant_of-self g c in
    let o = c.args.object in
    let row = c.args.row.now in
    let s = opened g.B.Blocks.log c.self.inside in
    let log = g.B.Blocks.log c.relocate_blocks-moved.new.table in
    let later = next_store s c.change.new.self.rows log in
    let r = c.relocate_blocks-moved.result.renaming in
    let beside : Present = record { inode = c.rename_inode.new.inode; index = c.index_of.result } in
    let next : Row = record c.relocate_blocks-moved.result.row { stamp = row.stamp + 1 } in
    let here = there g at.After-relocate_blocks-moved in
    let puts = put g at.After-change here in
    let relocates = made g at.After-change (sound g at.After-relocate_blocks-moved) here in
    let by = renaming_by c.args.copies.now s.log.ahead in
    let exact : r ≡ by = c.relocate_blocks-moved.ensures.moved.exact in
    let present = c.in-Some.inode in
    let is : Some present ≡ inode_in s o s.latest = subst (λ (v : StoreOf _). Some present ≡ inode_in (fields_of g.B.Blocks.log v) o v.latest) (sym c.self.view_is) (sym c.in-Some.is ∙ c.copied.ensures ∙ c.present.ensures) in
    let renamed : c.rename_inode.new.inode ≡ renamed_inode by present = c.rename_inode.ensures.exact ∙ ap (λ (x : RenamingFields). renamed_inode x present) exact in
    let after = subst (λ (i : Inode). (q : ℕ) → inode_beside c.change.new.self.values q ≡ with_value (inode_beside c.self.inside.objects.values) o i q) renamed (inode_put c.self.inside.objects.values c.change.new.self.values o beside puts.values) in
    record {
      inodes = renamed_beside o s.latest by present (inode_beside c.self.inside.objects.values) (inode_beside c.change.new.self.values) s later is after c.self.invariant.inodes relocates.inodes;
      indexes = replaced_indexed s later o next (renamed_entries r (entries_of s.log.held o row)) beside c.self.inside.objects.values c.change.new.self.values
          puts.rows relocates.relocated.others c.relocate_blocks-moved.ensures.moved.journal (subst (λ (es : List _). IsIndexOf c.index_of.result es) (c.as_slice.ensures.value ∙ c.relocate_blocks-moved.ensures.entries) c.index_of.ensures) puts.values c.self.invariant.indexes;
      cached = put_true s.log.held log.held s.rows c.change.new.self.rows o next c.self.inside.cache.pairs (λ old same. let is : old.stamp ≡ row.stamp = ap (λ (x : Row). x.stamp) (same_Some old row (sym same ∙ here)) in omega (arith, is))
          puts.rows (λ q other. same_checkpoints q s.log.held log.held (relocates.relocated.others Checkpoint q other) (relocates.relocated.others Pointers q other)) c.self.invariant.cached;
    }
