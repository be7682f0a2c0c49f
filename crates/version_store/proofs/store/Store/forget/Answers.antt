-- The store's facts are those of the opened store; what is to be shown is of the store as it was passed.
use Rattle.std.proofs.Common.{◌≡◌, ◌==◌, cond, List, Option, Some, None, refl, sym, ap, subst, ◌∙◌, arith}
use Rattle.std.specs.List.{All}
use Rattle.s4_types.specs.Pointer.{Place}
use Rattle.codec.specs.declared.inodes.Inode.{Inode}
use Rattle.checkpoint.specs.Cached.{CachedInodes}
use Rattle.version_store.specs.Store.{IsLed, IsNamedBy, StoreOf, StoreFields, IsStore, fields_of, pointers_named}
use Rattle.object_map.specs.Rows.{row_of}
use Rattle.version_store.specs.Replacing.{IsRemoved}
use Rattle.version_store.specs.private.Replacing.{Removes}
use Rattle.version_store.proofs.Beside.{gone_inode, removed_indexed}
use Rattle.version_store.proofs.CheckpointSteps.{next_store}
use Rattle.version_store.proofs.Recounted.{all_led}
use Rattle.version_store.proofs.Asides.{store_few}
use Rattle.version_store.proofs.Replacing.{removed}
use Rattle.version_store.proofs.Cached.{none_true}
use Rattle.version_store.proofs.store.Store.forget.Goals as goal

pub drop_all-requires : goal.drop_all-requires
drop_all-requires g c =
    let s : StoreFields = record { rows = c.self.inside.objects.rows; log = g.B.Blocks.log c.self.inside.table; latest = c.self.inside.latest } in
    let o = c.args.object in
    let row = c.args.row.now in
    let store = subst (λ (v : StoreOf _). IsStore (fields_of g.B.Blocks.log v)) (sym c.self.view_is) c.requires.store in
    let there = subst (λ (v : StoreOf _). row_of v.rows o ≡ Some row) (sym c.self.view_is) c.requires.row in
    let pointers = subst (λ (v : StoreOf _). c.args.pointers.now ≡ pointers_named (g.B.Blocks.log v.table).held o row) (sym c.self.view_is) c.requires.pointers in
    let object = store.objects o row there in
    record {
      row = object.stands;
      led = subst (λ (xs : List (Option Place)). All (IsLed s.log.held o) xs) (sym pointers) (all_led s.log.held o row object.stands object.led);
      named = subst (λ (xs : List (Option Place)). IsNamedBy o s.log xs) (sym pointers) (store.counted o row there);
      room = λ p. let few = store_few s store p in omega (arith, few);
    }

pub returns : goal.returns
returns g c =
    let s : StoreFields = record { rows = c.self.inside.objects.rows; log = g.B.Blocks.log c.self.inside.table; latest = c.self.inside.latest } in
    let log = g.B.Blocks.log c.drop_all.new.table in
    let store = subst (λ (v : StoreOf _). IsStore (fields_of g.B.Blocks.log v)) (sym c.self.view_is) c.requires.store in
    let gone : IsRemoved s c.args.object (next_store s c.remove.new.self.rows log) = record { rows = c.remove.ensures.rows; nothing = c.drop_all.ensures.nothing; others = c.drop_all.ensures.others; takes = c.drop_all.ensures.takes; latest = refl } in
    subst (λ (v : StoreOf _). Removes (fields_of g.B.Blocks.log v) c.args.object (next_store s c.remove.new.self.rows log)) c.self.view_is
    (removed c.what_changes_rest_on.ensures
    s c.remove.new.self.rows log c.args.object store gone c.drop_all.ensures.names)

pub invariant_of-self : goal.invariant_of-self
invariant_of-self g c =
    let s : StoreFields = record { rows = c.self.inside.objects.rows; log = g.B.Blocks.log c.self.inside.table; latest = c.self.inside.latest } in
    let log = g.B.Blocks.log c.drop_all.new.table in
    let store = subst (λ (v : StoreOf _). IsStore (fields_of g.B.Blocks.log v)) (sym c.self.view_is) c.requires.store in
    let gone : IsRemoved s c.args.object (next_store s c.remove.new.self.rows log) = record { rows = c.remove.ensures.rows; nothing = c.drop_all.ensures.nothing; others = c.drop_all.ensures.others; takes = c.drop_all.ensures.takes; latest = refl } in
    let made = removed c.what_changes_rest_on.ensures
    s c.remove.new.self.rows log c.args.object store gone c.drop_all.ensures.names in
    record {
      inodes = λ q. gone_inode c.self.inside.objects.values c.remove.new.self.values c.args.object c.remove.ensures.values q ∙ ap (λ (i : Option Inode). cond (c.args.object == q) None i) (c.self.invariant.inodes q) ∙ sym (made.inodes q c.self.inside.latest);
      indexes = removed_indexed s (next_store s c.remove.new.self.rows log) c.args.object c.self.inside.objects.values c.remove.new.self.values gone c.remove.ensures.values c.self.invariant.indexes;
      cached = none_true log.held c.remove.new.self.rows c.clear.new.self.pairs (ap (λ (cache : CachedInodes). cache.pairs) c.clear.ensures);
    }
