-- The row's facts are those of the opened store; what is to be shown is of the store as it was passed.
use Rattle.std.proofs.Common.{◌≡◌, ◌+◌, ℕ, List, length, Option, Some, IfSome, IsSome, refl, sym, ap, subst, ◌∙◌, arith}
use Rattle.std.proofs.lemmas.Option.{same_Some}
use Rattle.std.specs.List.{All}
use Rattle.std.specs.Prelude.{option_map, option_copied}
use Rattle.s4_types.specs.Pointer.{Place}
use Rattle.s4_types.specs.declared.limits.TheConstants.{OBJECT_BLOCKS}
use Rattle.std.specs.Option.{option_to_list}
use Rattle.object_map.specs.Sides.{side_gone}
use Rattle.block_log.specs.declared.kinds.BlockKind.TheVariants.{Checkpoint, Data, Pointers}
use Rattle.block_log.specs.Log.{Log, of_kind}
use Rattle.block_log.specs.Taken.{TakesPlaces}
use Rattle.codec.specs.declared.inodes.Inode.{Inode}
use Rattle.checkpoint.specs.Held.{checkpoint_blocks}
use Rattle.object_map.specs.declared.map.Row.{Row}
use Rattle.object_map.specs.Objects.{PutsRow}
use Rattle.object_map.specs.Rows.{row_of}
use Rattle.object_map.specs.declared.sides.Side.{Side}
use Rattle.time_read.specs.Rows.{IsRow, inode_of}
use Rattle.row_changes.specs.Recent.{IsBy}
use Rattle.checkpoint.proofs.OwnBlocks.{same_checkpoints}
use Rattle.version_store.specs.Store.{IsLed, StoreOf, fields_of, pointers_of_sides}
use Rattle.version_store.specs.private.CheckpointSteps.{CanCheckpoint, Checkpointed}
use Rattle.version_store.specs.private.Names.{pointers_in}
use Rattle.version_store.specs.private.Recounting.{Recounts}
use Rattle.version_store.proofs.Beside.{checkpointed_indexed}
use Rattle.version_store.proofs.Inside.{opened}
use Rattle.version_store.proofs.CheckpointSteps.{Known, Rewrites, known, rewritten, next_store}
use Rattle.version_store.proofs.Cached.{put_true}
use Rattle.version_store.proofs.Asides.{Written, checkpointed_counts, checkpointed_held, gone_led, inode_pointers_led, rewrites_on, store_few}
use Rattle.version_store.proofs.Telling.{leads_later}
use Rattle.version_store.proofs.store.Store.put_checkpoint.Given.{Over}
use Rattle.version_store.proofs.store.Store.put_checkpoint.Goals.{After-inode_gone-gone, In-Ok, After-as_ref, After-change_row}
use Rattle.version_store.proofs.store.Store.put_checkpoint.Goals as goal

-- what is asked holds of the opened store
can : (g : Over) (c : After-inode_gone-gone g) → CanCheckpoint (opened g.B.Blocks.log c.self.inside) c.args.object c.args.row.now c.args.inode.now c.args.moment
can g c = subst (λ (v : StoreOf _). CanCheckpoint (fields_of g.B.Blocks.log v) c.args.object c.args.row.now c.args.inode.now c.args.moment) (sym c.self.view_is) c.requires

know : (g : Over) (c : After-inode_gone-gone g) → Known (opened g.B.Blocks.log c.self.inside) c.args.object c.args.row.now c.args.inode.now c.args.moment
know g c =
    let rest = c.what_changes_rest_on.ensures in
    known rest.groups_ascend rest.making rest.checkpoint_blocks (opened g.B.Blocks.log c.self.inside) c.args.object c.args.row.now c.args.inode.now c.args.moment (can g c)

-- the older checkpoints that go
abbrev gone_of : Row → List Side
gone_of row = option_to_list (side_gone row.sides row.checkpoint)

-- the checkpoint is written
written : (g : Over) (c : In-Ok g) → CanCheckpoint (opened g.B.Blocks.log c.self.inside) c.args.object c.args.row.now c.args.inode.now c.args.moment
    → Known (opened g.B.Blocks.log c.self.inside) c.args.object c.args.row.now c.args.inode.now c.args.moment
    → Written (opened g.B.Blocks.log c.self.inside) (g.B.Blocks.log c.record_checkpoint.new.table) c.args.object c.args.row.now c.in-Ok.next c.args.inode.now c.args.moment (gone_of c.args.row.now)
written g c able knows =
    let s = opened g.B.Blocks.log c.self.inside in
    let log = g.B.Blocks.log c.record_checkpoint.new.table in
    let o = c.args.object in
    let row = c.args.row.now in
    let m = c.args.moment in
    let same = c.inode_gone-gone.ensures.same in
    let first : Rewrites (record s { log = g.B.Blocks.log c.inode_gone-gone.new.table }) log o row c.in-Ok.next m = record {
      stands = c.in-Ok.ensures.row;
      by = c.in-Ok.ensures.latest;
      inode = c.in-Ok.ensures.inode;
      orderly = c.in-Ok.ensures.orderly;
      fields = c.in-Ok.ensures.fields;
      moved = c.in-Ok.ensures.moved;
      some = c.in-Ok.ensures.some;
      others = c.in-Ok.ensures.others;
      takes = subst (λ (k : Inode). TakesPlaces (checkpoint_blocks k) (g.B.Blocks.log c.inode_gone-gone.new.table) log) (knows.inode ∙ sym (ap (λ (l : Log). inode_of l.held o row m) same)) c.in-Ok.ensures.takes;
    } in
    record {
      store = able.store;
      there = able.there;
      writes = subst (λ (l : Log). Rewrites (record s { log = l }) log o row c.in-Ok.next m) same first;
      inode = knows.inode;
      named = c.record_checkpoint.ensures.named ∙ ap (λ (l : Log). l.named) same;
      all = c.inode_gone-gone.ensures.all;
    }

-- the pointers that lose a name
lose : (g : Over) (c : After-as_ref g) → pointers_in (option_copied c.as_ref.result) ≡ pointers_of_sides (g.B.Blocks.log c.self.inside.table).held c.args.object (gone_of c.args.row.now)
lose g c = ap pointers_in c.as_ref.ensures.value ∙ c.inode_gone-gone.ensures.gone

put : (g : Over) (c : After-change_row g) → row_of c.self.inside.objects.rows c.args.object ≡ Some c.args.row.now → PutsRow c.self.inside.objects c.args.object (record c.in-Ok.next { stamp = c.args.row.now.stamp + 1 }) c.change_row.new.self
put g c there = subst (λ (r : Option Row). IfSome r (λ old. PutsRow c.self.inside.objects c.args.object (record c.in-Ok.next { stamp = old.stamp + 1 }) c.change_row.new.self)) there c.change_row.ensures.changed

-- the object has its checkpoint, and the names are counted
made : (g : Over) (c : After-change_row g) → CanCheckpoint (opened g.B.Blocks.log c.self.inside) c.args.object c.args.row.now c.args.inode.now c.args.moment
    → Known (opened g.B.Blocks.log c.self.inside) c.args.object c.args.row.now c.args.inode.now c.args.moment
    → Written (opened g.B.Blocks.log c.self.inside) (g.B.Blocks.log c.record_checkpoint.new.table) c.args.object c.args.row.now c.in-Ok.next c.args.inode.now c.args.moment (gone_of c.args.row.now)
    → pointers_in (option_copied c.as_ref.result) ≡ pointers_of_sides (g.B.Blocks.log c.self.inside.table).held c.args.object (gone_of c.args.row.now)
    → Rewrites (opened g.B.Blocks.log c.self.inside) (g.B.Blocks.log c.count_checkpoint.new.table) c.args.object c.args.row.now c.in-Ok.next c.args.moment
    × Checkpointed (opened g.B.Blocks.log c.self.inside) c.args.object c.args.row.now (next_store (opened g.B.Blocks.log c.self.inside) c.change_row.new.self.rows (g.B.Blocks.log c.count_checkpoint.new.table))
made g c able knows writes pointers =
    let s = opened g.B.Blocks.log c.self.inside in
    let log = g.B.Blocks.log c.record_checkpoint.new.table in
    let after = g.B.Blocks.log c.count_checkpoint.new.table in
    let o = c.args.object in
    let row = c.args.row.now in
    let next = c.in-Ok.next in
    let i = c.args.inode.now in
    let m = c.args.moment in
    let rest = c.what_changes_rest_on.ensures in
    let counts : Recounts o log i.pointers (pointers_of_sides s.log.held o (gone_of row)) after =
    subst (λ (xs : List (Option Place)). Recounts o log i.pointers xs after) pointers c.count_checkpoint.ensures in
    let held = checkpointed_held s log o row next i m (gone_of row) writes after rest.one_place counts in
    let later : Rewrites s after o row next m = rewrites_on rest.places_add_up s log after o row next m held counts.takes writes.writes in
    (later, rewritten rest s c.change_row.new.self.rows after o row next i m able knows later (put g c able.there).rows (checkpointed_counts s log o row next i m (gone_of row) writes after rest.one_place counts))

pub inode_gone-gone-requires : goal.inode_gone-gone-requires
inode_gone-gone-requires g c =
    let able = subst (λ (v : StoreOf _). CanCheckpoint (fields_of g.B.Blocks.log v) c.args.object c.args.row.now c.args.inode.now c.args.moment) (sym c.self.view_is) c.requires in
    (able.store.objects c.args.object c.args.row.now able.there).stands

pub record_checkpoint-requires : goal.record_checkpoint-requires
record_checkpoint-requires g c =
    let knows = know g (goal.at.record_checkpoint-requires g c).After-inode_gone-gone in
    let same = sym c.inode_gone-gone.ensures.same in
    record {
      row = subst (λ (l : Log). IsRow l.held c.args.object c.args.row.now) same knows.stands;
      newer = knows.newer;
      latest = subst (λ (l : Log). IsBy l.held c.args.object c.args.row.now c.args.moment) same knows.by;
      inode = subst (λ (l : Log). c.args.inode.now ≡ inode_of l.held c.args.object c.args.row.now c.args.moment) same knows.inode;
      rules = knows.rules;
    }

pub count_checkpoint-requires : goal.count_checkpoint-requires
count_checkpoint-requires g c =
    let s = opened g.B.Blocks.log c.self.inside in
    let log = g.B.Blocks.log c.record_checkpoint.new.table in
    let o = c.args.object in
    let row = c.args.row.now in
    let i = c.args.inode.now in
    let able = can g (goal.at.count_checkpoint-requires g c).After-inode_gone-gone in
    let knows = know g (goal.at.count_checkpoint-requires g c).After-inode_gone-gone in
    let writes = written g (goal.at.count_checkpoint-requires g c).In-Ok able knows in
    let object = able.store.objects o row able.there in
    let pointers = lose g (goal.at.count_checkpoint-requires g c).After-as_ref in
    let there : (p : Place) → IsSome (of_kind Data o s.log.held p) → IsSome (of_kind Data o log.held p) = λ p some. subst (λ (view : Place → Option (List ℕ)). IsSome (view p)) (sym (writes.writes.others Data o refl)) some in
    record {
      pointers = leads_later s.log.held log.held o i.pointers there (subst (λ (k : Inode). All (IsLed s.log.held o) k.pointers) (sym knows.inode) (inode_pointers_led s.log.held o (inode_of s.log.held o row c.args.moment) (object.pointers c.args.moment)));
      gone = leads_later s.log.held log.held o (pointers_in (option_copied c.as_ref.result)) there (subst (λ (xs : List (Option Place)). All (IsLed s.log.held o) xs) (sym pointers) (gone_led s.log.held o row (gone_of row) object.stands object.led c.inode_gone-gone.ensures.all));
      room = λ p.
          let few = store_few s able.store p in
          let named : log.named p ≡ s.log.named p = ap (λ (n : Place → ℕ). n p) writes.named in
          let count : length i.pointers ≡ OBJECT_BLOCKS = ap (λ (k : Inode). length k.pointers) knows.inode ∙ (object.tidy c.args.moment).count in
          omega (arith, few, named, count);
    }

pub returns : goal.returns
returns g c =
    let able = can g (goal.at.returns g c).After-inode_gone-gone in
    let knows = know g (goal.at.returns g c).After-inode_gone-gone in
    let makes = made g c able knows (written g (goal.at.returns g c).In-Ok able knows) (lose g (goal.at.returns g c).After-as_ref) in
    subst (λ (v : StoreOf _). Checkpointed (fields_of g.B.Blocks.log v) c.args.object c.args.row.now (record { rows = c.change_row.new.self.rows; log = g.B.Blocks.log c.count_checkpoint.new.table; latest = c.self.inside.latest })) c.self.view_is makes.1

pub invariant_of-self : goal.invariant_of-self
invariant_of-self g c =
    let s = opened g.B.Blocks.log c.self.inside in
    let after = g.B.Blocks.log c.count_checkpoint.new.table in
    let o = c.args.object in
    let row = c.args.row.now in
    let able = can g (goal.at.invariant_of-self g c).After-inode_gone-gone in
    let knows = know g (goal.at.invariant_of-self g c).After-inode_gone-gone in
    let makes = made g c able knows (written g (goal.at.invariant_of-self g c).In-Ok able knows) (lose g (goal.at.invariant_of-self g c).After-as_ref) in
    let puts = put g c able.there in
    record {
      inodes = λ q. ap (option_map (λ p. p.inode)) (puts.values q) ∙ c.self.invariant.inodes q ∙ sym (makes.1.stands.inodes q c.self.inside.latest);
      indexes = checkpointed_indexed s (next_store s c.change_row.new.self.rows after) o row c.self.inside.objects.values c.change_row.new.self.values able.there makes.1.made puts.values c.self.invariant.indexes;
      cached = put_true s.log.held after.held s.rows c.change_row.new.self.rows o (record c.in-Ok.next { stamp = row.stamp + 1 }) c.self.inside.cache.pairs (λ old is. let same : old.stamp ≡ row.stamp = ap (λ (r : Row). r.stamp) (same_Some old row (sym is ∙ able.there)) in omega (arith, same))
          puts.rows (λ q other. same_checkpoints q s.log.held after.held (makes.0.others Checkpoint q other) (makes.0.others Pointers q other)) c.self.invariant.cached;
    }
