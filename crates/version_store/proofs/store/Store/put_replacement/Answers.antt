-- The store's facts are those of the opened store; what is to be shown is of the store as it was passed.
use Rattle.std.proofs.Common.{◌≡◌, ℕ, ◌≤◌, ◌<◌, ◌+◌, ◌^◌, List, length, Option, Some, IfSome, refl, sym, ap, subst, ◌∙◌, arith}
use Rattle.std.proofs.lemmas.Option.{same_Some}
use Rattle.std.specs.List.{All}
use Rattle.std.proofs.lemmas.List.{length-append}
use Rattle.s4_types.specs.Pointer.{Place}
use Rattle.block_log.specs.Taken.{TakesPlaces}
use Rattle.block_log.specs.Log.{Log}
use Rattle.block_log.specs.declared.kinds.BlockKind.TheVariants.{Journal, Checkpoint, Pointers}
use Rattle.codec.specs.declared.inodes.Inode.{Inode}
use Rattle.s4_types.specs.declared.limits.TheConstants.{OBJECT_BLOCKS}
use Rattle.object_map.specs.declared.map.Row.{Row}
use Rattle.object_map.specs.Objects.{Puts}
use Rattle.object_map.specs.Rows.{row_of}
use Rattle.checkpoint.proofs.OwnBlocks.{same_checkpoints}
use Rattle.version_store.specs.Store.{IsLed, StoreOf, IsStore, fields_of, pointers_named, pointers_of, sides_told}
use Rattle.version_store.specs.Replacing.{CanReplace, inode_led, pointers_told}
use Rattle.row_changes.specs.Rewritten.{rewritten_blocks}
use Rattle.version_store.specs.private.Recounting.{Recounts}
use Rattle.version_store.specs.private.Replacing.{Replaces}
use Rattle.time_read.specs.declared.presents.Present.{Present}
use Rattle.version_store.specs.private.Beside.{inode_beside}
use Rattle.version_store.proofs.Beside.{inode_put, replaced_indexed}
use Rattle.version_store.proofs.Spending.{none_more}
use Rattle.version_store.proofs.CheckpointSteps.{next_store}
use Rattle.version_store.proofs.Cached.{put_true}
use Rattle.version_store.proofs.Named.{recounts_data}
use Rattle.version_store.proofs.Recounted.{all_led, told_few, told_led}
use Rattle.version_store.proofs.Asides.{store_few}
use Rattle.version_store.proofs.Telling.{led_there}
use Rattle.version_store.proofs.Inside.{opened}
use Rattle.version_store.proofs.Replaced.{Asked, known, swapped, replaced, replaced_counts, led_later, kept_beside}
use Rattle.version_store.proofs.store.Store.put_replacement.Given.{Over}
use Rattle.version_store.proofs.store.Store.put_replacement.Goals.{After-last_entry-moment, After-recount, After-change}
use Rattle.version_store.proofs.store.Store.put_replacement.Goals as goal

-- what is asked of the store, opened
asked : (g : Over) (c : After-last_entry-moment g) → Asked (opened g.B.Blocks.log c.self.inside) c.args.object c.args.row.now c.args.present.now c.args.entries.now c.last_entry-moment.result c.args.pointers.now
asked g c =
    let o = c.args.object in
    let row = c.args.row.now in
    let present = c.args.present.now in
    let entries = c.args.entries.now in
    let store = subst (λ (v : StoreOf _). IsStore (fields_of g.B.Blocks.log v)) (sym c.self.view_is) c.requires.store in
    let there = subst (λ (v : StoreOf _). row_of v.rows o ≡ Some row) (sym c.self.view_is) c.requires.row in
    let can = subst (λ (v : StoreOf _). CanReplace (fields_of g.B.Blocks.log v) o row present entries) (sym c.self.view_is) c.requires.can in
    record {
      store = store;
      can = can;
      know = known c.what_changes_rest_on.ensures.done c.what_changes_rest_on.ensures.end (opened g.B.Blocks.log c.self.inside) o row present entries c.last_entry-moment.result store there can c.last_entry-moment.ensures.moment;
      are = subst (λ (v : StoreOf _). c.args.pointers.now ≡ pointers_named (g.B.Blocks.log v.table).held o row) (sym c.self.view_is) c.requires.pointers;
    }

-- the object's data has the names of the new row, and no more those of the old one
counted : (g : Over) (c : After-recount g) → c.args.pointers.now ≡ pointers_named (g.B.Blocks.log c.self.inside.table).held c.args.object c.args.row.now
    → Recounts c.args.object (g.B.Blocks.log c.self.inside.table) (pointers_told c.args.present.now c.args.entries.now) (pointers_named (g.B.Blocks.log c.self.inside.table).held c.args.object c.args.row.now) (g.B.Blocks.log c.recount.new.table)
counted g c are =
    let o = c.args.object in
    let log = g.B.Blocks.log c.self.inside.table in
    let between = g.B.Blocks.log c.recount.new.table in
    subst (λ (xs : List (Option Place)). Recounts o log (pointers_told c.args.present.now c.args.entries.now) xs between) are
    (subst (λ (xs : List (Option Place)). Recounts o log xs c.args.pointers.now between) c.requires.told
    (subst (λ (l : Log). Recounts o l c.args.told.now c.args.pointers.now between) c.last_entry-moment.ensures.same c.recount.ensures))

-- the map has the new row, and beside it the inode and the index of the entries
put : (g : Over) (c : After-change g) → row_of c.self.inside.objects.rows c.args.object ≡ Some c.args.row.now
    → Puts c.self.inside.objects c.args.object (record c.rewrite_blocks-next.result { stamp = c.args.row.now.stamp + 1 }) (record { inode = c.args.present.now; index = c.index_of.result }) c.change.new.self
put g c there =
    let beside : Present = record { inode = c.args.present.now; index = c.index_of.result } in
    subst (λ (r : Option Row). IfSome r (λ old. Puts c.self.inside.objects c.args.object (record c.rewrite_blocks-next.result { stamp = old.stamp + 1 }) beside c.change.new.self)) there c.change.ensures.changed

-- the object's journal is replaced
made : (g : Over) (c : After-change g) → Asked (opened g.B.Blocks.log c.self.inside) c.args.object c.args.row.now c.args.present.now c.args.entries.now c.last_entry-moment.result c.args.pointers.now
    → Recounts c.args.object (g.B.Blocks.log c.self.inside.table) (pointers_told c.args.present.now c.args.entries.now) (pointers_named (g.B.Blocks.log c.self.inside.table).held c.args.object c.args.row.now) (g.B.Blocks.log c.recount.new.table)
    → Replaces (opened g.B.Blocks.log c.self.inside) c.args.object c.args.row.now c.args.present.now c.args.entries.now (next_store (opened g.B.Blocks.log c.self.inside) c.change.new.self.rows (g.B.Blocks.log c.rewrite_blocks-next.new.table))
made g c asks counts =
    let o = c.args.object in
    let row = c.args.row.now in
    let present = c.args.present.now in
    let entries = c.args.entries.now in
    let m = c.last_entry-moment.result in
    let rest = c.what_changes_rest_on.ensures in
    let s = opened g.B.Blocks.log c.self.inside in
    let between = g.B.Blocks.log c.recount.new.table in
    let log = g.B.Blocks.log c.rewrite_blocks-next.new.table in
    let told = asks.store.counted o row asks.know.there in
    let swaps = swapped rest.one_place s.log between log.held o row present entries told counts c.rewrite_blocks-next.ensures.others in
    let writes = c.rewrite_blocks-next.ensures.rewritten in
    let takes = subst (λ (n : ℕ). TakesPlaces n s.log log) (none_more (rewritten_blocks present entries)) (rest.places_add_up 0 (rewritten_blocks present entries) s.log between log counts.takes c.rewrite_blocks-next.ensures.takes) in
    let room = subst (λ (v : StoreOf _). rewritten_blocks present entries ≤ length (g.B.Blocks.log v.table).ahead) (sym c.self.view_is) c.requires.room in
    replaced rest
    s c.change.new.self.rows log o row c.rewrite_blocks-next.result present entries m asks.store asks.can asks.know c.last_entry-moment.ensures.moment swaps writes takes room (put g c asks.know.there).rows
    (replaced_counts s.log between log o row c.rewrite_blocks-next.result present entries m told counts c.rewrite_blocks-next.ensures.others c.rewrite_blocks-next.ensures.named c.names.ensures writes asks.know.last)

pub recount-requires : goal.recount-requires
recount-requires g c =
    let o = c.args.object in
    let present = c.args.present.now in
    let entries = c.args.entries.now in
    let s = opened g.B.Blocks.log c.self.inside in
    let asks = asked g (goal.at.recount-requires g c).After-last_entry-moment in
    let know = asks.know in
    let same = sym c.last_entry-moment.ensures.same in
    record {
      more = subst (λ (l : Log). All (IsLed l.held o) c.args.told.now) same (subst (λ (xs : List (Option Place)). All (IsLed s.log.held o) xs) (sym c.requires.told)
          (told_led s.log.held o (pointers_told present entries) (λ p told. led_there s.log.held o (pointers_of s.log.held o c.args.row.now) p know.object.led (asks.can.pointers p told))));
      fewer = subst (λ (l : Log). All (IsLed l.held o) c.args.pointers.now) same (subst (λ (xs : List (Option Place)). All (IsLed s.log.held o) xs) (sym asks.are) (all_led s.log.held o c.args.row.now know.object.stands know.object.led));
      room = subst (λ (l : Log). (p : Place) → l.named p + length c.args.told.now < 2 ^ 32) same (λ p.
          let few = store_few s asks.store p in
          let is : length c.args.told.now ≡ length (pointers_told present entries) = ap length c.requires.told in
          let joined = length-append present.pointers (sides_told entries) in
          let count : length present.pointers ≡ OBJECT_BLOCKS = ap (λ (i : Inode). length i.pointers) (sym know.last) ∙ (asks.can.tidy c.last_entry-moment.result).count in
          let told = told_few entries in
          let bytes = asks.can.bytes in
          omega (arith, few, is, joined, count, told, bytes));
    }

pub rewrite_blocks-next-requires-clause-row : goal.rewrite_blocks-next-requires-clause-row
rewrite_blocks-next-requires-clause-row g c =
    let o = c.args.object in
    let row = c.args.row.now in
    let log = g.B.Blocks.log c.self.inside.table in
    let between = g.B.Blocks.log c.recount.new.table in
    let asks = asked g (goal.at.rewrite_blocks-next-requires-clause-row g c).After-last_entry-moment in
    let counts = counted g (goal.at.rewrite_blocks-next-requires-clause-row g c).After-recount asks.are in
    let others = recounts_data o log between (pointers_told c.args.present.now c.args.entries.now) (pointers_named log.held o row) counts in
    c.what_changes_rest_on.ensures.row log.held between.held o row (others Journal o refl) (same_checkpoints o log.held between.held (others Checkpoint o refl) (others Pointers o refl)) asks.know.object.stands

pub rewrite_blocks-next-requires-clause-rules : goal.rewrite_blocks-next-requires-clause-rules
rewrite_blocks-next-requires-clause-rules g c = (asked g (goal.at.rewrite_blocks-next-requires-clause-rules g c).After-last_entry-moment).know.rules

pub returns : goal.returns
returns g c =
    let asks = asked g (goal.at.returns g c).After-last_entry-moment in
    let replaces = made g c asks (counted g (goal.at.returns g c).After-recount asks.are) in
    let later = next_store (opened g.B.Blocks.log c.self.inside) c.change.new.self.rows (g.B.Blocks.log c.rewrite_blocks-next.new.table) in
    subst (λ (v : StoreOf _). Replaces (fields_of g.B.Blocks.log v) c.args.object c.args.row.now c.args.present.now c.args.entries.now later) c.self.view_is replaces

pub invariant_of-self : goal.invariant_of-self
invariant_of-self g c =
    let o = c.args.object in
    let row = c.args.row.now in
    let present = c.args.present.now in
    let entries = c.args.entries.now in
    let rest = c.what_changes_rest_on.ensures in
    let s = opened g.B.Blocks.log c.self.inside in
    let log = g.B.Blocks.log c.rewrite_blocks-next.new.table in
    let later = next_store s c.change.new.self.rows log in
    let beside : Present = record { inode = present; index = c.index_of.result } in
    let next : Row = record c.rewrite_blocks-next.result { stamp = row.stamp + 1 } in
    let asks = asked g (goal.at.invariant_of-self g c).After-last_entry-moment in
    let replaces = made g c asks (counted g (goal.at.invariant_of-self g c).After-recount asks.are) in
    let puts = put g c asks.know.there in
    record {
      inodes = kept_beside o (inode_beside c.self.inside.objects.values) (inode_beside c.change.new.self.values) present c.self.inside.latest s later (λ t. inode_led present entries t)
          (led_later rest.done rest.end s o row present entries c.last_entry-moment.result asks.know asks.can)
          (inode_put c.self.inside.objects.values c.change.new.self.values o beside puts.values) c.self.invariant.inodes replaces.inodes;
      indexes = replaced_indexed s later o next entries beside c.self.inside.objects.values c.change.new.self.values
          puts.rows replaces.replaced.others c.rewrite_blocks-next.ensures.rewritten.entries_are c.index_of.ensures puts.values c.self.invariant.indexes;
      cached = put_true s.log.held log.held s.rows c.change.new.self.rows o next c.self.inside.cache.pairs (λ old is. let same : old.stamp ≡ row.stamp = ap (λ (r : Row). r.stamp) (same_Some old row (sym is ∙ asks.know.there)) in omega (arith, same))
          puts.rows (λ q other. same_checkpoints q s.log.held log.held (replaces.replaced.others Checkpoint q other) (replaces.replaced.others Pointers q other)) c.self.invariant.cached;
    }
