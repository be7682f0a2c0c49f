-- The row's facts are those of the opened store; what is to be shown is of the store as it was passed.
use Rattle.std.proofs.Common.{◌≡◌, ℕ, ◌+◌, ◌++◌, nat_le, if◌then◌else◌, List, Option, Some, IfSome, refl, sym, ap, subst, ◌∙◌, arith}
use Rattle.std.proofs.lemmas.Option.{same_Some}
use Rattle.std.specs.List.{All}
use Rattle.s4_types.specs.Pointer.{Place}
use Rattle.block_log.specs.declared.kinds.BlockKind.TheVariants.{Checkpoint, Pointers}
use Rattle.block_log.specs.Log.{Stored}
use Rattle.undo_redo.specs.Between.{entries_between}
use Rattle.journal_chain.specs.Chain.{OnlyJournalChanged}
use Rattle.codec.specs.Entry.{EntryFields, entries_length}
use Rattle.codec.specs.declared.inodes.Inode.{Inode}
use Rattle.journal_chain.specs.Push.{HasRoom, pushed_blocks}
use Rattle.time_read.specs.Rows.{chain_of, entries_of, inode_of}
use Rattle.object_map.specs.declared.map.Row.{Row}
use Rattle.object_map.specs.Objects.{with_value}
use Rattle.object_map.specs.Rows.{row_of}
use Rattle.checkpoint.proofs.OwnBlocks.{same_checkpoints}
use Rattle.version_store.specs.Store.{IsLed, StoreOf, StoreFields, fields_of, sides_told}
use Rattle.version_store.specs.private.Turning.{Turns, blocks_turned}
use Rattle.time_read.specs.Presents.{TurnsBeside}
use Rattle.version_store.specs.private.Beside.{inode_beside}
use Rattle.version_store.proofs.Beside.{inode_put, turned_indexed}
use Rattle.version_store.proofs.Steps.{Records}
use Rattle.version_store.proofs.Present.{turned_keeps}
use Rattle.version_store.specs.private.Recounting.{Recounts}
use Rattle.version_store.proofs.Cached.{put_true}
use Rattle.version_store.proofs.Recounted.{told_few, recounted_takes}
use Rattle.version_store.proofs.Inside.{opened}
use Rattle.version_store.proofs.Turning.{Asked, Recorded, asked, hand_led, open_few, recorded_of, records_of, turned, turned_counts, turned_held, turned_led}
use Rattle.version_store.proofs.store.Store.turn.Given.{Over}
use Rattle.version_store.proofs.store.Store.turn.Goals.{After-record_change-next, After-count_change, After-turn_beside}
use Rattle.version_store.proofs.store.Store.turn.Goals as goal

pub within-entries-requires-clause-lead : goal.within-entries-requires-clause-lead
within-entries-requires-clause-lead g c = c.requires.can.lead

pub record_change-next-requires-clause-bytes : goal.record_change-next-requires-clause-bytes
record_change-next-requires-clause-bytes g c = c.requires.bytes ∙ ap entries_length (sym c.within-entries.ensures)

-- what is asked of the store, opened
asks : (g : Over) (c : After-record_change-next g) → Asked (opened g.B.Blocks.log c.self.inside) c.args.object c.args.plan.now.inode.now c.args.after.now c.args.hand.now c.args.moment c.args.plan.now.row.now
asks g c =
    asked c.requires.laws.later c.requires.laws.last g.B.Blocks.log c.self.inside c.args.self.now c.args.object c.args.plan.now.inode.now c.args.after.now c.args.hand.now c.args.moment c.args.plan.now.row.now c.self.view_is c.requires.can c.requires.row

-- the entries are recorded
recorded : (g : Over) (c : After-record_change-next g)
    → Recorded (opened g.B.Blocks.log c.self.inside) (g.B.Blocks.log c.record_change-next.new.table) c.args.object c.args.plan.now.row.now c.record_change-next.result (entries_between c.args.plan.now.inode.now c.args.after.now c.args.moment) c.args.after.now c.args.hand.now c.args.moment
recorded g c =
    let made = c.record_change-next.ensures in
    let asking = asks g c in
    recorded_of (opened g.B.Blocks.log c.self.inside) (g.B.Blocks.log c.record_change-next.new.table) c.args.object c.args.plan.now.inode.now c.args.after.now c.args.hand.now c.args.moment c.args.plan.now.row.now c.record_change-next.result
    asking.can asking.there made.inode made.entries made.fields made.others made.named

-- and the blocks have their names
counts : (g : Over) (c : After-count_change g) → Recounts c.args.object (g.B.Blocks.log c.record_change-next.new.table) (sides_told (entries_between c.args.plan.now.inode.now c.args.after.now c.args.moment)) c.args.hand.now (g.B.Blocks.log c.count_change.new.table)
counts g c = subst (λ (es : List EntryFields). Recounts c.args.object (g.B.Blocks.log c.record_change-next.new.table) (sides_told es) c.args.hand.now (g.B.Blocks.log c.count_change.new.table)) c.within-entries.ensures c.count_change.ensures

-- the map has the new row, and beside it the inode and the index
turns : (g : Over) (c : After-turn_beside g) → row_of c.self.inside.objects.rows c.args.object ≡ Some c.args.plan.now.row.now
    → TurnsBeside c.self.inside.objects c.args.object (record c.record_change-next.result { stamp = c.args.plan.now.row.now.stamp + 1 }) c.args.after.now c.within-entries.result c.turn_beside.new.objects
turns g c here = subst (λ (r : Option Row). IfSome r (λ old. TurnsBeside c.self.inside.objects c.args.object (record c.record_change-next.result { stamp = old.stamp + 1 }) c.args.after.now c.within-entries.result c.turn_beside.new.objects)) here c.turn_beside.ensures

pub record_change-next-requires-clause-earlier : goal.record_change-next-requires-clause-earlier
record_change-next-requires-clause-earlier g c =
    (asked c.requires.laws.later c.requires.laws.last g.B.Blocks.log c.self.inside c.args.self.now c.args.object c.args.plan.now.inode.now c.args.after.now c.args.hand.now c.args.moment c.args.plan.now.row.now c.self.view_is c.requires.can c.requires.row).know.earlier

pub record_change-next-requires-clause-room : goal.record_change-next-requires-clause-room
record_change-next-requires-clause-room g c =
    subst (HasRoom (chain_of c.args.object c.args.plan.now.row.now) (g.B.Blocks.log c.self.inside.table).ahead) (sym c.within-entries.ensures)
    (asked c.requires.laws.later c.requires.laws.last g.B.Blocks.log c.self.inside c.args.self.now c.args.object c.args.plan.now.inode.now c.args.after.now c.args.hand.now c.args.moment c.args.plan.now.row.now c.self.view_is c.requires.can c.requires.row).know.room

pub count_change-requires : goal.count_change-requires
count_change-requires g c =
    let at = goal.at.count_change-requires g c in
    let s = opened g.B.Blocks.log c.self.inside in
    let log = g.B.Blocks.log c.record_change-next.new.table in
    let i = c.args.plan.now.inode.now in
    let j = c.args.after.now in
    let made = c.record_change-next.ensures in
    let asking = asks g at.After-record_change-next in
    record {
      told = subst (λ (es : List EntryFields). All (IsLed log.held c.args.object) (sides_told es)) (sym c.within-entries.ensures)
          (turned_led s log c.args.object i j c.args.hand.now c.args.moment c.args.plan.now.row.now c.record_change-next.result c.requires.laws.entry_pointers asking.can asking.there made.others);
      hand = hand_led s log c.args.object c.args.plan.now.row.now c.record_change-next.result (entries_between i j c.args.moment) j c.args.hand.now c.args.moment (recorded g at.After-record_change-next);
      room = λ p.
          let few = open_few s c.args.object j c.args.hand.now asking.can.store p in
          let named : log.named p ≡ s.log.named p = ap (λ (named : Place → ℕ). named p) made.named in
          let short = told_few c.within-entries.result in
          let room = asking.know.room.bytes in
          let all : entries_length c.within-entries.result ≡ entries_length (entries_between i j c.args.moment) = ap entries_length c.within-entries.ensures in
          omega (arith, few, named, short, room, all);
    }

pub returns : goal.returns
returns g c =
    let at = goal.at.returns g c in
    let s = opened g.B.Blocks.log c.self.inside in
    let log = g.B.Blocks.log c.record_change-next.new.table in
    let rest = c.requires.laws in
    let o = c.args.object in
    let m = c.args.moment in
    let row = c.args.plan.now.row.now in
    let before = c.args.plan.now.inode.now in
    let after = c.args.after.now in
    let hand = c.args.hand.now in
    let next = c.record_change-next.result in
    let made = c.record_change-next.ensures in
    let asking = asks g at.After-record_change-next in
    let record_is = recorded g at.After-record_change-next in
    let counting = counts g at.After-count_change in
    let entries = entries_between before after m in
    let later : StoreFields = record { rows = c.turn_beside.new.objects.rows; log = g.B.Blocks.log c.count_change.new.table; latest = m } in
    let records : Records s.log.held later.log.held o row next after m =
    subst (λ (view : Place → Option Stored). Records s.log.held view o row next after m) (sym (turned_held s log o row next entries after hand m record_is later.log rest.one_place counting))
    (records_of s log.held o before after hand m row next rest.entry_pointers rest.entry_moments asking.can asking.there rest.orderly made.made made.orderly made.row made.latest made.inode made.entries made.fields made.others) in
    let takes = recounted_takes rest.places_add_up (pushed_blocks (chain_of o row) entries) s.log log later.log made.takes counting.takes in
    subst (λ (v : StoreOf _). Turns (fields_of g.B.Blocks.log v) o m after (blocks_turned (fields_of g.B.Blocks.log v) o before after m) later) c.self.view_is
    (turned rest s later o m before after hand row next asking.can asking.there asking.know refl records made.fields (turns g at.After-turn_beside asking.there).put.rows takes
    (turned_counts s log o row next entries after hand m record_is later.log rest.one_place counting))

pub invariant_of-self : goal.invariant_of-self
invariant_of-self g c =
    let at = goal.at.invariant_of-self g c in
    let s = opened g.B.Blocks.log c.self.inside in
    let rest = c.requires.laws in
    let o = c.args.object in
    let m = c.args.moment in
    let row = c.args.plan.now.row.now in
    let after = c.args.after.now in
    let next = c.record_change-next.result in
    let made = c.record_change-next.ensures in
    let asking = asks g at.After-record_change-next in
    let later : StoreFields = record { rows = c.turn_beside.new.objects.rows; log = g.B.Blocks.log c.count_change.new.table; latest = m } in
    let held = turned_held s (g.B.Blocks.log c.record_change-next.new.table) o row next (entries_between c.args.plan.now.inode.now after m) after c.args.hand.now m (recorded g at.After-record_change-next) later.log rest.one_place (counts g at.After-count_change) in
    let less = asking.can.later in
    let turning = turns g at.After-turn_beside asking.there in
    let inodes = subst (λ (i : Inode). (q : ℕ) → inode_beside c.turn_beside.new.objects.values q ≡ with_value (inode_beside c.self.inside.objects.values) o i q) turning.inode
    (inode_put c.self.inside.objects.values c.turn_beside.new.objects.values o turning.present turning.put.values) in
    let others : OnlyJournalChanged o s.log.held later.log.held = subst (λ (view : Place → Option Stored). OnlyJournalChanged o s.log.held view) (sym held) made.others in
    let inode : inode_of later.log.held o next m ≡ (if nat_le m m then after else inode_of s.log.held o row m) =
    subst (λ (view : Place → Option Stored). inode_of view o next m ≡ (if nat_le m m then after else inode_of s.log.held o row m)) (sym held) (made.inode m) in
    let entries : entries_of later.log.held o next ≡ entries_of s.log.held o row ++ c.within-entries.result =
    subst (λ (view : Place → Option Stored). entries_of view o next ≡ entries_of s.log.held o row ++ c.within-entries.result) (sym held) (made.entries ∙ ap (λ (es : List EntryFields). entries_of s.log.held o row ++ es) (sym c.within-entries.ensures)) in
    record {
      inodes = turned_keeps rest.inode rest.last s later o m (row.stamp + 1) after row next (inode_beside c.self.inside.objects.values) (inode_beside c.turn_beside.new.objects.values)
          asking.can.store.objects (omega (arith, less)) inode others turning.put.rows inodes refl c.self.invariant.inodes;
      indexes = turned_indexed s later o (row.stamp + 1) row next c.within-entries.result turning.present c.self.inside.objects.values c.turn_beside.new.objects.values asking.there turning.put.rows others
          entries turning.told turning.put.values c.self.invariant.indexes;
      cached = put_true s.log.held later.log.held s.rows later.rows o (record next { stamp = row.stamp + 1 }) c.self.inside.cache.pairs (λ old is. let same : old.stamp ≡ row.stamp = ap (λ (r : Row). r.stamp) (same_Some old row (sym is ∙ asking.there)) in omega (arith, same))
          turning.put.rows (λ q other. same_checkpoints q s.log.held later.log.held (others Checkpoint q refl) (others Pointers q refl)) c.self.invariant.cached;
    }
