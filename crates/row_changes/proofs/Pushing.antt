-- What a push of the entries of a later moment makes of an object's row.
use Rattle.std.proofs.Common.{◌≡◌, inl, inr, ℕ, ◌-◌, ◌≤◌, ◌<◌, true, nat_le, if◌then◌else◌, List, [], ◌∷◌, ◌++◌, Option, Some, None, IsSome, refl, sym, ap, subst, ◌∙◌, arith}
use Rattle.std.proofs.lemmas.List.{append-nil}
use Rattle.std.proofs.lemmas.List.Elements.{filter-append}
use Rattle.std.proofs.lemmas.Bool.{cases_Bool, cond-true, cond-false, leb-true, leb-false, le-leb, lt-leb}
use Rattle.s4_types.specs.Pointer.{Place}
use Rattle.lemmas.proofs.List.{all_weaker}
use Rattle.block_log.specs.Log.{Stored, of_kind}
use Rattle.codec.specs.Fields.{◌>>=◌}
use Rattle.codec.specs.declared.inodes.Inode.{Inode}
use Rattle.codec.specs.Entry.{EntryFields}
use Rattle.codec.specs.Checkpoint.{CheckpointFields}
use Rattle.undo_redo.specs.Runs.{Run, AllAt, AllBy, AllPast, entry_is_by, entries_by, inode_after, undone_all}
use Rattle.undo_redo.specs.Groups.{grouped}
use Rattle.checkpoint.specs.Held.{of_checkpoints, checkpoint_held, checkpoint_in, places_named, is_one_of}
use Rattle.object_map.specs.declared.map.Row.{Row}
use Rattle.object_map.specs.declared.sides.Side.{Side}
use Rattle.undo_redo.proofs.RunLaws.{by_none, all_by_later}
use Rattle.journal_chain.specs.Chain.{BlockView, ChainFields, Holds, entries_held}
use Rattle.time_read.specs.Rows.{chain_of, entries_of, checkpoint_of, side_places, inode_before, first_of, inode_of, IsRow, IsSide}
use Rattle.time_read.proofs.Staying.{match_moved}
use Rattle.row_changes.specs.Recent.{IsBy}
use Rattle.row_changes.specs.private.Joining.{LaterEntriesJoin}

-- ---- entries and moments

-- later entries are none of those up to a moment
front_by : (t : ℕ) (front back : List EntryFields) → AllPast t back → entries_by t (front ++ back) ≡ entries_by t front
front_by t front back past = filter-append (entry_is_by t) front back ∙ ap (λ es. entries_by t front ++ es) (by_none t back past) ∙ append-nil (entries_by t front)

at_past : (m t : ℕ) (entries : List EntryFields) → t < m → AllAt m entries → AllPast t entries
at_past m t [] lt h = tt
at_past m t (e ∷ entries) lt h = (let is : e.moment ≡ m = h.0 in lt-leb e.moment t (omega (arith, is, lt)), at_past m t entries lt h.1)

at_by : (m t : ℕ) (entries : List EntryFields) → m ≤ t → AllAt m entries → AllBy t entries
at_by m t [] le h = tt
at_by m t (e ∷ entries) le h = (let is : e.moment ≡ m = h.0 in le-leb e.moment t (omega (arith, is, le)), at_by m t entries le h.1)

both_by : (t : ℕ) (front back : List EntryFields) → AllBy t front → AllBy t back → AllBy t (front ++ back)
both_by t [] back h k = k
both_by t (e ∷ front) back h k = (h.0, both_by t front back h.1 k)

-- ---- the push

-- the row with another head and other counts
abbrev pub with_chain : Row → Option Place → ℕ → ℕ → Row
with_chain row head bytes filled = record row { head = head; journal_bytes = bytes; head_bytes = filled }

-- the chain after the push is that of the row
chain_is : (o : ℕ) (row : Row) (h : Option Place) (b f : ℕ) (chain after : ChainFields) → chain ≡ chain_of o row → after.object ≡ chain.object → h ≡ after.head → b ≡ after.bytes → f ≡ after.filled → after ≡ chain_of o (with_chain row h b f)
chain_is o row h b f chain after is object head bytes filled =
    ap (λ n. record { object = n; head = after.head; bytes = after.bytes; filled = after.filled }) (object ∙ ap (λ (c : ChainFields). c.object) is)
    ∙ ap (λ q. record { object = o; head = q; bytes = after.bytes; filled = after.filled }) (sym head)
    ∙ ap (λ n. record { object = o; head = h; bytes = n; filled = after.filled }) (sym bytes)
    ∙ ap (λ n. record { object = o; head = h; bytes = b; filled = n }) (sym filled)

-- A chain was pushed to.
pub record Holding (held later : Place → Option Stored) (o : ℕ) (row next : Row) (new : List EntryFields) : Type 0 where
  pub holds : Holds later (chain_of o next) (entries_of held o row ++ new)
  pub entries : entries_of later o next ≡ entries_of held o row ++ new

pub holding : (held later : Place → Option Stored) (o : ℕ) (row : Row) (h : Option Place) (b f : ℕ) (new given : List EntryFields) (chain after : ChainFields) →
    ((held : Place → Option Stored) (chain : ChainFields) (entries : List EntryFields) → Holds held chain entries → entries_held held chain ≡ entries) →
    chain ≡ chain_of o row → after.object ≡ chain.object → h ≡ after.head → b ≡ after.bytes → f ≡ after.filled → given ≡ new →
    Holds later after (entries_held held chain ++ given) →
    Holding held later o row (with_chain row h b f) new
holding held later o row h b f new given chain after has was object head bytes filled is holds =
    let next : Row = with_chain row h b f in
    let now : Holds later (chain_of o next) (entries_held held chain ++ given) = subst (λ (c : ChainFields). Holds later c (entries_held held chain ++ given)) (chain_is o row h b f chain after was object head bytes filled) holds in
    let from : Holds later (chain_of o next) (entries_of held o row ++ given) = subst (λ (c : ChainFields). Holds later (chain_of o next) (entries_held held c ++ given)) was now in
    let all : Holds later (chain_of o next) (entries_of held o row ++ new) = subst (λ (es : List EntryFields). Holds later (chain_of o next) (entries_of held o row ++ es)) is from in
    record { holds = all; entries = has later (chain_of o next) (entries_of held o row ++ new) all }

-- Entries of a moment, leading from the present inode to the next one, were pushed to the chain of an object's row.
pub record Pushed (held later : Place → Option Stored) (o : ℕ) (row next : Row) (i j : Inode) (m : ℕ) (new : List EntryFields) : Type 0 where
  pub stands : IsRow held o row
  pub earlier : IsBy held o row (m - 1)
  pub before : i ≡ inode_of held o row (m - 1)
  pub least : 1 ≤ m
  pub run : Run i new j
  pub group : grouped new ≡ true
  pub moments : AllAt m new
  pub chain : Holding held later o row next new
  pub checkpoints : of_checkpoints o later ≡ of_checkpoints o held

pub same_checkpoint : (held later : Place → Option Stored) (o : ℕ) (place : Option Place) → of_checkpoints o later ≡ of_checkpoints o held → (place >>= checkpoint_held later o) ≡ (place >>= checkpoint_held held o)
same_checkpoint held later o place same = ap (λ (v : BlockView). place >>= λ p. checkpoint_in v p) same

before_stays : (created t : ℕ) (front back : List EntryFields) (c : Option CheckpointFields) → AllPast t back → inode_before created t (front ++ back) c ≡ inode_before created t front c
unfolding inode_before
before_stays created t front back None past = refl
before_stays created t front back (Some c) past = ap (λ es. undone_all es c.inode) (front_by t front back past)

pub first_stays : (held later : Place → Option Stored) (o : ℕ) (row : Row) (h : Option Place) (b f : ℕ) (i j : Inode) (m : ℕ) (new : List EntryFields) → Pushed held later o row (with_chain row h b f) i j m new → first_of later o (with_chain row h b f) ≡ first_of held o row
first_stays held later o row h b f i j m new p =
    let earlier : row.checkpoint_moment < m = omega (arith, p.earlier.checkpoint, p.least) in
    ap (λ (es : List EntryFields). inode_before row.created row.checkpoint_moment es (row.checkpoint >>= checkpoint_held later o)) p.chain.entries
    ∙ ap (λ (c : Option CheckpointFields). inode_before row.created row.checkpoint_moment (entries_of held o row ++ new) c) (same_checkpoint held later o row.checkpoint p.checkpoints)
    ∙ before_stays row.created row.checkpoint_moment (entries_of held o row) new (checkpoint_of held o row) (at_past m row.checkpoint_moment new earlier p.moments)

inode_is : (held later : Place → Option Stored) (o : ℕ) (row : Row) (h : Option Place) (b f : ℕ) (i j : Inode) (m : ℕ) (new : List EntryFields) (t : ℕ) → Pushed held later o row (with_chain row h b f) i j m new → inode_of later o (with_chain row h b f) t ≡ inode_after (first_of held o row) (entries_of held o row ++ new) t
unfolding inode_of
inode_is held later o row h b f i j m new t p =
    ap (λ (es : List EntryFields). inode_after (first_of later o (with_chain row h b f)) es t) p.chain.entries
    ∙ ap (λ (k : Inode). inode_after k (entries_of held o row ++ new) t) (first_stays held later o row h b f i j m new p)

-- the inode that the push begins with is the last one so far
pub present_is : (held later : Place → Option Stored) (o : ℕ) (row next : Row) (i j : Inode) (m : ℕ) (new : List EntryFields) → Pushed held later o row next i j m new → i ≡ inode_after (first_of held o row) (entries_of held o row) (m - 1)
unfolding inode_of
present_is held later o row next i j m new p = p.before

earlier_stay : (held later : Place → Option Stored) (o : ℕ) (row : Row) (h : Option Place) (b f : ℕ) (i j : Inode) (m : ℕ) (new : List EntryFields) (t : ℕ) → LaterEntriesJoin → Pushed held later o row (with_chain row h b f) i j m new → t < m → inode_of later o (with_chain row h b f) t ≡ inode_of held o row t
unfolding inode_of
earlier_stay held later o row h b f i j m new t laws p lt =
    inode_is held later o row h b f i j m new t p
    ∙ laws.later (first_of held o row) (entries_of held o row) new t (at_past m t new lt p.moments)

later_are : (held later : Place → Option Stored) (o : ℕ) (row : Row) (h : Option Place) (b f : ℕ) (i j : Inode) (m : ℕ) (new : List EntryFields) (t : ℕ) → LaterEntriesJoin → Pushed held later o row (with_chain row h b f) i j m new → m ≤ t → inode_of later o (with_chain row h b f) t ≡ j
later_are held later o row h b f i j m new t laws p le =
    let first : Inode = first_of held o row in
    let old : List EntryFields = entries_of held o row in
    let past : m - 1 ≤ t = omega (arith, le) in
    let now : inode_after first old t ≡ i = laws.since first old (m - 1) t p.earlier.entries past ∙ sym (present_is held later o row (with_chain row h b f) i j m new p) in
    inode_is held later o row h b f i j m new t p
    ∙ laws.joined first old new t
    ∙ ap (λ (k : Inode). inode_after k new t) now
    ∙ laws.done i new t (at_by m t new le p.moments)
    ∙ sym (laws.end i j new p.run)

pub pushed_inode : (held later : Place → Option Stored) (o : ℕ) (row : Row) (h : Option Place) (b f : ℕ) (i j : Inode) (m : ℕ) (new : List EntryFields) (t : ℕ) → LaterEntriesJoin → Pushed held later o row (with_chain row h b f) i j m new → inode_of later o (with_chain row h b f) t ≡ (if nat_le m t then j else inode_of held o row t)
pushed_inode held later o row h b f i j m new t laws p = elim (cases_Bool (nat_le m t)) [
  | inl le ↦ later_are held later o row h b f i j m new t laws p (leb-true m t le) ∙ sym (cond-true (nat_le m t) j (inode_of held o row t) le)
  | inr lt ↦ earlier_stay held later o row h b f i j m new t laws p (leb-false m t lt) ∙ sym (cond-false (nat_le m t) j (inode_of held o row t) lt)
]

pub pushed_by : (held later : Place → Option Stored) (o : ℕ) (row : Row) (h : Option Place) (b f : ℕ) (i j : Inode) (m : ℕ) (new : List EntryFields) → Pushed held later o row (with_chain row h b f) i j m new → IsBy later o (with_chain row h b f) m
pushed_by held later o row h b f i j m new p =
    let le : m - 1 ≤ m = omega arith in
    let same : m ≤ m = omega arith in
    record {
      entries = subst (λ (es : List EntryFields). AllBy m es) (sym p.chain.entries) (both_by m (entries_of held o row) new (all_by_later (m - 1) m (entries_of held o row) le p.earlier.entries) (at_by m m new same p.moments));
      checkpoint = omega (arith, p.earlier.checkpoint);
    }

-- the run goes on where it stood
run_on : (held later : Place → Option Stored) (o : ℕ) (row next : Row) (i j : Inode) (m : ℕ) (new : List EntryFields) → LaterEntriesJoin → Pushed held later o row next i j m new → Run (first_of held o row) (entries_of held o row ++ new) j
run_on held later o row next i j m new laws p =
    let first : Inode = first_of held o row in
    let old : List EntryFields = entries_of held o row in
    let last : p.stands.last ≡ i = laws.end first p.stands.last old p.stands.run ∙ sym (laws.done first old (m - 1) p.earlier.entries) ∙ sym (present_is held later o row next i j m new p) in
    laws.join first i j old new (subst (λ (k : Inode). Run first old k) last p.stands.run) p.run

-- an older checkpoint tells of a moment before the push
side_stays : (held later : Place → Option Stored) (o : ℕ) (row : Row) (h : Option Place) (b f : ℕ) (i j : Inode) (m : ℕ) (new : List EntryFields) → LaterEntriesJoin → Pushed held later o row (with_chain row h b f) i j m new
    → (side : Side) → IsSide held o row side → IsSide later o (with_chain row h b f) side
side_stays held later o row h b f i j m new laws p side is =
    let earlier : side.moment < m = omega (arith, is.older, p.earlier.checkpoint, p.least) in
    record {
      told = ap (λ (v : BlockView). checkpoint_in v side.place) p.checkpoints ∙ is.told ∙ ap (λ (k : Inode). Some (record { object = o; moment = side.moment; inode = k })) (sym (earlier_stay held later o row h b f i j m new side.moment laws p earlier));
      older = is.older;
    }

pub pushed_row : (held later : Place → Option Stored) (o : ℕ) (row : Row) (h : Option Place) (b f : ℕ) (i j : Inode) (m : ℕ) (new : List EntryFields) → LaterEntriesJoin → Pushed held later o row (with_chain row h b f) i j m new → IsRow later o (with_chain row h b f)
pushed_row held later o row h b f i j m new laws p =
    let next : Row = with_chain row h b f in
    let old : List EntryFields = entries_of held o row in
    let first : first_of later o next ≡ first_of held o row = first_stays held later o row h b f i j m new p in
    let run : Run (first_of later o next) (old ++ new) j = subst (λ (k : Inode). Run k (old ++ new) j) (sym first) (run_on held later o row next i j m new laws p) in
    let earlier : row.checkpoint_moment < m = omega (arith, p.earlier.checkpoint, p.least) in
    let before : m - 1 < m = omega (arith, p.least) in
    let inode : inode_of later o next row.checkpoint_moment ≡ inode_of held o row row.checkpoint_moment = earlier_stay held later o row h b f i j m new row.checkpoint_moment laws p earlier in
    record {
      object = p.stands.object;
      chain = subst (λ (es : List EntryFields). Holds later (chain_of o next) es) (sym p.chain.entries) p.chain.holds;
      last = j;
      run = subst (λ (es : List EntryFields). Run (first_of later o next) es j) (sym p.chain.entries) run;
      groups = ap grouped p.chain.entries ∙ laws.groups (m - 1) old new p.stands.groups p.group p.earlier.entries (at_past m (m - 1) new before p.moments);
      checkpoint = match_moved (row.checkpoint_moment ≡ 0) row.checkpoint (checkpoint_held held o) (checkpoint_held later o) (record { object = o; moment = row.checkpoint_moment; inode = inode_of held o row row.checkpoint_moment }) (record { object = o; moment = row.checkpoint_moment; inode = inode_of later o next row.checkpoint_moment }) (λ q. ap (λ (v : BlockView). checkpoint_in v q) p.checkpoints) (ap (λ (k : Inode). record { object = o; moment = row.checkpoint_moment; inode = k }) inode) p.stands.checkpoint;
      sides = all_weaker (IsSide held o row) (IsSide later o next) row.sides (side_stays held later o row h b f i j m new laws p) p.stands.sides;
      ascending = p.stands.ascending;
      only = λ q there. ap (λ (v : BlockView). is_one_of (places_named v row.checkpoint ++ side_places v row.sides) q) p.checkpoints ∙ p.stands.only q (subst (λ (v : BlockView). IsSome (v q)) p.checkpoints there);
      created = ap (λ (k : Inode). k.created) first ∙ p.stands.created;
    }
