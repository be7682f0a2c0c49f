-- A change and a checkpoint leave a row in order, and a creation puts it there.
use Rattle.std.proofs.Common.{◌≡◌, inl, inr, ℕ, zero, suc, ◌+◌, ◌-◌, ◌≤◌, ◌<◌, ◌==◌, ◌&&◌, true, false, ltb, List, [], ◌∷◌, ◌++◌, length, take, Option, Some, None, MatchOption, refl, sym, ap, subst, ◌∙◌, arith}
use Rattle.std.specs.List.{AllByRecursion}
use Rattle.std.proofs.Math.Seq.{take-append-add, take-length}
use Rattle.std.proofs.lemmas.List.{take-append-le, length-append}
use Rattle.std.proofs.lemmas.Bool.{cases_Bool, cases_lt, cond-true, and_parts, eq-eqb, eqb-true, leb-true, false≢true}
use Rattle.s4_types.specs.Pointer.{Place}
use Rattle.s4_types.specs.declared.limits.TheConstants.{CHANGE_ENTRIES}
use Rattle.block_log.specs.Log.{Stored}
use Rattle.codec.specs.declared.inodes.Inode.{Inode}
use Rattle.codec.specs.declared.entries.Status.{Status}
use Rattle.codec.specs.Entry.{EntryFields}
use Rattle.undo_redo.specs.Linked.{Linked}
use Rattle.undo_redo.specs.Runs.{Run, AllAt, AllBy, blank, inode_after, redone_all}
use Rattle.undo_redo.specs.Redone.{redone}
use Rattle.undo_redo.specs.Groups.{continues, grouped_behind, grouped}
use Rattle.undo_redo.specs.Between.{CanLead}
use Rattle.checkpoint.specs.Held.{checkpoint_held}
use Rattle.object_map.specs.declared.map.Row.{Row}
use Rattle.object_map.specs.declared.sides.Side.{Side}
use Rattle.object_map.specs.Rows.{fresh_row}
use Rattle.undo_redo.proofs.RunLaws.{redone_all-append}
use Rattle.time_read.specs.Rows.{IsRow, entries_of, first_of, inode_of}
use Rattle.time_read.specs.Orderly.{inode_behind, IsFromTo, BeginsDead, IsOrderlyChain, IsOrderly}
use Rattle.time_read.proofs.Staying.{same_entries}
use Rattle.time_read.proofs.Ordering.{all_by_last}
use Rattle.chain_rewriting.proofs.Growing.{all_of_one, blank_dead}
use Rattle.row_changes.specs.Recent.{IsBy}
use Rattle.row_changes.proofs.Pushing.{Pushed, with_chain, first_stays, present_is}
use Rattle.row_changes.proofs.Fresh.{no_entries, blank_first, fresh_inode}
use Rattle.row_changes.proofs.CheckpointLemmas.{Laws, Written, with_checkpoint, written_first}

-- where a run ends, and which inode is current once all is done: laws of runs
abbrev End : Type 0
End = (i j : Inode) (entries : List EntryFields) → Run i entries j → j ≡ redone_all entries i

abbrev Done : Type 0
Done = (i : Inode) (entries : List EntryFields) (t : ℕ) → AllBy t entries → inode_after i entries t ≡ redone_all entries i

-- ---- the entries of one change

-- Entries of a moment lead from an inode to the next one, which was changed at the moment where it is live.
pub record Leading (i j : Inode) (m : ℕ) (new : List EntryFields) : Type 0 where
  pub run : Run i new j
  pub moments : AllAt m new
  pub group : grouped new ≡ true
  pub changed : j.alive ≡ true → j.changed ≡ m

-- live, and changed at the moment
abbrev IsTurned : ℕ → Inode → Type 0
IsTurned m i = (i.alive ≡ true) × (i.changed ≡ m)

-- what an entry that continues another tells of the inode before it
continued : (e f : EntryFields) (i k : Inode) → continues e f ≡ true → Linked i f k → IsTurned f.moment i
continued e f i k h linked =
    let parts = and_parts (f.before.alive && f.after.alive) _ h in
    let sizes = and_parts (f.before.size == f.after.size) _ parts.1 in
    let moments = and_parts (f.before.changed == f.moment && f.after.changed == f.moment) _ sizes.1 in
    let alive : f.before.alive ≡ true = (and_parts f.before.alive f.after.alive parts.0).0 in
    let changed : f.before.changed ≡ f.moment = eqb-true f.before.changed f.moment (and_parts (f.before.changed == f.moment) (f.after.changed == f.moment) moments.0).0 in
    (ap (λ (s : Status). s.alive) linked.status_before ∙ alive, ap (λ (s : Status). s.changed) linked.status_before ∙ changed)

-- of entries of one moment each but the first continues another
same_moment : (count m : ℕ) (e f : EntryFields) (entries : List EntryFields) → e.moment ≡ m → f.moment ≡ m → grouped_behind count e (f ∷ entries) ≡ true → (continues e f ≡ true) × (grouped_behind (count + 1) f entries ≡ true)
same_moment count m e f entries he hf h =
    let is : (e.moment == f.moment) ≡ true = eq-eqb e.moment f.moment (he ∙ sym hf) in
    let whole : ((ltb count CHANGE_ENTRIES && continues e f) && grouped_behind (count + 1) f entries) ≡ true = sym (cond-true (e.moment == f.moment) _ _ is) ∙ h in
    let parts = and_parts (ltb count CHANGE_ENTRIES && continues e f) (grouped_behind (count + 1) f entries) whole in
    ((and_parts (ltb count CHANGE_ENTRIES) (continues e f) parts.0).1, parts.1)

-- the inode after the first entry of a run is that entry redone
behind_one : End → (i k : Inode) (e : EntryFields) → Linked i e k → k ≡ redone e i
behind_one end i k e linked = end i k (e ∷ []) (k, linked, refl)

-- each inode before one of the entries that come after another of their moment
within : End → (e : EntryFields) (count : ℕ) (entries : List EntryFields) (i j : Inode) (m n : ℕ) → Run i entries j → e.moment ≡ m → AllAt m entries → grouped_behind count e entries ≡ true → n < length entries → IsTurned m (inode_behind i entries n)
within end e count [] i j m n r he at h lt = absurd (let no : ⊥ = omega (arith, lt) in no)
within end e count (f ∷ entries) i j m zero r he at h lt =
    let turned : IsTurned f.moment i = continued e f i r.0 (same_moment count m e f entries he at.0 h).0 r.1 in
    (turned.0, turned.1 ∙ at.0)
within end e count (f ∷ entries) i j m (suc n) r he at h lt =
    subst (λ (k : Inode). IsTurned m (inode_behind k entries n)) (behind_one end i r.0 f r.1)
    (within end f (count + 1) entries r.0 j m n r.2 at.0 at.1 (same_moment count m e f entries he at.0 h).1 (omega (arith, lt)))

-- each inode between two of the entries
turned_between : End → (i j : Inode) (m : ℕ) (new : List EntryFields) (n : ℕ) → Run i new j → AllAt m new → grouped new ≡ true → 0 < n → n < length new → IsTurned m (inode_behind i new n)
turned_between end i j m [] n r at h some lt = absurd (let no : ⊥ = omega (arith, lt) in no)
turned_between end i j m (e ∷ entries) zero r at h some lt = absurd (let no : ⊥ = omega (arith, some) in no)
turned_between end i j m (e ∷ entries) (suc n) r at h some lt =
    subst (λ (k : Inode). IsTurned m (inode_behind k entries n)) (behind_one end i r.0 e r.1)
    (within end e 1 entries r.0 j m n r.2 at.0 at.1 h (omega (arith, lt)))

all_taken : (n : ℕ) (entries : List EntryFields) → length entries ≤ n → take n entries ≡ entries
all_taken zero [] le = refl
all_taken zero (e ∷ entries) le = absurd (let no : ⊥ = omega (arith, le) in no)
all_taken (suc n) [] le = refl
all_taken (suc n) (e ∷ entries) le = ap (λ es. e ∷ es) (all_taken n entries (omega (arith, le)))

-- after all entries is the last inode
behind_all : End → (i j : Inode) (entries : List EntryFields) (n : ℕ) → Run i entries j → length entries ≤ n → inode_behind i entries n ≡ j
behind_all end i j entries n r le = ap (λ (es : List EntryFields). redone_all es i) (all_taken n entries le) ∙ sym (end i j entries r)

-- each live inode after some of the entries was changed at the moment
turned_behind : End → (i j : Inode) (m : ℕ) (new : List EntryFields) (n : ℕ) → Leading i j m new → 0 < n → (inode_behind i new n).alive ≡ true → (inode_behind i new n).changed ≡ m
turned_behind end i j m new n p some alive = elim (cases_lt n (length new)) [
  | inl lt ↦ (turned_between end i j m new n p.run p.moments p.group some lt).1
  | inr le ↦ (let is : inode_behind i new n ≡ j = behind_all end i j new n p.run le in
      ap (λ (k : Inode). k.changed) is ∙ p.changed (sym (ap (λ (k : Inode). k.alive) is) ∙ alive))
]

-- from a dead inode entries lead to a live one
alive_after : (i j : Inode) (m : ℕ) → i.alive ≡ false → CanLead i j m → j.alive ≡ true
alive_after i j m dead lead = elim (cases_Bool j.alive) [
  | inl alive ↦ alive
  | inr gone ↦ absurd (false≢true (sym dead ∙ ap (λ (k : Inode). k.alive) (lead.flag_alone gone)))
]

-- ---- a creation

made_changed : End → (m : ℕ) (j : Inode) (new : List EntryFields) (n : ℕ) → Leading (blank m) j m new → (inode_behind (blank m) new n).alive ≡ true → IsFromTo m m (inode_behind (blank m) new n).changed
made_changed end m j new zero p alive = absurd (false≢true (sym (blank_dead m) ∙ alive))
made_changed end m j new (suc n) p alive =
    let is : (inode_behind (blank m) new (suc n)).changed ≡ m = turned_behind end (blank m) j m new (suc n) p (omega arith) alive in
    (omega (arith, is), omega (arith, is))

made_chain : End → (m : ℕ) (j : Inode) (new : List EntryFields) → Leading (blank m) j m new → j.alive ≡ true → IsOrderlyChain m m (blank m) new
made_chain end m j new p alive = record {
  moments = all_of_one m m new (omega arith) p.moments;
  changed = λ n. made_changed end m j new n p;
  between = λ n some lt. (turned_between end (blank m) j m new n p.run p.moments p.group some lt).0;
  beginning = λ dead. refl;
  live = (length new, ap (λ (k : Inode). k.alive) (behind_all end (blank m) j new (length new) p.run (omega arith)) ∙ alive);
}

begins : (i j : Inode) (new : List EntryFields) → Run i new j → i.alive ≡ false → j.alive ≡ true → BeginsDead new
begins i j [] r dead alive = false≢true (sym dead ∙ ap (λ (k : Inode). k.alive) r ∙ alive)
begins i j (e ∷ entries) r dead alive = sym (ap (λ (s : Status). s.alive) r.1.status_before) ∙ dead

made_fresh : End → (held later : Place → Option Stored) (o : ℕ) (h : Option Place) (b f : ℕ) (i j : Inode) (m : ℕ) (new : List EntryFields)
    → Pushed held later o (fresh_row m) (with_chain (fresh_row m) h b f) i j m new → CanLead i j m → IsOrderly later o (with_chain (fresh_row m) h b f) m
made_fresh end held later o h b f i j m new p lead =
    let next : Row = with_chain (fresh_row m) h b f in
    let entries : entries_of later o next ≡ new = p.chain.entries ∙ ap (λ (es : List EntryFields). es ++ new) (no_entries held o m) in
    let first : first_of later o next ≡ blank m = first_stays held later o (fresh_row m) h b f i j m new p ∙ blank_first held o m in
    let is : i ≡ blank m = p.before ∙ fresh_inode held o m (m - 1) in
    let dead : i.alive ≡ false = ap (λ (k : Inode). k.alive) is ∙ blank_dead m in
    let alive : j.alive ≡ true = alive_after i j m dead lead in
    let leading : Leading (blank m) j m new = record { run = subst (λ (k : Inode). Run k new j) is p.run; moments = p.moments; group = p.group; changed = lead.changed } in
    let chain : IsOrderlyChain m m (blank m) (entries_of later o next) = subst (λ (es : List EntryFields). IsOrderlyChain m m (blank m) es) (sym entries) (made_chain end m j new leading alive) in
    record {
      made = (p.least, omega arith);
      chain = subst (λ (k : Inode). IsOrderlyChain m m k (entries_of later o next)) (sym first) chain;
      checkpoint = subst BeginsDead (sym entries) (begins i j new p.run dead alive);
    }

pub made_orderly : End → (held later : Place → Option Stored) (o : ℕ) (row : Row) (h : Option Place) (b f : ℕ) (i j : Inode) (m : ℕ) (new : List EntryFields)
    → Pushed held later o row (with_chain row h b f) i j m new → CanLead i j m → row ≡ fresh_row m → IsOrderly later o (with_chain row h b f) m
made_orderly end held later o row h b f i j m new p lead is =
    subst (λ (r : Row). Pushed held later o r (with_chain r h b f) i j m new → IsOrderly later o (with_chain r h b f) m) (sym is)
    (λ q. made_fresh end held later o h b f i j m new q lead) p

-- ---- a change of a live object

-- what is known of a chain in order to which the entries of a later moment are pushed
record Following (created m : ℕ) (first i j : Inode) (old new : List EntryFields) : Type 0 where
  pub made : created ≤ m - 1
  pub chain : IsOrderlyChain created (m - 1) first old
  pub present : i ≡ redone_all old first
  pub alive : i.alive ≡ true
  pub leading : Leading i j m new

behind_front : (first : Inode) (old new : List EntryFields) (n : ℕ) → n ≤ length old → inode_behind first (old ++ new) n ≡ inode_behind first old n
behind_front first old new n le = ap (λ (es : List EntryFields). redone_all es first) (take-append-le n old new le)

behind_back : (first i : Inode) (old new : List EntryFields) (n : ℕ) → i ≡ redone_all old first → length old ≤ n → inode_behind first (old ++ new) n ≡ inode_behind i new (n - length old)
behind_back first i old new n is le =
    let k : ℕ = n - length old in
    let sum : n ≡ length old + k = omega (arith, le) in
    ap (λ x. inode_behind first (old ++ new) x) sum
    ∙ ap (λ (es : List EntryFields). redone_all es first) (take-append-add old new k)
    ∙ redone_all-append first old (take k new)
    ∙ ap (λ (x : Inode). redone_all (take k new) x) (sym is)

behind_old : (first i : Inode) (old : List EntryFields) → i ≡ redone_all old first → inode_behind first old (length old) ≡ i
behind_old first i old is = ap (λ (es : List EntryFields). redone_all es first) (take-length old) ∙ sym is

grown_moments : (created m : ℕ) (old new : List EntryFields) → AllByRecursion (λ e. IsFromTo created (m - 1) e.moment) old → AllByRecursion (λ e. IsFromTo created m e.moment) new → AllByRecursion (λ e. IsFromTo created m e.moment) (old ++ new)
grown_moments created m [] new h k = k
grown_moments created m (e ∷ old) new h k = (let most : e.moment ≤ m - 1 = h.0.1 in (h.0.0, omega (arith, most)), grown_moments created m old new h.1 k)

grown_changed : End → (created m : ℕ) (first i j : Inode) (old new : List EntryFields) (n : ℕ) → Following created m first i j old new → (inode_behind first (old ++ new) n).alive ≡ true → IsFromTo created m (inode_behind first (old ++ new) n).changed
grown_changed end created m first i j old new n p alive = elim (cases_lt (length old) n) [
  | inl lt ↦ (let is : inode_behind first (old ++ new) n ≡ inode_behind i new (n - length old) = behind_back first i old new n p.present (omega (arith, lt)) in
      let changed : (inode_behind i new (n - length old)).changed ≡ m = turned_behind end i j m new (n - length old) p.leading (omega (arith, lt)) (sym (ap (λ (k : Inode). k.alive) is) ∙ alive) in
      let at : (inode_behind first (old ++ new) n).changed ≡ m = ap (λ (k : Inode). k.changed) is ∙ changed in
      let made = p.made in
      (omega (arith, at, made), omega (arith, at)))
  | inr le ↦ (let is : inode_behind first (old ++ new) n ≡ inode_behind first old n = behind_front first old new n le in
      let was : IsFromTo created (m - 1) (inode_behind first old n).changed = p.chain.changed n (sym (ap (λ (k : Inode). k.alive) is) ∙ alive) in
      let most : (inode_behind first old n).changed ≤ m - 1 = was.1 in
      subst (λ (k : Inode). IsFromTo created m k.changed) (sym is) (was.0, omega (arith, most)))
]

grown_between : End → (created m : ℕ) (first i j : Inode) (old new : List EntryFields) (n : ℕ) → Following created m first i j old new → 0 < n → n < length (old ++ new) → (inode_behind first (old ++ new) n).alive ≡ true
grown_between end created m first i j old new n p some lt = elim (cases_lt n (length old)) [
  | inl front ↦ ap (λ (k : Inode). k.alive) (behind_front first old new n (omega (arith, front))) ∙ p.chain.between n some front
  | inr le ↦ (let is : inode_behind first (old ++ new) n ≡ inode_behind i new (n - length old) = behind_back first i old new n p.present le in
      let count : length (old ++ new) ≡ length old + length new = length-append old new in
      let fewer : n - length old < length new = omega (arith, lt, count, le) in
      ap (λ (k : Inode). k.alive) is ∙ elim (cases_lt 0 (n - length old)) [
        | inl past ↦ (turned_between end i j m new (n - length old) p.leading.run p.leading.moments p.leading.group past fewer).0
        | inr here ↦ (let none : n - length old ≡ 0 = omega (arith, here) in
            ap (λ x. (inode_behind i new x).alive) none ∙ p.alive)
      ])
]

grown_chain : End → (created m : ℕ) (first i j : Inode) (old new : List EntryFields) → Following created m first i j old new → IsOrderlyChain created m first (old ++ new)
grown_chain end created m first i j old new p =
    let made = p.made in
    record {
      moments = grown_moments created m old new p.chain.moments (all_of_one created m new (omega (arith, made)) p.leading.moments);
      changed = λ n. grown_changed end created m first i j old new n p;
      between = λ n. grown_between end created m first i j old new n p;
      beginning = p.chain.beginning;
      live = (length old, ap (λ (k : Inode). k.alive) (behind_front first old new (length old) (omega arith) ∙ behind_old first i old p.present) ∙ p.alive);
    }

begins_on : (old new : List EntryFields) → BeginsDead old → BeginsDead (old ++ new)
begins_on [] new h = absurd h
begins_on (e ∷ old) new h = h

checkpoint_on : (checkpoint : Option Place) (created m t : ℕ) (old new : List EntryFields) → MatchOption checkpoint (BeginsDead old) (λ p. IsFromTo created (m - 1) t) → MatchOption checkpoint (BeginsDead (old ++ new)) (λ p. IsFromTo created m t)
checkpoint_on None created m t old new h = begins_on old new h
checkpoint_on (Some p) created m t old new h = (let most : t ≤ m - 1 = h.1 in (h.0, omega (arith, most)))

pub turned_orderly : End → Done → (held later : Place → Option Stored) (o : ℕ) (row : Row) (h : Option Place) (b f : ℕ) (i j : Inode) (m : ℕ) (new : List EntryFields)
    → Pushed held later o row (with_chain row h b f) i j m new → CanLead i j m → IsOrderly held o row (m - 1) → i.alive ≡ true → IsOrderly later o (with_chain row h b f) m
turned_orderly end done held later o row h b f i j m new p lead was alive =
    let next : Row = with_chain row h b f in
    let start : Inode = first_of held o row in
    let old : List EntryFields = entries_of held o row in
    let first : first_of later o next ≡ start = first_stays held later o row h b f i j m new p in
    let present : i ≡ redone_all old start = present_is held later o row next i j m new p ∙ done start old (m - 1) p.earlier.entries in
    let leading : Leading i j m new = record { run = p.run; moments = p.moments; group = p.group; changed = lead.changed } in
    let grown : IsOrderlyChain row.created m start (old ++ new) = grown_chain end row.created m start i j old new (record { made = was.made.1; chain = was.chain; present = present; alive = alive; leading = leading }) in
    let chain : IsOrderlyChain row.created m start (entries_of later o next) = subst (λ (es : List EntryFields). IsOrderlyChain row.created m start es) (sym p.chain.entries) grown in
    let most = was.made.1 in
    record {
      made = (was.made.0, omega (arith, most));
      chain = subst (λ (k : Inode). IsOrderlyChain row.created m k (entries_of later o next)) (sym first) chain;
      checkpoint = subst (λ (es : List EntryFields). MatchOption row.checkpoint (BeginsDead es) (λ q. IsFromTo row.created m row.checkpoint_moment)) (sym p.chain.entries) (checkpoint_on row.checkpoint row.created m row.checkpoint_moment old new was.checkpoint);
    }

-- ---- a checkpoint

-- what is told up to a moment was made up to that moment
made_by : (checkpoint : Option Place) (created latest m t : ℕ) (entries : List EntryFields) → MatchOption checkpoint (BeginsDead entries) (λ p. IsFromTo created latest t) → AllByRecursion (λ e. IsFromTo created latest e.moment) entries → AllBy m entries → t ≤ m → created ≤ m
made_by None created latest m t [] h moments by le = absurd h
made_by None created latest m t (e ∷ entries) h moments by le =
    let least : created ≤ e.moment = moments.0.0 in
    let most : e.moment ≤ m = leb-true e.moment m by.0 in
    omega (arith, least, most)
made_by (Some p) created latest m t entries h moments by le = (let least : created ≤ t = h.0 in omega (arith, least, le))

pub written_orderly : (held later : Place → Option Stored) (o : ℕ) (row : Row) (p : Place) (i : Inode) (m latest : ℕ) (kept : List Side) → Laws → Written held later o row p i m kept → m ≤ latest → IsOrderly held o row latest → IsOrderly later o (with_checkpoint row p m kept) latest
written_orderly held later o row p i m latest kept laws w le was =
    let next : Row = with_checkpoint row p m kept in
    let entries : entries_of later o next ≡ entries_of held o row = same_entries held later o row w.journal in
    let first : first_of later o next ≡ first_of held o row = written_first held later o row p i m kept laws w in
    let chain : IsOrderlyChain row.created latest (first_of held o row) (entries_of later o next) = subst (λ (es : List EntryFields). IsOrderlyChain row.created latest (first_of held o row) es) (sym entries) was.chain in
    record {
      made = was.made;
      chain = subst (λ (k : Inode). IsOrderlyChain row.created latest k (entries_of later o next)) (sym first) chain;
      checkpoint = (made_by row.checkpoint row.created latest m row.checkpoint_moment (entries_of held o row) was.checkpoint was.chain.moments w.latest.entries w.latest.checkpoint, le);
    }

-- ---- up to which moment a row tells

checkpoint_by : (N : Type 0) (P : Place → Type 0) (checkpoint : Option Place) (created latest t : ℕ) → MatchOption checkpoint (t ≡ 0) P → MatchOption checkpoint N (λ p. IsFromTo created latest t) → t ≤ latest
checkpoint_by N P None created latest t none h = omega (arith, none)
checkpoint_by N P (Some p) created latest t some h = h.1

pub orderly_is_by : (held : Place → Option Stored) (o : ℕ) (row : Row) (latest : ℕ) → IsRow held o row → IsOrderly held o row latest → IsBy held o row latest
orderly_is_by held o row latest r h = record {
  entries = all_by_last row.created latest (entries_of held o row) h.chain.moments;
  checkpoint = checkpoint_by (BeginsDead (entries_of held o row)) (λ p. checkpoint_held held o p ≡ Some (record { object = o; moment = row.checkpoint_moment; inode = inode_of held o row row.checkpoint_moment })) row.checkpoint row.created latest row.checkpoint_moment r.checkpoint h.checkpoint;
}
