-- What a row tells once its checkpoint, if it has one, and its journal were written.
use Rattle.std.proofs.Common.{◌≡◌, ℕ, ◌+◌, ◌≤◌, Bool, true, false, ◌==◌, ◌&&◌, ◌||◌, List, [], ◌++◌, reverse, take, drop, Option, Some, None, IsSome, IfSome, is_some, MatchOption, refl, sym, ap, subst, ◌∙◌}
use Rattle.std.specs.List.{Contains}
use Rattle.std.proofs.lemmas.Bool.{false≢true}
use Rattle.std.proofs.lemmas.List.Elements.{Contains-append_left}
use Rattle.std.proofs.Math.Seq.{take-add}
use Rattle.s4_types.specs.Pointer.{Place}
use Rattle.block_log.specs.Log.{Log, Stored, of_kind, same_kind}
use Rattle.block_log.specs.declared.kinds.BlockKind.{BlockKind}
use Rattle.block_log.specs.declared.kinds.BlockKind.TheVariants.{Journal, Checkpoint, Data, Pointers}
use Rattle.codec.specs.declared.inodes.Inode.{Inode}
use Rattle.codec.specs.Entry.{EntryFields}
use Rattle.codec.specs.Checkpoint.{CheckpointFields, checkpoint_rules}
use Rattle.codec.specs.Fields.{◌>>=◌}
use Rattle.undo_redo.specs.Runs.{Run, inode_after, redone_all}
use Rattle.undo_redo.specs.Groups.{grouped}
use Rattle.checkpoint.specs.Held.{is_checkpoint_kind, checkpoint_held, checkpoint_in, places_named, of_checkpoints, is_one_of, OnlyCheckpointChanged}
use Rattle.object_map.specs.declared.map.Row.{Row}
use Rattle.journal_chain.specs.Chain.{BlockView, ChainFields, Holds, OnlyJournalChanged, chain_places}
use Rattle.time_read.specs.Rows.{chain_of, entries_of, inode_before, first_of, inode_of, checkpoint_of, IsRow, SidesAscend}
use Rattle.time_read.specs.Orderly.{IsFromTo, IsOrderlyChain, IsOrderly, BeginsDead}
use Rattle.row_changes.specs.Rewritten.{OnlyMetadataChanged}
use Rattle.row_changes.specs.Moving.{CanWrite, checkpoint_made, checkpoint_kept, first_kept}
use Rattle.row_changes.proofs.Places.{alone_of_all, no_sides}

-- the row with another checkpoint, of this moment, and another chain
abbrev pub with_written : Row → Option Place → ℕ → Option Place → ℕ → ℕ → Row
with_written row p m head bytes filled = record { created = row.created; checkpoint = p; checkpoint_moment = m; head = head; journal_bytes = bytes; head_bytes = filled; sides = row.sides; stamp = row.stamp }

-- What a row can tell is held: its inode in a checkpoint of a moment at a place, if there is one, and its entries in a chain;
-- and no block of another checkpoint of the object is held. The row names no older checkpoints.
pub record Stands (later : Place → Option Stored) (o : ℕ) (row : Row) (m : ℕ) (kept : Option Inode) (entries : List EntryFields) (p h : Option Place) (b f : ℕ) : Type 0 where
  pub object : 1 ≤ o
  pub none : row.sides ≡ []
  pub tell : CanWrite o row.created m kept entries
  pub some : is_some p ≡ is_some kept
  pub told : checkpoint_of later o (with_written row p m h b f) ≡ checkpoint_kept o m kept
  pub only : (q : Place) → IsSome (of_checkpoints o later q) → is_one_of (places_named (of_checkpoints o later) p) q ≡ true
  pub holds : Holds later (chain_of o (with_written row p m h b f)) entries
  pub found : entries_of later o (with_written row p m h b f) ≡ entries

pub written_first : (later : Place → Option Stored) (o : ℕ) (row : Row) (m : ℕ) (kept : Option Inode) (entries : List EntryFields) (p h : Option Place) (b f : ℕ) → Stands later o row m kept entries p h b f
    → first_of later o (with_written row p m h b f) ≡ first_kept o row.created m kept entries
written_first later o row m kept entries p h b f s =
    ap (λ (es : List EntryFields). inode_before row.created m es (checkpoint_of later o (with_written row p m h b f))) s.found
    ∙ ap (λ (c : Option CheckpointFields). inode_before row.created m entries c) s.told

pub written_inode : (later : Place → Option Stored) (o : ℕ) (row : Row) (m : ℕ) (kept : Option Inode) (entries : List EntryFields) (p h : Option Place) (b f : ℕ) (t : ℕ) → Stands later o row m kept entries p h b f
    → inode_of later o (with_written row p m h b f) t ≡ inode_after (first_kept o row.created m kept entries) entries t
unfolding inode_of
written_inode later o row m kept entries p h b f t s =
    ap (λ (es : List EntryFields). inode_after (first_of later o (with_written row p m h b f)) es t) s.found
    ∙ ap (λ (i : Inode). inode_after i entries t) (written_first later o row m kept entries p h b f s)

current_is : (kept : Option Inode) (i j : Inode) → i ≡ j → IfSome kept (λ k. k ≡ i) → IfSome kept (λ k. k ≡ j)
current_is None i j same is = tt
current_is (Some k) i j same is = is ∙ same

-- the row's checkpoint, if there is one, tells the inode of its moment; else that moment is 0
checkpoint_tells : (later : Place → Option Stored) (o m : ℕ) (row : Row) (kept : Option Inode) (i : Inode) (p : Option Place) (R : Inode → Type 0) → is_some p ≡ is_some kept
    → MatchOption kept (m ≡ 0) R → IfSome kept (λ k. k ≡ i) → checkpoint_of later o (record row { checkpoint = p }) ≡ checkpoint_kept o m kept
    → MatchOption p (m ≡ 0) (λ q. checkpoint_held later o q ≡ Some (record { object = o; moment = m; inode = i }))
checkpoint_tells later o m row None i None R some rules is told = rules
checkpoint_tells later o m row (Some k) i None R some rules is told = absurd (false≢true some)
checkpoint_tells later o m row None i (Some q) R some rules is told = absurd (false≢true (sym some))
checkpoint_tells later o m row (Some k) i (Some q) R some rules is told = told ∙ ap (λ (j : Inode). Some (checkpoint_made o m j)) is

pub written_row : (later : Place → Option Stored) (o : ℕ) (row : Row) (m : ℕ) (kept : Option Inode) (entries : List EntryFields) (p h : Option Place) (b f : ℕ) → Stands later o row m kept entries p h b f
    → IsRow later o (with_written row p m h b f)
written_row later o row m kept entries p h b f s =
    let next : Row = with_written row p m h b f in
    let start : Inode = first_kept o row.created m kept entries in
    let first : first_of later o next ≡ start = written_first later o row m kept entries p h b f s in
    let run : Run (first_of later o next) entries (redone_all entries start) = subst (λ (k : Inode). Run k entries (redone_all entries start)) (sym first) s.tell.run in
    let now : inode_of later o next m ≡ inode_after start entries m = written_inode later o row m kept entries p h b f m s in
    record {
      object = s.object;
      chain = subst (λ (es : List EntryFields). Holds later (chain_of o next) es) (sym s.found) s.holds;
      last = redone_all entries start;
      run = subst (λ (es : List EntryFields). Run (first_of later o next) es (redone_all entries start)) (sym s.found) run;
      groups = ap grouped s.found ∙ s.tell.groups;
      checkpoint = checkpoint_tells later o m row kept (inode_of later o next m) p (λ i. checkpoint_rules (checkpoint_made o m i) ≡ true)
          s.some s.tell.rules (current_is kept (inode_after start entries m) (inode_of later o next m) (sym now) s.tell.current) s.told;
      sides = no_sides later o next row.sides s.none;
      ascending = subst SidesAscend (sym s.none) tt;
      only = λ q there. alone_of_all (of_checkpoints o later) (places_named (of_checkpoints o later) p) row.sides q s.none (s.only q there);
      created = ap (λ (k : Inode). k.created) first ∙ s.tell.created;
    }

pub matched : {X Y : Type 0} (A B : Type 0) (old : Option X) (new : Option Y) → is_some new ≡ is_some old → MatchOption old A (λ _. B) → MatchOption new A (λ _. B)
matched A B None None same h = h
matched A B (Some p) (Some q) same h = h
matched A B None (Some q) same h = absurd (false≢true (sym same))
matched A B (Some p) None same h = absurd (false≢true same)

pub written_orderly : (later : Place → Option Stored) (o : ℕ) (row : Row) (m : ℕ) (kept : Option Inode) (entries : List EntryFields) (p h : Option Place) (b f : ℕ) (latest : ℕ) → Stands later o row m kept entries p h b f
    → IsOrderlyChain row.created latest (first_kept o row.created m kept entries) entries → IsFromTo 1 latest row.created
    → MatchOption kept (BeginsDead entries) (λ i. IsFromTo row.created latest m) → IsOrderly later o (with_written row p m h b f) latest
written_orderly later o row m kept entries p h b f latest s orderly made at =
    let next : Row = with_written row p m h b f in
    let begun : IsOrderlyChain row.created latest (first_of later o next) entries = subst (λ (k : Inode). IsOrderlyChain row.created latest k entries) (sym (written_first later o row m kept entries p h b f s)) orderly in
    record {
      made = made;
      chain = subst (λ (es : List EntryFields). IsOrderlyChain row.created latest (first_of later o next) es) (sym s.found) begun;
      checkpoint = matched (BeginsDead (entries_of later o next)) (IsFromTo row.created latest m) kept p s.some
          (subst (λ (es : List EntryFields). MatchOption kept (BeginsDead es) (λ i. IsFromTo row.created latest m)) (sym s.found) at);
    }

-- ---- the checkpoint was put first, and then the chain

-- a chain is the one that a row tells of where the row has its head and its counts
chain_told : (o : ℕ) (row : Row) (p : Option Place) (m : ℕ) (h : Option Place) (b f : ℕ) (chain : ChainFields) → chain.object ≡ o → h ≡ chain.head → b ≡ chain.bytes → f ≡ chain.filled → chain ≡ chain_of o (with_written row p m h b f)
chain_told o row p m h b f chain object head bytes filled =
    ap (λ n. record { object = n; head = chain.head; bytes = chain.bytes; filled = chain.filled }) object
    ∙ ap (λ q. record { object = o; head = q; bytes = chain.bytes; filled = chain.filled }) (sym head)
    ∙ ap (λ n. record { object = o; head = h; bytes = n; filled = chain.filled }) (sym bytes)
    ∙ ap (λ n. record { object = o; head = h; bytes = b; filled = n }) (sym filled)

pub holds_told : (later : Place → Option Stored) (o : ℕ) (row : Row) (p : Option Place) (m : ℕ) (h : Option Place) (b f : ℕ) (chain : ChainFields) (entries : List EntryFields) → chain.object ≡ o → h ≡ chain.head → b ≡ chain.bytes → f ≡ chain.filled
    → Holds later chain entries → Holds later (chain_of o (with_written row p m h b f)) entries
holds_told later o row p m h b f chain entries object head bytes filled holds = subst (λ (c : ChainFields). Holds later c entries) (chain_told o row p m h b f chain object head bytes filled) holds

-- what is told of checkpoints stays where journals alone change
pub told_still : (between later : Place → Option Stored) (o : ℕ) (row : Row) (m : ℕ) (kept : Option Inode) (p h : Option Place) (b f : ℕ) → of_checkpoints o later ≡ of_checkpoints o between
    → checkpoint_of between o (record row { checkpoint = p }) ≡ checkpoint_kept o m kept → checkpoint_of later o (with_written row p m h b f) ≡ checkpoint_kept o m kept
told_still between later o row m kept p h b f same told = ap (λ (v : BlockView). p >>= λ q. checkpoint_in v q) same ∙ told

-- a view that is of neither the journal nor the checkpoints is of no journal, and of no checkpoints
no_journal : (kind : BlockKind) (same : Bool) → ((same_kind Journal kind || is_checkpoint_kind kind) && same) ≡ false → (same_kind Journal kind && same) ≡ false
no_journal Journal same h = h
no_journal Checkpoint same h = refl
no_journal Data same h = refl
no_journal Pointers same h = refl

pub no_checkpoint : (kind : BlockKind) (same : Bool) → ((same_kind Journal kind || is_checkpoint_kind kind) && same) ≡ false → (is_checkpoint_kind kind && same) ≡ false
no_checkpoint Journal same h = refl
no_checkpoint Checkpoint same h = h
no_checkpoint Data same h = refl
no_checkpoint Pointers same h = h

pub metadata_alone : (held between later : Place → Option Stored) (o : ℕ) → OnlyCheckpointChanged o held between → OnlyJournalChanged o between later → OnlyMetadataChanged o held later
metadata_alone held between later o checkpoints journal kind other h = journal kind other (no_journal kind (o == other) h) ∙ checkpoints kind other (no_checkpoint kind (o == other) h)

-- ---- the places

pub among_first : (n m : ℕ) (ahead : List Place) (p : Place) → Contains (take n ahead) p → Contains (take (n + m) ahead) p
among_first n m ahead p at = subst (λ (places : List Place). Contains places p) (sym (take-add n m ahead)) (Contains-append_left (take n ahead) (take m (drop n ahead)) p at)

-- the checkpoint's places come first, and then those of the chain, the oldest first
pub row_in_order : (o : ℕ) (ahead : List Place) (between after : Log) (p h head : Option Place) → ahead ≡ places_named (of_checkpoints o between.held) p ++ between.ahead
    → of_checkpoints o after.held ≡ of_checkpoints o between.held → head ≡ h
    → between.ahead ≡ reverse (chain_places (of_kind Journal o after.held) o h) ++ after.ahead
    → ahead ≡ places_named (of_checkpoints o after.held) p ++ (reverse (chain_places (of_kind Journal o after.held) o head) ++ after.ahead)
row_in_order o ahead between after p h head first same is then =
    first ∙ ap (λ (v : BlockView). places_named v p ++ between.ahead) (sym same)
    ∙ ap (λ (ps : List Place). places_named (of_checkpoints o after.held) p ++ ps) (then ∙ ap (λ (q : Option Place). reverse (chain_places (of_kind Journal o after.held) o q) ++ after.ahead) (sym is))
