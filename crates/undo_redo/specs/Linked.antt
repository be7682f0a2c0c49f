-- An entry ties an inode to the next one: what it tells of both sides is so, and all else is equal.
use Rattle.std.specs.Prelude.{◌≡◌, ℕ, ◌<◌, ◌==◌, if◌then◌else◌, List, [], ◌∷◌, length, Option, Some, None, IfSome}
use Rattle.s4_types.specs.declared.limits.TheConstants.{OBJECT_BLOCKS}
use Rattle.s4_types.specs.Pointer.{Place}
use Rattle.codec.specs.declared.inodes.Inode.{Inode}
use Rattle.codec.specs.declared.entries.Status.{Status}
use Rattle.codec.specs.declared.entries.Pair.{Pair}
use Rattle.codec.specs.declared.entries.Triple.{Triple}
use Rattle.codec.specs.Checkpoint.{pointer_at}
use Rattle.codec.specs.Entry.{EntryFields}

-- what an entry tells of an inode beside attribute and pointers
abbrev pub status_of : Inode → Status
status_of i = record { alive = i.alive; size = i.size; changed = i.changed }

-- the later pointer of the triple of this index; where none has the index, the pointer given
abbrev pub pointer_after : List Triple → ℕ → Option Place → Option Place
pointer_after [] n p = p
pointer_after (t ∷ triples) n p = pointer_after triples n (if t.index == n then t.after else p)

-- the earlier pointer of the triple of this index; where none has the index, the pointer given
abbrev pub pointer_before : List Triple → ℕ → Option Place → Option Place
pointer_before [] n p = p
pointer_before (t ∷ triples) n p = pointer_before triples n (if t.index == n then t.before else p)

-- two attributes are those of the pair; where there is none they are equal
abbrev pub AreSides : Option Pair → List ℕ → List ℕ → Type 0
AreSides None before after = before ≡ after
AreSides (Some p) before after = (before ≡ p.before) × (after ≡ p.after)

-- The entry's values before are those of the first inode and its values after those of the second; what it
-- doesn't tell is equal in both.
pub record Linked (i : Inode) (e : EntryFields) (j : Inode) : Type 0 where
  pub status_before : status_of i ≡ e.before
  pub status_after : status_of j ≡ e.after
  pub created : i.created ≡ j.created
  pub attribute : AreSides e.pair i.attribute j.attribute
  pub count_before : length i.pointers ≡ OBJECT_BLOCKS
  pub count_after : length j.pointers ≡ OBJECT_BLOCKS
  pub forth : (n : ℕ) → n < OBJECT_BLOCKS → pointer_at j n ≡ pointer_after e.triples n (pointer_at i n)
  pub back : (n : ℕ) → n < OBJECT_BLOCKS → pointer_at i n ≡ pointer_before e.triples n (pointer_at j n)

-- The entry's values before are those of the inode.
pub record StandsBefore (i : Inode) (e : EntryFields) : Type 0 where
  pub status : status_of i ≡ e.before
  pub attribute : IfSome e.pair (λ p. i.attribute ≡ p.before)
  pub count : length i.pointers ≡ OBJECT_BLOCKS
  pub pointers : (n : ℕ) → n < OBJECT_BLOCKS → pointer_at i n ≡ pointer_before e.triples n (pointer_at i n)

-- The entry's values after are those of the inode.
pub record StandsAfter (e : EntryFields) (j : Inode) : Type 0 where
  pub status : status_of j ≡ e.after
  pub attribute : IfSome e.pair (λ p. j.attribute ≡ p.after)
  pub count : length j.pointers ≡ OBJECT_BLOCKS
  pub pointers : (n : ℕ) → n < OBJECT_BLOCKS → pointer_at j n ≡ pointer_after e.triples n (pointer_at j n)
