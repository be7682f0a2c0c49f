-- The entries of one moment that lead from an inode to another.
use Rattle.std.specs.Prelude.{◌≡◌, ◌⊎◌, ℕ, zero, suc, ◌<◌, ◌≤◌, Bool, true, false, not, if◌then◌else◌, List, [], ◌∷◌, length, map, take, drop, Option, Some, None}
use Rattle.std.specs.List.{filter, range_with_len, AllByRecursion}
use Rattle.std.specs.Cmp.Lexicographic.{pointwise}
use Rattle.std.specs.Prelude.{◌==◌}
use Rattle.s4_types.specs.declared.limits.TheConstants.{OBJECT_BYTES, OBJECT_BLOCKS, ENTRY_TRIPLES}
use Rattle.codec.specs.declared.inodes.Inode.{Inode}
use Rattle.codec.specs.declared.entries.Pair.{Pair}
use Rattle.codec.specs.declared.entries.Triple.{Triple}
use Rattle.codec.specs.Checkpoint.{pointer_at}
use Rattle.codec.specs.Entry.{EntryFields, same_slot}
use Rattle.undo_redo.specs.Linked.{status_of}

-- the two attributes where they differ
abbrev pub pair_between : List ℕ → List ℕ → Option Pair
pair_between before after = if pointwise ◌==◌ before after then None else Some (record { before = before; after = after })

-- what is at an index in both inodes
abbrev pub triple_between : Inode → Inode → ℕ → Triple
triple_between i j n = record { index = n; before = pointer_at i n; after = pointer_at j n }

-- the two pointers of a triple differ
abbrev pub tells_apart : Triple → Bool
tells_apart t = not (same_slot t.before t.after)

-- the pointers that differ among the first this many, by ascending index
unfoldable pub triples_below : ℕ → Inode → Inode → List Triple
triples_below n i j = filter tells_apart (map (triple_between i j) (range_with_len 0 n))

-- the pointers that differ, by ascending index
unfoldable pub triples_between : Inode → Inode → List Triple
triples_between i j = triples_below OBJECT_BLOCKS i j

-- The first entry: both statuses, the pair where the attributes differ, and as many of the pointers that do as it holds.
unfoldable pub leading_entry : Inode → Inode → ℕ → EntryFields
leading_entry i j m = record { moment = m; before = status_of i; after = status_of j; pair = pair_between i.attribute j.attribute; triples = take ENTRY_TRIPLES (triples_between i j) }

-- A further entry: the last inode's status on both sides, and further pointers.
abbrev pub further_entry : Inode → ℕ → List Triple → EntryFields
further_entry j m triples = record { moment = m; before = status_of j; after = status_of j; pair = None; triples = triples }

-- triples in pieces, as many in each as an entry holds, and the rest in the last: this many pieces at most
unfoldable pub pieces : ℕ → List Triple → List (List Triple)
pieces zero triples = []
pieces (suc n) [] = []
pieces (suc n) (t ∷ triples) = take ENTRY_TRIPLES (t ∷ triples) ∷ pieces n (drop ENTRY_TRIPLES (t ∷ triples))

-- the further entries: one for each piece of the further pointers
unfoldable pub later_entries : Inode → ℕ → List Triple → List EntryFields
later_entries j m triples = map (further_entry j m) (pieces (length triples) triples)

-- The entries of a moment: the first tells all but the pointers that it has no room for, and these are in further ones.
unfoldable pub entries_between : Inode → Inode → ℕ → List EntryFields
entries_between i j m = leading_entry i j m ∷ later_entries j m (drop ENTRY_TRIPLES (triples_between i j))

-- the triples tell what is in the two inodes
abbrev pub AreOf : Inode → Inode → List Triple → Type 0
AreOf i j triples = AllByRecursion (λ t. t ≡ triple_between i j t.index) triples

-- Entries of the moment can lead from the one to the other: what was dead had no size and no moment of change,
-- what is alive was changed at the moment, and what is dead now is all but the flag what it was alive.
pub record CanLead (i j : Inode) (m : ℕ) : Type 0 where
  pub moment : 1 ≤ m
  pub created : i.created ≡ j.created
  pub count_before : length i.pointers ≡ OBJECT_BLOCKS
  pub count_after : length j.pointers ≡ OBJECT_BLOCKS
  pub size_before : i.size ≤ OBJECT_BYTES
  pub size_after : j.size ≤ OBJECT_BYTES
  pub was_nothing : i.alive ≡ false → (i.size ≡ 0) × (i.changed ≡ 0)
  pub changed : j.alive ≡ true → j.changed ≡ m
  pub flag_alone : j.alive ≡ false → i ≡ record j { alive = true }

-- The pointers of two inodes are equal below the first index of a range, and from its end on.
abbrev pub AreSameOutside : ℕ → ℕ → Inode → Inode → Type 0
AreSameOutside first end i j = (k : ℕ) → k < OBJECT_BLOCKS → (k < first) ⊎ (end ≤ k) → pointer_at i k ≡ pointer_at j k
