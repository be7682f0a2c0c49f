-- What undoes an entry: all that it tells of the time before it.
use Rattle.std.specs.Prelude.{◌≡◌, ℕ, ◌≤◌, ◌+◌, ◌-◌, ◌++◌, if◌then◌else◌, List, [], ◌∷◌, length, map, reverse, take, drop, slice_set, slice_index_or, Option, Some, None, option_map, unwrap_or}
use Rattle.s4_types.specs.Pointer.{Place}
use Rattle.codec.specs.declared.inodes.Inode.{Inode}
use Rattle.codec.specs.declared.entries.Status.{Status}
use Rattle.codec.specs.declared.entries.Triple.{Triple}
use Rattle.codec.specs.Entry.{EntryFields}
use Rattle.time_read.specs.Earlier.{Earlier}
use Rattle.time_read.specs.declared.undo_records.UndoRecord.{UndoRecord}

-- what undoes an entry: its moment, the status before it, the attribute before where it has two, and the pointers before
pub record Undoing : Type 0 where
  pub moment : ℕ
  pub before : Status
  pub attribute : Option (List ℕ)
  pub pointers : List Earlier

-- what a triple tells of the time before it
abbrev pub earlier_of : Triple → Earlier
earlier_of t = record { index = t.index; before = t.before }

-- what an entry tells of the time before it
abbrev pub undoing_of : EntryFields → Undoing
undoing_of e = record { moment = e.moment; before = e.before; attribute = option_map (λ p. p.before) e.pair; pointers = map earlier_of e.triples }

-- pointers with each earlier one in its place
abbrev pub put_back : List Earlier → List (Option Place) → List (Option Place)
put_back [] pointers = pointers
put_back (p ∷ earlier) pointers = put_back earlier (slice_set pointers p.index p.before)

-- the inode with all that an undoing tells
unfoldable pub undone_by : Undoing → Inode → Inode
undone_by u j = record { alive = u.before.alive; size = u.before.size; created = j.created; changed = u.before.changed; attribute = unwrap_or u.attribute j.attribute; pointers = put_back u.pointers j.pointers }

-- the attribute of a record, at its place, where it tells one
abbrev pub attribute_in : List (List ℕ) → UndoRecord → Option (List ℕ)
attribute_in attributes r = if r.tells_attribute then Some (slice_index_or attributes r.attribute []) else None

-- The undoing that a record tells, by the lists of pointers and attributes that it refers to: its part of the pointers is in reverse order.
abbrev pub undoing_in : List Earlier → List (List ℕ) → UndoRecord → Undoing
undoing_in pointers attributes r = record { moment = r.moment; before = r.before; attribute = attribute_in attributes r; pointers = reverse (take (r.end - r.first) (drop r.first pointers)) }

-- the place after a record's attribute; where it tells none, its place
abbrev pub attribute_end : UndoRecord → ℕ
attribute_end r = if r.tells_attribute then r.attribute + 1 else r.attribute

-- what a record has of the lists begins at these places, and ends there
pub record Spans (first attribute end next : ℕ) (r : UndoRecord) : Type 0 where
  pub first_is : r.first ≡ first
  pub attribute_is : r.attribute ≡ attribute
  pub end_is : r.end ≡ end
  pub next_is : attribute_end r ≡ next
  pub order : first ≤ end

-- What the records have of the lists follows on one another, from two places up to the lengths of the lists.
abbrev pub Tile : ℕ → ℕ → List UndoRecord → ℕ → ℕ → Type 0
Tile first attribute [] pointers attributes = (first ≡ pointers) × (attribute ≡ attributes)
Tile first attribute (r ∷ rs) pointers attributes = Spans first attribute r.end (attribute_end r) r × Tile r.end (attribute_end r) rs pointers attributes

-- The records cut up the two lists, and tell these undoings.
pub record Tells (records : List UndoRecord) (pointers : List Earlier) (attributes : List (List ℕ)) (us : List Undoing) : Type 0 where
  pub tiles : Tile 0 0 records (length pointers) (length attributes)
  pub told : map (undoing_in pointers attributes) records ≡ us

-- The inode with all that a record and those after it tell: the status of the first one, the first attribute from its place
-- on, where there is one, and all pointers from its first one on, the last one first.
unfoldable pub undone_from : List Earlier → List (List ℕ) → UndoRecord → Inode → Inode
undone_from pointers attributes r j = record { alive = r.before.alive; size = r.before.size; created = j.created; changed = r.before.changed; attribute = slice_index_or attributes r.attribute j.attribute; pointers = put_back (reverse (drop r.first pointers)) j.pointers }

-- the inode with all of that but the pointers
abbrev pub fields_undone : List (List ℕ) → UndoRecord → Inode → Inode
fields_undone attributes r j = record { alive = r.before.alive; size = r.before.size; created = j.created; changed = r.before.changed; attribute = slice_index_or attributes r.attribute j.attribute; pointers = j.pointers }

-- a list begins with another
abbrev pub Extends : {X : Type 0} → List X → List X → Type 0
Extends {X} xs ys = (more : List X) × (ys ≡ xs ++ more)
