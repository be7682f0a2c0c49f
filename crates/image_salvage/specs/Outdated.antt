-- Rows of a damaged image that name an older block of their object than there is.
use Rattle.std.specs.Prelude.{◌≡◌, ◌⊎◌, ℕ, ◌+◌, ◌&&◌, Bool, true, false, List, [], ◌∷◌, Option, Some, None}
use Rattle.std.specs.Int.{w64}
use Rattle.s4_types.specs.Pointer.{Place}
use Rattle.s4_types.specs.declared.limits.TheConstants.{OBJECT_BLOCKS}
use Rattle.block_log.specs.Log.{Stored}
use Rattle.codec.specs.Entry.{EntryFields}
use Rattle.codec.specs.Fields.{number, SpellsSlot}
use Rattle.codec.specs.Journal.{JournalFields}
use Rattle.journal_chain.specs.Chain.{journal_held}
use Rattle.image_parts.specs.declared.rows.RowPart.{RowPart}
use Rattle.image_salvage.specs.declared.newest.Note.{Note}
use Rattle.image_salvage.specs.Heads.{last_of, step_by}
use Rattle.image_salvage.specs.Newest.{is_below}

-- whether a moment, and how far an entry is in the change of it, come before those of a note
abbrev pub is_before : ℕ → ℕ → Note → Bool
is_before moment step note = is_below (moment ∷ step ∷ []) (note.moment ∷ note.step ∷ [])

-- the same of the newest entry of a journal block
abbrev pub is_entry_before : Option EntryFields → Note → Bool
is_entry_before None note = true
is_entry_before (Some e) note = is_before e.moment (step_by e.triples) note

-- the same of a block that may be gone: then nothing is known of it
abbrev pub is_block_before : Option JournalFields → Note → Bool
is_block_before None note = false
is_block_before (Some block) note = is_entry_before (last_of block.entries) note

-- the same of the newest journal block that a row names, if it names one
abbrev pub is_head_before : (Place → Option Stored) → ℕ → Option Place → Note → Bool
is_head_before used o None note = true
is_head_before used o (Some p) note = is_block_before (journal_held used o p) note

-- Whether a row with this head names older blocks than the newest of its object, a journal block or a checkpoint. A checkpoint comes after all
-- entries of its moment.
abbrev pub is_row_before : (Place → Option Stored) → RowPart → Option Place → Option Note → Bool
is_row_before used part head None = false
is_row_before used part head (Some note) = is_before part.checkpoint_moment (OBJECT_BLOCKS + 1) note && is_head_before used part.object head note

-- So it is of a row by its bytes. Its object was changed since, or the row names a block from the midst of a change: a row of a drive does
-- neither.
abbrev pub IsOutdated : (Place → Option Stored) → (ℕ → Option Note) → RowPart → Type 0
IsOutdated used heads part = (head : Option Place) × SpellsSlot (number w64 part.head) head × (is_row_before used part head (heads part.object) ≡ true)

-- These are the other ones of rows, in their order.
abbrev pub AreBelieved : (Place → Option Stored) → (ℕ → Option Note) → List RowPart → List RowPart → Type 0
AreBelieved used heads [] believed = believed ≡ []
AreBelieved used heads (part ∷ rows) believed =
    (IsOutdated used heads part × AreBelieved used heads rows believed)
    ⊎ ((IsOutdated used heads part → ⊥) × ((rest : List RowPart) × (believed ≡ part ∷ rest) × AreBelieved used heads rows rest))
