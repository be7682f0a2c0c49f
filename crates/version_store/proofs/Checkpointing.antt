-- An object's checkpoint: the last entry of a journal, and what a checkpoint that is written leaves.
use Rattle.std.proofs.Common.{◌≡◌, ℕ, List, [], ◌∷◌, ◌++◌, Option, Some, None, IsSome, IfNone, unwrap_or, refl, sym, ap, subst, ◌∙◌}
use Rattle.s4_types.specs.Pointer.{Place}
use Rattle.block_log.specs.Log.{Stored}
use Rattle.codec.specs.Entry.{EntryFields}
use Rattle.undo_redo.specs.Runs.{last_moment}
use Rattle.object_map.specs.declared.map.Row.{Row}
use Rattle.journal_chain.specs.Chain.{ChainFields, chain_entries}
use Rattle.journal_chain.specs.Back.{BackFields, entries_left, left}
use Rattle.time_read.specs.Rows.{chain_of}
use Rattle.std.specs.Option.{option_to_list}
use Rattle.version_store.specs.Checkpointing.{last_entry}

-- ---- the last entry

pub last_moment_is : (given : ℕ) (entries : List EntryFields) (e : EntryFields) → last_moment given (entries ++ e ∷ []) ≡ e.moment
last_moment_is given [] e = refl
last_moment_is given (f ∷ entries) e = last_moment_is f.moment entries e

-- the moment of an entry that a reader gives first, and 0 where it gives none
abbrev pub given_moment : Option EntryFields → ℕ
given_moment None = 0
given_moment (Some e) = e.moment

last_given : (front : List EntryFields) (e : Option EntryFields) → IfNone e (front ++ option_to_list e ≡ []) → last_moment 0 (front ++ option_to_list e) ≡ given_moment e
last_given front None none = ap (λ (es : List EntryFields). last_moment 0 es) none
last_given front (Some e) none = last_moment_is 0 front e

none_left : (e : Option EntryFields) (entries others : List EntryFields) → entries ≡ others → IfNone e (entries ≡ []) → IfNone e (others ≡ [])
none_left None entries others same none = sym same ∙ none
none_left (Some e) entries others same none = none

-- a reader of a whole journal gives the last entry first
pub read_last : (held : Place → Option Stored) (o : ℕ) (row : Row) (back : BackFields) (front : List EntryFields) (e : Option EntryFields) → entries_left held back ≡ chain_entries held o row.head
    → left held back ≡ front ++ option_to_list e → IfNone e (left held back ≡ []) → given_moment e ≡ last_entry held o row
read_last held o row back front e whole gives none =
    sym (last_given front e (none_left e (left held back) (front ++ option_to_list e) gives none))
    ∙ ap (λ (es : List EntryFields). last_moment 0 es) (sym gives)
    ∙ ap (λ (found : Option (List EntryFields)). last_moment 0 (unwrap_or found [])) whole

-- a reader of a whole journal has all entries left
whole_is : (held : Place → Option Stored) (o : ℕ) (row : Row) (chain : ChainFields) (back : BackFields) → IsSome (chain_entries held o row.head) → chain ≡ chain_of o row
    → (IsSome (chain_entries held chain.object chain.head) → entries_left held back ≡ chain_entries held chain.object chain.head) → entries_left held back ≡ chain_entries held o row.head
whole_is held o row chain back walk is reads =
    subst (λ (k : ChainFields). IsSome (chain_entries held k.object k.head) → entries_left held back ≡ chain_entries held k.object k.head) is reads walk

pub whole_left : (held : Place → Option Stored) (o : ℕ) (row : Row) (chain : ChainFields) (back : BackFields) → IsSome (chain_entries held o row.head) → chain ≡ chain_of o row
    → (IsSome (chain_entries held chain.object chain.head) → entries_left held back ≡ chain_entries held chain.object chain.head) → IsSome (entries_left held back)
whole_left held o row chain back walk is reads =
    subst (λ (found : Option (List EntryFields)). IsSome found) (sym (whole_is held o row chain back walk is reads)) walk

pub none_last : (held : Place → Option Stored) (o : ℕ) (row : Row) (chain : ChainFields) (back : BackFields) (front : List EntryFields) (found : Option EntryFields) → IsSome (chain_entries held o row.head) → chain ≡ chain_of o row
    → (IsSome (chain_entries held chain.object chain.head) → entries_left held back ≡ chain_entries held chain.object chain.head) → found ≡ None → left held back ≡ front ++ option_to_list found → IfNone found (left held back ≡ []) → 0 ≡ last_entry held o row
none_last held o row chain back front found walk is reads there gives end =
    read_last held o row back front None (whole_is held o row chain back walk is reads) (subst (λ (x : Option EntryFields). left held back ≡ front ++ option_to_list x) there gives) (subst (λ (x : Option EntryFields). IfNone x (left held back ≡ [])) there end)

pub last_of : (held : Place → Option Stored) (o : ℕ) (row : Row) (chain : ChainFields) (back : BackFields) (front : List EntryFields) (found : Option EntryFields) (e : EntryFields) → IsSome (chain_entries held o row.head) → chain ≡ chain_of o row
    → (IsSome (chain_entries held chain.object chain.head) → entries_left held back ≡ chain_entries held chain.object chain.head) → found ≡ Some e → left held back ≡ front ++ option_to_list found → e.moment ≡ last_entry held o row
last_of held o row chain back front found e walk is reads there gives =
    read_last held o row back front (Some e) (whole_is held o row chain back walk is reads) (subst (λ (x : Option EntryFields). left held back ≡ front ++ option_to_list x) there gives) tt
