-- Entries of one moment: one change makes at most three of them, which are together.
use Rattle.std.specs.Prelude.{ℕ, Bool, true, nat_lt, ◌==◌, ◌&&◌, ◌+◌, if◌then◌else◌, List, [], ◌∷◌, is_none}
use Rattle.std.specs.List.{list_all}
use Rattle.s4_types.specs.declared.limits.TheConstants.{CHANGE_ENTRIES}
use Rattle.codec.specs.declared.entries.Triple.{Triple}
use Rattle.codec.specs.Entry.{EntryFields}

-- each index of the second list is above each of the first
abbrev pub above : List Triple → List Triple → Bool
above lower higher = list_all (λ t. list_all (λ u. nat_lt u.index t.index) lower) higher

-- The second entry only adds pointers to what the first made at the same moment: alive before and after, equal
-- sizes, changed at the moment before and after, no pair, and indices above those of the first.
abbrev pub continues : EntryFields → EntryFields → Bool
continues e f =
    (f.before.alive && f.after.alive) && (f.before.size == f.after.size && ((f.before.changed == f.moment && f.after.changed == f.moment) && (is_none f.pair && above e.triples f.triples)))

-- The entries after this one, which is the count-th of its moment: each is of a later moment, or it is one of
-- three at most and continues the one before it.
abbrev pub grouped_behind : ℕ → EntryFields → List EntryFields → Bool
grouped_behind count e [] = true
grouped_behind count e (f ∷ entries) =
    if e.moment == f.moment then (nat_lt count CHANGE_ENTRIES && continues e f) && grouped_behind (count + 1) f entries else nat_lt e.moment f.moment && grouped_behind 1 f entries

-- Moments don't descend. Entries of one moment are three at most, and all but the first continue the one before.
abbrev pub grouped : List EntryFields → Bool
grouped [] = true
grouped (e ∷ entries) = grouped_behind 1 e entries
