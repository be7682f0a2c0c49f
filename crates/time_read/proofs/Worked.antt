-- A history worked by hand: an object is made at moment 10 and written at 20, 30, 40, 50 and 60. Checkpoints were written after the
-- changes at 30 and at 60.
use Rattle.std.proofs.Common.{◌≡◌, ℕ, true, List, [], ◌∷◌, map, None, refl}
use Rattle.codec.specs.declared.entries.Status.{Status}
use Rattle.codec.specs.Entry.{EntryFields}
use Rattle.time_read.specs.Starts.{place_of, least_over}

-- what an entry tells but for its moment doesn't matter here
abbrev entry_at : ℕ → EntryFields
entry_at t =
    let status : Status = record { alive = true; size = 0; changed = t } in
    record { moment = t; before = status; after = status; pair = None; triples = [] }

abbrev changes : List EntryFields
changes = map entry_at (10 ∷ 20 ∷ 30 ∷ 40 ∷ 50 ∷ 60 ∷ [])

-- From the checkpoint of 30 two entries are undone for moment 10, none for 30, and one is redone for 45; from that of 60 one is undone
-- for 55, and none for 60.
counts_at_moments : map (λ t. least_over changes (place_of changes t) (60 ∷ 30 ∷ [])) (10 ∷ 30 ∷ 45 ∷ 55 ∷ 60 ∷ []) ≡ 2 ∷ 0 ∷ 1 ∷ 1 ∷ 0 ∷ []
counts_at_moments = refl

-- without a checkpoint all entries up to the moment are redone
counts_from_blank : map (λ t. least_over changes (place_of changes t) []) (10 ∷ 30 ∷ 45 ∷ 55 ∷ 60 ∷ []) ≡ 1 ∷ 3 ∷ 4 ∷ 5 ∷ 6 ∷ []
counts_from_blank = refl
