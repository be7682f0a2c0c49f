-- The versions of objects that can be read: their bytes, and the moments at which they can be read first.
use Rattle.std.specs.Prelude.{ℕ, nat_lt, if◌then◌else◌, Bool, List, [], ◌∷◌, length, map}
use Rattle.std.specs.List.{flat_map, sum_by}
use Rattle.s4_model.specs.State.{State}
use Rattle.s4_model.specs.VersionAt.{version_of}
use Rattle.codec.specs.Entry.{EntryFields}
use Rattle.version_store.specs.Store.{StoreFields}
use Rattle.version_store.specs.Versions.{entries_of_object}
use Rattle.history_view.specs.Contents.{content_of}
use Rattle.history_view.specs.Listing.{seen_from}

-- whether the version that an entry begins, or one that begins later, can be read first after a moment
abbrev pub begins : State → ℕ → ℕ → EntryFields → Bool
begins s o last e = nat_lt last (seen_from s o e.moment)

-- The moments after one at which the versions that these entries begin can be read first. Each is after all before it: what several
-- entries of one moment began is there once, and what no moment shows before the next change isn't there.
abbrev pub begun_behind : State → ℕ → ℕ → List EntryFields → List ℕ
begun_behind s o last [] = []
begun_behind s o last (e ∷ entries) =
    if begins s o last e then seen_from s o e.moment ∷ begun_behind s o (seen_from s o e.moment) entries else begun_behind s o last entries

-- The moments at which the versions of an object can be read first, ascending: its earliest moment that can be read, and those after it that
-- its entries begin.
abbrev pub beginnings_of : State → StoreFields → ℕ → List ℕ
beginnings_of s store o = seen_from s o s.floor ∷ begun_behind s o (seen_from s o s.floor) (entries_of_object store o)

-- an object at each of these moments
abbrev pub pairs_at : ℕ → List ℕ → List (ℕ × ℕ)
pairs_at o moments = map (λ t. (o, t)) moments

-- an object at each moment at which a version of it can be read first
abbrev pub pairs_of : State → StoreFields → ℕ → List (ℕ × ℕ)
pairs_of s store o = pairs_at o (beginnings_of s store o)

-- how many bytes an object has at a moment
abbrev pub size_at : State → ℕ × ℕ → ℕ
size_at s pair = length (content_of (version_of s pair.0 pair.1))

-- how many bytes objects have at moments, together
abbrev pub bytes_at : State → List (ℕ × ℕ) → ℕ
bytes_at s pairs = sum_by (size_at s) pairs

-- the bytes that an object has at a moment
abbrev pub content_in : State → ℕ × ℕ → List ℕ
content_in s pair = content_of (version_of s pair.0 pair.1)

-- the bytes that objects have at moments, one after the other
abbrev pub contents_at : State → List (ℕ × ℕ) → List ℕ
contents_at s pairs = flat_map (content_in s) pairs
