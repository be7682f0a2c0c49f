-- What making room in an object's chain leaves.
use Rattle.std.specs.Prelude.{◌≡◌, ◌≢◌, ℕ, ◌-◌, ◌<◌, ◌≤◌, ◌==◌, ◌&&◌, ◌||◌, nat_le, nat_lt, max, List, length, map, filter, slice_index}
use Rattle.std.specs.List.{dedup}
use Rattle.s4_types.specs.declared.spans.Span.{Span}
use Rattle.codec.specs.Entry.{EntryFields}
use Rattle.s4_model.specs.State.{State}
use Rattle.s4_model.specs.VersionAt.{version_of}
use Rattle.s4_model.specs.Visible.{is_hidden}
use Rattle.s4_model.specs.Refusals.{present}

-- The moments of an object from the first to the last are hidden, and no others that weren't.
abbrev pub HidesBetween : State → ℕ → ℕ → ℕ → State → Type 0
HidesBetween s o first last later = (q t : ℕ) → is_hidden later q t ≡ (is_hidden s q t || (o == q && (nat_le first t && nat_le t last)))

-- All objects are what they were, now and at every moment up to the clock; of all objects but one no moment is hidden or shown that wasn't.
-- The clock doesn't fall, the window stays, the floor rises at most to where the window reaches back from the clock, and no number is given.
pub record LeavesObjects (s : State) (o : ℕ) (later : State) : Type 0 where
  pub objects : (q : ℕ) → present later q ≡ present s q
  pub versions : (q t : ℕ) → t ≤ s.clock → version_of later q t ≡ version_of s q t
  pub hidden : (q t : ℕ) → q ≢ o → is_hidden later q t ≡ is_hidden s q t
  pub clock : s.clock ≤ later.clock
  pub window : later.window ≡ s.window
  pub floor : s.floor ≤ later.floor
  pub reach : later.floor ≤ max s.floor (later.clock - s.window)
  pub next : later.next ≡ s.next

-- The moments after a given one at which versions of an object begin, by its journal, the oldest first. The last of them is that of the
-- present version.
abbrev pub begun_after : ℕ → List EntryFields → List ℕ
begun_after at entries = dedup ◌==◌ (filter (nat_lt at) (map (λ (e : EntryFields). e.moment) entries))

-- The moments of the newest versions of an object but the present one, this many of them, by the moments at which its versions begin: from
-- where the oldest of them begins to where the present one does.
pub record IsOfNewest (begun : List ℕ) (count : ℕ) (o : ℕ) (span : Span) : Type 0 where
  pub object : span.object ≡ o
  pub enough : count < length begun
  pub first : span.first ≡ slice_index begun (length begun - 1 - count)
  pub last : span.last ≡ slice_index begun (length begun - 1) - 1
