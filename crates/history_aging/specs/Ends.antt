-- When versions ended that can be read, and how many of them a floor has passed.
use Rattle.std.specs.Prelude.{◌≡◌, ℕ, zero, suc, ◌+◌, ◌-◌, ◌<◌, ◌≤◌, ◌&&◌, ◌||◌, nat_le, Bool, true, false, List, map, filter, count_by}
use Rattle.std.specs.List.{flat_map}
use Rattle.s4_model.specs.State.{State}
use Rattle.s4_model.specs.Visible.{IsVisible}
use Rattle.codec.specs.Entry.{EntryFields}
use Rattle.version_store.specs.Store.{StoreFields}
use Rattle.version_store.specs.Versions.{entries_of_object}
use Rattle.history_view.specs.Listing.{is_visible}
use Rattle.history_view.specs.Logs.{AreRowsFrom}

-- whether any moment passes a test, of as many from one on
abbrev pub any_from : (ℕ → Bool) → ℕ → ℕ → Bool
any_from passes t zero = false
any_from passes t (suc n) = passes t || any_from passes (t + 1) n

-- Whether an entry ended a version that can be read: the object was there, and some moment can be read from the one on at which it was changed
-- before, and before the entry's. An entry that goes on with another of its moment ended none.
abbrev pub ends_readable : State → ℕ → EntryFields → Bool
ends_readable s o e = e.before.alive && any_from (is_visible s o) e.before.changed (e.moment - e.before.changed)

-- the moments at which versions of an object ended that can be read, in order
abbrev pub ends_of : State → StoreFields → ℕ → List ℕ
ends_of s store o = map (λ (e : EntryFields). e.moment) (filter (ends_readable s o) (entries_of_object store o))

-- These are the moments at which all versions ended that can be read, object by object.
pub record AreEnds (s : State) (store : StoreFields) (ends : List ℕ) : Type 0 where
  pub objects : List ℕ
  pub have_rows : AreRowsFrom store 0 objects
  pub are : ends ≡ flat_map (ends_of s store) objects

-- how many of the versions that ended at these moments can't be read where this is the floor: all their moments are below it
abbrev pub aged_count : List ℕ → ℕ → ℕ
aged_count ends floor = count_by (λ (end : ℕ). nat_le end floor) ends

-- ---- what this comes to: a clause of a function with an empty body

-- Some moment of an object can be read, of those from one on and before another.
pub record IsSeenBefore (s : State) (o first end : ℕ) : Type 0 where
  pub moment : ℕ
  pub begun : first ≤ moment
  pub before : moment < end
  pub visible : IsVisible s o moment

-- What an object was between two changes can be read, and later it can't be.
pub record IsLost (s later : State) (o first end : ℕ) : Type 0 where
  pub seen : IsSeenBefore s o first end
  pub gone : IsSeenBefore later o first end → ⊥

-- A version that is counted could be read, and where its end is no later than the floor it can't be any more.
abbrev pub WhatAgesIsLost : Type 0
WhatAgesIsLost = (s later : State) (o : ℕ) (e : EntryFields) → ends_readable s o e ≡ true → e.moment ≤ later.floor → IsLost s later o e.before.changed e.moment
