-- That a check reads every version that can be read.
use Rattle.std.specs.Prelude.{◌≡◌, ℕ, ◌≤◌}
use Rattle.std.specs.List.{Contains}
use Rattle.s4_model.specs.State.{State}
use Rattle.s4_model.specs.VersionAt.{version_of}
use Rattle.s4_model.specs.Visible.{IsVisible}
use Rattle.version_store.specs.Store.{StoreFields}
use Rattle.history_export.specs.Versions.{beginnings_of}

-- The version of an object at a moment is read: at a moment that isn't later, at which the object is the same.
pub record IsRead (s : State) (store : StoreFields) (o t : ℕ) : Type 0 where
  pub moment : ℕ
  pub among : Contains (beginnings_of s store o) moment
  pub not_later : moment ≤ t
  pub same : version_of s o moment ≡ version_of s o t

-- so each version is at each moment that can be read
abbrev pub EachVersionIsRead : State → StoreFields → Type 0
EachVersionIsRead s store = (o t : ℕ) → IsVisible s o t → IsRead s store o t
