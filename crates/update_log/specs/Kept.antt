-- A log on a disk: what a crash leaves of it.
use Rattle.std.specs.Prelude.{◌≡◌, ◌⊎◌, ℕ, ◌+◌, ◌<◌, ◌≤◌, List, [], ◌∷◌, ◌++◌, length, slice_index}
use Rattle.sqlite_disk.specs.declared.Disk.{Ghosts}
use Rattle.sqlite_disk.specs.Disk.{Holds, Only, Torn}
use Rattle.update_log.specs.declared.places.Place.{Place}
use Rattle.update_log.specs.Sectors.{size_of, zeros}
use Rattle.update_log.specs.Records.{Entry, IsEntry}
use Rattle.update_log.specs.Logs.{Accepts, payloads_of, tail_of}

-- the bytes of a file between two offsets are zeros
abbrev pub IsBlank : ℕ → ℕ → List ℕ → Type 0
IsBlank from to file = (i : ℕ) → from ≤ i → i < to → slice_index file i ≡ 0

-- A log on the disk, that goes on at a place: after it are zeros, as far as the log goes. All of it is synced, so that a crash leaves
-- just that.
pub record IsReady {D : Type 0} (g : Ghosts D) (image : List ℕ) (payloads : List (List ℕ)) (p : Place) (disk : D) : Type 0 where
  pub accepted : Accepts image payloads (g.seen disk) p
  pub blank : IsBlank p.at p.limit (g.seen disk)
  pub synced : Only (g.seen disk) (g.may_leave disk)

-- a record may be begun at a place: it has room there, over zeros that are as far as the log goes from it on
pub record CanBegin (image : List ℕ) (payloads : List (List ℕ)) (p : Place) (e : Entry) (file : List ℕ) : Type 0 where
  pub accepted : Accepts image payloads file p
  pub room : p.at + size_of (length e.payload) ≤ p.limit
  pub grows : p.limit ≤ e.limit
  pub long : e.limit ≤ length file
  pub blank : IsBlank p.at e.limit file
  pub fits : IsEntry e

-- the file is a log of this image with these payloads, wherever it goes on
abbrev pub Recovers : List ℕ → List (List ℕ) → List ℕ → Type 0
Recovers image payloads file = (end : Place) × Accepts image payloads file end

-- each outcome of a crash is a log with these payloads
abbrev pub LeavesJust : List ℕ → List (List ℕ) → (List ℕ → Type 0) → Type 0
LeavesJust image payloads outcomes = (c : List ℕ) → outcomes c → Recovers image payloads c

-- each outcome of a crash is a log with the first payloads, or with the second
abbrev pub LeavesEither : List ℕ → List (List ℕ) → List (List ℕ) → (List ℕ → Type 0) → Type 0
LeavesEither image before now outcomes = (c : List ℕ) → outcomes c → Recovers image before c ⊎ Recovers image now c

-- a record was put
abbrev pub Continues : {D : Type 0} → Ghosts D → Entry → Place → Place → D → D → Type 0
Continues g e p q old new =
    (image : List ℕ) (payloads : List (List ℕ)) → CanBegin image payloads p e (g.seen old) → IsReady g image (payloads ++ payloads_of (e ∷ [])) q new

-- a crash leaves the log as it was, or with the record
abbrev pub LeavesOneMore : {D : Type 0} → Ghosts D → Entry → Place → D → D → Type 0
LeavesOneMore g e p old new =
    (image : List ℕ) (payloads : List (List ℕ)) → CanBegin image payloads p e (g.seen old) → Only (g.seen old) (g.may_leave old)
    → LeavesEither image payloads (payloads ++ payloads_of (e ∷ [])) (g.may_leave new)

-- a log has the same payloads, wherever it goes on
abbrev pub Stays : {D : Type 0} → Ghosts D → Place → Place → D → D → Type 0
Stays g p q old new = (image : List ℕ) (payloads : List (List ℕ)) → IsReady g image payloads p old → IsReady g image payloads q new

-- a crash leaves a log with the same payloads
abbrev pub LeavesTheSame : {D : Type 0} → Ghosts D → Place → D → D → Type 0
LeavesTheSame g p old new = (image : List ℕ) (payloads : List (List ℕ)) → IsReady g image payloads p old → LeavesJust image payloads (g.may_leave new)

-- a log has a payload more
abbrev pub Stores : {D : Type 0} → Ghosts D → List ℕ → Place → Place → D → D → Type 0
Stores g payload p q old new = (image : List ℕ) (payloads : List (List ℕ)) → IsReady g image payloads p old → IsReady g image (payloads ++ payload ∷ []) q new

-- a crash leaves a log as it was, or with a payload more
abbrev pub LeavesStored : {D : Type 0} → Ghosts D → List ℕ → Place → D → D → Type 0
LeavesStored g payload p old new =
    (image : List ℕ) (payloads : List (List ℕ)) → IsReady g image payloads p old → LeavesEither image payloads (payloads ++ payload ∷ []) (g.may_leave new)

-- zeros were put and synced, and nothing else changed below them
pub record IsAhead {D : Type 0} (g : Ghosts D) (from count : ℕ) (old new : D) : Type 0 where
  pub held : Holds (g.seen new) from (zeros count)
  pub others : Torn from count (g.seen old) (g.seen new)
  pub synced : Only (g.seen new) (g.may_leave new)

-- a log goes on at its place over zeros, where these bytes were after it
abbrev pub Clears : {D : Type 0} → Ghosts D → List ℕ → Place → D → D → Type 0
Clears g tail p old new =
    (image : List ℕ) (payloads : List (List ℕ)) → Accepts image payloads (g.seen old) p → tail ≡ tail_of p (g.seen old) → IsReady g image payloads p new

-- a crash leaves what the log on the disk has
abbrev pub LeavesCleared : {D : Type 0} → Ghosts D → Place → D → D → Type 0
LeavesCleared g p old new =
    (image : List ℕ) (payloads : List (List ℕ)) → Accepts image payloads (g.seen old) p → Only (g.seen old) (g.may_leave old) → LeavesJust image payloads (g.may_leave new)
