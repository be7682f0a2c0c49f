-- The version of an object at a moment.
use Rattle.std.specs.Prelude.{ℕ, Bool, ◌==◌, ◌&&◌, nat_le, if◌then◌else◌, List, [], ◌∷◌, fold, filter}
use Rattle.s4_types.specs.declared.changes.Accepted.{Accepted}
use Rattle.s4_types.specs.declared.versions.Version.{Version}
use Rattle.s4_types.specs.declared.versions.Version.TheVariants.{Absent}
use Rattle.s4_model.specs.Effect.{effect, is_change_of}
use Rattle.s4_model.specs.State.{State}

-- the versions that a base lists for an object
abbrev pub versions_of : List (ℕ × List (ℕ × Version)) → ℕ → List (ℕ × Version)
versions_of [] o = []
versions_of (entry ∷ entries) o = if entry.0 == o then entry.1 else versions_of entries o

-- the version of the last pair at or before a moment, and Absent where there is none
abbrev pub current_of : List (ℕ × Version) → ℕ → Version
current_of pairs t = fold (λ version pair. if nat_le pair.0 t then pair.1 else version) Absent pairs

-- the base's version of an object at a moment
abbrev pub opening_version : State → ℕ → ℕ → Version
opening_version s o t = current_of (versions_of s.versions o) t

-- whether an accepted change is of this object, and not after the moment
abbrev pub is_by : ℕ → ℕ → Accepted → Bool
is_by o t a = is_change_of o a.change && nat_le a.moment t

abbrev pub effect_of : Version → Accepted → Version
effect_of version a = effect a.change a.moment version

-- what a version becomes by an object's changes up to a moment, in order
abbrev pub version_after : Version → List Accepted → ℕ → ℕ → Version
version_after version changes o t = fold effect_of version (filter (is_by o t) changes)

-- The version of an object at a moment: at or before the base's clock the base's, after it the base's at
-- its clock and then the object's changes up to the moment.
abbrev pub version_of : State → ℕ → ℕ → Version
version_of s o t = if nat_le t s.opened then opening_version s o t else version_after (opening_version s o s.opened) s.changes o t
