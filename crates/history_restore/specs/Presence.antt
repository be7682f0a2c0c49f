-- Whether any object of a drive is there.
use Rattle.std.specs.Prelude.{◌≡◌, ◌<◌, ℕ, false}
use Rattle.s4_types.specs.declared.versions.Version.TheVariants.{Absent}
use Rattle.s4_model.specs.State.{State}
use Rattle.s4_model.specs.Refusals.{is_absent, present}

-- Some object is there.
abbrev pub HasObject : State → Type 0
HasObject s = (o : ℕ) × (is_absent (present s o) ≡ false)

-- None is. Numbers are given from 1 on.
abbrev pub HasNone : State → Type 0
HasNone s = (o : ℕ) → 0 < o → present s o ≡ Absent
