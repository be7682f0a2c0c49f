-- Where a place belongs among others. No public clause cites this file.
use Rattle.std.specs.Prelude.{ℕ, suc, if◌then◌else◌, List, [], ◌∷◌}
use Rattle.s4_types.specs.Pointer.{Place}
use Rattle.migration.specs.Places.{is_before}

-- how many of these places come before one, up to the first that doesn't
abbrev pub rank_in : Place → List Place → ℕ
rank_in p [] = 0
rank_in p (q ∷ places) = if is_before q p then suc (rank_in p places) else 0
