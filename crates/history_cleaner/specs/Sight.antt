-- Which moments of an object can be seen, as tests.
use Rattle.std.specs.Prelude.{ℕ, ◌+◌, ◌-◌, ◌&&◌, Bool, not, nat_le}
use Rattle.std.specs.List.{list_any, range_with_len}
use Rattle.s4_model.specs.State.{State}
use Rattle.s4_model.specs.Visible.{is_hidden}

-- whether a moment of an object can be read
abbrev pub is_visible : State → ℕ → ℕ → Bool
is_visible s o t = nat_le s.floor t && (nat_le t s.clock && not (is_hidden s o t))

-- whether some moment of an object, of those from a first to a last, can be read
unfoldable pub is_seen_between : State → ℕ → ℕ → ℕ → Bool
is_seen_between s o first last = list_any (is_visible s o) (range_with_len first (last + 1 - first))
