-- When a service may end, and who has asked for that.
use Rattle.std.specs.Prelude.{ℕ, ◌||◌, ◌&&◌, Bool, Option, None, Some, is_some, nat_le, not}

-- a flush has failed; or it is to stop, nobody flushes, and each reply that is due is being sent
abbrev pub may_end : (has_failed is_stopping is_flushing : Bool) (due sending : ℕ) → Bool
may_end has_failed is_stopping is_flushing due sending = has_failed || (is_stopping && nat_le due sending && not is_flushing)

-- somebody has asked for the end, or it has come
abbrev pub is_stopped : {S : Type 0} → Option S → (has_ended : Bool) → Bool
is_stopped by has_ended = is_some by || has_ended

-- who has asked first, where one more asks
abbrev pub first_of : {S : Type 0} → Option S → S → Option S
first_of None by = Some by
first_of (Some first) by = Some first
