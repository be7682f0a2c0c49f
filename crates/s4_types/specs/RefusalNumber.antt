-- Each refusal's number.
use Rattle.std.specs.Prelude.{◌≡◌, ◌≢◌, ℕ}
use Rattle.s4_types.specs.declared.refusals.Refusal.{Refusal}
use Rattle.s4_types.specs.declared.refusals.Refusal.TheVariants.{NoObject, NotAdmin, Expired, Future, Flushed, TooLarge, BadSpan, TooManySpans, NoSpace, NoMemory, ClockEnd, ChainFull, BadAttr, Busy, BadFrame, Damaged, Stale, NoRoom, InUse}

-- the refusal's number, from 1 to 19
abbrev pub number_of : Refusal → ℕ
number_of NoObject = 1
number_of NotAdmin = 2
number_of Expired = 3
number_of Future = 4
number_of Flushed = 5
number_of TooLarge = 6
number_of BadSpan = 7
number_of TooManySpans = 8
number_of NoSpace = 9
number_of NoMemory = 10
number_of ClockEnd = 11
number_of ChainFull = 12
number_of BadAttr = 13
number_of Busy = 14
number_of BadFrame = 15
number_of (Damaged _) = 16
number_of Stale = 17
number_of NoRoom = 18
number_of InUse = 19

-- The refusal has the number, and the number alone names it: one that tells a cause has no such number.
abbrev pub HasWireNumber : Refusal → ℕ → Type 0
HasWireNumber r n = (number_of r ≡ n) × (n ≢ 16)
