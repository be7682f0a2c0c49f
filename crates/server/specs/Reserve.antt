-- How many blocks of room the requests of a role leave, where clients leave a reserve.
use Rattle.std.specs.Prelude.{ℕ, ◌/◌, nat_lt, if◌then◌else◌}
use Rattle.s4_types.specs.declared.requests.Role.{Role}
use Rattle.s4_types.specs.declared.requests.Role.TheVariants.{Client, Admin}
use Rattle.s4_types.specs.declared.requests.Request.{Request}
use Rattle.s4_types.specs.declared.requests.Request.TheVariants.{Update, Query, Control}
use Rattle.s4_types.specs.declared.requests.ObjectRequest.{ObjectRequest}
use Rattle.s4_types.specs.declared.requests.ObjectRequest.TheVariants.{Create, Delete, Write, Append, Truncate, SetAttr}
use Rattle.s4_model.specs.State.{State}
use Rattle.s4_model.specs.Refusals.{present, size_of}

-- A client's change of an object leaves the reserve; one that only takes away, a Delete or a Truncate to less, leaves half of it.
abbrev pub least_of_change : ℕ → State → ObjectRequest → ℕ
least_of_change reserve s (Create attribute) = reserve
least_of_change reserve s (Delete object) = reserve / 2
least_of_change reserve s (Write object offset bytes) = reserve
least_of_change reserve s (Append object bytes) = reserve
least_of_change reserve s (Truncate object size) = if nat_lt size (size_of (present s object)) then reserve / 2 else reserve
least_of_change reserve s (SetAttr object attribute) = reserve

-- a question takes no room, and what administrators alone may ask doesn't either
abbrev pub least_of_client : ℕ → State → Request → ℕ
least_of_client reserve s (Update update) = least_of_change reserve s update
least_of_client reserve s (Query question) = 0
least_of_client reserve s (Control control) = 0

-- an administrator's changes have all room that there is
abbrev pub least_of : ℕ → State → Role → Request → ℕ
least_of reserve s Client request = least_of_client reserve s request
least_of reserve s Admin request = 0
