-- The lines that wait at doors.
use Rattle.std.specs.Prelude.{Bool, true, false, List}
use Rattle.s4_types.specs.declared.requests.Role.{Role}
use Rattle.s4_types.specs.declared.requests.Role.TheVariants.{Client, Admin}
use Rattle.s4serve.specs.declared.waiting.Line.{Line}
use Rattle.s4serve.specs.declared.waiting.Waiting.{Waiting}

-- the lines that wait for who serves a role, in the order in which they came
abbrev pub lines_for : Role → Waiting → List Line
lines_for Client waiting = waiting.clients.items
lines_for Admin waiting = waiting.administrators.items

-- the role that isn't this one
abbrev pub other_role : Role → Role
other_role Client = Admin
other_role Admin = Client

-- whether it is the role of an administrator
abbrev pub is_administrator : Role → Bool
is_administrator Client = false
is_administrator Admin = true
