-- What the seats of the accept table know, as plain data.
use Rattle.std.specs.Prelude.{ℕ, ◌+◌, List, [], ◌∷◌, ◌++◌, length}
use Rattle.s4_types.specs.declared.changes.Accepted.{Accepted}
use Rattle.s4_types.specs.declared.changes.Change.{Change}
use Rattle.s4_types.specs.History.{Base, Record, Took, Seen, History, accepted}

-- What a session was told: the number of its seat, the accepted changes that it has seen, and the numbers of those
-- that were accepted for it.
pub record Told : Type 0 where
  pub seat : ℕ
  pub seen : List Accepted
  pub mine : List ℕ

-- what the drive's seat knows: the history, and of each accepted change in order the seat that it was accepted for
pub record Ledger : Type 0 where
  pub history : History
  pub owners : List ℕ

-- What a seat knows, by what it is: the drive's seat, alone or with what a session was told lent to it; a session's
-- seat, alone or with what a session was told that has ended; a copy of what a session was told, under way; a seat that
-- is spent.
pub data AcceptView : Type 0 where
  Driving : Ledger → AcceptView
  Lent : Ledger → Told → AcceptView
  Attending : Told → AcceptView
  Beside : Told → Told → AcceptView
  Carried : Told → AcceptView
  Spent : AcceptView

-- a base with nothing in it
abbrev pub blank_base : Base
blank_base = record { versions = []; clock = 0; window = 0; floor = 0; next = 0; spans = []; audit = [] }

-- the ledger of a history that has just begun
abbrev pub begun : Base → Ledger
begun base = record { history = record { base = base; records = [] }; owners = [] }

-- what a session was told that has seen nothing
abbrev pub new_session : ℕ → Told
new_session seat = record { seat = seat; seen = []; mine = [] }

-- the ledger in a view
abbrev pub ledger_of : AcceptView → Ledger
ledger_of (Driving l) = l
ledger_of (Lent l t) = l
ledger_of (Attending t) = begun blank_base
ledger_of (Beside t u) = begun blank_base
ledger_of (Carried t) = begun blank_base
ledger_of Spent = begun blank_base

-- what a session was told, in a view
abbrev pub told_of : AcceptView → Told
told_of (Driving l) = new_session 0
told_of (Lent l t) = t
told_of (Attending t) = t
told_of (Beside t u) = t
told_of (Carried t) = t
told_of Spent = new_session 0

-- what a session was told whose seat this one took in, in a view
abbrev pub guest_of : AcceptView → Told
guest_of (Driving l) = new_session 0
guest_of (Lent l t) = new_session 0
guest_of (Attending t) = new_session 0
guest_of (Beside t u) = u
guest_of (Carried t) = new_session 0
guest_of Spent = new_session 0

-- the history with a record after it
abbrev pub with_record : History → Record → History
with_record h r = record h { records = h.records ++ r ∷ [] }

-- the ledger after a moment was seen
abbrev pub with_moment : Ledger → ℕ → Ledger
with_moment l m = record l { history = with_record l.history (Seen m) }

-- how many changes were accepted
abbrev pub count_of : Ledger → ℕ
count_of l = length (accepted l.history)

-- the change as it is accepted next
abbrev pub next_change : Ledger → ℕ → Change → Accepted
next_change l m c = record { number = count_of l + 1; moment = m; change = c }

-- the ledger after a change was accepted for a seat, at a moment
abbrev pub with_change : Ledger → ℕ → ℕ → Change → Ledger
with_change l seat m c = record { history = with_record l.history (Took (next_change l m c)); owners = l.owners ++ seat ∷ [] }

-- the session has seen all accepted changes
abbrev pub caught_up : Ledger → Told → Told
caught_up l t = record t { seen = accepted l.history }

-- the session has seen all accepted changes, of which the newest is its own
abbrev pub credited : Ledger → Told → Told
credited l t = record t { seen = accepted l.history; mine = t.mine ++ count_of l ∷ [] }
