-- What each step on the accept word tells the seat that makes it.
use Rattle.std.specs.Prelude.{◌≡◌, ℕ, [], length}
use mathlib.Core.List.{IsPrefix}
use Rattle.atomic_table.specs.Table.{Me, Step}
use Rattle.atomic_table.specs.declared.shared.Seat.{Seat}
use Rattle.s4_types.specs.declared.changes.Change.{Change}
use Rattle.s4_types.specs.History.{Base, accepted}
use Rattle.segment_word.specs.AcceptViews.{Told, AcceptView, Driving, Lent, Attending, Beside, Carried, Spent, begun, new_session, ledger_of, told_of, with_moment, with_change, count_of, caught_up, credited}
use Rattle.segment_word.specs.AcceptRule.{FitsLedger, ShareNone, AreNumbered}

abbrev pub AcceptSat : Type 0
AcceptSat = Me (Unit {0}) AcceptView

-- the view once the change was accepted for the session that is lent
abbrev pub taking : ℕ → Change → AcceptView → AcceptView
taking m c (Driving l) = Driving l
taking m c (Lent l t) = Lent (with_change l t.seat m c) (credited (with_change l t.seat m c) t)
taking m c (Attending t) = Attending t
taking m c (Beside t u) = Beside t u
taking m c (Carried t) = Carried t
taking m c Spent = Spent

-- the view once the session that is lent has seen all accepted changes
abbrev pub learning : AcceptView → AcceptView
learning (Driving l) = Driving l
learning (Lent l t) = Lent l (caught_up l t)
learning (Attending t) = Attending t
learning (Beside t u) = Beside t u
learning (Carried t) = Carried t
learning Spent = Spent

-- a step with a session lent: what it was told was true, and is; and it has seen what it had seen, or more
pub record Tells (me me' : AcceptSat) : Type 0 where
  pub grows : IsPrefix (told_of me.0).seen (told_of me'.0).seen
  pub before : FitsLedger (ledger_of me.0) (told_of me.0)
  pub after : FitsLedger (ledger_of me'.0) (told_of me'.0)

-- accept: the word was the number of changes accepted before
pub record TakesChange (m : ℕ) (c : Change) (st : Step (Unit {0})) (me : AcceptSat) (n : ℕ) (me' : AcceptSat) : Type 0 where
  pub view : me' ≡ (taking m c me.0, me.1)
  pub count : n ≡ count_of (ledger_of me.0)
  pub tells : Tells me me'

-- learn, for a session
pub record Learns (st : Step (Unit {0})) (me : AcceptSat) (n : ℕ) (me' : AcceptSat) : Type 0 where
  pub view : me' ≡ (learning me.0, me.1)
  pub count : n ≡ count_of (ledger_of me.0)
  pub tells : Tells me me'

-- learn, for the drive alone: a moment was seen
abbrev pub Notes : ℕ → Step (Unit {0}) → AcceptSat → ℕ → AcceptSat → Type 0
Notes m st me n me' = me' ≡ (Driving (with_moment (ledger_of me.0) m), me.1)

-- a load by the drive's seat: the word is the number of accepted changes, which are numbered from 1, and each of which
-- was accepted for some seat
pub record CountsChanges (st : Step (Unit {0})) (me : AcceptSat) (n : ℕ) (me' : AcceptSat) : Type 0 where
  pub view : me' ≡ me
  pub count : n ≡ count_of (ledger_of me.0)
  pub owned : length (ledger_of me.0).owners ≡ count_of (ledger_of me.0)
  pub numbered : AreNumbered 0 (accepted (ledger_of me.0).history)

-- the first step: the history begins with its base
abbrev pub Begins : Base → Step (Unit {0}) → AcceptSat → ℕ → AcceptSat → Type 0
Begins base st me n me' = me' ≡ (Driving (begun base), me.1)

-- a new seat is a session that has seen nothing
abbrev pub Comes : Step (Unit {0}) → AcceptSat → ℕ → AcceptSat → Type 0
Comes st me n me' = (seat : ℕ) × (me' ≡ (Attending (new_session seat), []))

-- the view without what was lent
abbrev pub unlent : AcceptView → AcceptView
unlent (Driving l) = Driving l
unlent (Lent l t) = Driving l
unlent (Attending t) = Attending t
unlent (Beside t u) = Beside t u
unlent (Carried t) = Carried t
unlent Spent = Spent

-- what a session was told, to be carried to another seat
abbrev pub copied : AcceptView → AcceptView
copied v = Carried (told_of v)

-- the view with what was carried to it
abbrev pub joined_accepts : AcceptView → AcceptView → AcceptView
joined_accepts (Driving l) w = Lent l (told_of w)
joined_accepts (Lent l t) w = Lent l t
joined_accepts (Attending t) w = Attending (told_of w)
joined_accepts (Beside t u) w = Beside t u
joined_accepts (Carried t) w = Carried t
joined_accepts Spent w = Spent

-- a session takes what was told to its own seat alone
abbrev pub IsFor : Told → AcceptView → Type 0
IsFor u (Driving l) = Unit {0}
IsFor u (Lent l t) = Unit {0}
IsFor u (Attending t) = u.seat ≡ t.seat
IsFor u (Beside t w) = Unit {0}
IsFor u (Carried t) = Unit {0}
IsFor u Spent = Unit {0}

-- a session's view with what another one was told, whose seat it takes in
abbrev pub absorbed : AcceptView → AcceptView → AcceptView
absorbed (Driving l) w = Driving l
absorbed (Lent l t) w = Lent l t
absorbed (Attending t) w = Beside t (told_of w)
absorbed (Beside t u) w = Beside t u
absorbed (Carried t) w = Carried t
absorbed Spent w = Spent

-- the view without that
abbrev pub parted : AcceptView → AcceptView
parted (Driving l) = Driving l
parted (Lent l t) = Lent l t
parted (Attending t) = Attending t
parted (Beside t u) = Attending t
parted (Carried t) = Carried t
parted Spent = Spent

-- the session shares no number with the one that it took in
abbrev pub SharesNone : AcceptView → Type 0
SharesNone (Driving l) = Unit {0}
SharesNone (Lent l t) = Unit {0}
SharesNone (Attending t) = Unit {0}
SharesNone (Beside t u) = ShareNone t u
SharesNone (Carried t) = Unit {0}
SharesNone Spent = Unit {0}

-- a load by a session's seat that took in another: it is as it was before, and shares no number with that one
pub record Sheds (st : Step (Unit {0})) (me : AcceptSat) (n : ℕ) (me' : AcceptSat) : Type 0 where
  pub view : me' ≡ (parted me.0, me.1)
  pub none : SharesNone me.0

-- the step left the seat its table and its number
abbrev pub IsSameAcceptSeat : Seat (Unit {0}) AcceptView → Seat (Unit {0}) AcceptView → Type 0
IsSameAcceptSeat old new = (new.table_id ≡ old.table_id) × (new.id ≡ old.id)
