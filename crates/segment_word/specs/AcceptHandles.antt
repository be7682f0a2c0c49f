-- What the handles of the accept table keep, and what follows for any two sessions.
use Rattle.std.specs.Prelude.{◌≡◌, ◌≢◌, ℕ, []}
use mathlib.Core.Option.{some}
use lib.ListN.{get_elem?}
use Rattle.atomic_table.specs.Table.{State}
use Rattle.atomic_table.specs.Seated.{TableId}
use Rattle.atomic_table.specs.declared.shared.Seat.{Seat}
use Rattle.s4_types.specs.History.{Base}
use Rattle.segment_word.specs.AcceptViews.{Told, Ledger, AcceptView, Driving, Attending, begun, blank_base, ledger_of, told_of}
use Rattle.segment_word.specs.AcceptRule.{FitsLedger, ShareNone, AcceptRule}

-- is where no table is named
abbrev pub no_table : TableId
no_table = record { words = 0; slots = 0; views_name = 0; atom = 0; block = 0; offset = 0; slot_names = [] }

-- the seat of a drive whose history has this base
pub record IsHistorySeat (accepts : TableId) (start : Base) (s : Seat (Unit {0}) AcceptView) : Type 0 where
  pub table : s.table_id ≡ accepts
  pub one_word : s.table_id.words ≡ 1
  pub first : s.id ≡ 0
  pub view : s.me ≡ (Driving (ledger_of s.me.0), [])
  pub base : (ledger_of s.me.0).history.base ≡ start

-- the seat of a session
pub record IsSessionSeat (accepts : TableId) (s : Seat (Unit {0}) AcceptView) : Type 0 where
  pub table : s.table_id ≡ accepts
  pub view : s.me ≡ (Attending (told_of s.me.0), [])

-- the drive's seat before the history has its base
pub record IsFirstSeat (s : Seat (Unit {0}) AcceptView) : Type 0 where
  pub one_word : s.table_id.words ≡ 1
  pub first : s.id ≡ 0
  pub view : s.me ≡ (Driving (begun blank_base), [])

-- whatever the seats know, the sessions of two seats share no number
abbrev pub SessionsShareNone : Type 0
SessionsShareNone = (s : State (Unit {0}) AcceptView) → AcceptRule s → (i j : ℕ) (a b : Told) → i ≢ j → get_elem? s.views i ≡ some (Attending a) → get_elem? s.views j ≡ some (Attending b) → ShareNone a b

-- two sessions of different seats that were told the truth share no number
abbrev pub ToldShareNone : Type 0
ToldShareNone = (l : Ledger) (a b : Told) → a.seat ≢ b.seat → FitsLedger l a → FitsLedger l b → ShareNone a b
