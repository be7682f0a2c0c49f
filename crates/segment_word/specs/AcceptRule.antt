-- The accept rule: what holds of the accept word and of all that the seats know, between any two steps.
use Rattle.std.specs.Prelude.{◌≡◌, ℕ, ◌+◌, ◌-◌, ◌<◌, ◌≤◌, List, [], ◌∷◌, length}
use Rattle.std.specs.List.{Contains}
use mathlib.Core.Option.{some}
use mathlib.Core.List.{IsPrefix}
use lib.ListN.{get_elem?}
use Rattle.atomic_table.specs.Table.{State}
use Rattle.s4_types.specs.declared.changes.Accepted.{Accepted}
use Rattle.s4_types.specs.History.{accepted}
use Rattle.segment_word.specs.AcceptViews.{Told, Ledger, AcceptView, Driving, Lent, Attending, Beside, Carried, Spent, begun, blank_base, ledger_of, count_of}

-- the changes have the numbers after n, in order
abbrev pub AreNumbered : ℕ → List Accepted → Type 0
AreNumbered n [] = Unit {0}
AreNumbered n (a ∷ rest) = (a.number ≡ n + 1) × AreNumbered (n + 1) rest

-- the numbers ascend strictly, from above `low` to at most `high`, and each change of such a number was accepted for the seat
abbrev pub AreOwn : List ℕ → ℕ → ℕ → ℕ → List ℕ → Type 0
AreOwn owners seat low high [] = low ≤ high
AreOwn owners seat low high (n ∷ ns) = (low < n) × (get_elem? owners (n - 1) ≡ some seat) × AreOwn owners seat n high ns

-- A session was told the truth: what it has seen begins the accepted changes, and its own numbers are numbers in that,
-- strictly ascending, of changes that were accepted for its seat.
pub record FitsLedger (l : Ledger) (t : Told) : Type 0 where
  pub seen : IsPrefix t.seen (accepted l.history)
  pub mine : AreOwn l.owners t.seat 0 (length t.seen) t.mine

-- no number is both sessions' own
abbrev pub ShareNone : Told → Told → Type 0
ShareNone a b = (n : ℕ) → Contains a.mine n → ¬ Contains b.mine n

-- what the rule says of one seat, by its number. A session has the number of its own seat.
abbrev pub Suits : Ledger → ℕ → AcceptView → Type 0
Suits l id (Driving m) = Unit {0}
Suits l id (Lent m t) = FitsLedger l t
Suits l id (Attending t) = (t.seat ≡ id) × FitsLedger l t
Suits l id (Beside t u) = (t.seat ≡ id) × FitsLedger l t × ShareNone t u
Suits l id (Carried t) = FitsLedger l t
Suits l id Spent = Unit {0}

-- what the first seat, which is the drive's, knows
abbrev pub first_ledger : List AcceptView → Ledger
first_ledger [] = begun blank_base
first_ledger (v ∷ vs) = ledger_of v

-- The rule, where the drive's seat has this ledger: the word counts the accepted changes, which are numbered from 1 and
-- each have their seat, and every session was told the truth.
pub record AcceptRules (words : List ℕ) (views : List AcceptView) (l : Ledger) : Type 0 where
  pub word : words ≡ count_of l ∷ []
  pub owned : length l.owners ≡ count_of l
  pub numbered : AreNumbered 0 (accepted l.history)
  pub suits : (id : ℕ) (v : AcceptView) → get_elem? views id ≡ some v → Suits l id v

abbrev pub AcceptRule : State (Unit {0}) AcceptView → Type 0
AcceptRule s = AcceptRules s.words s.views (first_ledger s.views)
