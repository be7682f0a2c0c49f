-- The four numbers of a history: clock, window, next object and floor.
use Rattle.std.specs.Prelude.{ℕ, ◌+◌, ◌-◌, max, List, [], ◌∷◌, map, fold}
use Rattle.s4_types.specs.History.{History, Record, Took, Seen}
use Rattle.s4_types.specs.declared.changes.Change.{Change}
use Rattle.s4_types.specs.declared.changes.Change.TheVariants.{Create, SetWindow}

-- the clock after a record: an accepted change sets it to its moment, a moment seen never sets it back
abbrev pub clock_after : ℕ → Record → ℕ
clock_after clock (Took a) = a.moment
clock_after clock (Seen now) = max clock now

-- the clock of a history
abbrev pub clock_of : History → ℕ
clock_of h = fold clock_after h.base.clock h.records

-- the window after a change
abbrev pub window_by : Change → ℕ → ℕ
window_by (SetWindow new_window) window = new_window
window_by _ window = window

abbrev pub window_after : ℕ → Record → ℕ
window_after window (Took a) = window_by a.change window
window_after window (Seen now) = window

-- the window of a history: what the last accepted SetWindow set, else the base's
abbrev pub window_of : History → ℕ
window_of h = fold window_after h.base.window h.records

-- the next object's number after a change
abbrev pub next_by : Change → ℕ → ℕ
next_by (Create object attribute) next = next + 1
next_by _ next = next

abbrev pub next_after : ℕ → Record → ℕ
next_after next (Took a) = next_by a.change next
next_after next (Seen now) = next

-- the next object's number: the base's, raised by each accepted Create
abbrev pub next_of : History → ℕ
next_of h = fold next_after h.base.next h.records

-- all beginnings of a list, from the empty one to the whole
abbrev pub beginnings : {A : Type 0} → List A → List (List A)
beginnings [] = [] ∷ []
beginnings (x ∷ xs) = [] ∷ map (λ begun. x ∷ begun) (beginnings xs)

-- the greatest number of a list, or 0
abbrev pub greatest : List ℕ → ℕ
greatest numbers = fold max 0 numbers

-- the earliest moment that the window reaches, back from the clock
abbrev pub reach_of : History → ℕ
reach_of h = clock_of h - window_of h

-- The floor: the greatest of the base's floor and of clock less window, which stops at 0, over all
-- beginnings of the history.
abbrev pub floor_of : History → ℕ
floor_of h = greatest (h.base.floor ∷ map (λ records. reach_of (record { base = h.base; records = records })) (beginnings h.records))
