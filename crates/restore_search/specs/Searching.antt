-- What a search for how much has to be hidden learns from a trial.
use Rattle.std.specs.Prelude.{◌≡◌, ◌⊎◌, ⊤, ℕ, ◌+◌, ◌==◌, ◌++◌, not, Bool, true, List, [], ◌∷◌, filter, map}
use Rattle.std.specs.List.{AllByRecursion, list_any}
use Rattle.restore_search.specs.declared.rooms.Room.{Room}
use Rattle.restore_search.specs.declared.searches.Hiding.{Hiding}
use Rattle.restore_search.specs.declared.searches.Search.{Search}
use Rattle.restore_search.specs.declared.surveys.Lack.TheVariants.{Journal}
use Rattle.restore_search.specs.declared.surveys.Lacking.{Lacking}
use Rattle.restore_search.specs.declared.surveys.Survey.{Survey}
use Rattle.restore_search.specs.declared.turning.Turn.{Turn}
use Rattle.restore_search.specs.declared.turning.Turn.TheVariants.{Again, Leave}

-- Something is one of a list.
pub record IsOneOf {X : Type 0} (x : X) (xs : List X) : Type 0 where
  pub front : List X
  pub back : List X
  pub is : xs ≡ front ++ x ∷ back

-- ---- rooms and numbers

-- the room that is tried next for an object, and the one that is needed as far as is known
abbrev pub room_tried : Hiding → Room
room_tried h = record { object = h.object; count = h.count }

abbrev pub room_found : Hiding → Room
room_found h = record { object = h.object; count = h.least }

-- the number of an object that is lacking
abbrev pub object_of : Lacking → ℕ
object_of one = one.object

-- the numbers of these
abbrev pub numbers_of : List Lacking → List ℕ
numbers_of lacking = map (λ (one : Lacking). one.object) lacking

-- a trial found nothing lacking
pub record IsFine (survey : Survey) : Type 0 where
  pub hidden : survey.hidden.items ≡ []
  pub refused : survey.refused.items ≡ []
  pub unmade : survey.unmade.items ≡ []

-- ---- one object

-- An object's journal is among those that are full.
abbrev pub HasFull : List Lacking → ℕ → Type 0
HasFull refused o = IsOneOf (record { object = o; lack = Journal }) refused

-- What is known of an object: its number stays, and either no more is known of how few serve, or where some may be hidden one more than was
-- tried serves at least, since its journal was full with that many.
abbrev pub IsTurned : Bool → Hiding → List Lacking → Hiding → Type 0
IsTurned flush h refused next = (next.object ≡ h.object) × ((next.least ≡ h.least) ⊎ ((flush ≡ true) × (next.least ≡ h.count + 1) × HasFull refused h.object))

abbrev pub TurnsOne : Bool → Hiding → List Lacking → Turn → Type 0
TurnsOne flush h refused (Again next) = IsTurned flush h refused next
TurnsOne flush h refused (Leave lack) = ⊤

-- Where the same number is tried again, it serves and no fewer do.
abbrev pub IsSettledOne : Hiding → Turn → Type 0
IsSettledOne h (Again next) = next.count ≡ h.count → next.least ≡ h.count
IsSettledOne h (Leave lack) = ⊤

-- The same number is tried again.
abbrev pub IsSameTried : Hiding → Turn → Type 0
IsSameTried h (Again next) = next.count ≡ h.count
IsSameTried h (Leave lack) = ⊥

-- What a trial shows of an object is taken: it is searched on, or left out.
abbrev pub TakesTurn : ℕ → Turn → List Hiding → List Lacking → List Hiding → List Lacking → Type 0
TakesTurn o (Again next) kept lacking kept' lacking' = (kept' ≡ kept ++ next ∷ []) × (lacking' ≡ lacking)
TakesTurn o (Leave lack) kept lacking kept' lacking' = (kept' ≡ kept) × (lacking' ≡ lacking ++ record { object = o; lack = lack } ∷ [])

-- ---- all objects

-- What is known of an object goes on from what was known of it.
pub record IsOfHiding (flush : Bool) (hidings : List Hiding) (refused : List Lacking) (next : Hiding) : Type 0 where
  pub before : Hiding
  pub one : IsOneOf before hidings
  pub turned : IsTurned flush before refused next

-- Room was searched for in an object's journal.
pub record WasSearched (hidings : List Hiding) (one : Lacking) : Type 0 where
  pub hiding : Hiding
  pub among : IsOneOf hiding hidings
  pub object : hiding.object ≡ one.object

-- What is known of objects whose journals are full goes on, and some are left out.
pub record Turns (flush : Bool) (hidings : List Hiding) (survey : Survey) (lacking : List Lacking) (kept : List Hiding) (lacking' : List Lacking) : Type 0 where
  pub held : AllByRecursion (IsOfHiding flush hidings survey.refused.items) kept
  pub more : List Lacking
  pub lacking_are : lacking' ≡ lacking ++ more
  pub left : AllByRecursion (WasSearched hidings) more

-- The room that is needed is what was tried, and no more is left out.
pub record AreSettled (hidings : List Hiding) (lacking : List Lacking) (hidings' : List Hiding) (lacking' : List Lacking) : Type 0 where
  pub rooms : map room_found hidings' ≡ map room_tried hidings
  pub lacking_stay : lacking' ≡ lacking

-- Nothing is known yet of an object whose journal was full.
abbrev pub IsBegun : List Lacking → Hiding → Type 0
IsBegun refused h = (h.least ≡ 0) × HasFull refused h.object

-- Objects are searched for from now on, each of which was refused, and of which nothing else is known.
pub record Begins (search : Search) (refused : List Lacking) (later : Search) : Type 0 where
  pub begun : List Hiding
  pub hidings : later.hidings.items ≡ search.hidings.items ++ begun
  pub each : AllByRecursion (IsBegun refused) begun
  pub lacking : later.lacking ≡ search.lacking

-- An object is searched for from now on, whose journal was full, and of which nothing else is known.
pub record BeginsWith (hidings : List Hiding) (one : Lacking) (later : List Hiding) : Type 0 where
  pub begun : Hiding
  pub hidings_are : later ≡ hidings ++ begun ∷ []
  pub object : begun.object ≡ one.object
  pub least : begun.least ≡ 0
  pub full : one.lack ≡ Journal

-- It is, or all stays as it was.
abbrev pub BeginsOne : Search → Lacking → Search → Type 0
BeginsOne search one later = ((later.hidings ≡ search.hidings) ⊎ BeginsWith search.hidings.items one later.hidings.items) × (later.lacking ≡ search.lacking)

-- These are left out from now on.
abbrev pub Leaves : Search → List Lacking → Search → Type 0
Leaves search lacking later = (later.hidings ≡ search.hidings) × (later.lacking.items ≡ search.lacking.items ++ lacking)

-- whether an object is among these
abbrev pub is_in : List Lacking → ℕ → Bool
is_in lacking o = list_any (λ (one : Lacking). one.object == o) lacking

-- whether an object is searched on, as it isn't left out
abbrev pub is_kept : List Lacking → Hiding → Bool
is_kept lacking h = not (is_in lacking h.object)

-- ---- the search

-- What is known of an object after a trial goes on from what was known of it; or its journal was full, and nothing else is known.
abbrev pub IsKnown : Bool → List Hiding → Survey → Hiding → Type 0
IsKnown flush hidings survey next = IsOfHiding flush hidings survey.refused.items next ⊎ IsBegun survey.refused.items next

-- An object is left out as room in its journal was searched for, or as the trial found it lacking.
abbrev pub IsLeftBy : List Hiding → Survey → Lacking → Type 0
IsLeftBy hidings survey one = WasSearched hidings one ⊎ (IsOneOf one survey.hidden.items ⊎ IsOneOf one survey.refused.items)

-- What a search knows after a trial.
pub record Learns (flush : Bool) (search : Search) (survey : Survey) (later : Search) : Type 0 where
  pub hidings : AllByRecursion (IsKnown flush search.hidings.items survey) later.hidings.items
  pub more : List Lacking
  pub lacking : later.lacking.items ≡ search.lacking.items ++ more
  pub left : AllByRecursion (IsLeftBy search.hidings.items survey) more

-- What was found is what a trial tried: the room that is needed is the room that was, and what is left out was left out.
abbrev pub IsSettled : Search → Search → Type 0
IsSettled search later = AreSettled search.hidings.items search.lacking.items later.hidings.items later.lacking.items

-- What a search knows where all that a trial found lacking is left out: what was searched on is so, as far as it isn't left out.
pub record LeavesRest (search : Search) (survey : Survey) (later : Search) : Type 0 where
  pub hidings : later.hidings.items ≡ filter (is_kept survey.refused.items) search.hidings.items
  pub lacking : later.lacking.items ≡ search.lacking.items ++ (survey.hidden.items ++ survey.refused.items)
