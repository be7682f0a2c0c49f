-- What the definitions come to: each of these holds of all histories, and is the contract of a function with an
-- empty body.
use Rattle.std.specs.Prelude.{◌≡◌, ℕ, Bool, true, false, ◌+◌, ◌-◌, max, ◌<◌, ◌≤◌, ◌==◌, ◌&&◌, ◌||◌, nat_le, if◌then◌else◌, List, [], ◌∷◌, ◌++◌, length, take, count_by, Option, None, Some, MatchOption}
use Rattle.std.specs.List.{filter_map, range_with_len, AllByRecursion}
use Rattle.s4_types.specs.History.{History, Took, Seen, accepted}
use Rattle.s4_types.specs.declared.audit_rows.AuditRow.{AuditRow}
use Rattle.s4_types.specs.declared.changes.Accepted.{Accepted}
use Rattle.s4_types.specs.declared.requests.Role.{Role}
use Rattle.s4_types.specs.declared.requests.Request.{Request}
use Rattle.s4_types.specs.declared.requests.Request.TheVariants.{Update, Control}
use Rattle.s4_types.specs.declared.requests.ObjectRequest.TheVariants.{Delete}
use Rattle.s4_types.specs.declared.requests.AdminRequest.TheVariants.{SetWindow, Flush, FlushO}
use Rattle.s4_types.specs.declared.replies.Reply.{Reply}
use Rattle.s4_types.specs.declared.replies.Reply.TheVariants.{Refused, Changed, Created}
use Rattle.s4_types.specs.declared.refusals.Refusal.{Refusal}
use Rattle.s4_types.specs.declared.refusals.Refusal.TheVariants.{NoSpace, NoMemory, ChainFull, Busy}
use Rattle.s4_types.specs.declared.limits.TheConstants.{RUNS_IN_A_LIST, RUNS_IN_ALL}
use Rattle.s4_types.specs.declared.spans.Span.{Span}
use Rattle.s4_types.specs.declared.versions.Version.TheVariants.{Absent}
use Rattle.s4_model.specs.Effect.{effect, is_change_of}
use Rattle.s4_model.specs.Limits.{Fits}
use Rattle.s4_model.specs.Numbers.{clock_of, floor_of, next_of, window_of}
use Rattle.s4_model.specs.State.{State, state_of, grown, new_history, seen, took}
use Rattle.s4_model.specs.Audit.{audit_row, rows_from, audit_of, rows_asked, KeepsAudit}
use Rattle.s4_model.specs.VersionAt.{version_of}
use Rattle.s4_model.specs.Visible.{is_hidden, spans_of, IsVisible}
use Rattle.s4_model.specs.Runs.{is_covered, runs_of, run_count, run_count_of_all}
use Rattle.s4_model.specs.Refusals.{present}
use Rattle.s4_model.specs.Step.{Step}
use Rattle.s4_model.specs.Sound.{Ascends, IsSound}
use Rattle.s4_model.specs.Exchanges.{Exchange, Leads, AreOfClients}

-- a new drive's history is sound
abbrev pub ANewDriveIsSound : Type 0
ANewDriveIsSound = (window : ℕ) → IsSound (state_of (new_history window))

-- every step leaves a sound history sound
abbrev pub EveryStepKeepsSoundness : Type 0
EveryStepKeepsSoundness = (h after : History) (role : Role) (request : Request) (now : ℕ) (reply : Reply) → IsSound (state_of h) → Step h role request now reply after → IsSound (state_of after)

-- so all that exchanges lead to from a sound history is sound
abbrev pub ExchangesKeepSoundness : Type 0
ExchangesKeepSoundness = (h after : History) (exchanges : List Exchange) → IsSound (state_of h) → Leads h exchanges after → IsSound (state_of after)

-- After any steps of clients each version that could be read before, and whose moment is still at or above the
-- floor, can still be read and is the same.
abbrev pub NobodyWithAClientsRightsCanErase : Type 0
NobodyWithAClientsRightsCanErase = (h after : History) (exchanges : List Exchange) (o t : ℕ)
    → AreOfClients exchanges → Leads h exchanges after → IsVisible (state_of h) o t → floor_of after ≤ t
    → IsVisible (state_of after) o t × (version_of (state_of after) o t ≡ version_of (state_of h) o t)

-- they leave all that was hidden or shown at the moments up to the clock that they began at, and every version there
abbrev pub ClientsLeaveThePast : Type 0
ClientsLeaveThePast = (h after : History) (exchanges : List Exchange) (o t : ℕ)
    → AreOfClients exchanges → Leads h exchanges after → t ≤ clock_of h
    → (is_hidden (state_of after) o t ≡ is_hidden (state_of h) o t) × (version_of (state_of after) o t ≡ version_of (state_of h) o t)

-- they leave the window, and move the floor by it alone: up to where it reaches back from the clock
abbrev pub ClientsMoveTheFloorByTheWindow : Type 0
ClientsMoveTheFloorByTheWindow = (h after : History) (exchanges : List Exchange)
    → AreOfClients exchanges → Leads h exchanges after
    → (window_of after ≡ window_of h) × (floor_of after ≡ max (floor_of h) (clock_of after - window_of h))

-- the moment that a reply to an accepted change tells
abbrev pub moment_told : Reply → Option ℕ
moment_told (Changed moment) = Some moment
moment_told (Created object moment) = Some moment
moment_told _ = None

-- A reply tells a moment exactly where the step takes a change, which is stamped with it. Every other step sees
-- its own moment and takes none.
abbrev pub AMomentIsToldOfAChangeAlone : Type 0
AMomentIsToldOfAChangeAlone = (h after : History) (role : Role) (request : Request) (now : ℕ) (reply : Reply) → Step h role request now reply after
    → MatchOption (moment_told reply) (after ≡ grown h (Seen now)) (λ moment. (a : Accepted) × (a.moment ≡ moment) × (after ≡ grown h (Took a)))

-- What a change does: all versions of earlier moments stay, its object's present version is its effect on the
-- one before, and other objects keep theirs.
pub record ActsAtItsMoment (before after : State) (a : Accepted) : Type 0 where
  pub earlier : (o t : ℕ) → t < a.moment → version_of after o t ≡ version_of before o t
  pub changed : (o : ℕ) → is_change_of o a.change ≡ true → present after o ≡ effect a.change a.moment (present before o)
  pub others : (o : ℕ) → is_change_of o a.change ≡ false → present after o ≡ present before o

-- each step that takes a change does that
abbrev pub AChangeActsAtItsMoment : Type 0
AChangeActsAtItsMoment = (h : History) (role : Role) (request : Request) (now : ℕ) (reply : Reply) (a : Accepted)
    → IsSound (state_of h) → Step h role request now reply (grown h (Took a)) → ActsAtItsMoment (state_of h) (state_of (grown h (Took a))) a

-- no step sets the clock back
abbrev pub TheClockNeverFalls : Type 0
TheClockNeverFalls = (h after : History) (role : Role) (request : Request) (now : ℕ) (reply : Reply) → Step h role request now reply after → clock_of h ≤ clock_of after

-- no step sets the floor back
abbrev pub TheFloorNeverFalls : Type 0
TheFloorNeverFalls = (h after : History) (role : Role) (request : Request) (now : ℕ) (reply : Reply) → Step h role request now reply after → floor_of h ≤ floor_of after

-- and so none that sets the window, however large
abbrev pub NoWindowLowersTheFloor : Type 0
NoWindowLowersTheFloor = (h after : History) (role : Role) (window now : ℕ) (reply : Reply) → Step h role (Control (SetWindow window)) now reply after → floor_of h ≤ floor_of after

-- A change is accepted at the first moment that is above the clock and not before its request's, which is then
-- the clock.
abbrev pub AnAcceptedMomentIsLater : Type 0
AnAcceptedMomentIsLater = (h : History) (role : Role) (request : Request) (now : ℕ) (reply : Reply) (a : Accepted)
    → Step h role request now reply (grown h (Took a)) → (a.moment ≡ max now (clock_of h + 1)) × (clock_of (grown h (Took a)) ≡ a.moment)

-- an accepted change makes no object and no attribute larger than the limits
abbrev pub AnAcceptedChangeKeepsTheLimits : Type 0
AnAcceptedChangeKeepsTheLimits = (h : History) (role : Role) (request : Request) (now : ℕ) (reply : Reply) (a : Accepted)
    → Step h role request now reply (grown h (Took a)) → Fits a.change

-- the moments of all accepted changes ascend strictly, from above the base's clock up to the clock
abbrev pub AcceptedMomentsAscend : Type 0
AcceptedMomentsAscend = (h after : History) (exchanges : List Exchange) → IsSound (state_of h) → Leads h exchanges after → Ascends after.base.clock (accepted after) (clock_of after)

-- the present clock can be read, of each object
abbrev pub ThePresentClockIsVisible : Type 0
ThePresentClockIsVisible = (h : History) (o : ℕ) → IsSound (state_of h) → IsVisible (state_of h) o (clock_of h)

-- What a change leaves that only hides: every version, the present versions, and that the clock isn't hidden.
pub record LeavesVersions (before after : State) : Type 0 where
  pub versions : (o t : ℕ) → version_of after o t ≡ version_of before o t
  pub current : (o : ℕ) → present after o ≡ present before o
  pub shown : (o : ℕ) → is_hidden after o after.clock ≡ false

-- an accepted Flush hides the moments of its span, of every object, and no others
abbrev pub AFlushHidesItsSpan : Type 0
AFlushHidesItsSpan = (h : History) (role : Role) (first last now : ℕ) (reply : Reply) (a : Accepted)
    → IsSound (state_of h) → Step h role (Control (Flush first last)) now reply (grown h (Took a))
    → ((o t : ℕ) → is_hidden (state_of (grown h (Took a))) o t ≡ (is_hidden (state_of h) o t || (nat_le first t && nat_le t last)))
    × LeavesVersions (state_of h) (state_of (grown h (Took a)))

-- an accepted FlushO hides those of its object alone
abbrev pub AFlushOfAnObjectHidesItsSpan : Type 0
AFlushOfAnObjectHidesItsSpan = (h : History) (role : Role) (object first last now : ℕ) (reply : Reply) (a : Accepted)
    → IsSound (state_of h) → Step h role (Control (FlushO object first last)) now reply (grown h (Took a))
    → ((o t : ℕ) → is_hidden (state_of (grown h (Took a))) o t ≡ (is_hidden (state_of h) o t || (object == o && (nat_le first t && nat_le t last))))
    × LeavesVersions (state_of h) (state_of (grown h (Took a)))

-- a Create is given the next number, and the number after it is next
abbrev pub ACreateIsGivenTheNextNumber : Type 0
ACreateIsGivenTheNextNumber = (h after : History) (role : Role) (request : Request) (now object moment : ℕ)
    → Step h role request now (Created object moment) after → (object ≡ next_of h) × (next_of after ≡ object + 1)

-- the number that a reply to a Create tells
abbrev pub number_told : Reply → Option ℕ
number_told (Created object moment) = Some object
number_told _ = None

-- the numbers that exchanges gave, in order
abbrev pub numbers_given : List Exchange → List ℕ
numbers_given exchanges = filter_map (λ e. number_told e.reply) exchanges

-- these are the next ones, one by one, and after them comes the next one: so none is ever given again
abbrev pub ObjectNumbersAscend : Type 0
ObjectNumbersAscend = (h after : History) (exchanges : List Exchange) → Leads h exchanges after
    → (numbers_given exchanges ≡ range_with_len (next_of h) (length (numbers_given exchanges))) × (next_of after ≡ next_of h + length (numbers_given exchanges))

-- an object whose number was given and that isn't there is absent ever after
abbrev pub TheAbsentStayAbsent : Type 0
TheAbsentStayAbsent = (h after : History) (object : ℕ) (exchanges : List Exchange)
    → IsSound (state_of h) → object < next_of h → present (state_of h) object ≡ Absent → Leads h exchanges after → present (state_of after) object ≡ Absent

-- so an object that was deleted is absent ever after
abbrev pub ADeadObjectStaysAbsent : Type 0
ADeadObjectStaysAbsent = (h after later : History) (role : Role) (object now moment : ℕ) (exchanges : List Exchange)
    → IsSound (state_of h) → Step h role (Update (Delete object)) now (Changed moment) after → Leads after exchanges later → present (state_of later) object ≡ Absent

-- the refusals that a drive may choose: of memory, of space, of a full chain, of seats
abbrev pub is_of_want : Refusal → Bool
is_of_want NoMemory = true
is_of_want NoSpace = true
is_of_want ChainFull = true
is_of_want Busy = true
is_of_want _ = false

abbrev pub is_refused_for_want : Reply → Bool
is_refused_for_want (Refused refusal) = is_of_want refusal
is_refused_for_want _ = false

-- Each request has a reply that isn't one of those, whoever asks and whenever.
abbrev pub EachRequestHasAStep : Type 0
EachRequestHasAStep = (h : History) (role : Role) (request : Request) (now : ℕ)
    → (reply : Reply) × (after : History) × Step h role request now reply after × (is_refused_for_want reply ≡ false)

-- and but for those there is one reply, and one history after it
abbrev pub StepsAgreeButForWant : Type 0
StepsAgreeButForWant = (h after other_after : History) (role : Role) (request : Request) (now : ℕ) (reply other_reply : Reply)
    → Step h role request now reply after → Step h role request now other_reply other_after → is_refused_for_want reply ≡ false → is_refused_for_want other_reply ≡ false
    → (other_reply ≡ reply) × (other_after ≡ after)

-- runs from a moment on: each ends at or after its beginning, and the next leaves a moment out between them
abbrev pub AreApart : ℕ → List (ℕ × ℕ) → Type 0
AreApart low [] = Unit {0}
AreApart low (run ∷ runs) = (low ≤ run.0) × (run.0 ≤ run.1) × AreApart (run.1 + 2) runs

-- whether a run has the moment in it
abbrev pub is_in_run : ℕ → ℕ × ℕ → Bool
is_in_run t run = nat_le run.0 t && nat_le t run.1

-- The maximal runs of a set of moments up to the clock: ascending and apart, none past the clock, each moment of
-- the set in exactly one and each other moment in none, and as many as are counted.
pub record AreRunsOf (set : ℕ → Bool) (clock : ℕ) (runs : List (ℕ × ℕ)) : Type 0 where
  pub apart : AreApart 0 runs
  pub reached : AllByRecursion (λ run. run.1 ≤ clock) runs
  pub cover : (t : ℕ) → t ≤ clock → count_by (is_in_run t) runs ≡ (if set t then 1 else 0)
  pub count : length runs ≡ run_count set clock

-- the runs of each set of moments that ends at the clock are such
abbrev pub RunsAreMaximal : Type 0
RunsAreMaximal = (set : ℕ → Bool) (clock : ℕ) → set (clock + 1) ≡ false → AreRunsOf set clock (runs_of set clock)

-- the runs of a list of these spans, up to the clock, are such; the list of all objects is number 0
abbrev pub HaveMaximalRuns : State → List Span → ℕ → Type 0
HaveMaximalRuns s spans list = AreRunsOf (is_covered s.floor spans list) s.clock (runs_of (is_covered s.floor spans list) s.clock)

-- so those of each list of a sound history are, and those with one more span that isn't bad
abbrev pub ListsHaveMaximalRuns : Type 0
ListsHaveMaximalRuns = (h : History) (list : ℕ) → IsSound (state_of h)
    → HaveMaximalRuns (state_of h) (spans_of (state_of h)) list
    × ((span : Span) → span.last ≤ clock_of h → HaveMaximalRuns (state_of h) (spans_of (state_of h) ++ span ∷ []) list)

-- from the floor on a moment of an object is hidden exactly where the list of all objects or its own covers it
abbrev pub ListsHideAlike : Type 0
ListsHideAlike = (h : History) (o t : ℕ) → floor_of h ≤ t
    → is_hidden (state_of h) o t ≡ (is_covered (floor_of h) (spans_of (state_of h)) 0 t || is_covered (floor_of h) (spans_of (state_of h)) o t)

-- the lists of numbers that weren't given yet are empty, so that all lists are counted
abbrev pub NoListIsLeftOut : Type 0
NoListIsLeftOut = (h : History) (list t : ℕ) → IsSound (state_of h) → next_of h ≤ list → is_covered (floor_of h) (spans_of (state_of h)) list t ≡ false

-- No list of a state has more runs than a list may have, and all lists together no more than all may.
pub record KeepsRunLimits (s : State) : Type 0 where
  pub each : (list : ℕ) → run_count (is_covered s.floor (spans_of s) list) s.clock ≤ RUNS_IN_A_LIST
  pub all : run_count_of_all s.floor (spans_of s) s.clock s.next ≤ RUNS_IN_ALL

-- a new drive's history does
abbrev pub ANewDriveKeepsTheRunLimits : Type 0
ANewDriveKeepsTheRunLimits = (window : ℕ) → KeepsRunLimits (state_of (new_history window))

-- every step of a sound history keeps it so
abbrev pub EveryStepKeepsTheRunLimits : Type 0
EveryStepKeepsTheRunLimits = (h after : History) (role : Role) (request : Request) (now : ℕ) (reply : Reply)
    → IsSound (state_of h) → KeepsRunLimits (state_of h) → Step h role request now reply after → KeepsRunLimits (state_of after)

-- and so do exchanges
abbrev pub ExchangesKeepTheRunLimits : Type 0
ExchangesKeepTheRunLimits = (h after : History) (exchanges : List Exchange)
    → IsSound (state_of h) → KeepsRunLimits (state_of h) → Leads h exchanges after → KeepsRunLimits (state_of after)

-- a moment that is seen takes from the audit what is below the floor then, and nothing else
abbrev pub AMomentCutsTheAudit : Type 0
AMomentCutsTheAudit = (s : State) (now : ℕ) → audit_of (seen s now) ≡ rows_from (seen s now).floor (audit_of s)

-- so does an accepted change, whose own row comes last
abbrev pub AChangeAddsItsRow : Type 0
AChangeAddsItsRow = (s : State) (a : Accepted) → s.floor ≤ a.moment
    → audit_of (took s a) ≡ rows_from (took s a).floor (audit_of s) ++ audit_row a ∷ []

-- Rows that are kept of the audit are kept when a moment is seen, and with the row of each change that is accepted; those
-- below the floor can go; and the first rows from each moment on are found among those that are kept.
pub record AKeptAuditGoesOn (s : State) (kept : List AuditRow) : Type 0 where
  pub sees : (now : ℕ) → KeepsAudit (seen s now) kept
  pub takes : (a : Accepted) → s.floor ≤ s.clock → s.clock < a.moment → KeepsAudit (took s a) (kept ++ audit_row a ∷ [])
  pub cut : KeepsAudit s (audit_of s)
  pub asked : (from most : ℕ) → rows_asked s from most ≡ take most (rows_from (max from s.floor) kept)

abbrev pub KeptAuditsGoOn : Type 0
KeptAuditsGoOn = (s : State) (kept : List AuditRow) → KeepsAudit s kept → AKeptAuditGoesOn s kept
