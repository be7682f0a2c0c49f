-- What is refused and what is accepted, as steps.
use Rattle.std.proofs.Common.{◌≡◌, [], ◌⊎◌, inl, inr, ℕ, Bool, true, false, cond, Option, Some, None, refl, sym, ap, subst, ◌∙◌}
use Rattle.std.proofs.lemmas.Option.{none-some, same_Some}
use Rattle.std.specs.Option.{option_and_then}
use Rattle.std.specs.List.{AllByRecursion}
use Rattle.s4_types.specs.History.{History, Took, Seen}
use Rattle.s4_types.specs.declared.changes.Change.{Change}
use Rattle.s4_types.specs.declared.requests.Role.{Role}
use Rattle.s4_types.specs.declared.requests.Role.TheVariants.{Client}
use Rattle.s4_types.specs.declared.requests.Request.{Request}
use Rattle.s4_types.specs.declared.requests.Request.TheVariants.{Update, Query, Control}
use Rattle.s4_types.specs.declared.requests.ObjectRequest.TheVariants.{Create}
use Rattle.s4_types.specs.declared.requests.AdminRequest.TheVariants.{SetWindow, Flush, FlushO}
use Rattle.s4_types.specs.declared.replies.Reply.{Reply}
use Rattle.s4_types.specs.declared.replies.Reply.TheVariants.{Refused}
use Rattle.s4_types.specs.declared.refusals.Refusal.{Refusal}
use Rattle.s4_types.specs.declared.refusals.Refusal.TheVariants.{NoMemory, ChainFull, NoSpace, ClockEnd}
use Rattle.s4_types.specs.declared.refusals.Refusal.TheVariants as refusal
use Rattle.s4_model.specs.State.{State, state_of, grown}
use Rattle.s4_model.specs.Refusals.{first_refusal, applies, checks}
use Rattle.s4_model.proofs.StepLemmas.{found_passes}
use Rattle.s4_model.specs.Step.{Step, Refuses, Serves, Alters, Reads, MayRefuse, AsFirst, ForMemory, AsOpen, MayWantMemory, IsLeftOpen, judged, change_of, reply_to_read, accepted_record, stamp, reply_to_change}
use Rattle.s4_model.specs.Sound.{IsSound}
use Rattle.s4_model.specs.Laws.{EveryStepKeepsSoundness}
use Rattle.segment_word.specs.AcceptViews.{Ledger}
use Rattle.s4_model.specs.Effect.{is_of_versions}
use Rattle.s4_model.proofs.OutcomeLemmas.{judged-change}
use Rattle.version_store.specs.Store.{StoreFields}
use Rattle.version_store.specs.Costs.{change_refusal}
use Rattle.drive.specs.Refusing.{or_then, storing_refusal, want_of, IsFoundLater, IsOfBlocks, MayLackMemory, IsRefusal}
use Rattle.drive.specs.Fields.{DriveFields, SessionFields, store_of, state_in}
use Rattle.drive.specs.Answering.{TakesChange}

-- ---- what is refused

-- a full chain and lack of room are left open
open_of_tests : (a b : Bool) (e : Refusal) → cond a (Some ChainFull) (cond b (Some NoSpace) None) ≡ Some e → IsLeftOpen e
open_of_tests true b e is = subst IsLeftOpen (same_Some ChainFull e is) tt
open_of_tests false true e is = subst IsLeftOpen (same_Some NoSpace e is) tt
open_of_tests false false e is = absurd (none-some e is)

open_of_change : (store : StoreFields) (m : ℕ) (change : Change) (e : Refusal) → change_refusal store change m ≡ Some e → IsLeftOpen e
open_of_change store m change e is = open_of_tests _ _ e is

open_where : (b : Bool) (r : Option Refusal) (e : Refusal) → ((x : Refusal) → r ≡ Some x → IsLeftOpen x) → cond b r None ≡ Some e → IsLeftOpen e
open_where true r e opens is = opens e is
open_where false r e opens is = absurd (none-some e is)

open_of_wanted : (store : StoreFields) (m : ℕ) (asked : Option Change) (e : Refusal) → option_and_then (storing_refusal store m) asked ≡ Some e → IsLeftOpen e
open_of_wanted store m None e is = absurd (none-some e is)
open_of_wanted store m (Some change) e is = open_where (is_of_versions change) (change_refusal store change m) e (open_of_change store m change) is

pub open_of_want : (store : StoreFields) (s : State) (request : Request) (now : ℕ) (e : Refusal) → want_of store s request now ≡ Some e → IsLeftOpen e
open_of_want store s request now e is = open_of_wanted store (stamp s now) (change_of s request) e is

pub or_then_some : (first second : Option Refusal) (e : Refusal) → or_then first second ≡ Some e → (first ≡ Some e) ⊎ ((first ≡ None) × (second ≡ Some e))
or_then_some (Some r) second e is = inl is
or_then_some None second e is = inr (refl, is)

pub or_then_none : (first second : Option Refusal) → or_then first second ≡ None → (first ≡ None) × (second ≡ None)
or_then_none (Some r) second is = absurd (none-some r (sym is))
or_then_none None second is = (refl, is)

may_refuse_it : (first second : Option Refusal) (request : Request) (e : Refusal) → ((x : Refusal) → second ≡ Some x → IsLeftOpen x) → (first ≡ Some e) ⊎ ((first ≡ None) × (second ≡ Some e)) → MayRefuse first request e
may_refuse_it first second request e opens (inl is) = AsFirst is
may_refuse_it first second request e opens (inr is) = AsOpen is.0 (opens e is.1)

-- where what hides moments may lack memory, the model lets it want some
found_later_wants : (first second : Option Refusal) (request : Request) → IsFoundLater (or_then first second) → MayWantMemory first request
found_later_wants None second request later = tt
found_later_wants (Some refusal.ChainFull) second request later = absurd later
found_later_wants (Some refusal.NoSpace) second request later = absurd later
found_later_wants (Some refusal.Busy) second request later = absurd later
found_later_wants (Some refusal.NoObject) second request later = absurd later
found_later_wants (Some refusal.NotAdmin) second request later = absurd later
found_later_wants (Some refusal.Expired) second request later = absurd later
found_later_wants (Some refusal.Future) second request later = absurd later
found_later_wants (Some refusal.Flushed) second request later = absurd later
found_later_wants (Some refusal.TooLarge) second request later = absurd later
found_later_wants (Some refusal.BadSpan) second request later = absurd later
found_later_wants (Some refusal.TooManySpans) second request later = tt
found_later_wants (Some refusal.NoMemory) second request later = absurd later
found_later_wants (Some refusal.ClockEnd) second request later = tt
found_later_wants (Some refusal.BadAttr) second request later = absurd later
found_later_wants (Some refusal.BadFrame) second request later = absurd later
found_later_wants (Some (refusal.Damaged cause)) second request later = absurd later
found_later_wants (Some refusal.Stale) second request later = absurd later
found_later_wants (Some refusal.NoRoom) second request later = absurd later
found_later_wants (Some refusal.InUse) second request later = absurd later

none_wants : (first second : Option Refusal) (request : Request) → or_then first second ≡ None → MayWantMemory first request
none_wants None second request is = tt
none_wants (Some r) second request is = absurd (none-some r (sym is))

-- where a change may lack memory for its row, no check refuses it, and the model lets it want some
of_blocks_wants : (first second : Option Refusal) (request : Request) → ((x : Refusal) → first ≡ Some x → IsLeftOpen x → ⊥) → IsOfBlocks (or_then first second) → MayWantMemory first request
of_blocks_wants None second request checked lacks = tt
of_blocks_wants (Some refusal.ChainFull) second request checked lacks = absurd (checked refusal.ChainFull refl tt)
of_blocks_wants (Some refusal.NoSpace) second request checked lacks = absurd (checked refusal.NoSpace refl tt)
of_blocks_wants (Some refusal.Busy) second request checked lacks = absurd lacks
of_blocks_wants (Some refusal.NoObject) second request checked lacks = absurd lacks
of_blocks_wants (Some refusal.NotAdmin) second request checked lacks = absurd lacks
of_blocks_wants (Some refusal.Expired) second request checked lacks = absurd lacks
of_blocks_wants (Some refusal.Future) second request checked lacks = absurd lacks
of_blocks_wants (Some refusal.Flushed) second request checked lacks = absurd lacks
of_blocks_wants (Some refusal.TooLarge) second request checked lacks = absurd lacks
of_blocks_wants (Some refusal.BadSpan) second request checked lacks = absurd lacks
of_blocks_wants (Some refusal.TooManySpans) second request checked lacks = absurd lacks
of_blocks_wants (Some refusal.NoMemory) second request checked lacks = absurd lacks
of_blocks_wants (Some refusal.ClockEnd) second request checked lacks = absurd lacks
of_blocks_wants (Some refusal.BadAttr) second request checked lacks = absurd lacks
of_blocks_wants (Some refusal.BadFrame) second request checked lacks = absurd lacks
of_blocks_wants (Some (refusal.Damaged cause)) second request checked lacks = absurd lacks
of_blocks_wants (Some refusal.Stale) second request checked lacks = absurd lacks
of_blocks_wants (Some refusal.NoRoom) second request checked lacks = absurd lacks
of_blocks_wants (Some refusal.InUse) second request checked lacks = absurd lacks

-- no check leaves a drive a choice
abbrev pub IsChecked : Option Refusal → Type 0
IsChecked first = (x : Refusal) → first ≡ Some x → IsLeftOpen x → ⊥

checks_are_closed : AllByRecursion (λ r. IsLeftOpen r → ⊥) checks
checks_are_closed = (λ left. left, (λ left. left, (λ left. left, (λ left. left, (λ left. left, (λ left. left, (λ left. left, (λ left. left, (λ left. left, (λ left. left, tt))))))))))

pub checked : (s : State) (role : Role) (request : Request) → IsChecked (first_refusal s role request)
checked s role request x is = found_passes (applies s role request) (λ r. IsLeftOpen r → ⊥) checks x checks_are_closed is

may_want : (first second : Option Refusal) (request : Request) → IsChecked first → MayLackMemory (or_then first second) request → MayWantMemory first request
may_want first second (Update update) closed lacks = of_blocks_wants first second (Update update) closed lacks
may_want first second (Query question) closed lacks = none_wants first second (Query question) lacks
may_want first second (Control (SetWindow window)) closed lacks = none_wants first second (Control (SetWindow window)) lacks
may_want first second (Control (Flush from to)) closed lacks = found_later_wants first second (Control (Flush from to)) lacks
may_want first second (Control (FlushO object from to)) closed lacks = found_later_wants first second (Control (FlushO object from to)) lacks

pub may_refuse : (first : Option Refusal) (store : StoreFields) (s : State) (request : Request) (now : ℕ) (e : Refusal) → IsChecked first → IsRefusal first store s request now e → MayRefuse first request e
may_refuse first store s request now e closed (inl h) = ForMemory h.0 (may_want first (want_of store s request now) request closed h.1)
may_refuse first store s request now e closed (inr is) =
    may_refuse_it first (want_of store s request now) request e (open_of_want store s request now) (or_then_some first (want_of store s request now) e is)

-- a refusal is a step that sees the moment
pub step_refuses : (h : History) (store : StoreFields) (role : Role) (request : Request) (now : ℕ) (e : Refusal) → IsRefusal (first_refusal (judged h request now) role request) store (judged h request now) request now e → Step h role request now (Refused e) (grown h (Seen now))
step_refuses h store role request now e is = Refuses e refl (may_refuse (first_refusal (judged h request now) role request) store (judged h request now) request now e (checked (judged h request now) role request) is) refl

-- ---- what is accepted

-- an accepted change is a step that takes it
pub step_takes : (h : History) (role : Role) (request : Request) (now : ℕ) (change : Change) → first_refusal (state_of h) role request ≡ None → change_of (state_of h) request ≡ Some change
    → Step h role request now (reply_to_change (state_of h) change now) (grown h (Took (accepted_record (state_of h) change now)))
step_takes h role request now change free asked =
    Serves (Took (accepted_record (state_of h) change now)) (ap (λ (s : State). first_refusal s role request) (judged-change h request now change asked) ∙ free) (Alters change asked refl refl) refl

pub step_accepts : (scarce : StoreFields) (d later : DriveFields) (before after : SessionFields) (role : Role) (request : Request) (now : ℕ) (reply : Reply) → TakesChange scarce (first_refusal (state_in d) role request) d later before after request now reply → Step d.ledger.history role request now reply later.ledger.history
step_accepts scarce d later before after role request now reply is =
    let step = step_takes d.ledger.history role request now is.change (or_then_none (first_refusal (state_in d) role request) (want_of scarce (state_in d) request now) is.free).0 is.asked in
    subst (λ (r : Reply). Step d.ledger.history role request now r later.ledger.history) (sym is.reply)
    (subst (λ (x : Ledger). Step d.ledger.history role request now (reply_to_change (state_in d) is.change now) x.history) (sym is.ledger) step)

-- a read that is answered is a step that sees the moment
pub step_tells : (h : History) (role : Role) (request : Request) (now : ℕ) (reply : Reply) → first_refusal (judged h request now) role request ≡ None → reply_to_read (judged h request now) request ≡ Some reply → Step h role request now reply (grown h (Seen now))
step_tells h role request now reply free tells = Serves (Seen now) free (Reads tells refl) refl

-- ---- soundness

some_or_none : (b : Bool) (request : Request) → MayWantMemory (cond b (Some ClockEnd) None) request
some_or_none true request = tt
some_or_none false request = tt

-- a moment seen keeps a history sound, since a refusal is a step
pub sound_seen : EveryStepKeepsSoundness → (h : History) (now : ℕ) → IsSound (state_of h) → IsSound (state_of (grown h (Seen now)))
sound_seen keeps h now sound =
    keeps h (grown h (Seen now)) Client (Update (Create [])) now (Refused NoMemory) sound (Refuses NoMemory refl (ForMemory refl (some_or_none _ (Update (Create [])))) refl)

-- so does an accepted change
pub sound_taken : EveryStepKeepsSoundness → (h : History) (role : Role) (request : Request) (now : ℕ) (change : Change) → IsSound (state_of h) → first_refusal (state_of h) role request ≡ None → change_of (state_of h) request ≡ Some change
    → IsSound (state_of (grown h (Took (accepted_record (state_of h) change now))))
sound_taken keeps h role request now change sound free asked =
    keeps h (grown h (Took (accepted_record (state_of h) change now))) role request now (reply_to_change (state_of h) change now) sound (step_takes h role request now change free asked)
