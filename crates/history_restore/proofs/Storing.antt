-- What a request for a change of an object stores, when it is refused for what its change takes, and how far it moves the clock.
use Rattle.std.proofs.Common.{◌≡◌, ◌∙◌, ◌≤◌, ℕ, Bool, true, false, cond, Option, None, Some, inl, inr, refl, sym, ap, subst, arith}
use Rattle.std.specs.Prelude.{option_and_then, MatchBool}
use Rattle.std.specs.List.{AllByRecursion}
use Rattle.std.proofs.lemmas.Bool.{true≢false}
use Rattle.std.proofs.lemmas.Option.{none-some, same_Some}
use Rattle.s4_types.specs.History.{History, Record}
use Rattle.s4_types.specs.declared.changes.Accepted.{Accepted}
use Rattle.s4_types.specs.declared.changes.Change.{Change}
use Rattle.s4_types.specs.declared.changes.Change.TheVariants as change
use Rattle.s4_types.specs.declared.requests.Role.{Role}
use Rattle.s4_types.specs.declared.requests.Request.{Request}
use Rattle.s4_types.specs.declared.requests.Request.TheVariants.{Update, Query, Control}
use Rattle.s4_types.specs.declared.requests.ObjectRequest.TheVariants.{Create, Delete, Write, Append, Truncate, SetAttr}
use Rattle.s4_types.specs.declared.refusals.Refusal.{Refusal}
use Rattle.s4_types.specs.declared.refusals.Refusal.TheVariants.{NoMemory, Busy}
use Rattle.s4_types.specs.declared.replies.Reply.{Reply}
use Rattle.s4_types.specs.declared.replies.Reply.TheVariants.{Refused}
use Rattle.s4_model.specs.State.{State, state_of, seen, took}
use Rattle.s4_model.specs.Effect.{is_of_versions}
use Rattle.s4_model.specs.Refusals.{applies, checks, first_refusal, present, size_of}
use Rattle.s4_model.specs.Step.{Step, Refuses, Serves, Accepts, Alters, Reads, accepted_record, change_of, judged, stamp}
use Rattle.s4_model.proofs.StepLemmas.{found_passes}
use Rattle.version_store.specs.Costs.{change_refusal}
use Rattle.version_store.specs.Store.{StoreFields}
use Rattle.drive.specs.Answering.{Leaves, StoresChange, StoresVersion, is_acceptance}
use Rattle.drive.specs.Fields.{DriveFields, history_of, state_in, store_of}
use Rattle.drive.specs.Refusing.{RefusesBy, RefusesExactly, or_then, refusal_of, storing_refusal, want_of}
use Rattle.drive.proofs.Served.{accepts_change}
use Rattle.history_restore.specs.Asking.{IsForAsked, IsMovedBy, IsWithinChanges, StoresAsked, clock_by, is_of_room}
use Rattle.history_restore.proofs.Denying.{judged_as_was}
use Rattle.history_restore.proofs.Stepping.{IsOfVersions, BySeen, ByTook, IsNoRead, IsTaken, granted_took, no_read, refused_saw}

-- ---- refused

-- no check is for a full journal or a lack of blocks
abbrev IsOther : Refusal → Type 0
IsOther r = is_of_room r ≡ true → ⊥

checks_are_others : AllByRecursion IsOther checks
checks_are_others = (λ e. cc, (λ e. cc, (λ e. cc, (λ e. cc, (λ e. cc, (λ e. cc, (λ e. cc, (λ e. cc, (λ e. cc, (λ e. cc, tt))))))))))

no_check_is_so : (s : State) (role : Role) (request : Request) (e : Refusal) → is_of_room e ≡ true → first_refusal s role request ≡ Some e → ⊥
no_check_is_so s role request e of is = found_passes (applies s role request) IsOther checks e checks_are_others is of

want_by : (first want : Option Refusal) (e : Refusal) → (first ≡ Some e → ⊥) → or_then first want ≡ Some e → want ≡ Some e
want_by None want e never is = is
want_by (Some f) want e never is = absurd (never is)

-- what is refused so is by the drive
other_than : (e other : Refusal) → is_of_room e ≡ true → is_of_room other ≡ false → e ≡ other → ⊥
other_than e other of not_of same = true≢false (sym of ∙ ap is_of_room same ∙ not_of)

why_so : (why : Option Refusal) (d : DriveFields) (request : Request) (e : Refusal) → is_of_room e ≡ true → RefusesBy why d request (Refused e) → why ≡ Some e
why_so why d request e of (inl h) = absurd (other_than e NoMemory of refl h.0)
why_so why d request e of (inr (inl is)) = is
why_so why d request e of (inr (inr h)) = absurd (other_than e Busy of refl h.0)

stored_so : (b : Bool) (x : Option Refusal) (e : Refusal) → cond b x None ≡ Some e → x ≡ Some e
stored_so true x e is = is
stored_so false x e is = absurd (none-some e is)

pub lacks_refused : (d later : DriveFields) (role : Role) (request : Request) (now : ℕ) (reply : Reply) (e : Refusal) → IsOfVersions request → reply ≡ Refused e → RefusesExactly d role request now reply later → IsForAsked (store_of d) (state_in d) request e
lacks_refused d later role request now reply e of refused exactly lacks c asked =
    let s : State = state_in d in
    let store : StoreFields = store_of d in
    let by : RefusesBy (refusal_of store s role request now) later request (Refused e) =
    subst (λ (k : State). RefusesBy (refusal_of store k role request now) later request (Refused e)) (judged_as_was (history_of d) request now of)
    (subst (RefusesBy (refusal_of store (judged (history_of d) request now) role request now) later request) refused exactly) in
    let want : want_of store s request now ≡ Some e = want_by (first_refusal s role request) (want_of store s request now) e (no_check_is_so s role request e lacks) (why_so (refusal_of store s role request now) later request e lacks by) in
    let m : ℕ = stamp s now in
    (m, stored_so (is_of_versions c) (change_refusal store c m) e (sym (ap (option_and_then (storing_refusal store m)) asked) ∙ want))

-- ---- granted

accepts_by : (h : History) (request : Request) (now : ℕ) (reply : Reply) (r : Record) → IsNoRead request → Accepts h request now reply r → is_acceptance reply ≡ true
accepts_by h request now reply r unread (Alters c asked is r_is) = ap is_acceptance is ∙ accepts_change c (stamp (state_of h) now)
accepts_by h request now reply r unread (Reads is r_is) = absurd (unread (judged h request now) reply is)

is_accepted : (h after : History) (role : Role) (request : Request) (now : ℕ) (reply : Reply) → IsNoRead request → ((e : Refusal) → reply ≡ Refused e → ⊥) → Step h role request now reply after → is_acceptance reply ≡ true
is_accepted h after role request now reply unread free (Refuses refusal is may after_is) = absurd (free refusal is)
is_accepted h after role request now reply unread free (Serves r none accepts after_is) = accepts_by h request now reply r unread accepts

-- the change that is asked for makes a version
makes_version : (s : State) (request : Request) (c : Change) → IsOfVersions request → change_of s request ≡ Some c → is_of_versions c ≡ true
makes_version s (Update (Create attribute)) c of is = ap is_of_versions (sym (same_Some (change.Create s.next attribute) c is))
makes_version s (Update (Delete object)) c of is = ap is_of_versions (sym (same_Some (change.Delete object) c is))
makes_version s (Query question) c of is = absurd of
makes_version s (Update (Write object offset bytes)) c of is = ap is_of_versions (sym (same_Some (change.Write object offset bytes) c is))
makes_version s (Update (Append object bytes)) c of is = ap is_of_versions (sym (same_Some (change.Write object (size_of (present s object)) bytes) c is))
makes_version s (Update (Truncate object size)) c of is = ap is_of_versions (sym (same_Some (change.Truncate object size) c is))
makes_version s (Update (SetAttr object attribute)) c of is = ap is_of_versions (sym (same_Some (change.SetAttr object attribute) c is))
makes_version s (Control control) c of is = absurd of

first_case : (b : Bool) (P Q : Type 0) → b ≡ true → MatchBool b P Q → P
first_case true P Q is h = h
first_case false P Q is h = absurd (cc)

pub stored_granted : (d later : DriveFields) (role : Role) (request : Request) (now : ℕ) (reply : Reply) → IsOfVersions request → ((e : Refusal) → reply ≡ Refused e → ⊥)
    → Step (history_of d) role request now reply (history_of later) → Leaves (store_of d) (state_in d) request now reply (store_of later) → StoresAsked (store_of d) (state_in d) request (store_of later)
stored_granted d later role request now reply of free step leaves c asked =
    let s : State = state_in d in
    let m : ℕ = stamp s now in
    let accepted : is_acceptance reply ≡ true = is_accepted (history_of d) (history_of later) role request now reply (no_read request of) free step in
    let stores = first_case (is_acceptance reply) ((c : Change) → change_of s request ≡ Some c → StoresChange (store_of d) c m (store_of later)) (store_of later ≡ store_of d) accepted leaves in
    (m, first_case (is_of_versions c) (StoresVersion (store_of d) c m (store_of later)) (store_of later ≡ store_of d) (makes_version s request c of asked) (stores c asked))

-- ---- the clock

pub clock_refused : (h after : History) (role : Role) (request : Request) (now : ℕ) (reply : Reply) (e : Refusal) → BySeen → IsNoRead request → reply ≡ Refused e → Step h role request now reply after → IsWithinChanges (state_of h) now 1 (state_of after)
clock_refused h after role request now reply e by_seen unread refused step =
    let s : State = state_of h in
    let within : (seen s now).clock ≤ clock_by s.clock now 1 = omega arith in
    subst (IsWithinChanges s now 1) (sym (ap state_of (refused_saw h after role request now reply e unread refused step) ∙ by_seen h now)) within

pub clock_granted : (h after : History) (role : Role) (request : Request) (now : ℕ) (reply : Reply) → ByTook → IsNoRead request → ((e : Refusal) → reply ≡ Refused e → ⊥) → Step h role request now reply after → IsWithinChanges (state_of h) now 1 (state_of after)
clock_granted h after role request now reply by_took unread free step =
    let s : State = state_of h in
    let taken : IsTaken h request now after = granted_took h after role request now reply unread free step in
    let a : Accepted = accepted_record s taken.change now in
    let within : (took s a).clock ≤ clock_by s.clock now 1 = omega arith in
    subst (IsWithinChanges s now 1) (sym (ap state_of taken.took ∙ by_took h a)) within

pub moved_granted : (h after : History) (role : Role) (request : Request) (now : ℕ) (reply : Reply) → ByTook → IsNoRead request → ((e : Refusal) → reply ≡ Refused e → ⊥) → Step h role request now reply after → IsMovedBy (state_of h) now 1 (state_of after)
moved_granted h after role request now reply by_took unread free step =
    let s : State = state_of h in
    let taken : IsTaken h request now after = granted_took h after role request now reply unread free step in
    let a : Accepted = accepted_record s taken.change now in
    let moved : IsMovedBy s now 1 (took s a) = omega arith in
    subst (IsMovedBy s now 1) (sym (ap state_of taken.took ∙ by_took h a)) moved
