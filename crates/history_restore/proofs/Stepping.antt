-- What a step of a request for a change of an object leaves.
use Rattle.std.proofs.Common.{◌≡◌, ◌∙◌, ◌-◌, ◌<◌, ◌≤◌, ◌++◌, ◌==◌, ℕ, max, [], ◌∷◌, Some, None, refl, ap, sym, subst, arith}
use Rattle.std.specs.List.{filter_map, cons_option, list_any}
use Rattle.std.proofs.lemmas.List.Elements.{filter_map-append}
use Rattle.std.proofs.lemmas.List.{append-nil}
use Rattle.std.proofs.lemmas.Option.{none-some, same_Some}
use Rattle.std.proofs.lemmas.Bool.{ne_eqb, eq-eqb}
use Rattle.s4_types.specs.History.{History, Record, Took, Seen}
use Rattle.s4_types.specs.declared.changes.Accepted.{Accepted}
use Rattle.s4_types.specs.declared.changes.Change.{Change}
use Rattle.s4_types.specs.declared.changes.Change.TheVariants as change
use Rattle.s4_types.specs.declared.requests.Role.{Role}
use Rattle.s4_types.specs.declared.requests.Request.{Request}
use Rattle.s4_types.specs.declared.requests.Request.TheVariants.{Update, Query, Control}
use Rattle.s4_types.specs.declared.requests.ObjectRequest.TheVariants.{Create, Delete, Write, Append, Truncate, SetAttr}
use Rattle.s4_types.specs.declared.refusals.Refusal.{Refusal}
use Rattle.s4_types.specs.declared.replies.Reply.{Reply}
use Rattle.s4_types.specs.declared.replies.Reply.TheVariants.{Refused}
use Rattle.s4_model.specs.State.{State, state_of, grown, seen, took}
use Rattle.s4_model.specs.Visible.{hides, spans_of, span_of, span_by}
use Rattle.s4_model.specs.Effect.{object_of, is_change_of}
use Rattle.s4_model.specs.Numbers.{next_by, window_by}
use Rattle.s4_model.specs.Refusals.{present, size_of}
use Rattle.s4_model.specs.Step.{Step, Refuses, Serves, Accepts, Alters, Reads, change_of, accepted_record, reply_to_change, reply_to_read, judged}
use Rattle.s4_model.specs.Sound.{IsSound}
use Rattle.s4_model.specs.Laws.{ActsAtItsMoment, AChangeActsAtItsMoment}
use Rattle.s4_model.proofs.VersionLemmas.{version_of-settled}
use Rattle.drive.specs.Later.{object_asked}
use Rattle.history_restore.specs.Content.{content_of}
use Rattle.history_restore.specs.Keeping.{IsDatedFrom, LeavesPast, LeavesOthers}
use Rattle.history_restore.specs.Asking.{Makes, Grants}
use Rattle.history_restore.proofs.Contents.{effects_alike}

-- the state goes on so by a moment seen
abbrev pub BySeen : Type 0
BySeen = (h : History) (now : ℕ) → state_of (grown h (Seen now)) ≡ seen (state_of h) now

-- and so by a change
abbrev pub ByTook : Type 0
ByTook = (h : History) (a : Accepted) → state_of (grown h (Took a)) ≡ took (state_of h) a

-- ---- a moment seen

pub past_of_seen : (s : State) (now : ℕ) → LeavesPast s (seen s now)
past_of_seen s now = record {
  versions = λ o t le. refl;
  hidden = λ o t. refl;
  clock = omega arith;
  window = refl;
  floor = omega arith;
  reach = omega arith;
  next = omega arith;
}

pub present_of_seen : (s : State) (now : ℕ) → IsSound s → (q : ℕ) → present (seen s now) q ≡ present s q
present_of_seen s now sound q = version_of-settled s q (max s.clock now) sound.stamped (omega arith)

-- ---- a change taken

-- What a change of an object is to a state: it is of that object alone, hides nothing and leaves the window.
pub record IsOfObject (s : State) (o : ℕ) (c : Change) : Type 0 where
  pub span : span_by c ≡ None
  pub window : window_by c s.window ≡ s.window
  pub next : s.next ≤ next_by c s.next
  pub object : object_of c ≡ o
  pub alone : (q : ℕ) → is_change_of q c ≡ (o == q)

-- a request for a change of an object
abbrev pub IsOfVersions : Request → Type 0
IsOfVersions (Update update) = Unit {0}
IsOfVersions _ = ⊥

-- the change that is asked for is of the object that is asked for
of_object : (s : State) (request : Request) (c : Change) → IsOfVersions request → change_of s request ≡ Some c → IsOfObject s (object_asked s.next request) c
of_object s (Update (Create attribute)) c of is = subst (IsOfObject s s.next) (same_Some (change.Create s.next attribute) c is) (record { span = refl; window = refl; next = omega arith; object = refl; alone = λ q. refl })
of_object s (Update (Delete object)) c of is = subst (IsOfObject s object) (same_Some (change.Delete object) c is) (record { span = refl; window = refl; next = omega arith; object = refl; alone = λ q. refl })
of_object s (Update (Write object offset bytes)) c of is = subst (IsOfObject s object) (same_Some (change.Write object offset bytes) c is) (record { span = refl; window = refl; next = omega arith; object = refl; alone = λ q. refl })
of_object s (Update (Append object bytes)) c of is =
    subst (IsOfObject s object) (same_Some (change.Write object (size_of (present s object)) bytes) c is) (record { span = refl; window = refl; next = omega arith; object = refl; alone = λ q. refl })
of_object s (Update (Truncate object size)) c of is = subst (IsOfObject s object) (same_Some (change.Truncate object size) c is) (record { span = refl; window = refl; next = omega arith; object = refl; alone = λ q. refl })
of_object s (Query question) c of is = absurd of
of_object s (Update (SetAttr object attribute)) c of is = subst (IsOfObject s object) (same_Some (change.SetAttr object attribute) c is) (record { span = refl; window = refl; next = omega arith; object = refl; alone = λ q. refl })
of_object s (Control control) c of is = absurd of

-- one more change without a span adds none
pub spans_stay : (s : State) (a : Accepted) → span_by a.change ≡ None → spans_of (took s a) ≡ spans_of s
spans_stay s a none =
    ap (λ more. s.spans ++ more)
    (filter_map-append span_of s.changes (a ∷ []) ∙ ap (λ o. filter_map span_of s.changes ++ cons_option o []) none ∙ append-nil (filter_map span_of s.changes))

-- what a change at a later moment leaves
past_of_took : (s : State) (o : ℕ) (a : Accepted) → IsOfObject s o a.change → s.clock < a.moment → ActsAtItsMoment s (took s a) a → LeavesPast s (took s a)
past_of_took s o a of later acts = record {
  versions = λ q t le. acts.earlier q t (omega arith);
  hidden = λ q t. ap (list_any (hides q t)) (spans_stay s a of.span);
  clock = omega arith;
  window = of.window;
  floor = omega arith;
  reach = subst (λ w. max s.floor (a.moment - w) ≤ max s.floor (a.moment - s.window)) (sym of.window) (omega arith);
  next = of.next;
}

others_of_took : (s : State) (o : ℕ) (a : Accepted) → IsOfObject s o a.change → ActsAtItsMoment s (took s a) a → LeavesOthers o s (took s a)
others_of_took s o a of acts q apart = acts.others q (of.alone q ∙ ne_eqb o q (λ same. apart (sym same)))

makes_of_took : (s : State) (o : ℕ) (a : Accepted) → IsOfObject s o a.change → ActsAtItsMoment s (took s a) a → Makes s a.change (took s a)
makes_of_took s o a of acts =
    let q : ℕ = object_of a.change in
    record {
      content = ap content_of (acts.changed q (of.alone q ∙ eq-eqb o q (sym of.object))) ∙ effects_alike a.change a.moment 0 (present s q) (present s q) refl;
      next = refl;
    }

grants_of_took : (s : State) (request : Request) (a : Accepted) → change_of s request ≡ Some a.change → Makes s a.change (took s a) → Grants s request (took s a)
grants_of_took s request a asked makes c is = subst (λ k. Makes s k (took s a)) (same_Some a.change c (sym asked ∙ is)) makes

-- ---- steps

-- what an answered request leaves
pub record Leaves (s : State) (request : Request) (now : ℕ) (later : State) : Type 0 where
  pub others : LeavesOthers (object_asked s.next request) s later
  pub past : LeavesPast s later
  pub dated : IsDatedFrom now s later

-- no change is answered by a refusal
refused_by_none : (s : State) (c : Change) (now : ℕ) (e : Refusal) → reply_to_change s c now ≡ Refused e → ⊥
refused_by_none s (change.Create object attribute) now e is = cc
refused_by_none s (change.Delete object) now e is = cc
refused_by_none s (change.Write object offset bytes) now e is = cc
refused_by_none s (change.Truncate object size) now e is = cc
refused_by_none s (change.SetAttr object attribute) now e is = cc
refused_by_none s (change.SetWindow window) now e is = cc
refused_by_none s (change.Flush first last) now e is = cc
refused_by_none s (change.FlushO object first last) now e is = cc

-- a request that no state answers as a read
abbrev pub IsNoRead : Request → Type 0
IsNoRead request = (s : State) (reply : Reply) → reply_to_read s request ≡ Some reply → ⊥

-- such is one for a change of an object
pub no_read : (request : Request) → IsOfVersions request → IsNoRead request
no_read (Update update) of s reply is = none-some reply is
no_read (Query question) of s reply is = of
no_read (Control control) of s reply is = of

-- what is refused is a moment seen
pub accepts_none : (h : History) (request : Request) (now : ℕ) (reply : Reply) (r : Record) (e : Refusal) → IsNoRead request → reply ≡ Refused e → Accepts h request now reply r → ⊥
accepts_none h request now reply r e unread refused (Alters c asked is r_is) = refused_by_none (state_of h) c now e (sym is ∙ refused)
accepts_none h request now reply r e unread refused (Reads is r_is) = unread (judged h request now) reply is

pub refused_saw : (h after : History) (role : Role) (request : Request) (now : ℕ) (reply : Reply) (e : Refusal) → IsNoRead request → reply ≡ Refused e → Step h role request now reply after → after ≡ grown h (Seen now)
refused_saw h after role request now reply e unread refused (Refuses refusal is may after_is) = after_is
refused_saw h after role request now reply e unread refused (Serves r free accepts after_is) = absurd (accepts_none h request now reply r e unread refused accepts)

pub dated_refused : (h after : History) (role : Role) (request : Request) (now : ℕ) (reply : Reply) (e : Refusal) → BySeen → IsNoRead request → reply ≡ Refused e → Step h role request now reply after → IsDatedFrom now (state_of h) (state_of after)
dated_refused h after role request now reply e by_seen unread refused step =
    subst (IsDatedFrom now (state_of h)) (sym (ap state_of (refused_saw h after role request now reply e unread refused step) ∙ by_seen h now)) (λ o t before. refl)

pub refused_leaves : (h after : History) (role : Role) (request : Request) (now : ℕ) (reply : Reply) (e : Refusal) → BySeen → IsSound (state_of h) → IsOfVersions request → reply ≡ Refused e → Step h role request now reply after
    → Leaves (state_of h) request now (state_of after)
refused_leaves h after role request now reply e by_seen sound of refused step =
    let s : State = state_of h in
    subst (Leaves s request now) (sym (ap state_of (refused_saw h after role request now reply e (no_read request of) refused step) ∙ by_seen h now))
    (record { others = λ q apart. present_of_seen s now sound q; past = past_of_seen s now; dated = λ o t before. refl })

-- what isn't refused is a change taken
pub record IsTaken (h : History) (request : Request) (now : ℕ) (after : History) : Type 0 where
  pub change : Change
  pub asked : change_of (state_of h) request ≡ Some change
  pub took : after ≡ grown h (Took (accepted_record (state_of h) change now))

taken_by : (h after : History) (request : Request) (now : ℕ) (reply : Reply) (r : Record) → IsNoRead request → after ≡ grown h r → Accepts h request now reply r → IsTaken h request now after
taken_by h after request now reply r unread grows (Alters c asked is r_is) = record { change = c; asked = asked; took = grows ∙ ap (grown h) r_is }
taken_by h after request now reply r unread grows (Reads is r_is) = absurd (unread (judged h request now) reply is)

pub granted_took : (h after : History) (role : Role) (request : Request) (now : ℕ) (reply : Reply) → IsNoRead request → ((e : Refusal) → reply ≡ Refused e → ⊥) → Step h role request now reply after → IsTaken h request now after
granted_took h after role request now reply unread free (Refuses refusal is may after_is) = absurd (free refusal is)
granted_took h after role request now reply unread free (Serves r none accepts after_is) = taken_by h after request now reply r unread after_is accepts

-- what a granted request leaves
pub record GrantsAndLeaves (s : State) (request : Request) (now : ℕ) (later : State) : Type 0 where
  pub granted : Grants s request later
  pub others : LeavesOthers (object_asked s.next request) s later
  pub past : LeavesPast s later
  pub dated : IsDatedFrom now s later

taken_leaves : (h : History) (role : Role) (request : Request) (now : ℕ) (reply : Reply) (c : Change) → ByTook → AChangeActsAtItsMoment → IsSound (state_of h) → IsOfVersions request → change_of (state_of h) request ≡ Some c
    → Step h role request now reply (grown h (Took (accepted_record (state_of h) c now))) → GrantsAndLeaves (state_of h) request now (took (state_of h) (accepted_record (state_of h) c now))
taken_leaves h role request now reply c by_took acts_law sound of asked step =
    let s : State = state_of h in
    let a : Accepted = accepted_record s c now in
    let about : IsOfObject s (object_asked s.next request) c = of_object s request c of asked in
    let acts : ActsAtItsMoment s (took s a) a = subst (λ k. ActsAtItsMoment s k a) (by_took h a) (acts_law h role request now reply a sound step) in
    record {
      granted = grants_of_took s request a asked (makes_of_took s (object_asked s.next request) a about acts);
      others = others_of_took s (object_asked s.next request) a about acts;
      past = past_of_took s (object_asked s.next request) a about (omega arith) acts;
      dated = λ o t before. acts.earlier o t (omega (arith, before));
    }

pub granted_leaves : (h after : History) (role : Role) (request : Request) (now : ℕ) (reply : Reply) → ByTook → AChangeActsAtItsMoment → IsSound (state_of h) → IsOfVersions request → ((e : Refusal) → reply ≡ Refused e → ⊥)
    → Step h role request now reply after → GrantsAndLeaves (state_of h) request now (state_of after)
granted_leaves h after role request now reply by_took acts_law sound of free step =
    let taken : IsTaken h request now after = granted_took h after role request now reply (no_read request of) free step in
    subst (GrantsAndLeaves (state_of h) request now) (sym (ap state_of taken.took ∙ by_took h (accepted_record (state_of h) taken.change now)))
    (taken_leaves h role request now reply taken.change by_took acts_law sound of taken.asked (subst (λ k. Step h role request now reply k) taken.took step))
