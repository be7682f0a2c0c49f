-- What a step comes to: a moment seen, or a change taken.
use Rattle.std.proofs.Common.{◌≡◌, ℕ, ◌+◌, length, Bool, true, false, List, [], ◌∷◌, ◌++◌, Option, None, Some, refl, ap, sym, ◌∙◌, subst, true≢false, MatchOption}
use Rattle.s4_types.specs.History.{History, Record, Took, Seen}
use Rattle.s4_types.specs.declared.audit_rows.AuditRow.{AuditRow}
use Rattle.s4_types.specs.declared.changes.Accepted.{Accepted}
use Rattle.s4_types.specs.declared.changes.Change.{Change}
use Rattle.s4_types.specs.declared.changes.Change.TheVariants as change
use Rattle.s4_types.specs.declared.requests.Role.{Role}
use Rattle.s4_types.specs.declared.requests.Request.{Request}
use Rattle.s4_types.specs.declared.requests.Request.TheVariants.{Update, Query, Control}
use Rattle.s4_types.specs.declared.requests.Question.TheVariants.{Read, GetAttr, Audit}
use Rattle.s4_types.specs.declared.replies.Reply.{Reply}
use Rattle.s4_types.specs.declared.replies.Reply.TheVariants.{Refused, Changed, Created, Data, Attr, AuditRows}
use Rattle.s4_types.specs.declared.versions.Version.{Version}
use Rattle.s4_types.specs.declared.versions.Version.TheVariants.{Absent, Live}
use Rattle.s4_model.specs.State.{State, state_of, grown}
use Rattle.s4_model.specs.Refusals.{first_refusal, asked}
use Rattle.s4_model.specs.VersionAt.{version_of}
use Rattle.s4_model.specs.Audit.{rows_asked}
use Rattle.s4_model.specs.Step.{Step, Refuses, Serves, Accepts, Alters, Reads, change_of, stamp, accepted_record, reply_to_change, reply_to_read, data_of, attributes_of, judged}
use Rattle.s4_model.specs.Laws.{moment_told}

-- whether a reply is one to an accepted change
abbrev pub is_acceptance : Reply → Bool
is_acceptance (Changed moment) = true
is_acceptance (Created object moment) = true
is_acceptance _ = false

-- what is known where a step takes a change
pub record IsTaken (s : State) (role : Role) (request : Request) (now : ℕ) (reply : Reply) (a : Accepted) : Type 0 where
  pub asked_for : change_of s request ≡ Some a.change
  pub counted : a.number ≡ length s.changes + 1
  pub stamped : a.moment ≡ stamp s now
  pub answered : reply ≡ reply_to_change s a.change now
  pub granted : first_refusal s role request ≡ None

-- a step sees its moment, or takes a change
pub data Outcome (h : History) (role : Role) (request : Request) (now : ℕ) (reply : Reply) (after : History) : Type 0 where
  OnlySaw : after ≡ grown h (Seen now) → is_acceptance reply ≡ false → Outcome h role request now reply after
  TookIt : (a : Accepted) → after ≡ grown h (Took a) → IsTaken (state_of h) role request now reply a → Outcome h role request now reply after

-- a change is judged by the history as it was
pub judged-change : (h : History) (request : Request) (now : ℕ) (change : Change) → change_of (state_of h) request ≡ Some change → judged h request now ≡ state_of h
judged-change h (Update update) now change e = refl
judged-change h (Query question) now change e = cc
judged-change h (Control control) now change e = refl

data_reply : (v : Version) (offset len : ℕ) (reply : Reply) → data_of v offset len ≡ Some reply → is_acceptance reply ≡ false
data_reply Absent offset len reply e = cc
data_reply (Live content attribute created changed) offset len (Data bytes) e = refl
data_reply (Live content attribute created changed) offset len (Refused refusal) e = refl
data_reply (Live content attribute created changed) offset len (Attr size made moved value) e = refl
data_reply (Live content attribute created changed) offset len (AuditRows rows) e = refl
data_reply (Live content attribute created changed) offset len (Changed moment) e = cc
data_reply (Live content attribute created changed) offset len (Created object moment) e = cc

attributes_reply : (v : Version) (reply : Reply) → attributes_of v ≡ Some reply → is_acceptance reply ≡ false
attributes_reply Absent reply e = cc
attributes_reply (Live content attribute created changed) (Data bytes) e = refl
attributes_reply (Live content attribute created changed) (Refused refusal) e = refl
attributes_reply (Live content attribute created changed) (Attr size made moved value) e = refl
attributes_reply (Live content attribute created changed) (AuditRows rows) e = refl
attributes_reply (Live content attribute created changed) (Changed moment) e = cc
attributes_reply (Live content attribute created changed) (Created object moment) e = cc

rows_reply : (rows : List AuditRow) (reply : Reply) → Some (AuditRows rows) ≡ Some reply → is_acceptance reply ≡ false
rows_reply rows reply e = let same : AuditRows rows ≡ reply = cc in subst (λ r. is_acceptance r ≡ false) same refl

-- no read is answered as a change
read_reply : (s : State) (request : Request) (reply : Reply) → reply_to_read s request ≡ Some reply → is_acceptance reply ≡ false
read_reply s (Update update) reply e = cc
read_reply s (Query (Read object offset len at)) reply e = data_reply (version_of s object (asked s at)) offset len reply e
read_reply s (Query (GetAttr object at)) reply e = attributes_reply (version_of s object (asked s at)) reply e
read_reply s (Query (Audit from most)) reply e = rows_reply (rows_asked s from most) reply e
read_reply s (Control control) reply e = cc

outcome_of_accepts : (h : History) (role : Role) (request : Request) (now : ℕ) (reply : Reply) (r : Record) (after : History) → first_refusal (judged h request now) role request ≡ None → after ≡ grown h r → Accepts h request now reply r → Outcome h role request now reply after
outcome_of_accepts h role request now reply r after free grows (Alters change asks answers is) =
    TookIt (accepted_record (state_of h) change now) (grows ∙ ap (grown h) is)
    (record {
      asked_for = asks;
      counted = refl;
      stamped = refl;
      answered = answers;
      granted = subst (λ s. first_refusal s role request ≡ None) (judged-change h request now change asks) free;
    })
outcome_of_accepts h role request now reply r after free grows (Reads answers is) =
    OnlySaw (grows ∙ ap (grown h) is) (read_reply (judged h request now) request reply answers)

pub outcome_of : {h : History} {role : Role} {request : Request} {now : ℕ} {reply : Reply} {after : History} → Step h role request now reply after → Outcome h role request now reply after
outcome_of {h} {role} {request} {now} {reply} {after} (Refuses refusal answers may is) = OnlySaw is (ap is_acceptance answers)
outcome_of {h} {role} {request} {now} {reply} {after} (Serves r free accepts is) = outcome_of_accepts h role request now reply r after free is accepts

last_same : (records : List Record) (r q : Record) → records ++ r ∷ [] ≡ records ++ q ∷ [] → r ≡ q
last_same [] r q e = cc
last_same (x ∷ records) r q e = last_same records r q (cc)

-- a history grows by one record in one way
pub grown-same : (h : History) (r q : Record) → grown h r ≡ grown h q → r ≡ q
grown-same h r q e = last_same h.records r q (ap (λ k. k.records) e)

taken_of_outcome : (h : History) (role : Role) (request : Request) (now : ℕ) (reply : Reply) (a : Accepted) (after : History) → after ≡ grown h (Took a) → Outcome h role request now reply after → IsTaken (state_of h) role request now reply a
taken_of_outcome h role request now reply a after e (OnlySaw is not_accepted) = let clash : Took a ≡ Seen now = grown-same h (Took a) (Seen now) (sym e ∙ is) in absurd (cc)
taken_of_outcome h role request now reply a after e (TookIt b is taken) =
    let same : Took b ≡ Took a = grown-same h (Took b) (Took a) (sym is ∙ e) in
    let changes : b ≡ a = cc in
    subst (IsTaken (state_of h) role request now reply) changes taken

-- what is known of the change that a step takes
pub taken_of : {h : History} {role : Role} {request : Request} {now : ℕ} {reply : Reply} {a : Accepted} → Step h role request now reply (grown h (Took a)) → IsTaken (state_of h) role request now reply a
taken_of {h} {role} {request} {now} {reply} {a} step = taken_of_outcome h role request now reply a (grown h (Took a)) refl (outcome_of step)

told_by_change : (s : State) (c : Change) (now : ℕ) → moment_told (reply_to_change s c now) ≡ Some (stamp s now)
told_by_change s (change.Create object attribute) now = refl
told_by_change s (change.Delete object) now = refl
told_by_change s (change.Write object offset bytes) now = refl
told_by_change s (change.Truncate object size) now = refl
told_by_change s (change.SetAttr object attribute) now = refl
told_by_change s (change.SetWindow window) now = refl
told_by_change s (change.Flush first last) now = refl
told_by_change s (change.FlushO object first last) now = refl

told_by_none : (reply : Reply) → is_acceptance reply ≡ false → moment_told reply ≡ None
told_by_none (Changed moment) e = absurd (true≢false e)
told_by_none (Created object moment) e = absurd (true≢false e)
told_by_none _ e = refl

-- what a step did, by the moment that its reply tells
abbrev pub DidAsTold : History → ℕ → History → Option ℕ → Type 0
DidAsTold h now after told = MatchOption told (after ≡ grown h (Seen now)) (λ moment. (a : Accepted) × (a.moment ≡ moment) × (after ≡ grown h (Took a)))

told_outcome : (h : History) (role : Role) (request : Request) (now : ℕ) (reply : Reply) (after : History) → Outcome h role request now reply after → DidAsTold h now after (moment_told reply)
told_outcome h role request now reply after (OnlySaw is answers) = subst (DidAsTold h now after) (sym (told_by_none reply answers)) is
told_outcome h role request now reply after (TookIt a is taken) = subst (DidAsTold h now after) (sym (ap moment_told taken.answered ∙ told_by_change (state_of h) a.change now)) (a, taken.stamped, is)

pub told_is_taken : (h after : History) (role : Role) (request : Request) (now : ℕ) (reply : Reply) → Step h role request now reply after → DidAsTold h now after (moment_told reply)
told_is_taken h after role request now reply step = told_outcome h role request now reply after (outcome_of step)
