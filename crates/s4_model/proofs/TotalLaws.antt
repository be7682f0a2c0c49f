-- Each request has a step, and one alone but for want.
use Rattle.std.proofs.Common.{◌≡◌, ℕ, true, false, Option, None, Some, refl, ap, sym, ◌∙◌, true≢false}
use Rattle.s4_types.specs.History.{History, Record, Took, Seen}
use Rattle.s4_types.specs.declared.changes.Change.{Change}
use Rattle.s4_types.specs.declared.changes.Change.TheVariants as change
use Rattle.s4_types.specs.declared.replies.Reply.{Reply}
use Rattle.s4_types.specs.declared.replies.Reply.TheVariants.{Refused}
use Rattle.s4_types.specs.declared.refusals.Refusal.{Refusal}
use Rattle.s4_types.specs.declared.refusals.Refusal.TheVariants.{NoSpace, ChainFull, Busy}
use Rattle.s4_types.specs.declared.requests.Role.{Role}
use Rattle.s4_types.specs.declared.requests.Request.{Request}
use Rattle.s4_types.specs.declared.requests.Request.TheVariants.{Update, Query, Control}
use Rattle.s4_types.specs.declared.requests.Question.TheVariants.{Read, GetAttr, Audit}
use Rattle.s4_types.specs.declared.requests.ObjectRequest.TheVariants.{Create, Delete, Write, Append, Truncate, SetAttr}
use Rattle.s4_types.specs.declared.requests.AdminRequest.TheVariants.{SetWindow, Flush, FlushO}
use Rattle.s4_types.specs.declared.versions.Version.{Version}
use Rattle.s4_types.specs.declared.versions.Version.TheVariants.{Absent, Live}
use Rattle.s4_model.specs.State.{State, state_of, grown}
use Rattle.s4_model.specs.VersionAt.{version_of}
use Rattle.s4_model.specs.Refusals.{first_refusal, applies, checks, asked, is_absent}
use Rattle.s4_model.specs.Step.{Step, Refuses, Serves, Accepts, Alters, Reads, MayRefuse, AsFirst, ForMemory, AsOpen, IsLeftOpen, change_of, accepted_record, stamp, reply_at, reply_to_change, reply_to_read, data_of, attributes_of, judged}
use Rattle.s4_model.specs.Laws.{is_of_want, is_refused_for_want}
use Rattle.s4_model.proofs.GrantedLemmas.{object_is_there}
use Rattle.s4_model.proofs.StepLemmas.{found_passes}

data_given : (v : Version) (offset len : ℕ) → is_absent v ≡ false → (reply : Reply) × (data_of v offset len ≡ Some reply) × (is_refused_for_want reply ≡ false)
data_given Absent offset len e = absurd (true≢false e)
data_given (Live content attribute created changed) offset len e = (_, refl, refl)

attributes_given : (v : Version) → is_absent v ≡ false → (reply : Reply) × (attributes_of v ≡ Some reply) × (is_refused_for_want reply ≡ false)
attributes_given Absent e = absurd (true≢false e)
attributes_given (Live content attribute created changed) e = (_, refl, refl)

-- a read that isn't refused has a reply
read_given : (h : History) (s : State) (role : Role) (request : Request) → change_of (state_of h) request ≡ None → first_refusal s role request ≡ None → (reply : Reply) × (reply_to_read s request ≡ Some reply) × (is_refused_for_want reply ≡ false)
read_given h s role (Update (Create attribute)) e free = cc
read_given h s role (Update (Delete object)) e free = cc
read_given h s role (Update (Write object offset bytes)) e free = cc
read_given h s role (Update (Append object bytes)) e free = cc
read_given h s role (Update (Truncate object size)) e free = cc
read_given h s role (Update (SetAttr object attribute)) e free = cc
read_given h s role (Query (Read object offset len at)) e free = data_given (version_of s object (asked s at)) offset len (object_is_there s role (Query (Read object offset len at)) free)
read_given h s role (Query (GetAttr object at)) e free = attributes_given (version_of s object (asked s at)) (object_is_there s role (Query (GetAttr object at)) free)
read_given h s role (Query (Audit from most)) e free = (_, refl, refl)
read_given h s role (Control (SetWindow window)) e free = cc
read_given h s role (Control (Flush first last)) e free = cc
read_given h s role (Control (FlushO object first last)) e free = cc

-- what a request may be answered but for want, with the history after it
abbrev HasStep : History → Role → Request → ℕ → Type 0
HasStep h role request now = (reply : Reply) × (after : History) × Step h role request now reply after × (is_refused_for_want reply ≡ false)

abbrev IsNotOfWant : Refusal → Type 0
IsNotOfWant refusal = is_of_want refusal ≡ false

-- the reply to a change is no refusal
told_of_change : (taken : Change) (moment : ℕ) → is_refused_for_want (reply_at taken moment) ≡ false
told_of_change (change.Create object attribute) moment = refl
told_of_change (change.Delete object) moment = refl
told_of_change (change.Write object offset bytes) moment = refl
told_of_change (change.Truncate object size) moment = refl
told_of_change (change.SetAttr object attribute) moment = refl
told_of_change (change.SetWindow window) moment = refl
told_of_change (change.Flush first last) moment = refl
told_of_change (change.FlushO object first last) moment = refl

served : (h : History) (role : Role) (request : Request) (now : ℕ) → first_refusal (judged h request now) role request ≡ None → (change : Option Change) → change_of (state_of h) request ≡ change → HasStep h role request now
served h role request now free None e =
    let given : (reply : Reply) × (reply_to_read (judged h request now) request ≡ Some reply) × (is_refused_for_want reply ≡ false) = read_given h (judged h request now) role request e free in
    (given.0, grown h (Seen now), Serves (Seen now) free (Reads given.1 refl) refl, given.2)
served h role request now free (Some change) e =
    let r : Record = Took (accepted_record (state_of h) change now) in
    (reply_to_change (state_of h) change now, grown h r, Serves r free (Alters change e refl refl) refl, told_of_change change (stamp (state_of h) now))

answered : (h : History) (role : Role) (request : Request) (now : ℕ) (first : Option Refusal) → first_refusal (judged h request now) role request ≡ first → HasStep h role request now
answered h role request now None e = served h role request now e (change_of (state_of h) request) refl
answered h role request now (Some refusal) e =
    (Refused refusal, grown h (Seen now), Refuses refusal refl (AsFirst e) refl, found_passes (applies (judged h request now) role request) IsNotOfWant checks refusal (refl, (refl, (refl, (refl, (refl, (refl, (refl, (refl, (refl, (refl, tt)))))))))) e)

pub each_has_step : (h : History) (role : Role) (request : Request) (now : ℕ) → HasStep h role request now
each_has_step h role request now = answered h role request now (first_refusal (judged h request now) role request) refl

pub open_lacks_resource : (refusal : Refusal) → IsLeftOpen refusal → is_of_want refusal ≡ true
open_lacks_resource ChainFull open_one = refl
open_lacks_resource NoSpace open_one = refl
open_lacks_resource Busy open_one = refl
open_lacks_resource _ open_one = absurd open_one

-- a refusal that isn't of want is the first that applies
may_is_first : {first : Option Refusal} {request : Request} {refusal : Refusal} → MayRefuse first request refusal → is_of_want refusal ≡ false → first ≡ Some refusal
may_is_first {first} {request} {refusal} (AsFirst e) plain = e
may_is_first {first} {request} {refusal} (ForMemory memory want) plain = absurd (true≢false (sym (ap is_of_want memory) ∙ plain))
may_is_first {first} {request} {refusal} (AsOpen none open_one) plain = absurd (true≢false (sym (open_lacks_resource refusal open_one) ∙ plain))

change_is_no_read : (s k : State) (request : Request) (change : Change) (reply : Reply) → change_of s request ≡ Some change → reply_to_read k request ≡ Some reply → ⊥
change_is_no_read s k (Update update) change reply e given = cc
change_is_no_read s k (Query question) change reply e given = cc
change_is_no_read s k (Control control) change reply e given = cc

same_accepts : {h : History} {request : Request} {now : ℕ} {reply other_reply : Reply} {r other : Record} → Accepts h request now reply r → Accepts h request now other_reply other → (other_reply ≡ reply) × (other ≡ r)
same_accepts {h} {request} {now} {reply} {other_reply} {r} {other} (Alters change e answers is) (Alters second e2 answers2 is2) =
    let same : second ≡ change = cc in
    (answers2 ∙ ap (λ c. reply_to_change (state_of h) c now) same ∙ sym answers, is2 ∙ ap (λ c. Took (accepted_record (state_of h) c now)) same ∙ sym is)
same_accepts {h} {request} {now} {reply} {other_reply} {r} {other} (Alters change e answers is) (Reads given is2) = absurd (change_is_no_read (state_of h) (judged h request now) request change other_reply e given)
same_accepts {h} {request} {now} {reply} {other_reply} {r} {other} (Reads given is) (Alters change e answers is2) = absurd (change_is_no_read (state_of h) (judged h request now) request change reply e given)
same_accepts {h} {request} {now} {reply} {other_reply} {r} {other} (Reads given is) (Reads given2 is2) = (cc, is2 ∙ sym is)

pub steps_agree : (h after other_after : History) (role : Role) (request : Request) (now : ℕ) (reply other_reply : Reply) → Step h role request now reply after → Step h role request now other_reply other_after → is_refused_for_want reply ≡ false → is_refused_for_want other_reply ≡ false → (other_reply ≡ reply) × (other_after ≡ after)
steps_agree h after other_after role request now reply other_reply (Refuses refusal answers may is) (Refuses second answers2 may2 is2) plain plain2 =
    let first : first_refusal (judged h request now) role request ≡ Some refusal = may_is_first may (sym (ap is_refused_for_want answers) ∙ plain) in
    let first2 : first_refusal (judged h request now) role request ≡ Some second = may_is_first may2 (sym (ap is_refused_for_want answers2) ∙ plain2) in
    let same : second ≡ refusal = cc in
    (answers2 ∙ ap Refused same ∙ sym answers, is2 ∙ sym is)
steps_agree h after other_after role request now reply other_reply (Refuses refusal answers may is) (Serves r free accepts is2) plain plain2 =
    let first : first_refusal (judged h request now) role request ≡ Some refusal = may_is_first may (sym (ap is_refused_for_want answers) ∙ plain) in
    cc
steps_agree h after other_after role request now reply other_reply (Serves r free accepts is) (Refuses refusal answers may is2) plain plain2 =
    let first : first_refusal (judged h request now) role request ≡ Some refusal = may_is_first may (sym (ap is_refused_for_want answers) ∙ plain2) in
    cc
steps_agree h after other_after role request now reply other_reply (Serves r free accepts is) (Serves second free2 accepts2 is2) plain plain2 =
    let same : (other_reply ≡ reply) × (second ≡ r) = same_accepts accepts accepts2 in
    (same.0, is2 ∙ ap (grown h) same.1 ∙ sym is)
