-- What a request is answered and what it leaves, by what its parts came to.
use Rattle.std.proofs.Common.{◌≡◌, ◌≢◌, ◌⊎◌, ℕ, Bool, true, false, cond, inl, inr, Option, Some, None, [], ◌∷◌, ◌++◌, refl, sym, ap, subst, ◌∙◌, arith}
use Rattle.std.proofs.lemmas.Option.{none-some, same_Some}
use Rattle.std.specs.Prelude.{MatchBool, Result, Ok, Err, MatchResult, IfOk, IfErr, OnOk}
use Rattle.std.specs.List.{AllByRecursion}
use Rattle.s4_types.specs.History.{History, Seen}
use Rattle.s4_types.specs.RefusalNumber.{number_of}
use Rattle.s4_types.specs.Sizes.{ReplyFits}
use Rattle.s4_types.specs.declared.changes.Change.{Change}
use Rattle.s4_types.specs.declared.changes.Change.TheVariants as change
use Rattle.s4_types.specs.declared.requests.Role.{Role}
use Rattle.s4_types.specs.declared.requests.Request.{Request}
use Rattle.s4_types.specs.declared.requests.Request.TheVariants.{Update, Query, Control}
use Rattle.s4_types.specs.declared.requests.Question.TheVariants.{Read, GetAttr, Audit}
use Rattle.s4_types.specs.declared.requests.ObjectRequest.TheVariants.{Create, Delete, Write, Append, Truncate, SetAttr}
use Rattle.s4_types.specs.declared.requests.AdminRequest.TheVariants.{SetWindow, Flush, FlushO}
use Rattle.s4_types.specs.declared.replies.Reply.{Reply}
use Rattle.s4_types.specs.declared.replies.Reply.TheVariants.{Refused, Changed, Created, Data, Attr, AuditRows}
use Rattle.s4_types.specs.declared.refusals.Refusal.{Refusal}
use Rattle.s4_types.specs.declared.refusals.Refusal.TheVariants as refusal
use Rattle.s4_types.specs.declared.versions.Version.{Version}
use Rattle.s4_types.specs.declared.versions.Version.TheVariants.{Absent, Live}
use Rattle.s4_model.specs.State.{State, state_of, grown}
use Rattle.s4_model.specs.VersionAt.{version_of}
use Rattle.s4_model.specs.Refusals.{first_refusal, applies, checks, asked}
use Rattle.s4_model.specs.Step.{Step, Refuses, MayRefuse, AsFirst, ForMemory, AsOpen, IsLeftOpen, judged, change_of, stamp, reply_at, reply_to_read, data_of, attributes_of}
use Rattle.segment_word.specs.AcceptViews.{Ledger, with_moment, credited, caught_up}
use Rattle.segment_word.specs.AcceptRule.{FitsLedger}
use Rattle.s4_model.proofs.StepLemmas.{found_passes}
use Rattle.s4_model.proofs.OutcomeLemmas.{judged-change}
use Rattle.version_store.specs.Store.{StoreFields}
use Rattle.drive.specs.Fields.{DriveFields, SessionFields, store_of, state_in, history_of}
use Rattle.drive.specs.Refusing.{or_then, want_of, refusal_of, MayLackMemory, WantsPin, RefusesBy, IsRefusal, IsJudgedOut, IsUnplanned}
use Rattle.time_read.specs.Plans.{PlanFields, bytes_planned}
use Rattle.drive.specs.Answering.{is_acceptance, told_after, owners_after, StoresChange, Leaves, TakesChange, RefusesChange, ComesTo, Sees, IsSettled, IsServed, reply_planned}
use Rattle.drive.proofs.Stepping.{open_of_want, or_then_some, checked, may_refuse, step_accepts, step_refuses, step_tells}

-- ---- which replies are of accepted changes

pub accepts_change : (c : Change) (m : ℕ) → is_acceptance (reply_at c m) ≡ true
accepts_change (change.Create object attribute) m = refl
accepts_change (change.Delete object) m = refl
accepts_change (change.Write object offset bytes) m = refl
accepts_change (change.Truncate object n) m = refl
accepts_change (change.SetAttr object attribute) m = refl
accepts_change (change.SetWindow window) m = refl
accepts_change (change.Flush first last) m = refl
accepts_change (change.FlushO object first last) m = refl

-- nothing that is accepted is refused
accepted_unrefused : (why : Option Refusal) (d : DriveFields) (request : Request) (c : Change) (m : ℕ) → why ≡ None → RefusesBy why d request (reply_at c m)
accepted_unrefused why d request (change.Create object attribute) m is = is
accepted_unrefused why d request (change.Delete object) m is = is
accepted_unrefused why d request (change.Write object offset bytes) m is = is
accepted_unrefused why d request (change.Truncate object n) m is = is
accepted_unrefused why d request (change.SetAttr object attribute) m is = is
accepted_unrefused why d request (change.SetWindow window) m is = is
accepted_unrefused why d request (change.Flush first last) m is = is
accepted_unrefused why d request (change.FlushO object first last) m is = is

accepted_fits : (c : Change) (m : ℕ) → ReplyFits (reply_at c m)
accepted_fits (change.Create object attribute) m = tt
accepted_fits (change.Delete object) m = tt
accepted_fits (change.Write object offset bytes) m = tt
accepted_fits (change.Truncate object n) m = tt
accepted_fits (change.SetAttr object attribute) m = tt
accepted_fits (change.SetWindow window) m = tt
accepted_fits (change.Flush first last) m = tt
accepted_fits (change.FlushO object first last) m = tt

-- a reply that tells data, attributes, or rows of the audit
abbrev pub IsTold : Reply → Type 0
IsTold (Data bytes) = Unit {0}
IsTold (Attr size created changed attribute) = Unit {0}
IsTold (AuditRows rows) = Unit {0}
IsTold _ = ⊥

data_is_told : (v : Version) (offset len : ℕ) (reply : Reply) → data_of v offset len ≡ Some reply → IsTold reply
data_is_told Absent offset len reply is = absurd (none-some reply is)
data_is_told (Live content attribute created changed) offset len reply is = subst IsTold (same_Some _ reply is) tt

attributes_are_told : (v : Version) (reply : Reply) → attributes_of v ≡ Some reply → IsTold reply
attributes_are_told Absent reply is = absurd (none-some reply is)
attributes_are_told (Live content attribute created changed) reply is = subst IsTold (same_Some _ reply is) tt

read_is_told : (s : State) (request : Request) (reply : Reply) → reply_to_read s request ≡ Some reply → IsTold reply
read_is_told s (Query (Read object offset len at)) reply is = data_is_told (version_of s object (asked s at)) offset len reply is
read_is_told s (Query (GetAttr object at)) reply is = attributes_are_told (version_of s object (asked s at)) reply is
read_is_told s (Query (Audit from most)) reply is = subst IsTold (same_Some _ reply is) tt
read_is_told s (Update update) reply is = absurd (none-some reply is)
read_is_told s (Control control) reply is = absurd (none-some reply is)

told_accepts_nothing : (reply : Reply) → IsTold reply → is_acceptance reply ≡ false
told_accepts_nothing (Data bytes) told = refl
told_accepts_nothing (Attr size created changed attribute) told = refl
told_accepts_nothing (AuditRows rows) told = refl
told_accepts_nothing (Refused r) told = absurd told
told_accepts_nothing (Changed m) told = absurd told
told_accepts_nothing (Created o m) told = absurd told

told_unrefused : (why : Option Refusal) (d : DriveFields) (request : Request) (reply : Reply) → IsTold reply → why ≡ None → RefusesBy why d request reply
told_unrefused why d request (Data bytes) told is = is
told_unrefused why d request (Attr size created changed attribute) told is = is
told_unrefused why d request (AuditRows rows) told is = is
told_unrefused why d request (Refused r) told is = absurd told
told_unrefused why d request (Changed m) told is = absurd told
told_unrefused why d request (Created o m) told is = absurd told

-- ---- refusals

IsWhole : Refusal → Type 0
IsWhole r = number_of r ≢ 16

checks_are_whole : AllByRecursion IsWhole checks
unfolding IsWhole
checks_are_whole = (
  λ e. absurd (omega (arith, e)),
  (λ e. absurd (omega (arith, e)), (λ e. absurd (omega (arith, e)), (λ e. absurd (omega (arith, e)), (λ e. absurd (omega (arith, e)), (λ e. absurd (omega (arith, e)), (λ e. absurd (omega (arith, e)), (λ e. absurd (omega (arith, e)), (λ e. absurd (omega (arith, e)), (λ e. absurd (omega (arith, e)), tt))))))))),
)

open_is_whole : (r : Refusal) → IsLeftOpen r → IsWhole r
unfolding IsWhole
open_is_whole refusal.ChainFull h e = absurd (omega (arith, e))
open_is_whole refusal.NoSpace h e = absurd (omega (arith, e))
open_is_whole refusal.Busy h e = absurd (omega (arith, e))
open_is_whole refusal.NoObject h e = h
open_is_whole refusal.NotAdmin h e = h
open_is_whole refusal.Expired h e = h
open_is_whole refusal.Future h e = h
open_is_whole refusal.Flushed h e = h
open_is_whole refusal.TooLarge h e = h
open_is_whole refusal.BadSpan h e = h
open_is_whole refusal.TooManySpans h e = h
open_is_whole refusal.NoMemory h e = h
open_is_whole refusal.ClockEnd h e = h
open_is_whole refusal.BadAttr h e = h
open_is_whole refusal.BadFrame h e = h
open_is_whole (refusal.Damaged cause) h e = h
open_is_whole refusal.Stale h e = h
open_is_whole refusal.NoRoom h e = h
open_is_whole refusal.InUse h e = h

memory_is_whole : IsWhole refusal.NoMemory
unfolding IsWhole
memory_is_whole e = absurd (omega (arith, e))

-- what may be refused has a number that names it
may_is_whole : (s : State) (role : Role) (request : Request) (e : Refusal) → MayRefuse (first_refusal s role request) request e → IsWhole e
may_is_whole s role request e (AsFirst is) = found_passes (applies s role request) IsWhole checks e checks_are_whole is
may_is_whole s role request e (ForMemory is may) = subst IsWhole (sym is) memory_is_whole
may_is_whole s role request e (AsOpen none left) = open_is_whole e left

refusal_fits : (s : State) (role : Role) (store : StoreFields) (request : Request) (now : ℕ) (e : Refusal) → IsRefusal (first_refusal s role request) store s request now e → ReplyFits (Refused e)
unfolding IsWhole
refusal_fits s role store request now e is = may_is_whole s role request e (may_refuse (first_refusal s role request) store s request now e (checked s role request) is)

refused_by : (first : Option Refusal) (store : StoreFields) (d : DriveFields) (s : State) (request : Request) (now : ℕ) (e : Refusal) → IsRefusal first store s request now e → RefusesBy (or_then first (want_of store s request now)) d request (Refused e)
refused_by first store d s request now e (inl h) = inl h
refused_by first store d s request now e (inr is) = inr (inl is)

-- ---- lack of memory

IsNoLack : Refusal → Type 0
IsNoLack r = number_of r ≢ 10

checks_lack_nothing : AllByRecursion IsNoLack checks
unfolding IsNoLack
checks_lack_nothing = (
  λ e. absurd (omega (arith, e)),
  (λ e. absurd (omega (arith, e)), (λ e. absurd (omega (arith, e)), (λ e. absurd (omega (arith, e)), (λ e. absurd (omega (arith, e)), (λ e. absurd (omega (arith, e)), (λ e. absurd (omega (arith, e)), (λ e. absurd (omega (arith, e)), (λ e. absurd (omega (arith, e)), (λ e. absurd (omega (arith, e)), tt))))))))),
)

no_check_lacks : (s : State) (role : Role) (request : Request) → first_refusal s role request ≡ Some refusal.NoMemory → ⊥
unfolding IsNoLack
no_check_lacks s role request is = found_passes (applies s role request) IsNoLack checks refusal.NoMemory checks_lack_nothing is refl

-- neither a check nor what a change lacks is lack of memory
none_lacks : (s : State) (role : Role) (request : Request) (want : Option Refusal) → (want ≡ Some refusal.NoMemory → ⊥) → (first_refusal s role request ≡ Some refusal.NoMemory) ⊎ ((first_refusal s role request ≡ None) × (want ≡ Some refusal.NoMemory)) → ⊥
none_lacks s role request want never (inl is) = no_check_lacks s role request is
none_lacks s role request want never (inr is) = never is.1

busy_lacks : refusal.NoMemory ≡ refusal.Busy → ⊥
busy_lacks e = let same : number_of refusal.NoMemory ≡ number_of refusal.Busy = ap (λ (r : Refusal). number_of r) e in absurd (omega (arith, same))

first_lacks : (first want : Option Refusal) (request : Request) → MayLackMemory (or_then first want) request → MayLackMemory first request
first_lacks (Some r) want request lacks = lacks
first_lacks None want (Update update) lacks = tt
first_lacks None want (Query question) lacks = refl
first_lacks None want (Control (SetWindow window)) lacks = refl
first_lacks None want (Control (Flush first last)) lacks = tt
first_lacks None want (Control (FlushO object first last)) lacks = tt

lacked_by : (first want : Option Refusal) (d : DriveFields) (request : Request) → (or_then first want ≡ Some refusal.NoMemory → ⊥) → RefusesBy (or_then first want) d request (Refused refusal.NoMemory) → MayLackMemory first request
lacked_by first want d request never (inl h) = first_lacks first want request h.1
lacked_by first want d request never (inr (inl is)) = absurd (never is)
lacked_by first want d request never (inr (inr busy)) = absurd (busy_lacks busy.0)

-- where lack of memory is answered, the checks let it stand
pub lacked : (store : StoreFields) (s : State) (role : Role) (d : DriveFields) (request : Request) (now : ℕ) (given : Reply) → RefusesBy (refusal_of store s role request now) d request given → given ≡ Refused refusal.NoMemory → MayLackMemory (first_refusal s role request) request
lacked store s role d request now given refused is =
    lacked_by (first_refusal s role request) (want_of store s request now) d request
    (λ e. none_lacks s role request (want_of store s request now) (open_of_want store s request now refusal.NoMemory) (or_then_some (first_refusal s role request) (want_of store s request now) refusal.NoMemory e))
    (subst (λ (r : Reply). RefusesBy (refusal_of store s role request now) d request r) is refused)

-- ---- the whole

same_change : (asked : Option Change) (c other : Change) → asked ≡ Some c → asked ≡ Some other → c ≡ other
same_change asked c other is also = same_Some c other (sym is ∙ also)

leaves_change : (b : Bool) (P Q : Type 0) → b ≡ true → P → MatchBool b P Q
leaves_change b P Q e p = subst (λ (x : Bool). MatchBool x P Q) (sym e) p

leaves_all : (b : Bool) (P Q : Type 0) → b ≡ false → Q → MatchBool b P Q
leaves_all b P Q e q = subst (λ (x : Bool). MatchBool x P Q) (sym e) q

served_change : (scarce : StoreFields) (d later : DriveFields) (before after : SessionFields) (request : Request) (now : ℕ) (given : Reply) → TakesChange scarce (first_refusal (state_in d) before.role request) d later before after request now given → IsServed scarce d later before after request now given
served_change scarce d later before after request now given is =
    let accepts : is_acceptance given ≡ true = ap (λ (r : Reply). is_acceptance r) is.reply ∙ accepts_change is.change (stamp (state_in d) now) in
    let as_it_was : judged (history_of d) request now ≡ state_in d = judged-change (history_of d) request now is.change is.asked in
    record {
      step = step_accepts scarce d later before after before.role request now given is;
      refused = subst (λ (r : Reply). RefusesBy (refusal_of scarce (judged (history_of d) request now) before.role request now) later request r) (sym is.reply)
          (accepted_unrefused _ later request is.change (stamp (state_in d) now) (ap (λ (s : State). refusal_of scarce s before.role request now) as_it_was ∙ is.free));
      stored = leaves_change (is_acceptance given) ((c : Change) → change_of (state_in d) request ≡ Some c → StoresChange (store_of d) c (stamp (state_in d) now) (store_of later)) (store_of later ≡ store_of d) accepts
          (λ c asked. subst (λ (x : Change). StoresChange (store_of d) x (stamp (state_in d) now) (store_of later)) (same_change (change_of (state_in d) request) is.change c is.asked asked) is.stored);
      fits = subst ReplyFits (sym is.reply) (accepted_fits is.change (stamp (state_in d) now));
      session = is.told ∙ ap (λ (b : Bool). record before { told = cond b (credited later.ledger before.told) (caught_up later.ledger before.told) }) (sym accepts);
      owners = ap (λ (l : Ledger). l.owners) is.ledger ∙ ap (λ (b : Bool). cond b (d.ledger.owners ++ before.told.seat ∷ []) d.ledger.owners) (sym accepts);
      fits_before = is.true_before;
      fits_after = is.true_after;
    }

-- a refused request, from the drive and the session that it leaves
served_refused : (scarce : StoreFields) (d later : DriveFields) (before after : SessionFields) (request : Request) (now : ℕ) (e : Refusal)
    → IsRefusal (first_refusal (judged (history_of d) request now) before.role request) scarce (judged (history_of d) request now) request now e
    → Sees d later before after now → IsServed scarce d later before after request now (Refused e)
served_refused scarce d later before after request now e why sees = record {
  step = subst (λ (l : Ledger). Step (history_of d) before.role request now (Refused e) l.history) (sym sees.0) (step_refuses (history_of d) scarce before.role request now e why);
  refused = refused_by (first_refusal (judged (history_of d) request now) before.role request) scarce later (judged (history_of d) request now) request now e why;
  stored = sees.1;
  fits = refusal_fits (judged (history_of d) request now) before.role scarce request now e why;
  session = sees.2;
  owners = ap (λ (l : Ledger). l.owners) sees.0;
  fits_before = sees.3;
  fits_after = sees.4;
}

-- a change that was refused, and whose moment was seen then
served_refusal : (scarce : StoreFields) (d middle later : DriveFields) (before between after : SessionFields) (request : Request) (now : ℕ) (e : Refusal) → judged (history_of d) request now ≡ state_in d
    → RefusesChange scarce (first_refusal (state_in d) before.role request) d middle before between request now e
    → Sees middle later between after now → IsServed scarce d later before after request now (Refused e)
served_refusal scarce d middle later before between after request now e judging is sees =
    let as_it_was : state_in d ≡ judged (history_of d) request now = sym judging in
    let ledger : later.ledger ≡ with_moment d.ledger now = sees.0 ∙ ap (λ (l : Ledger). with_moment l now) is.ledger in
    let store : store_of later ≡ store_of d = sees.1 ∙ is.store in
    let told : after ≡ record before { told = caught_up later.ledger before.told } = sees.2 ∙ ap (λ (x : SessionFields). record x { told = caught_up later.ledger x.told }) is.session in
    let fits : FitsLedger d.ledger before.told = subst (λ (x : SessionFields). FitsLedger d.ledger x.told) is.session (subst (λ (l : Ledger). FitsLedger l between.told) is.ledger sees.3) in
    served_refused scarce d later before after request now e
    (subst (λ (s : State). IsRefusal (first_refusal s before.role request) scarce s request now e) as_it_was is.why)
    (ledger, store, told, fits, sees.4)

-- a request for a change, once it was settled
pub served_settled : (scarce : StoreFields) (d middle later : DriveFields) (before between after : SessionFields) (request : Request) (now : ℕ) (done : Result Reply Refusal) (given : Reply) → judged (history_of d) request now ≡ state_in d
    → ComesTo scarce (first_refusal (state_in d) before.role request) d middle before between request now done → IsSettled middle later between after now done given → IsServed scarce d later before after request now given
served_settled scarce d middle later before between after request now (Ok reply) given judging takes settled =
    subst (λ (r : Reply). IsServed scarce d later before after request now r) (sym settled.0)
    (subst (λ (x : DriveFields). IsServed scarce d x before after request now reply) (sym settled.1)
    (subst (λ (x : SessionFields). IsServed scarce d middle before x request now reply) (sym settled.2) (served_change scarce d middle before between request now reply takes)))
served_settled scarce d middle later before between after request now (Err e) given judging refuses settled =
    subst (λ (r : Reply). IsServed scarce d later before after request now r) (sym settled.0)
    (served_refusal scarce d middle later before between after request now e judging refuses settled.1)

-- a request that asks for no change
abbrev pub IsRead : Request → Type 0
IsRead (Query question) = Unit {0}
IsRead _ = ⊥

read_is_judged : (h : History) (request : Request) (now : ℕ) → IsRead request → state_of (grown h (Seen now)) ≡ judged h request now
read_is_judged h (Query question) now is = refl
read_is_judged h (Update update) now is = absurd is
read_is_judged h (Control control) now is = absurd is

read_wants_nothing : (store : StoreFields) (s : State) (request : Request) (now : ℕ) → IsRead request → want_of store s request now ≡ None
read_wants_nothing store s (Query question) now is = refl
read_wants_nothing store s (Update update) now is = absurd is
read_wants_nothing store s (Control control) now is = absurd is

or_then_none_is : (first : Option Refusal) → or_then first None ≡ first
or_then_none_is None = refl
or_then_none_is (Some r) = refl

-- what is judged out of a read is refused
refuses_judged : (first : Option Refusal) (store : StoreFields) (s : State) (request : Request) (now : ℕ) (e : Refusal) → IsRead request → IsJudgedOut first request e → IsRefusal first store s request now e
refuses_judged first store s request now e read out =
    let same : first ≡ or_then first (want_of store s request now) = sym (ap (λ (r : Option Refusal). or_then first r) (read_wants_nothing store s request now read) ∙ or_then_none_is first) in
    subst (λ (r : Option Refusal). ((e ≡ refusal.NoMemory) × MayLackMemory r request) ⊎ (r ≡ Some e)) same out

-- a read that had no pin, from the drive and the session that it leaves
served_busy : (scarce : StoreFields) (d later : DriveFields) (before after : SessionFields) (request : Request) (now : ℕ) (e : Refusal) → IsRead request → e ≡ refusal.Busy
    → first_refusal (judged (history_of d) request now) before.role request ≡ None → WantsPin later request → Sees d later before after now → IsServed scarce d later before after request now (Refused e)
unfolding IsWhole
served_busy scarce d later before after request now e read is free wants sees =
    let left : IsLeftOpen e = subst IsLeftOpen (sym is) tt in
    record {
      step = subst (λ (l : Ledger). Step (history_of d) before.role request now (Refused e) l.history) (sym sees.0) (Refuses e refl (AsOpen free left) refl);
      refused = inr (inr (is, ap (λ (r : Option Refusal). or_then r (want_of scarce (judged (history_of d) request now) request now)) free ∙ read_wants_nothing scarce (judged (history_of d) request now) request now read, wants));
      stored = sees.1;
      fits = open_is_whole e left;
      session = sees.2;
      owners = ap (λ (l : Ledger). l.owners) sees.0;
      fits_before = sees.3;
      fits_after = sees.4;
    }

-- a moment that was seen, and a drive and a ledger that stay then
seen_still : (d seen_at later : DriveFields) (before after : SessionFields) (now : ℕ) → Sees d seen_at before after now → later.ledger ≡ seen_at.ledger → store_of later ≡ store_of seen_at → Sees d later before after now
seen_still d seen_at later before after now sees ledger store = (
  ledger ∙ sees.0,
  store ∙ sees.1,
  sees.2 ∙ ap (λ (l : Ledger). record before { told = caught_up l before.told }) (sym ledger),
  sees.3,
  subst (λ (l : Ledger). FitsLedger l after.told) (sym ledger) sees.4,
)

-- a read that was refused, once its moment was seen
served_untold : (scarce : StoreFields) (d seen_at later : DriveFields) (before after : SessionFields) (request : Request) (now : ℕ) (e : Refusal) → IsRead request
    → Sees d seen_at before after now → later.ledger ≡ seen_at.ledger → store_of later ≡ store_of seen_at
    → IsUnplanned (first_refusal (state_in seen_at) before.role request) later request e → IsServed scarce d later before after request now (Refused e)
served_untold scarce d seen_at later before after request now e read sees ledger store (inl out) =
    let judging : state_in seen_at ≡ judged (history_of d) request now = ap (λ (l : Ledger). state_of l.history) sees.0 ∙ read_is_judged (history_of d) request now read in
    served_refused scarce d later before after request now e
    (refuses_judged (first_refusal (judged (history_of d) request now) before.role request) scarce (judged (history_of d) request now) request now e read
    (subst (λ (s : State). IsJudgedOut (first_refusal s before.role request) request e) judging out)) (seen_still d seen_at later before after now sees ledger store)
served_untold scarce d seen_at later before after request now e read sees ledger store (inr busy) =
    let judging : state_in seen_at ≡ judged (history_of d) request now = ap (λ (l : Ledger). state_of l.history) sees.0 ∙ read_is_judged (history_of d) request now read in
    served_busy scarce d later before after request now e read busy.0 (subst (λ (s : State). first_refusal s before.role request ≡ None) judging busy.1) busy.2 (seen_still d seen_at later before after now sees ledger store)

-- and one that was answered
pub served_told : (scarce : StoreFields) (d seen_at later : DriveFields) (before after : SessionFields) (request : Request) (now : ℕ) (given : Reply) → IsRead request
    → Sees d seen_at before after now → later.ledger ≡ seen_at.ledger → store_of later ≡ store_of seen_at
    → first_refusal (state_in seen_at) before.role request ≡ None → reply_to_read (state_in seen_at) request ≡ Some given → ReplyFits given → IsServed scarce d later before after request now given
served_told scarce d seen_at later before after request now given read sees ledger store free tells fits =
    let judging : state_in seen_at ≡ judged (history_of d) request now = ap (λ (l : Ledger). state_of l.history) sees.0 ∙ read_is_judged (history_of d) request now read in
    let told : IsTold given = read_is_told (state_in seen_at) request given tells in
    let nothing : is_acceptance given ≡ false = told_accepts_nothing given told in
    let unrefused : first_refusal (judged (history_of d) request now) before.role request ≡ None = subst (λ (s : State). first_refusal s before.role request ≡ None) judging free in
    record {
      step = subst (λ (l : Ledger). Step (history_of d) before.role request now given l.history) (sym (ledger ∙ sees.0))
          (step_tells (history_of d) before.role request now given unrefused (subst (λ (s : State). reply_to_read s request ≡ Some given) judging tells));
      refused = told_unrefused _ later request given told
          (ap (λ (r : Option Refusal). or_then r (want_of scarce (judged (history_of d) request now) request now)) unrefused ∙ read_wants_nothing scarce (judged (history_of d) request now) request now read);
      stored = leaves_all (is_acceptance given) ((c : Change) → change_of (state_in d) request ≡ Some c → StoresChange (store_of d) c (stamp (state_in d) now) (store_of later)) (store_of later ≡ store_of d) nothing (store ∙ sees.1);
      fits = fits;
      session = sees.2 ∙ ap (λ (l : Ledger). record before { told = caught_up l before.told }) (sym ledger)
          ∙ ap (λ (b : Bool). record before { told = cond b (credited later.ledger before.told) (caught_up later.ledger before.told) }) (sym nothing);
      owners = ap (λ (l : Ledger). l.owners) (ledger ∙ sees.0) ∙ ap (λ (b : Bool). cond b (d.ledger.owners ++ before.told.seat ∷ []) d.ledger.owners) (sym nothing);
      fits_before = sees.3;
      fits_after = subst (λ (l : Ledger). FitsLedger l after.told) (sym ledger) sees.4;
    }

-- so of a read, whatever was told
pub served_read : (scarce : StoreFields) (d seen_at later : DriveFields) (before after : SessionFields) (role : Role) (request : Request) (now : ℕ) (told : Result Reply Refusal) (given : Reply) → IsRead request
    → Sees d seen_at before after now → later.ledger ≡ seen_at.ledger → store_of later ≡ store_of seen_at → role ≡ before.role
    → IfOk told (λ reply. (first_refusal (state_in seen_at) role request ≡ None) × (reply_to_read (state_in seen_at) request ≡ Some reply)) → IfOk told ReplyFits
    → IfErr told (IsUnplanned (first_refusal (state_in seen_at) role request) later request)
    → MatchResult told (λ reply. given ≡ reply) (λ e. given ≡ Refused e) → IsServed scarce d later before after request now given
served_read scarce d seen_at later before after role request now (Ok reply) given read sees ledger store same ok fits out is =
    subst (λ (r : Reply). IsServed scarce d later before after request now r) (sym is)
    (served_told scarce d seen_at later before after request now reply read sees ledger store (subst (λ (r : Role). first_refusal (state_in seen_at) r request ≡ None) same ok.0) ok.1 fits)
served_read scarce d seen_at later before after role request now (Err e) given read sees ledger store same ok fits out is =
    subst (λ (r : Reply). IsServed scarce d later before after request now r) (sym is)
    (served_untold scarce d seen_at later before after request now e read sees ledger store (subst (λ (r : Role). IsUnplanned (first_refusal (state_in seen_at) r request) later request e) same out))

-- so of a read that was planned, or wasn't
pub served_planned : (scarce : StoreFields) (d seen_at later : DriveFields) (before after : SessionFields) (request : Request) (now : ℕ) (planned : Result PlanFields Refusal) → IsRead request
    → Sees d seen_at before after now → later.ledger ≡ seen_at.ledger → store_of later ≡ store_of seen_at
    → OnOk planned ((role : Role) → first_refusal (state_in seen_at) role request ≡ None) → IfOk planned (λ plan. reply_to_read (state_in seen_at) request ≡ Some (Data (bytes_planned plan))) → IfOk planned (λ plan. ReplyFits (Data (bytes_planned plan)))
    → IfErr planned (λ e. (role : Role) → IsUnplanned (first_refusal (state_in seen_at) role request) later request e) → IsServed scarce d later before after request now (reply_planned planned)
served_planned scarce d seen_at later before after request now (Ok plan) read sees ledger store free tells fits out =
    served_told scarce d seen_at later before after request now (Data (bytes_planned plan)) read sees ledger store (free before.role) tells fits
served_planned scarce d seen_at later before after request now (Err e) read sees ledger store free tells fits out =
    served_untold scarce d seen_at later before after request now e read sees ledger store (out before.role)
