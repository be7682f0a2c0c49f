-- Reads, by the inode of the moment.
use Rattle.std.proofs.Common.{◌≡◌, ◌≤◌, ℕ, Bool, true, false, cond, inl, inr, Option, Some, None, List, length, take, drop, length-take, refl, sym, ap, subst, ◌∙◌, arith}
use Rattle.std.proofs.lemmas.Bool.{le-ltb}
use Rattle.std.specs.Prelude.{nat_lt, Result, Ok, Err, IfOk, IfErr, OnOk}
use Rattle.s4_types.specs.Pointer.{Place}
use Rattle.s4_types.specs.declared.refusals.Refusal.{Refusal}
use Rattle.s4_types.specs.declared.refusals.Refusal.TheVariants.{NoObject, Future, Expired, Flushed, NoMemory}
use Rattle.s4_types.specs.Sizes.{ReplyFits}
use Rattle.s4_types.specs.declared.limits.TheConstants.{READ_BYTES}
use Rattle.s4_types.specs.declared.requests.Question.{Question}
use Rattle.s4_types.specs.declared.requests.Question.TheVariants.{Read, GetAttr}
use Rattle.s4_types.specs.declared.requests.Request.TheVariants.{Query}
use Rattle.s4_types.specs.declared.replies.Reply.{Reply}
use Rattle.s4_types.specs.declared.replies.Reply.TheVariants.{Data, Attr}
use Rattle.s4_types.specs.declared.versions.Version.{Version}
use Rattle.s4_types.specs.declared.versions.Version.TheVariants.{Absent, Live}
use Rattle.s4_model.specs.State.{State, state_of}
use Rattle.s4_model.specs.Step.{reply_to_read, data_of, attributes_of}
use Rattle.s4_model.specs.VersionAt.{version_of}
use Rattle.s4_model.specs.Visible.{IsVisible, is_hidden}
use Rattle.s4_model.specs.Refusals.{moment_refusal, is_absent, asked}
use Rattle.segment_word.specs.AcceptViews.{Ledger}
use Rattle.codec.specs.declared.inodes.Inode.{Inode}
use Rattle.inode.specs.Contents.{contents_of, bytes_of, meaning}
use Rattle.inode.specs.Laws.{TheSizeCountsTheBytes}
use Rattle.time_read.specs.Plans.{PlanFields, bytes_planned}
use Rattle.version_store.specs.Store.{StoreFields}
use Rattle.version_store.specs.Versions.{inode_in, version_by}
use Rattle.window.specs.Timeline.{Timeline}
use Rattle.drive.specs.Keeping.{IsKeptDrive}
use Rattle.drive.specs.Fields.{DriveFields, state_in, store_of}
use Rattle.drive.specs.Later.{later_refusal}
use Rattle.drive.specs.Refusing.{or_then, IsJudgedOut, IsUnplanned}
use Rattle.version_store.specs.Planning.{IsReadPlan, IsPlanRefusal}
use Rattle.version_store.specs.Reading.{HasLive, IsUnread}
use Rattle.drive.specs.Answering.{telling_refusal, MeansVersion, HasVersion, IsUntold, IsAnswered, IsPlanOf}

-- ---- which moments are read

abbrev pub moment_tests : Bool → Bool → Bool → Option Refusal
moment_tests late early hidden = cond late (Some Future) (cond early (Some Expired) (cond hidden (Some Flushed) None))

-- a visible moment is refused by nothing
pub visible_not_refused : (s : State) (o t : ℕ) → IsVisible s o t → moment_refusal s o t ≡ None
visible_not_refused s o t visible =
    ap (λ (b : Bool). moment_tests b (nat_lt t s.floor) (is_hidden s o t)) (le-ltb s.clock t visible.reached)
    ∙ ap (λ (b : Bool). moment_tests false b (is_hidden s o t)) (le-ltb t s.floor visible.kept)
    ∙ ap (λ (b : Bool). moment_tests false false b) visible.shown

-- ---- the version there

version_there : (s : State) (store : StoreFields) (w : Timeline) (next o t : ℕ) (found : Option Inode) → IsKeptDrive s store w next → IsVisible s o t → found ≡ inode_in store o t → version_of s o t ≡ version_by store.log.held found
version_there s store w next o t found kept visible is = sym (kept.versions o t (inl visible)) ∙ ap (λ (i : Option Inode). version_by store.log.held i) (sym is)

pub live_meaning : (contents : Place → List ℕ) (i : Inode) → i.alive ≡ true → meaning contents i ≡ Live (bytes_of contents i) i.attribute i.created i.changed
live_meaning contents i is = ap (λ (b : Bool). cond b (Live (bytes_of contents i) i.attribute i.created i.changed) Absent) is

-- a live inode tells the version
pub live_version : (s : State) (store : StoreFields) (w : Timeline) (next o t : ℕ) (found : Option Inode) (i : Inode) → IsKeptDrive s store w next → IsVisible s o t → found ≡ inode_in store o t → found ≡ Some i → i.alive ≡ true
    → version_of s o t ≡ Live (bytes_of (contents_of store.log.held) i) i.attribute i.created i.changed
live_version s store w next o t found i kept visible is some alive =
    version_there s store w next o t found kept visible is ∙ ap (λ (x : Option Inode). version_by store.log.held x) some ∙ live_meaning (contents_of store.log.held) i alive

pub live_free : (s : State) (o t : ℕ) (bytes attribute : List ℕ) (created changed : ℕ) → moment_refusal s o t ≡ None → version_of s o t ≡ Live bytes attribute created changed → telling_refusal s o t ≡ None
live_free s o t bytes attribute created changed free is =
    ap (λ (r : Option Refusal). or_then r (cond (is_absent (version_of s o t)) (Some NoObject) None)) free
    ∙ ap (λ (v : Version). cond (is_absent v) (Some NoObject) None) is

absent_told : (s : State) (o t : ℕ) → moment_refusal s o t ≡ None → version_of s o t ≡ Absent → telling_refusal s o t ≡ Some NoObject
absent_told s o t free is =
    ap (λ (r : Option Refusal). or_then r (cond (is_absent (version_of s o t)) (Some NoObject) None)) free
    ∙ ap (λ (v : Version). cond (is_absent v) (Some NoObject) None) is

-- what refuses a moment refuses to tell of it
pub moment_told : (s : State) (o t u : ℕ) (e : Refusal) → t ≡ u → moment_refusal s o t ≡ Some e → telling_refusal s o u ≡ Some e
moment_told s o t u e is first =
    ap (λ (r : Option Refusal). or_then r (cond (is_absent (version_of s o u)) (Some NoObject) None)) (ap (λ (n : ℕ). moment_refusal s o n) (sym is) ∙ first)

-- ---- what a reader has

has_version : (d : DriveFields) (w : Timeline) (next o t : ℕ) (Holds : Inode → Type 0) → IsKeptDrive (state_in d) (store_of d) w next → IsVisible (state_in d) o t → HasLive (store_of d) o t Holds → HasVersion d o t Holds
has_version d w next o t Holds kept visible has = record {
  inode = has.inode;
  there = has.there;
  version = live_version (state_in d) (store_of d) w next o t (Some has.inode) has.inode kept visible (sym has.there) refl has.alive;
  holds = has.holds;
}

free_of_version : (d : DriveFields) (o t : ℕ) (Holds : Inode → Type 0) → IsVisible (state_in d) o t → HasVersion d o t Holds → telling_refusal (state_in d) o t ≡ None
free_of_version d o t Holds visible has =
    live_free (state_in d) o t (bytes_of (contents_of (store_of d).log.held) has.inode) has.inode.attribute has.inode.created has.inode.changed (visible_not_refused (state_in d) o t visible) has.version

free_where_read : {T : Type 0} (r : Result T Refusal) (d : DriveFields) (w : Timeline) (next o t : ℕ) (Reads : Inode → T → Type 0) → IsKeptDrive (state_in d) (store_of d) w next → IsVisible (state_in d) o t
    → IfOk r (λ read. HasLive (store_of d) o t (λ inode. Reads inode read)) → OnOk r (telling_refusal (state_in d) o t ≡ None) × IfOk r (λ read. HasVersion d o t (λ inode. Reads inode read))
free_where_read (Ok read) d w next o t Reads kept visible has =
    let told = has_version d w next o t (λ inode. Reads inode read) kept visible has in
    (free_of_version d o t (λ inode. Reads inode read) visible told, told)
free_where_read (Err e) d w next o t Reads kept visible has = (tt, tt)

-- what is read by a live inode is read of the version that is told
pub read_version : {T : Type 0} (r : Result T Refusal) (inside d : DriveFields) (w : Timeline) (next o t u : ℕ) (Reads : Inode → T → Type 0) → inside ≡ d → t ≡ u → IsKeptDrive (state_in d) (store_of d) w next → IsVisible (state_in d) o t
    → IfOk r (λ read. HasLive (store_of inside) o t (λ inode. Reads inode read)) → OnOk r (telling_refusal (state_in d) o u ≡ None) × IfOk r (λ read. HasVersion d o u (λ inode. Reads inode read))
read_version r inside d w next o t u Reads same is kept visible has =
    free_where_read r d w next o u Reads kept (subst (IsVisible (state_in d) o) is visible)
    (subst (λ (n : ℕ). IfOk r (λ read. HasLive (store_of d) o n (λ inode. Reads inode read))) is
    (subst (λ (x : DriveFields). IfOk r (λ read. HasLive (store_of x) o t (λ inode. Reads inode read))) same has))

untold_where_unread : {T : Type 0} (r : Result T Refusal) (d : DriveFields) (w : Timeline) (next o t : ℕ) (Refuses : Inode → Refusal → Type 0) → IsKeptDrive (state_in d) (store_of d) w next → IsVisible (state_in d) o t
    → IfErr r (λ e. IsUnread (store_of d) o t (λ inode. Refuses inode e) e) → IfErr r (λ e. IsUntold d o t (λ inode. Refuses inode e) e)
untold_where_unread (Ok read) d w next o t Refuses kept visible unread = tt
untold_where_unread (Err e) d w next o t Refuses kept visible (inl absent) =
    inl (absent_told (state_in d) o t (visible_not_refused (state_in d) o t visible) (sym (kept.versions o t (inl visible)) ∙ absent.1) ∙ ap (λ (x : Refusal). Some x) (sym absent.0))
untold_where_unread (Err e) d w next o t Refuses kept visible (inr has) =
    let told = has_version d w next o t (λ inode. Refuses inode e) kept visible has in
    inr (free_of_version d o t (λ inode. Refuses inode e) visible told, told)

-- what isn't read isn't told
pub unread_version : {T : Type 0} (r : Result T Refusal) (inside d : DriveFields) (w : Timeline) (next o t u : ℕ) (Refuses : Inode → Refusal → Type 0) → inside ≡ d → t ≡ u → IsKeptDrive (state_in d) (store_of d) w next → IsVisible (state_in d) o t
    → IfErr r (λ e. IsUnread (store_of inside) o t (λ inode. Refuses inode e) e) → IfErr r (λ e. IsUntold d o u (λ inode. Refuses inode e) e)
unread_version r inside d w next o t u Refuses same is kept visible unread =
    untold_where_unread r d w next o u Refuses kept (subst (IsVisible (state_in d) o) is visible)
    (subst (λ (n : ℕ). IfErr r (λ e. IsUnread (store_of d) o n (λ inode. Refuses inode e) e)) is
    (subst (λ (x : DriveFields). IfErr r (λ e. IsUnread (store_of x) o t (λ inode. Refuses inode e) e)) same unread))

-- ---- a Read and a GetAttr

tests_told : (late early hidden : Bool) (r : Option Refusal) → cond late (Some Future) (cond early (Some Expired) (cond hidden (Some Flushed) r)) ≡ or_then (moment_tests late early hidden) r
tests_told true early hidden r = refl
tests_told false true hidden r = refl
tests_told false false true r = refl
tests_told false false false r = refl

-- what is left to refuse of a Read is what refuses to tell of its moment
pub read_refusal : (s : State) (object offset len : ℕ) (at : Option ℕ) → later_refusal s (Query (Read object offset len at)) ≡ telling_refusal s object (asked s at)
read_refusal s object offset len at =
    tests_told (nat_lt s.clock (asked s at)) (nat_lt (asked s at) s.floor) (is_hidden s object (asked s at)) (cond (is_absent (version_of s object (asked s at))) (Some NoObject) None)

pub attributes_refusal : (s : State) (object : ℕ) (at : Option ℕ) → later_refusal s (Query (GetAttr object at)) ≡ telling_refusal s object (asked s at)
attributes_refusal s object at =
    tests_told (nat_lt s.clock (asked s at)) (nat_lt (asked s at) s.floor) (is_hidden s object (asked s at)) (cond (is_absent (version_of s object (asked s at))) (Some NoObject) None)

-- without memory alone a question is judged out
pub untold_judged : (question : Question) (d : DriveFields) (o t : ℕ) (e : Refusal) → later_refusal (state_in d) (Query question) ≡ telling_refusal (state_in d) o t → IsUntold d o t (λ inode. e ≡ NoMemory) e → IsJudgedOut (later_refusal (state_in d) (Query question)) (Query question) e
untold_judged question d o t e same (inl first) = inr (same ∙ first)
untold_judged question d o t e same (inr told) = inl (told.1.holds, same ∙ told.0)

data_told : (d : DriveFields) (object offset len : ℕ) (at : Option ℕ) (i : Inode) → MeansVersion d object (asked (state_in d) at) i
    → reply_to_read (state_in d) (Query (Read object offset len at)) ≡ Some (Data (take len (drop offset (bytes_of (contents_of (store_of d).log.held) i))))
data_told d object offset len at i means = ap (λ (v : Version). data_of v offset len) means

-- bytes that were read over the blocks of a store are the reply to the Read
pub bytes_answered : (d : DriveFields) (store : StoreFields) (object offset len : ℕ) (at : Option ℕ) (bytes : List ℕ) → store ≡ store_of d → telling_refusal (state_in d) object (asked (state_in d) at) ≡ None
    → HasVersion d object (asked (state_in d) at) (λ inode. bytes ≡ take len (drop offset (bytes_of (contents_of store.log.held) inode))) → IsAnswered (later_refusal (state_in d) (Query (Read object offset len at))) (state_in d) (Query (Read object offset len at)) (Data bytes)
bytes_answered d store object offset len at bytes same free has = (
  read_refusal (state_in d) object offset len at ∙ free,
  data_told d object offset len at has.inode has.version
      ∙ ap (λ (s : StoreFields). Some (Data (take len (drop offset (bytes_of (contents_of s.log.held) has.inode))))) (sym same)
      ∙ ap (λ (l : List ℕ). Some (Data l)) (sym has.holds),
)

-- they are no more than were asked for
pub bytes_fit : (d : DriveFields) (object t offset len : ℕ) (contents : Place → List ℕ) (bytes : List ℕ) → len ≤ READ_BYTES → HasVersion d object t (λ inode. bytes ≡ take len (drop offset (bytes_of contents inode))) → ReplyFits (Data bytes)
bytes_fit d object t offset len contents bytes few has =
    let rest : List ℕ = drop offset (bytes_of contents has.inode) in
    let same : length bytes ≡ length (take len rest) = ap (length {A = ℕ}) has.holds in
    let fits : length bytes ≤ READ_BYTES = omega (arith, few, same, length-take len rest) in
    fits

-- what an inode tells is the reply to a GetAttr
pub attributes_answered : (r : Result Reply Refusal) (d : DriveFields) (object : ℕ) (at : Option ℕ) → TheSizeCountsTheBytes → OnOk r (telling_refusal (state_in d) object (asked (state_in d) at) ≡ None)
    → IfOk r (λ reply. HasVersion d object (asked (state_in d) at) (λ inode. (reply ≡ Attr inode.size inode.created inode.changed inode.attribute) × ReplyFits reply))
    → IfOk r (IsAnswered (later_refusal (state_in d) (Query (GetAttr object at))) (state_in d) (Query (GetAttr object at)))
attributes_answered (Ok reply) d object at count free has =
    let i = has.inode in (
      attributes_refusal (state_in d) object at ∙ free,
      ap attributes_of has.version
          ∙ ap (λ (n : ℕ). Some (Attr n i.created i.changed i.attribute)) (count (contents_of (store_of d).log.held) i)
          ∙ ap (λ (x : Reply). Some x) (sym has.holds.0),
    )
attributes_answered (Err e) d object at count free has = tt

pub attributes_fit : (r : Result Reply Refusal) (d : DriveFields) (object t : ℕ) → IfOk r (λ reply. HasVersion d object t (λ inode. (reply ≡ Attr inode.size inode.created inode.changed inode.attribute) × ReplyFits reply)) → IfOk r ReplyFits
attributes_fit (Ok reply) d object t has = has.holds.1
attributes_fit (Err e) d object t has = tt

pub attributes_judged : (r : Result Reply Refusal) (d : DriveFields) (object : ℕ) (at : Option ℕ) → IfErr r (λ e. IsUntold d object (asked (state_in d) at) (λ inode. e ≡ NoMemory) e)
    → IfErr r (IsJudgedOut (later_refusal (state_in d) (Query (GetAttr object at))) (Query (GetAttr object at)))
attributes_judged (Ok reply) d object at untold = tt
attributes_judged (Err e) d object at untold = untold_judged (GetAttr object at) d object (asked (state_in d) at) e (attributes_refusal (state_in d) object at) untold

-- ---- a plan

-- the bytes of a plan are the reply to the Read
pub planned_reply : (r : Result PlanFields Refusal) (d later : DriveFields) (object offset len : ℕ) (at : Option ℕ) → store_of later ≡ store_of d
    → IfOk r (λ plan. HasVersion d object (asked (state_in d) at) (λ inode. IsReadPlan later.store.table inode offset len plan)) → IfOk r (λ plan. reply_to_read (state_in d) (Query (Read object offset len at)) ≡ Some (Data (bytes_planned plan)))
planned_reply (Ok plan) d later object offset len at same has =
    data_told d object offset len at has.inode has.version
    ∙ ap (λ (s : StoreFields). Some (Data (take len (drop offset (bytes_of (contents_of s.log.held) has.inode))))) (sym same)
    ∙ ap (λ (l : List ℕ). Some (Data l)) (sym has.holds.bytes)
planned_reply (Err e) d later object offset len at same has = tt

version_later : (d later : DriveFields) (object : ℕ) (at : Option ℕ) (i : Inode) → later.ledger ≡ d.ledger → store_of later ≡ store_of d → inode_in (store_of d) object (asked (state_in d) at) ≡ Some i → inode_in (store_of later) object (asked (state_in later) at) ≡ Some i
version_later d later object at i ledger same there =
    ap (λ (s : StoreFields). inode_in s object (asked (state_in later) at)) same
    ∙ ap (λ (l : Ledger). inode_in (store_of d) object (asked (state_of l.history) at)) ledger
    ∙ there

-- it is a plan of the Read
pub planned_version : (r : Result PlanFields Refusal) (d later : DriveFields) (object offset len : ℕ) (at : Option ℕ) → later.ledger ≡ d.ledger → store_of later ≡ store_of d
    → IfOk r (λ plan. HasVersion d object (asked (state_in d) at) (λ inode. IsReadPlan later.store.table inode offset len plan)) → IfOk r (IsPlanOf later object offset len at)
planned_version (Ok plan) d later object offset len at ledger same has = record {
  inode = has.inode;
  there = version_later d later object at has.inode ledger same has.there;
  pieces = has.holds.pieces;
  pins = has.holds.pins;
  seat = has.holds.seat;
  here = has.holds.here;
}
planned_version (Err e) d later object offset len at ledger same has = tt

pub unplanned_version : (r : Result PlanFields Refusal) (d later : DriveFields) (object offset len : ℕ) (at : Option ℕ) → later.ledger ≡ d.ledger → store_of later ≡ store_of d
    → IfErr r (λ e. IsUntold d object (asked (state_in d) at) (λ inode. IsPlanRefusal later.store.table inode offset len e) e)
    → IfErr r (IsUnplanned (later_refusal (state_in d) (Query (Read object offset len at))) later (Query (Read object offset len at)))
unplanned_version (Ok plan) d later object offset len at ledger same untold = tt
unplanned_version (Err e) d later object offset len at ledger same (inl first) = inl (inr (read_refusal (state_in d) object offset len at ∙ first))
unplanned_version (Err e) d later object offset len at ledger same (inr told) =
    let free = read_refusal (state_in d) object offset len at ∙ told.0 in
    let has = told.1 in
    elim has.holds [
      | inl memory ↦ inl (inl (memory, free))
      | inr busy ↦ inr (busy.0, free, record { inode = has.inode; there = version_later d later object at has.inode ledger same has.there; sealed = busy.1 })
    ]
