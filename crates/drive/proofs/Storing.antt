-- Changes that make a version.
use Rattle.std.proofs.Common.{◌≡◌, ℕ, ◌==◌, ◌||◌, ◌⊎◌, inl, inr, Bool, true, false, cond, Option, None, Some, refl, sym, ap, subst, ◌∙◌, arith}
use Rattle.std.specs.Prelude.{is_some, MatchBool, Result, Ok, Err}
use Rattle.std.proofs.lemmas.Bool.{false≢true}
use Rattle.std.proofs.lemmas.Option.{none-some, same_Some}
use Rattle.std.specs.Option.{option_and_then}
use Rattle.s4_types.specs.Pointer.{Place}
use Rattle.s4_types.specs.declared.changes.Accepted.{Accepted}
use Rattle.s4_types.specs.declared.changes.Change.{Change}
use Rattle.s4_types.specs.declared.changes.Change.TheVariants as change
use Rattle.s4_types.specs.declared.requests.Request.{Request}
use Rattle.s4_types.specs.declared.requests.Request.TheVariants.{Update, Query, Control}
use Rattle.s4_types.specs.declared.requests.ObjectRequest.{ObjectRequest}
use Rattle.s4_types.specs.declared.requests.AdminRequest.{AdminRequest}
use Rattle.s4_types.specs.declared.requests.AdminRequest.TheVariants.{SetWindow, Flush, FlushO}
use Rattle.s4_types.specs.declared.refusals.Refusal.{Refusal}
use Rattle.s4_types.specs.declared.replies.Reply.{Reply}
use Rattle.s4_types.specs.declared.refusals.Refusal.TheVariants.{NoMemory, ChainFull, NoSpace}
use Rattle.s4_model.specs.Numbers.{next_by}
use Rattle.s4_model.specs.State.{State, state_of, took}
use Rattle.s4_model.specs.Refusals.{is_absent}
use Rattle.s4_model.specs.Step.{change_of, stamp, accepted_record, reply_at}
use Rattle.s4_model.specs.Plain.{HasNext}
use Rattle.s4_model.specs.Sound.{IsSound}
use Rattle.segment_word.specs.AcceptViews.{Ledger, with_change, credited}
use Rattle.segment_word.specs.AcceptRule.{FitsLedger}
use Rattle.window.specs.Timeline.{Timeline, StandsFor}
use Rattle.block_log.specs.Log.{Stored}
use Rattle.object_map.specs.declared.map.Row.{Row}
use Rattle.object_map.specs.Rows.{row_of}
use Rattle.version_store.specs.Store.{StoreFields, IsStore}
use Rattle.s4_model.specs.Effect.{is_of_versions, object_of}
use Rattle.version_store.specs.Versions.{inode_by, version_by, version_in, version_taken}
use Rattle.version_store.specs.Costs.{change_refusal, short_of}
use Rattle.version_store.specs.Taking.{IsThere, IsReadyFor, RowChanges, AppendsBy}
use Rattle.version_store.specs.Laws.{ThePresentStays}
use Rattle.drive.specs.Keeping.{IsKeptDrive}
use Rattle.drive.specs.Fields.{DriveFields, SessionFields, store_of, state_in}
use Rattle.drive.specs.Answering.{StoresVersion, StoresChange, TakesChange, RefusesChange, ComesTo}
use Rattle.drive.specs.Refusing.{or_then, storing_refusal, want_of, IsOfBlocks, MayLackMemory, IsRefusal}
use Rattle.drive.proofs.Kept.{kept_taken, given_by}
use Rattle.drive.proofs.Unversioned.{StateByChanges}

-- what a store takes makes a version
pub ready_of_versions : (store : StoreFields) (c : Change) → IsReadyFor store c → is_of_versions c ≡ true
ready_of_versions store (change.Create object attribute) ready = refl
ready_of_versions store (change.Delete object) ready = refl
ready_of_versions store (change.Write object offset bytes) ready = refl
ready_of_versions store (change.Truncate object n) ready = refl
ready_of_versions store (change.SetAttr object attribute) ready = refl
ready_of_versions store (change.SetWindow window) ready = absurd ready
ready_of_versions store (change.Flush first last) ready = absurd ready
ready_of_versions store (change.FlushO object first last) ready = absurd ready

-- what taking a change leaves is what its request stores
pub stored_version : (store after : StoreFields) (c : Change) (m at : ℕ) → IsReadyFor store c → m ≡ at
    → AppendsBy store c m after.log → RowChanges store (object_of c) m after.rows → after.latest ≡ m → StoresChange store c at after
stored_version store after c m at ready is blocks rows latest =
    let version : StoresVersion store c m after = record { blocks = blocks; rows = rows; latest = latest } in
    subst (λ (t : ℕ). StoresChange store c t after) is
    (subst (λ (b : Bool). MatchBool b (StoresVersion store c m after) (after ≡ store)) (sym (ready_of_versions store c ready)) version)

pub after_stored : ThePresentStays → StateByChanges → (l later : Ledger) (seat : ℕ) (store after : StoreFields) (w last : Timeline) (next now m : ℕ) (c : Change)
    → IsKeptDrive (state_of l.history) store w next
    → IsReadyFor store c → HasNext (state_of l.history).next c
    → m ≡ stamp (state_of l.history) now → later ≡ with_change l seat m c
    → IsStore after → ((o t : ℕ) → version_in after o t ≡ version_taken store c m o t) → after.latest ≡ m
    → ((o : ℕ) → is_some (row_of after.rows o) ≡ (is_some (row_of store.rows o) || o == object_of c))
    → StandsFor last (took (state_of l.history) (accepted_record (state_of l.history) c now))
    → IsSound (took (state_of l.history) (accepted_record (state_of l.history) c now))
    → IsKeptDrive (state_of later.history) after last (next_by c next)
after_stored stays by l later seat store after w last next now m c kept ready has at is is_store versions latest rows stands sound =
    let s : State = state_of l.history in
    let a : Accepted = accepted_record s c now in
    let goes_on : state_of later.history ≡ took s a =
    ap (λ (x : Ledger). state_of x.history) (is ∙ ap (λ (t : ℕ). with_change l seat t c) at) ∙ by l.history a in
    subst (λ (x : State). IsKeptDrive x after last (next_by c next)) (sym goes_on)
    (kept_taken stays s store after w last next a kept (omega arith) is_store
    (λ o t. versions o t ∙ ap (λ (x : ℕ). version_taken store c x o t) at)
    (latest ∙ at) rows (given_by stays s store w next c kept ready has) stands sound)

-- ---- lack of memory

abbrev pub IsCreation : Change → Type 0
IsCreation (change.Create object attribute) = Unit {0}
IsCreation _ = ⊥

there_by : (held : Place → Option Stored) (o t : ℕ) (row : Option Row) → row ≡ None → is_absent (version_by held (inode_by held o t row)) ≡ true
there_by held o t row none = ap (λ (r : Option Row). is_absent (version_by held (inode_by held o t r))) none

not_there : (store : StoreFields) (o : ℕ) → IsThere store o → row_of store.rows o ≡ None → ⊥
not_there store o there none = false≢true (sym there ∙ there_by store.log.held o store.latest (row_of store.rows o) none)

creates : (store : StoreFields) (c : Change) → IsReadyFor store c → row_of store.rows (object_of c) ≡ None → IsCreation c
creates store (change.Create object attribute) ready none = tt
creates store (change.Delete object) ready none = absurd (not_there store object ready none)
creates store (change.Write object offset bytes) ready none = absurd (not_there store object ready none)
creates store (change.Truncate object n) ready none = absurd (not_there store object ready none)
creates store (change.SetAttr object attribute) ready none = absurd (not_there store object ready none)
creates store (change.SetWindow window) ready none = absurd ready
creates store (change.Flush first last) ready none = absurd ready
creates store (change.FlushO object first last) ready none = absurd ready

creation_of : (c other : Change) → Some other ≡ Some c → IsCreation c → IsCreation other
creation_of c other is creation = subst IsCreation (sym (same_Some other c is)) creation

lacks_creating : (why : Option Refusal) (s : State) (request : Request) (c : Change) → change_of s request ≡ Some c → IsCreation c → why ≡ None → MayLackMemory why request
lacks_creating why s (Query question) c asked creation free = absurd (none-some c asked)
lacks_creating why s (Update update) c asked creation free = subst IsOfBlocks (sym free) tt
lacks_creating why s (Control (SetWindow window)) c asked creation free = absurd (creation_of c _ asked creation)
lacks_creating why s (Control (Flush first last)) c asked creation free = absurd (creation_of c _ asked creation)
lacks_creating why s (Control (FlushO object first last)) c asked creation free = absurd (creation_of c _ asked creation)

none_where : (b : Bool) (r : Option Refusal) → r ≡ None → cond b r None ≡ None
none_where true r is = is
none_where false r is = refl

-- a change that a store takes is wanted by nothing else
wants_none : (store : StoreFields) (s : State) (request : Request) (now : ℕ) (c : Change) → change_of s request ≡ Some c → change_refusal store c (stamp s now) ≡ None → want_of store s request now ≡ None
wants_none store s request now c asked free =
    ap (λ (x : Option Change). option_and_then (storing_refusal store (stamp s now)) x) asked ∙ none_where (is_of_versions c) (change_refusal store c (stamp s now)) free

-- Where nothing refuses a change of an object without a row, its request makes the object, and so it may lack memory.
memory_of_rows : (first : Option Refusal) (store : StoreFields) (s : State) (request : Request) (now m : ℕ) (c : Change)
    → change_of s request ≡ Some c → IsReadyFor store c → row_of store.rows (object_of c) ≡ None → first ≡ None → m ≡ stamp s now → change_refusal store c m ≡ None
    → MayLackMemory (or_then first (want_of store s request now)) request
memory_of_rows first store s request now m c asked ready none free at fits =
    lacks_creating (or_then first (want_of store s request now)) s request c asked (creates store c ready none)
    (ap (λ (r : Option Refusal). or_then r (want_of store s request now)) free ∙ wants_none store s request now c asked (subst (λ (t : ℕ). change_refusal store c t ≡ None) at fits))

-- what a store refuses of a change that its request asks for
wants_so : (store : StoreFields) (s : State) (request : Request) (now : ℕ) (c : Change) (e : Refusal) → change_of s request ≡ Some c → IsReadyFor store c → change_refusal store c (stamp s now) ≡ Some e → want_of store s request now ≡ Some e
wants_so store s request now c e asked ready is =
    ap (λ (x : Option Change). option_and_then (storing_refusal store (stamp s now)) x) asked
    ∙ ap (λ (b : Bool). cond b (change_refusal store c (stamp s now)) None) (ready_of_versions store c ready)
    ∙ is

refuses_it : (first : Option Refusal) (store : StoreFields) (s : State) (request : Request) (now m : ℕ) (c : Change) (e : Refusal)
    → change_of s request ≡ Some c → IsReadyFor store c → first ≡ None → m ≡ stamp s now
    → (e ≡ NoMemory) ⊎ (change_refusal store c m ≡ Some e) → (e ≡ NoMemory → (change_refusal store c m ≡ None) × (row_of store.rows (object_of c) ≡ None))
    → IsRefusal first store s request now e
refuses_it first store s request now m c e asked ready free at (inl is) memory =
    let lacks = memory is in
    inl (is, memory_of_rows first store s request now m c asked ready lacks.1 free at lacks.0)
refuses_it first store s request now m c e asked ready free at (inr is) memory =
    inr (ap (λ (r : Option Refusal). or_then r (want_of store s request now)) free ∙ wants_so store s request now c e asked ready (subst (λ (t : ℕ). change_refusal store c t ≡ Some e) at is))

-- a store with fewer places ahead is ready for the same changes
ready_short : (least : ℕ) (store : StoreFields) (c : Change) → IsReadyFor store c → IsReadyFor (short_of least store) c
ready_short least store (change.Create object attribute) ready = ready
ready_short least store (change.Delete object) ready = ready
ready_short least store (change.Write object offset bytes) ready = ready
ready_short least store (change.Truncate object n) ready = ready
ready_short least store (change.SetAttr object attribute) ready = ready
ready_short least store (change.SetWindow window) ready = ready
ready_short least store (change.Flush first last) ready = ready
ready_short least store (change.FlushO object first last) ready = ready

-- a change that its store doesn't take is refused before anything has changed
pub refuses_untaken : (least : ℕ) (first : Option Refusal) (d later : DriveFields) (before : SessionFields) (request : Request) (now m : ℕ) (c : Change) (e : Refusal) (store : StoreFields)
    → later.ledger ≡ d.ledger → store_of later ≡ store_of d → store ≡ store_of d
    → change_of (state_in d) request ≡ Some c → IsReadyFor (store_of d) c → first ≡ None → m ≡ stamp (state_in d) now
    → (e ≡ NoMemory) ⊎ (change_refusal (short_of least store) c m ≡ Some e) → (e ≡ NoMemory → (change_refusal (short_of least store) c m ≡ None) × (row_of store.rows (object_of c) ≡ None))
    → RefusesChange (short_of least (store_of d)) first d later before before request now e
refuses_untaken least first d later before request now m c e store ledger same held asked ready free at answer memory = record {
  why = refuses_it first (short_of least (store_of d)) (state_in d) request now m c e asked (ready_short least (store_of d) c ready) free at
      (subst (λ (x : StoreFields). (e ≡ NoMemory) ⊎ (change_refusal (short_of least x) c m ≡ Some e)) held answer)
      (subst (λ (x : StoreFields). e ≡ NoMemory → (change_refusal (short_of least x) c m ≡ None) × (row_of x.rows (object_of c) ≡ None)) held memory);
  ledger = ledger;
  store = same;
  session = refl;
}

-- a change that its store takes is accepted
pub takes_stored : (least : ℕ) (first : Option Refusal) (d later : DriveFields) (before after : SessionFields) (request : Request) (now m : ℕ) (c : Change) (given : Reply) (l : Ledger) (session : SessionFields) (store : StoreFields)
    → store ≡ store_of d → l ≡ d.ledger → session ≡ before
    → change_of (state_in d) request ≡ Some c → IsReadyFor (store_of d) c → first ≡ None → m ≡ stamp (state_in d) now → change_refusal (short_of least store) c m ≡ None
    → AppendsBy store c m (store_of later).log → RowChanges store (object_of c) m (store_of later).rows → (store_of later).latest ≡ m
    → later.ledger ≡ with_change l session.told.seat m c → given ≡ reply_at c m
    → after ≡ record session { told = credited later.ledger session.told } → FitsLedger l session.told → FitsLedger later.ledger after.told
    → TakesChange (short_of least (store_of d)) first d later before after request now given
takes_stored least first d later before after request now m c given l session store held ledger same asked ready free at fits blocks rows latest goes reply told true_before true_after = record {
  change = c;
  free = ap (λ (r : Option Refusal). or_then r (want_of (short_of least (store_of d)) (state_in d) request now)) free
      ∙ wants_none (short_of least (store_of d)) (state_in d) request now c asked (subst (λ (t : ℕ). change_refusal (short_of least (store_of d)) c t ≡ None) at (subst (λ (x : StoreFields). change_refusal (short_of least x) c m ≡ None) held fits));
  asked = asked;
  reply = reply ∙ ap (λ (t : ℕ). reply_at c t) at;
  ledger = goes ∙ ap (λ (x : Ledger). with_change x session.told.seat m c) ledger ∙ ap (λ (x : SessionFields). with_change d.ledger x.told.seat m c) same ∙ ap (λ (t : ℕ). with_change d.ledger before.told.seat t c) at;
  stored = subst (λ (x : StoreFields). StoresChange x c (stamp (state_in d) now) (store_of later)) held
      (stored_version store (store_of later) c m (stamp (state_in d) now) (subst (λ (x : StoreFields). IsReadyFor x c) (sym held) ready) at blocks rows latest);
  told = told ∙ ap (λ (x : SessionFields). record x { told = credited later.ledger x.told }) same;
  true_before = subst (λ (x : Ledger). FitsLedger x before.told) ledger (subst (λ (x : SessionFields). FitsLedger l x.told) same true_before);
  true_after = true_after;
}

-- a change that the checks refuse is refused before anything has changed
pub refuses_checked : (scarce : StoreFields) (first : Option Refusal) (d : DriveFields) (before : SessionFields) (request : Request) (now : ℕ) (e : Refusal) → first ≡ Some e → RefusesChange scarce first d d before before request now e
refuses_checked scarce first d before request now e is = record { why = inr (ap (λ (r : Option Refusal). or_then r (want_of scarce (state_in d) request now)) is); ledger = refl; store = refl; session = refl }

-- ---- no room for a row

of_tests : (a b : Bool) → IsOfBlocks (cond a (Some ChainFull) (cond b (Some NoSpace) None))
of_tests true b = tt
of_tests false true = tt
of_tests false false = tt

of_change : (store : StoreFields) (m : ℕ) (c : Change) → IsOfBlocks (change_refusal store c m)
of_change store m c = of_tests _ _

of_where : (b : Bool) (r : Option Refusal) → IsOfBlocks r → IsOfBlocks (cond b r None)
of_where true r is = is
of_where false r is = tt

of_wanted : (store : StoreFields) (m : ℕ) (asked : Option Change) → IsOfBlocks (option_and_then (storing_refusal store m) asked)
of_wanted store m None = tt
of_wanted store m (Some c) = of_where (is_of_versions c) (change_refusal store c m) (of_change store m c)

-- what a change lacks in place of memory for its row is blocks
of_want : (first : Option Refusal) (store : StoreFields) (s : State) (request : Request) (now : ℕ) → first ≡ None → IsOfBlocks (or_then first (want_of store s request now))
of_want first store s request now free =
    subst (λ (r : Option Refusal). IsOfBlocks (or_then r (want_of store s request now))) (sym free) (of_wanted store (stamp s now) (change_of s request))

-- a change that has no room for its row is refused before anything has changed
pub refuses_roomless : (scarce : StoreFields) (first : Option Refusal) (d later : DriveFields) (before : SessionFields) (update : ObjectRequest) (now : ℕ) (e : Refusal)
    → later.ledger ≡ d.ledger → store_of later ≡ store_of d → first ≡ None → e ≡ NoMemory → RefusesChange scarce first d later before before (Update update) now e
refuses_roomless scarce first d later before update now e ledger same free is = record {
  why = inl (is, of_want first scarce (state_in d) (Update update) now free);
  ledger = ledger;
  store = same;
  session = refl;
}

-- a change that makes no version lacks no blocks
none_wanted : (store : StoreFields) (m : ℕ) (c : Change) → is_of_versions c ≡ false → storing_refusal store m c ≡ None
none_wanted store m c none = ap (λ (b : Bool). cond b (change_refusal store c m) None) none

-- so is one that makes no version, where nothing refuses it
pub refuses_roomless_control : (scarce : StoreFields) (first : Option Refusal) (d later : DriveFields) (before : SessionFields) (request : Request) (now : ℕ) (e : Refusal)
    → MayLackMemory None request → or_then first (want_of scarce (state_in d) request now) ≡ None → later.ledger ≡ d.ledger → store_of later ≡ store_of d → e ≡ NoMemory
    → RefusesChange scarce first d later before before request now e
refuses_roomless_control scarce first d later before request now e may free ledger same is = record {
  why = inl (is, subst (λ (r : Option Refusal). MayLackMemory r request) (sym free) may);
  ledger = ledger;
  store = same;
  session = refl;
}

-- what makes no version lacks no blocks, however few there are
control_wants : (store : StoreFields) (s : State) (control : AdminRequest) (now : ℕ) → want_of store s (Control control) now ≡ None
control_wants store s (SetWindow window) now = refl
control_wants store s (Flush first last) now = refl
control_wants store s (FlushO object first last) now = refl

wants_alike : (store other : StoreFields) (s : State) (control : AdminRequest) (now : ℕ) → want_of store s (Control control) now ≡ want_of other s (Control control) now
wants_alike store other s control now = control_wants store s control now ∙ sym (control_wants other s control now)

-- so it comes to the same over a store with fewer places
pub control_of_any : (scarce store : StoreFields) (first : Option Refusal) (d later : DriveFields) (before after : SessionFields) (control : AdminRequest) (now : ℕ) (done : Result Reply Refusal)
    → ComesTo store first d later before after (Control control) now done → ComesTo scarce first d later before after (Control control) now done
control_of_any scarce store first d later before after control now (Ok reply) takes = record {
  change = takes.change;
  free = subst (λ (w : Option Refusal). or_then first w ≡ None) (wants_alike store scarce (state_in d) control now) takes.free;
  asked = takes.asked;
  reply = takes.reply;
  ledger = takes.ledger;
  stored = takes.stored;
  told = takes.told;
  true_before = takes.true_before;
  true_after = takes.true_after;
}
control_of_any scarce store first d later before after control now (Err e) refuses = record {
  why = subst (λ (w : Option Refusal). ((e ≡ NoMemory) × MayLackMemory (or_then first w) (Control control)) ⊎ (or_then first w ≡ Some e)) (wants_alike store scarce (state_in d) control now) refuses.why;
  ledger = refuses.ledger;
  store = refuses.store;
  session = refuses.session;
}
