-- What an accepted request is answered, and what a request leaves.
use Rattle.std.specs.Prelude.{◌≡◌, ◌⊎◌, ◌↔◌, ◌<◌, ◌-◌, ℕ, min, Bool, true, false, if◌then◌else◌, List, [], ◌∷◌, ◌++◌, Option, None, Some, Result, Ok, Err, MatchResult, MatchBool}
use Rattle.std.specs.List.{list_any}
use Rattle.s4_types.specs.declared.changes.Change.{Change}
use Rattle.s4_types.specs.declared.refusals.Refusal.{Refusal}
use Rattle.s4_types.specs.declared.requests.Request.{Request}
use Rattle.s4_types.specs.declared.replies.Reply.{Reply}
use Rattle.s4_types.specs.declared.replies.Reply.TheVariants.{Changed, Created, Data, Refused}
use Rattle.s4_types.specs.declared.refusals.Refusal.TheVariants.{NoObject}
use Rattle.s4_types.specs.declared.versions.Version.TheVariants.{Live}
use Rattle.s4_model.specs.State.{State}
use Rattle.s4_model.specs.VersionAt.{version_of}
use Rattle.s4_model.specs.Refusals.{moment_refusal, is_absent, asked}
use Rattle.s4_types.specs.Sizes.{ReplyFits}
use Rattle.s4_model.specs.Step.{Step, judged, change_of, stamp, reply_to_change, reply_to_read}
use Rattle.segment_word.specs.AcceptViews.{Ledger, Told, with_change, with_moment, caught_up, credited}
use Rattle.codec.specs.declared.inodes.Inode.{Inode}
use Rattle.inode.specs.Contents.{contents_of, bytes_of}
use Rattle.version_store.specs.Store.{StoreFields}
use Rattle.s4_model.specs.Effect.{is_of_versions, object_of}
use Rattle.version_store.specs.Taking.{AppendsBy, RowChanges}
use Rattle.segment_word.specs.AcceptRule.{FitsLedger}
use Rattle.segment_word.specs.Counting.{pins_in}
use Rattle.segment_word.specs.Handles.{Held}
use Rattle.atomic_table.specs.Seated.{TableId}
use Rattle.time_read.specs.Plans.{PlanFields, IsAt, bytes_planned, pieces_of, pins_held, is_pinned, is_pinned_in}
use Rattle.version_store.specs.Versions.{inode_in}
use Rattle.drive.specs.Fields.{DriveFields, SessionFields, history_of, store_of, state_in}
use Rattle.drive.specs.Refusing.{or_then, want_of, refusal_of, RefusesBy, IsRefusal}

-- a reply to an accepted change
abbrev pub is_acceptance : Reply → Bool
is_acceptance (Changed moment) = true
is_acceptance (Created object moment) = true
is_acceptance _ = false

-- What a session was told after a reply: it has seen all accepted changes, and an accepted one is its own.
abbrev pub told_after : Reply → Ledger → Told → Told
told_after reply l t = if is_acceptance reply then credited l t else caught_up l t

-- for which seat each change was accepted, after a reply to a session of this seat
abbrev pub owners_after : Reply → ℕ → List ℕ → List ℕ
owners_after reply seat owners = if is_acceptance reply then owners ++ seat ∷ [] else owners

-- What a change that makes a version leaves of a store. It appends its data blocks by ascending index, and then those of its
-- object's journal. The object's row has another journal, and its stamp is one more; a created one has the row of its creation.
-- All other rows are as they were, and nothing is later than the change.
pub record StoresVersion (store : StoreFields) (change : Change) (m : ℕ) (after : StoreFields) : Type 0 where
  pub blocks : AppendsBy store change m after.log
  pub rows : RowChanges store (object_of change) m after.rows
  pub latest : after.latest ≡ m

-- What a change at a moment leaves of a store: where it makes no version, all.
abbrev pub StoresChange : StoreFields → Change → ℕ → StoreFields → Type 0
StoresChange store change m after = MatchBool (is_of_versions change) (StoresVersion store change m after) (after ≡ store)

-- what a request leaves of a store: all, but where a change was accepted
abbrev pub Leaves : StoreFields → State → Request → ℕ → Reply → StoreFields → Type 0
Leaves store s request now reply after = MatchBool (is_acceptance reply)
    ((change : Change) → change_of s request ≡ Some change → StoresChange store change (stamp s now) after)
    (after ≡ store)

-- A change was accepted for a session, where the checks refuse so, and lack of blocks is judged by this store, which may be one
-- with fewer places ahead: neither refused it, the history has it, its blocks and its row are stored, and the session was told.
pub record TakesChange (scarce : StoreFields) (first : Option Refusal) (d later : DriveFields) (before after : SessionFields) (request : Request) (now : ℕ) (given : Reply) : Type 0 where
  pub change : Change
  pub free : or_then first (want_of scarce (state_in d) request now) ≡ None
  pub asked : change_of (state_in d) request ≡ Some change
  pub reply : given ≡ reply_to_change (state_in d) change now
  pub ledger : later.ledger ≡ with_change d.ledger before.told.seat (stamp (state_in d) now) change
  pub stored : StoresChange (store_of d) change (stamp (state_in d) now) (store_of later)
  pub told : after ≡ record before { told = credited later.ledger before.told }
  pub true_before : FitsLedger d.ledger before.told
  pub true_after : FitsLedger later.ledger after.told

-- a change was refused: nothing has changed yet
pub record RefusesChange (scarce : StoreFields) (first : Option Refusal) (d later : DriveFields) (before after : SessionFields) (request : Request) (now : ℕ) (given : Refusal) : Type 0 where
  pub why : IsRefusal first scarce (state_in d) request now given
  pub ledger : later.ledger ≡ d.ledger
  pub store : store_of later ≡ store_of d
  pub session : after ≡ before

-- what a request for a change came to
abbrev pub ComesTo : StoreFields → Option Refusal → DriveFields → DriveFields → SessionFields → SessionFields → Request → ℕ → Result Reply Refusal → Type 0
ComesTo scarce first d later before after request now result =
    MatchResult result (TakesChange scarce first d later before after request now) (RefusesChange scarce first d later before after request now)

-- a moment was seen, and the session has seen all accepted changes
abbrev pub Sees : DriveFields → DriveFields → SessionFields → SessionFields → ℕ → Type 0
Sees d later before after now =
    (later.ledger ≡ with_moment d.ledger now) × (store_of later ≡ store_of d) × (after ≡ record before { told = caught_up later.ledger before.told }) × FitsLedger d.ledger before.told × FitsLedger later.ledger after.told

-- what a request for a change came to is answered: where it was refused, its moment was seen
abbrev pub IsSettled : DriveFields → DriveFields → SessionFields → SessionFields → ℕ → Result Reply Refusal → Reply → Type 0
IsSettled d later before after now done given =
    MatchResult done
    (λ reply. (given ≡ reply) × (later ≡ d) × (after ≡ before))
    (λ e. (given ≡ Refused e) × Sees d later before after now)

-- All that a request came to, where lack of blocks is judged by this store.
pub record IsServed (scarce : StoreFields) (d later : DriveFields) (before after : SessionFields) (request : Request) (now : ℕ) (given : Reply) : Type 0 where
  pub step : Step (history_of d) before.role request now given (history_of later)
  pub refused : RefusesBy (refusal_of scarce (judged (history_of d) request now) before.role request now) later request given
  pub stored : Leaves (store_of d) (state_in d) request now given (store_of later)
  pub fits : ReplyFits given
  pub session : after ≡ record before { told = told_after given later.ledger before.told }
  pub owners : later.ledger.owners ≡ owners_after given before.told.seat d.ledger.owners
  pub fits_before : FitsLedger d.ledger before.told
  pub fits_after : FitsLedger later.ledger after.told

-- the size that an inode tells of its object, in bytes: none where there is no inode, or a dead one
abbrev pub size_by : Option Inode → Option ℕ
size_by None = None
size_by (Some i) = if i.alive then Some i.size else None

-- why a moment of an object isn't read, if it isn't: it can't be, or else the object is absent then
abbrev pub telling_refusal : State → ℕ → ℕ → Option Refusal
telling_refusal s o t = or_then (moment_refusal s o t) (if is_absent (version_of s o t) then Some NoObject else None)

-- An inode means the version that the history tells of an object at a moment: a live one, of the bytes that the inode's blocks
-- hold, and of its attribute and moments.
abbrev pub MeansVersion : DriveFields → ℕ → ℕ → Inode → Type 0
MeansVersion d object t i = version_of (state_in d) object t ≡ Live (bytes_of (contents_of (store_of d).log.held) i) i.attribute i.created i.changed

-- An object has a live inode at a moment that means the version that the history tells, and this holds of the inode.
pub record HasVersion (d : DriveFields) (object t : ℕ) (Holds : Inode → Type 0) : Type 0 where
  pub inode : Inode
  pub there : inode_in (store_of d) object t ≡ Some inode
  pub version : MeansVersion d object t inode
  pub holds : Holds inode

-- Nothing is told of an object at a moment: it is refused first; or nothing refuses it first, and by the inode it is refused.
abbrev pub IsUntold : DriveFields → ℕ → ℕ → (Inode → Type 0) → Refusal → Type 0
IsUntold d object t Refuses e = (telling_refusal (state_in d) object t ≡ Some e) ⊎ ((telling_refusal (state_in d) object t ≡ None) × HasVersion d object t Refuses)

-- a read is answered so: nothing refuses it first, and this is the model's reply
abbrev pub IsAnswered : Option Refusal → State → Request → Reply → Type 0
IsAnswered first s request reply = (first ≡ None) × (reply_to_read s request ≡ Some reply)

-- the reply that a plan of a read represents: the bytes that it names, or its refusal
abbrev pub reply_planned : Result PlanFields Refusal → Reply
reply_planned (Ok plan) = Data (bytes_planned plan)
reply_planned (Err refusal) = Refused refusal

-- A plan has a piece for each block that a read asks for, of the inode that its object has at the moment asked for: sealed
-- blocks are pinned, in the drive's own table, and no other frame is. One without pinned pieces has no seat.
pub record IsPlanOf (d : DriveFields) (object offset len : ℕ) (at : Option ℕ) (plan : PlanFields) : Type 0 where
  pub inode : Inode
  pub there : inode_in (store_of d) object (asked (state_in d) at) ≡ Some inode
  pub pieces : plan.pieces ≡ pieces_of d.store.table inode offset (min len (inode.size - offset))
  pub pins : (f : ℕ) → (0 < pins_in f (pins_held plan.pin)) ↔ (list_any (is_pinned_in f) plan.pieces ≡ true)
  pub seat : list_any is_pinned plan.pieces ≡ false → plan.pin ≡ None
  pub here : IsAt d.store.table plan.pin

-- a plan's pin, where it has one, is of this table of frames
abbrev pub IsPinOf : TableId → Option Held → Type 0
IsPinOf frames pin = (held : Held) → pin ≡ Some held → held.table ≡ frames
