-- What a session is answered that shares its drive with others.
use Rattle.std.specs.Prelude.{◌≡◌, ◌⊎◌, ℕ, ◌≤◌, ◌-◌, ◌^◌, min, List, [], ◌∷◌, ◌++◌, length, Result, Ok, Err}
use Rattle.s4_types.specs.History.{Base, accepted}
use Rattle.s4_types.specs.declared.requests.Role.{Role}
use Rattle.s4_types.specs.declared.requests.Request.{Request}
use Rattle.s4_types.specs.declared.replies.Reply.{Reply}
use Rattle.s4_types.specs.declared.replies.Reply.TheVariants.{Data, Refused}
use Rattle.s4_types.specs.declared.refusals.Refusal.{Refusal}
use Rattle.s4_types.specs.declared.refusals.Refusal.TheVariants.{NoMemory}
use Rattle.s4_model.specs.Sound.{IsSound}
use Rattle.s4_model.specs.State.{state_of}
use Rattle.s4_model.specs.Step.{Step}
use Rattle.segment_word.specs.AcceptViews.{Ledger, caught_up}
use Rattle.segment_word.specs.AcceptRule.{FitsLedger}
use Rattle.segment_table.specs.Rules.{HasFramesInOrder}
use Rattle.version_store.specs.Store.{IsStore}
use Rattle.time_read.specs.Plans.{PlanFields, bytes_planned}
use Rattle.drive.specs.Fields.{DriveFields, SessionFields, history_of, state_in, store_of}
use Rattle.drive.specs.Keeping.{DecodesWhereVisible}
use Rattle.drive.specs.Opened.{NoneFrom}
use Rattle.drive.specs.Refusing.{RefusesLeaving, LacksMemoryInPlace}
use Rattle.drive.specs.Answering.{Leaves, told_after, owners_after}
use Rattle.server.specs.Reserve.{least_of}

-- A drive as others may have left it under the lock: its history has this base, and what always holds of a drive holds of it. So its
-- blocks decode to the versions of its history at each moment that can be read, and its frames are in order.
pub record IsSharedDrive (base : Base) (drive : DriveFields) : Type 0 where
  pub begins : (history_of drive).base ≡ base
  pub decodes : DecodesWhereVisible (store_of drive) (state_in drive)
  pub frames : HasFramesInOrder drive.store.table.seat.table drive.store.table
  pub sound : IsSound (state_in drive)
  pub store : IsStore (store_of drive)
  pub past : (store_of drive).latest ≤ (state_in drive).clock
  pub unborn : NoneFrom (state_in drive).next (store_of drive)

-- A request is answered as a drive of this base answers it, whose history begins with all that the session had seen: by a step of the
-- model, with a refusal exactly where there is one over that drive, which keeps back what the request of this role leaves of a
-- reserve, and with what the request stores there. Afterwards the session has seen all that was accepted then, and an accepted change is its own.
pub record SharedStep (base : Base) (reserve : ℕ) (old : SessionFields) (request : Request) (now : ℕ) (reply : Reply) (new : SessionFields) : Type 0 where
  pub before : DriveFields
  pub after : DriveFields
  pub there : IsSharedDrive base before
  pub had_seen : FitsLedger before.ledger old.told
  pub step : Step (history_of before) old.role request now reply (history_of after)
  pub refused : RefusesLeaving (least_of reserve (state_in before) old.role request) before old.role request now reply after
  pub memory : LacksMemoryInPlace before old.role request now reply
  pub stored : Leaves (store_of before) (state_in before) request now reply (store_of after)
  pub owners : after.ledger.owners ≡ owners_after reply old.told.seat before.ledger.owners
  pub told : new ≡ record old { told = told_after reply after.ledger old.told }
  pub has_seen : FitsLedger after.ledger new.told

-- So a request is answered to a session that was answered `own` requests before, at a moment of the clock that all sessions share: the drive's
-- lock is held while that is drawn. It is the last of moments that the run may draw, and comes after those of at least as many requests; how
-- many more there are rests on the others. The drive's clock has come to this one then.
pub record SharedAnswer (base : Base) (reserve : ℕ) (moments : List ℕ → Type 0) (own : ℕ) (old : SessionFields) (request : Request) (reply : Reply) (new : SessionFields) (clock : ℕ) : Type 0 where
  pub before : List ℕ
  pub now : ℕ
  pub drawn : moments (before ++ now ∷ [])
  pub late : own ≤ length before
  pub step : SharedStep base reserve old request now reply new
  pub came_to : clock ≡ (state_in step.after).clock

-- how many accepted changes a session has seen, by a count that stops at the last number
abbrev pub number_seen : SessionFields → ℕ
number_seen session = min (length session.told.seen) (2 ^ 64 - 1)

-- The session met the drive: it has seen all that was accepted in some history with this base, which begins with all that it
-- had seen, and nothing else about it has changed. That history's clock is here.
pub record HasMet (base : Base) (old new : SessionFields) (clock : ℕ) : Type 0 where
  pub ledger : Ledger
  pub begins : ledger.history.base ≡ base
  pub had_seen : FitsLedger ledger old.told
  pub told : new ≡ record old { told = caught_up ledger old.told }
  pub has_seen : FitsLedger ledger new.told
  pub came_to : clock ≡ (state_of ledger.history).clock

-- A session of a role that was just had: it has seen all that was accepted in some history with this base, and nothing is its own.
pub record IsFresh (base : Base) (role : Role) (session : SessionFields) : Type 0 where
  pub ledger : Ledger
  pub begins : ledger.history.base ≡ base
  pub seen : session.told.seen ≡ accepted ledger.history
  pub mine : session.told.mine ≡ []
  pub role_is : session.role ≡ role

-- what a read that was planned so is answered: the bytes that the plan names, or lack of memory; or why there is no plan
abbrev pub IsFetched : Result PlanFields Refusal → Reply → Type 0
IsFetched (Ok plan) reply = (reply ≡ Data (bytes_planned plan)) ⊎ (reply ≡ Refused NoMemory)
IsFetched (Err refusal) reply = reply ≡ Refused refusal
