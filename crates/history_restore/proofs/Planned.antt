-- Changes that are stored one after the other, and where one of them takes too much.
use Rattle.std.proofs.Common.{◌≡◌, ◌∙◌, ℕ, Result, Ok, Err, List, [], ◌∷◌, ◌++◌, length, Some, OnOk, IfErr, inl, inr, refl, sym, ap, subst}
use Rattle.std.proofs.lemmas.Bool.{true≢false}
use Rattle.std.proofs.lemmas.List.{length-append}
use Rattle.std.proofs.lemmas.Result.{IfErr-weaker, on_ok_weaker}
use Rattle.s4_types.specs.declared.changes.Change.{Change}
use Rattle.s4_types.specs.declared.refusals.Refusal.{Refusal}
use Rattle.s4_types.specs.declared.refusals.Refusal.TheVariants.{NoMemory}
use Rattle.s4_types.specs.declared.requests.Request.{Request}
use Rattle.s4_model.specs.State.{State}
use Rattle.s4_model.specs.Step.{change_of}
use Rattle.version_store.specs.Store.{StoreFields}
use Rattle.drive.specs.Fields.{DriveFields, state_in, store_of}
use Rattle.history_restore.specs.Asking.{AreStored, AsksFor, IsForAsked, IsMovedBy, OneTakesTooMuch, StoresAsked, clock_by}
use Rattle.history_restore.specs.Keeping.{IsDatedFrom}
use Rattle.history_restore.proofs.Moving.{clock_by_more}

-- ---- one after the other

pub stored_on : (cs ds : List Change) (store middle after : StoreFields) → AreStored store cs middle → AreStored middle ds after → AreStored store (cs ++ ds) after
stored_on [] ds store middle after first second = subst (λ (k : StoreFields). AreStored k ds after) first second
stored_on (c ∷ cs) ds store middle after first second = (first.0, first.1, stored_on cs ds first.0 middle after first.2 second)

pub lacks_after : (e : Refusal) (cs ds : List Change) (store middle : StoreFields) → AreStored store cs middle → OneTakesTooMuch e middle ds → OneTakesTooMuch e store (cs ++ ds)
lacks_after e [] ds store middle first lacks = subst (λ (k : StoreFields). OneTakesTooMuch e k ds) first lacks
lacks_after e (c ∷ cs) ds store middle first lacks = inr (first.0, first.1, lacks_after e cs ds first.0 middle first.2 lacks)

pub lacks_in_front : (e : Refusal) (cs ds : List Change) (store : StoreFields) → OneTakesTooMuch e store cs → OneTakesTooMuch e store (cs ++ ds)
lacks_in_front e [] ds store lacks = absurd lacks
lacks_in_front e (c ∷ cs) ds store (inl here) = inl here
lacks_in_front e (c ∷ cs) ds store (inr there) = inr (there.0, there.1, lacks_in_front e cs ds there.0 there.2)

-- where the clock is by all of them, at one moment
moved_after : (cs ds : List Change) (s middle later : State) (now : ℕ) → IsMovedBy s now (length cs) middle → IsMovedBy middle now (length ds) later → IsMovedBy s now (length (cs ++ ds)) later
moved_after cs ds s middle later now first second =
    second ∙ ap (λ c. clock_by c now (length ds)) first ∙ clock_by_more (length cs) (length ds) s.clock now ∙ ap (clock_by s.clock now) (sym (length-append cs ds))

-- ---- what asking for changes comes to

-- for the change that a request asks for
pub asked_one : {T : Type 0} (r : Result T Refusal) (d d' : DriveFields) (now : ℕ) (request : Request) (c : Change) → change_of (state_in d) request ≡ Some c → OnOk r (StoresAsked (store_of d) (state_in d) request (store_of d'))
    → IfErr r (IsForAsked (store_of d) (state_in d) request) → OnOk r (IsMovedBy (state_in d) now 1 (state_in d')) → IsDatedFrom now (state_in d) (state_in d') → AsksFor d now (c ∷ []) r d'
asked_one r d d' now request c is stored lacks moved dated = record {
  stored = on_ok_weaker r (λ (asked : StoresAsked (store_of d) (state_in d) request (store_of d')). (store_of d', asked c is, refl)) stored;
  lacks = IfErr-weaker r _ _ (λ e asked refused. inl (asked refused c is)) lacks;
  moved = moved;
  dated = dated;
}

-- for none, and where memory was refused before anything was asked for
pub asked_none : {T : Type 0} (x : T) (d : DriveFields) (now : ℕ) → AsksFor d now [] (Ok x) d
asked_none x d now = record { stored = refl; lacks = tt; moved = refl; dated = λ o t before. refl }

pub asked_nothing : {T : Type 0} (d : DriveFields) (now : ℕ) (cs : List Change) → AsksFor {T = T} d now cs (Err NoMemory) d
asked_nothing d now cs = record { stored = tt; lacks = λ of. absurd (true≢false (sym of)); moved = tt; dated = λ o t before. refl }

-- whatever is answered where they were granted
pub asked_ok : {T U : Type 0} (d d' : DriveFields) (now : ℕ) (cs : List Change) (x : T) (y : U) → AsksFor d now cs (Ok x) d' → AsksFor d now cs (Ok y) d'
asked_ok d d' now cs x y asked = record { stored = asked.stored; lacks = tt; moved = asked.moved; dated = asked.dated }

pub asked_err : {T U : Type 0} (d d' : DriveFields) (now : ℕ) (cs : List Change) (e : Refusal) → AsksFor {T = T} d now cs (Err e) d' → AsksFor {T = U} d now cs (Err e) d'
asked_err d d' now cs e asked = record { stored = tt; lacks = asked.lacks; moved = tt; dated = asked.dated }

-- for those of which one of the first was refused, or all of the first were granted
pub asked_front : {T U : Type 0} (cs ds : List Change) (d d' : DriveFields) (now : ℕ) (e : Refusal) → AsksFor {T = T} d now cs (Err e) d' → AsksFor {T = U} d now (cs ++ ds) (Err e) d'
asked_front cs ds d d' now e first = record {
  stored = tt;
  lacks = λ of. lacks_in_front e cs ds (store_of d) (first.lacks of);
  moved = tt;
  dated = first.dated;
}

pub asked_then : {T U : Type 0} (r : Result U Refusal) (cs ds : List Change) (d middle d' : DriveFields) (now : ℕ) (x : T) → AsksFor d now cs (Ok x) middle → AsksFor middle now ds r d' → AsksFor d now (cs ++ ds) r d'
asked_then r cs ds d middle d' now x first second = record {
  stored = on_ok_weaker r (stored_on cs ds (store_of d) (store_of middle) (store_of d') first.stored) second.stored;
  lacks = IfErr-weaker r _ _ (λ e last of. lacks_after e cs ds (store_of d) (store_of middle) first.stored (last of)) second.lacks;
  moved = on_ok_weaker r (moved_after cs ds (state_in d) (state_in middle) (state_in d') now first.moved) second.moved;
  dated = λ o t before. second.dated o t before ∙ first.dated o t before;
}
