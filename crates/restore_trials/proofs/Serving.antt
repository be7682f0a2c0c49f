-- What is restored where nothing is listed as lacking.
use Rattle.std.proofs.Common.{◌≡◌, ℕ, Bool, true, List, [], ◌∷◌, ◌++◌, Result, Ok, Err, IfOk, IsPermutation, OnOk, inl, inr, append_assoc, sym, refl, subst}
use Rattle.std.proofs.lemmas.List.Sorted.{IsPermutation-append_comm, IsPermutation-append_left, IsPermutation-append_right, IsPermutation-refl, IsPermutation-trans}
use Rattle.drive.specs.Fields.{DriveFields}
use Rattle.history_restore.specs.declared.planning.ObjectPlan.{ObjectPlan}
use Rattle.restore_search.specs.declared.surveys.Lacking.{Lacking}
use Rattle.restore_orders.specs.declared.dating.Moments.{Moments}
use Rattle.restore_trials.specs.Trying.{AreRestoredOver, IsRestoredOver, PassesFine, RestoresAll, TriesFine}

-- a list that something was added to has something
pub some_pushed : {X : Type 0} (xs ys : List X) (x : X) → ys ≡ xs ++ x ∷ [] → ys ≡ [] → ⊥
some_pushed [] ys x pushed none = cc
some_pushed (y ∷ xs) ys x pushed none = cc

-- so nothing need be known where it has none
pub never_fine : {E : Type 0} (result : Result Bool E) (old new : List Lacking) (one : Lacking) (P : Bool → Type 0) → OnOk result (new ≡ old ++ one ∷ []) → IfOk result (λ (b : Bool). new ≡ [] → P b)
never_fine (Ok b) old new one P pushed = λ none. absurd (some_pushed old new one pushed none)
never_fine (Err e) old new one P pushed = tt

-- one more was restored
pub restored_more : (d middle later : DriveFields) (moments : Moments) (plans : List ObjectPlan) (p : ObjectPlan) → AreRestoredOver d moments plans middle → IsRestoredOver middle moments p.aim later → AreRestoredOver d moments (plans ++ p ∷ []) later
restored_more d middle later moments [] p before here = (later, subst (λ (e : DriveFields). IsRestoredOver e moments p.aim later) before here, refl)
restored_more d middle later moments (q ∷ plans) p before here = (before.0, before.1, restored_more before.0 middle later moments plans p before.2 here)

-- and others after them
restored_then : (d middle later : DriveFields) (moments : Moments) (plans others : List ObjectPlan) → AreRestoredOver d moments plans middle → AreRestoredOver middle moments others later → AreRestoredOver d moments (plans ++ others) later
restored_then d middle later moments [] others before after = subst (λ (e : DriveFields). AreRestoredOver e moments others later) before after
restored_then d middle later moments (q ∷ plans) others before after = (before.0, before.1, restored_then before.0 middle later moments plans others before.2 after)

-- ---- what is put off

-- one more is put off
put_off_more : {X : Type 0} (plans done off : List X) (p : X) → IsPermutation plans (done ++ off) → IsPermutation (plans ++ p ∷ []) (done ++ (off ++ p ∷ []))
put_off_more plans done off p same = subst (IsPermutation (plans ++ p ∷ [])) (append_assoc done off (p ∷ [])) (IsPermutation-append_left (p ∷ []) plans (done ++ off) same)

-- one more is done
done_more : {X : Type 0} (plans done off : List X) (p : X) → IsPermutation plans (done ++ off) → IsPermutation (plans ++ p ∷ []) ((done ++ p ∷ []) ++ off)
done_more plans done off p same =
    subst (IsPermutation (plans ++ p ∷ [])) (sym (append_assoc done (p ∷ []) off))
    (IsPermutation-trans (plans ++ p ∷ []) (done ++ (off ++ p ∷ [])) (done ++ ((p ∷ []) ++ off)) (put_off_more plans done off p same) (IsPermutation-append_right done (off ++ p ∷ []) ((p ∷ []) ++ off) (IsPermutation-append_comm off (p ∷ []))))

-- Nothing is listed so far: of these, some were restored, each once and nothing else, and the others were put off.
pub record AreDone (d : DriveFields) (moments : Moments) (old : List Lacking) (wasted : ℕ) (put_off plans : List ObjectPlan) (later : DriveFields) : Type 0 where
  pub before : old ≡ []
  pub wasted_none : wasted ≡ 0
  pub restored : List ObjectPlan
  pub chain : AreRestoredOver d moments restored later
  pub all : IsPermutation plans (restored ++ put_off)

pub done_none : (d : DriveFields) (moments : Moments) (old : List Lacking) (put_off : List ObjectPlan) → put_off ≡ [] → old ≡ [] → AreDone d moments old 0 put_off [] d
done_none d moments old put_off empty none = record {
  before = none;
  wasted_none = refl;
  restored = [];
  chain = refl;
  all = subst (IsPermutation []) (sym empty) (IsPermutation-refl []);
}

-- one more was passed
pub done_on : (d middle later : DriveFields) (moments : Moments) (old lacking lacking' : List Lacking) (put_off put_off' : List ObjectPlan) (wasted wasted' : ℕ) (plans : List ObjectPlan) (p : ObjectPlan) → (lacking ≡ [] → AreDone d moments old wasted put_off plans middle)
    → (lacking' ≡ [] → PassesFine middle moments p lacking put_off put_off' wasted wasted' later) → lacking' ≡ [] → AreDone d moments old wasted' put_off' (plans ++ p ∷ []) later
done_on d middle later moments old lacking lacking' put_off put_off' wasted wasted' plans p before fine none =
    let passes = fine none in
    let so = before passes.before in
    elim (passes.passed so.wasted_none) [
      | inl put ↦ record {
        before = so.before;
        wasted_none = passes.wasted_none so.wasted_none;
        restored = so.restored;
        chain = subst (AreRestoredOver d moments so.restored) (sym put.1) so.chain;
        all = subst (λ (off : List ObjectPlan). IsPermutation (plans ++ p ∷ []) (so.restored ++ off)) (sym put.0) (put_off_more plans so.restored put_off p so.all);
      }
      | inr over ↦ record {
        before = so.before;
        wasted_none = passes.wasted_none so.wasted_none;
        restored = so.restored ++ p ∷ [];
        chain = restored_more d middle later moments so.restored p so.chain over.1;
        all = subst (λ (off : List ObjectPlan). IsPermutation (plans ++ p ∷ []) ((so.restored ++ p ∷ []) ++ off)) (sym over.0) (done_more plans so.restored put_off p so.all);
      }
    ]

-- one more of what was put off was tried
pub deferred_on : (d middle later : DriveFields) (moments : Moments) (old lacking lacking' : List Lacking) (plans : List ObjectPlan) (p : ObjectPlan) (is_restored : Bool) → (lacking ≡ [] → (old ≡ []) × AreRestoredOver d moments plans middle)
    → (lacking' ≡ [] → TriesFine middle moments p.aim lacking true is_restored later) → lacking' ≡ [] → (old ≡ []) × AreRestoredOver d moments (plans ++ p ∷ []) later
deferred_on d middle later moments old lacking lacking' plans p is_restored before fine none =
    let tries = fine none in
    let so = before tries.before in
    (so.0, restored_more d middle later moments plans p so.1 (tries.restored refl).1)

-- all were restored, once what was put off was
pub all_restored : (d middle later : DriveFields) (moments : Moments) (old : List Lacking) (wasted : ℕ) (put_off plans : List ObjectPlan) → AreDone d moments old wasted put_off plans middle → AreRestoredOver middle moments put_off later → RestoresAll d moments plans later
all_restored d middle later moments old wasted put_off plans done rest = record {
  ordered = done.restored ++ put_off;
  same = done.all;
  restored = restored_then d middle later moments done.restored put_off done.chain rest;
}
