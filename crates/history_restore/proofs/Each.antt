-- Objects that are restored one by one.
use Rattle.std.proofs.Common.{◌≡◌, ◌≢◌, ◌⊎◌, ◌∙◌, ◌+◌, ◌++◌, ◌<◌, ◌≤◌, ℕ, zero, suc, List, [], ◌∷◌, length, take, get_or, map, inl, inr, refl, sym, ap, subst, arith}
use Rattle.std.specs.List.{AllByRecursion}
use Rattle.std.proofs.lemmas.List.{map_push, take_more}
use Rattle.std.proofs.SliceLists.{all_by_recursion_push}
use Rattle.s4_types.specs.declared.versions.Version.{Version}
use Rattle.s4_types.specs.declared.versions.Version.TheVariants.{Absent, Live}
use Rattle.lemmas.proofs.List.{all_weaker}
use Rattle.s4_model.specs.State.{State}
use Rattle.s4_model.specs.VersionAt.{version_of}
use Rattle.s4_model.specs.Visible.{IsVisible}
use Rattle.s4_model.specs.Refusals.{present}
use Rattle.version_store.specs.Store.{StoreFields}
use Rattle.history_restore.specs.declared.aims.Aim.{Aim}
use Rattle.history_restore.specs.declared.plans.Plan.{Plan}
use Rattle.history_restore.specs.declared.plans.Plan.TheVariants.{Keep, Delete, Remake, Change}
use Rattle.history_restore.specs.declared.failures.Failure.{Failure}
use Rattle.history_restore.specs.declared.restoring.Restored.{Restored}
use Rattle.history_restore.specs.Content.{content_of}
use Rattle.history_restore.specs.Plans.{IsPlan, number_by, next_by_plan}
use Rattle.history_restore.specs.Keeping.{LeavesPast, LeavesOthers}
use Rattle.history_restore.specs.Restoring.{Restores, IsStopped, number_after, number_from}
use Rattle.history_restore.specs.Aims.{targets_of}
use Rattle.history_restore.specs.Rows.{AscendBelow}
use Rattle.history_restore.specs.Whole.{IsRestored, AreNumbered, LeavesRest, RestoresEach, RestoresInTurn, RestoresOver, StopsAll, AtObject}
use Rattle.history_restore.proofs.Chained.{past_same, past_on}
use Rattle.history_restore.proofs.Back.{number_planned}

-- ---- lists

-- what holds of all holds of all of a front
all_front : {X : Type 0} (P : X → Type 0) (xs : List X) (n : ℕ) → AllByRecursion P xs → AllByRecursion P (take n xs)
all_front P [] zero all = tt
all_front P [] (suc n) all = tt
all_front P (x ∷ xs) zero all = tt
all_front P (x ∷ xs) (suc n) all = (all.0, all_front P xs n all.1)

-- the last of a list that is one longer
all_last : {X : Type 0} (P : X → Type 0) (xs : List X) (x : X) → AllByRecursion P (xs ++ x ∷ []) → AllByRecursion P xs × P x
all_last P [] x all = (tt, all.0)
all_last P (y ∷ xs) x all = let rest = all_last P xs x all.1 in ((all.0, rest.0), rest.1)

-- two facts of all
all_both : {X : Type 0} (P Q : X → Type 0) (xs : List X) → AllByRecursion P xs → AllByRecursion Q xs → AllByRecursion (λ x. P x × Q x) xs
all_both P Q [] p q = tt
all_both P Q (x ∷ xs) p q = ((p.0, q.0), all_both P Q xs p.1 q.1)

-- what holds of all images
all_map : {X Y : Type 0} (P : Y → Type 0) (f : X → Y) (xs : List X) → AllByRecursion P (map f xs) → AllByRecursion (λ x. P (f x)) xs
all_map P f [] all = tt
all_map P f (x ∷ xs) all = (all.0, all_map P f xs all.1)

-- ---- numbers that ascend

-- each is above the lower bound and below the higher one
ascending_at : (low high : ℕ) (aims : List Aim) (i : ℕ) (d : Aim) → AscendBelow low high (targets_of aims) → i < length aims → (low < (get_or aims i d).target) × ((get_or aims i d).target < high)
ascending_at low high [] i d ascend lt = absurd (omega arith)
ascending_at low high (a ∷ aims) zero d ascend lt = (ascend.0, ascend.1)
ascending_at low high (a ∷ aims) (suc i) d ascend lt =
    let first : low < a.target = ascend.0 in
    let rest = ascending_at a.target high aims i d ascend.2 (omega arith) in
    (omega (arith, rest.0), rest.1)

-- and differs from those in front of it
ascending_apart : (low high : ℕ) (aims : List Aim) (i : ℕ) (d : Aim) → AscendBelow low high (targets_of aims) → i < length aims → AllByRecursion (λ (a : Aim). (get_or aims i d).target ≢ a.target) (take i aims)
ascending_apart low high [] i d ascend lt = absurd (omega arith)
ascending_apart low high (a ∷ aims) zero d ascend lt = tt
ascending_apart low high (a ∷ aims) (suc i) d ascend lt =
    let rest = ascending_at a.target high aims i d ascend.2 (omega arith) in
    ((λ same. absurd (omega (arith, rest.0, same))), ascending_apart a.target high aims i d ascend.2 (omega arith))

-- ---- numbers that are given

-- the next number after all
abbrev pub next_after : ℕ → List Restored → ℕ
next_after next [] = next
next_after next (r ∷ all) = next_after (next_by_plan r.plan next) all

next_push : (next : ℕ) (all : List Restored) (r : Restored) → next_after next (all ++ r ∷ []) ≡ next_by_plan r.plan (next_after next all)
next_push next [] r = refl
next_push next (q ∷ all) r = next_push (next_by_plan q.plan next) all r

numbered_push : (next : ℕ) (all : List Restored) (r : Restored) → AreNumbered next all → r.number ≡ number_by r.plan (next_after next all) r.aim.target → AreNumbered next (all ++ r ∷ [])
numbered_push next [] r are here = (here, tt)
numbered_push next (q ∷ all) r are here = (are.0, numbered_push (next_by_plan q.plan next) all r are.1 here)

-- ---- one more object

-- a restored object has the number under which it was compared or a later one, and it is given
pub record IsPlaced (s later : State) (r : Restored) : Type 0 where
  pub own : (r.number ≡ r.aim.target) ⊎ (s.next ≤ r.number)
  pub target : r.aim.target < s.next
  pub given : r.number < later.next

-- Objects were restored so far.
pub record GoesOn (s later : State) (at : ℕ) (aims : List Aim) (all : List Restored) : Type 0 where
  pub aims_are : map (λ (r : Restored). r.aim) all ≡ aims
  pub each : AllByRecursion (IsRestored s later at) all
  pub placed : AllByRecursion (IsPlaced s later) all
  pub numbered : AreNumbered s.next all
  pub next : later.next ≡ next_after s.next all
  pub begun : (later ≡ s) ⊎ (at ≤ s.clock)

-- what every call leaves, however it ends
pub record StandsBy (s later : State) (aims : List Aim) : Type 0 where
  pub rest : LeavesRest s later aims
  pub past : LeavesPast s later

-- the number that an object has afterwards is the one under which it was compared, or the next one
own_or_next : (before now : Version) (next o : ℕ) → (number_from before now next o ≡ o) ⊎ (number_from before now next o ≡ next)
own_or_next Absent Absent next o = inl refl
own_or_next Absent (Live now attribute created changed) next o = inl refl
own_or_next (Live bytes attribute created changed) Absent next o = inr refl
own_or_next (Live bytes attribute created changed) (Live now attribute_now created_now changed_now) next o = inl refl

-- an older number isn't touched where another object is restored
untouched : (s middle : State) (a : Aim) (at q : ℕ) → s.next ≤ middle.next → q < s.next → q ≢ a.target → q ≢ number_after middle a at
untouched s middle a at q le lt apart same =
    elim (own_or_next (version_of middle a.object at) (present middle a.target) middle.next a.target) [
      | inl own ↦ apart (same ∙ own)
      | inr next ↦ absurd (omega (arith, same, next))
    ]

-- neither is the number of an object that was restored before
untouched_placed : (s middle : State) (a : Aim) (at : ℕ) (r : Restored) → s.next ≤ middle.next → a.target < s.next → a.target ≢ r.aim.target → IsPlaced s middle r → r.number ≢ number_after middle a at
untouched_placed s middle a at r le lt apart placed same =
    elim (own_or_next (version_of middle a.object at) (present middle a.target) middle.next a.target) [
      | inr next ↦ absurd (omega (arith, same, next, placed.given))
      | inl own ↦
          elim placed.own [
            | inl is ↦ apart (sym own ∙ sym same ∙ is)
            | inr new ↦ absurd (omega (arith, same, own, new))
          ]
    ]

-- what stays by one more object, whether it was restored or not
pub stands_on : (s middle later : State) (at : ℕ) (aims : List Aim) (a : Aim) → StandsBy s middle aims → LeavesOthers (number_after middle a at) middle later → LeavesPast middle later → StandsBy s later (aims ++ a ∷ [])
stands_on s middle later at aims a before others past = record {
  rest = λ q lt apart.
      let both = all_last (λ (p : Aim). q ≢ p.target) aims a apart in
      others q (untouched s middle a at q before.past.next lt both.1) ∙ before.rest q lt both.0;
  past = past_on s middle later before.past past;
}

-- a moment that can be read later can be read at first, where it isn't later than the clock was
visible_before : (s middle : State) (o at : ℕ) → LeavesPast s middle → at ≤ s.clock → IsVisible middle o at → IsVisible s o at
visible_before s middle o at past le visible = record { kept = omega (arith, past.floor, visible.kept); reached = le; shown = sym (past.hidden o at) ∙ visible.shown }

-- a moment that is read isn't later than the clock was when the first object was restored
read_by_clock : (s middle : State) (o at : ℕ) → (middle ≡ s) ⊎ (at ≤ s.clock) → IsVisible middle o at → at ≤ s.clock
read_by_clock s middle o at (inl same) visible = subst (λ (k : State). at ≤ k.clock) same visible.reached
read_by_clock s middle o at (inr le) visible = le

-- what was restored before still is
each_stays : (s middle later : State) (a : Aim) (at : ℕ) (all : List Restored) → s.next ≤ middle.next → a.target < s.next → LeavesOthers (number_after middle a at) middle later
    → AllByRecursion (λ (r : Restored). a.target ≢ r.aim.target) all → AllByRecursion (IsPlaced s middle) all → AllByRecursion (IsRestored s middle at) all → AllByRecursion (IsRestored s later at) all
each_stays s middle later a at all le lt others apart placed each =
    all_weaker (λ (r : Restored). (a.target ≢ r.aim.target) × (IsPlaced s middle r × IsRestored s middle at r)) (IsRestored s later at) all (λ r both. record {
      visible = both.1.1.visible;
      planned = both.1.1.planned;
      content = ap content_of (others r.number (untouched_placed s middle a at r le lt both.0 both.1.0)) ∙ both.1.1.content;
    })
    (all_both (λ (r : Restored). a.target ≢ r.aim.target) (λ (r : Restored). IsPlaced s middle r × IsRestored s middle at r) all apart (all_both (IsPlaced s middle) (IsRestored s middle at) all placed each))

placed_stays : (s middle later : State) (all : List Restored) → middle.next ≤ later.next → AllByRecursion (IsPlaced s middle) all → AllByRecursion (IsPlaced s later) all
placed_stays s middle later all le placed = all_weaker (IsPlaced s middle) (IsPlaced s later) all (λ r is. record { own = is.own; target = is.target; given = omega (arith, is.given) }) placed

-- the next number is given by a plan that gives it
next_is_given : (plan : Plan) (next later_next number o : ℕ) → number ≡ next → number_by plan next o ≡ next → later_next ≡ next_by_plan plan next → o < next → number < later_next
next_is_given (Remake changes) next later_next number o is by more lt = omega arith
next_is_given Keep next later_next number o is by more lt = omega arith
next_is_given Delete next later_next number o is by more lt = omega arith
next_is_given (Change changes) next later_next number o is by more lt = omega arith

-- the number that one more object has
placed_next : (s middle later : State) (a : Aim) (at : ℕ) (r : Restored) → s.next ≤ middle.next → a.target < s.next → middle.next ≤ later.next → Restores middle later a at r → IsPlaced s later r
placed_next s middle later a at r le lt more restores =
    let under : r.aim.target ≡ a.target = ap (λ (x : Aim). x.target) restores.aim_is in
    elim (own_or_next (version_of middle a.object at) (present middle a.target) middle.next a.target) [
      | inl own ↦
          let is : r.number ≡ r.aim.target = restores.number ∙ own ∙ sym under in
          record { own = inl is; target = omega (arith, under); given = omega (arith, is, under) }
      | inr next ↦
          let is : r.number ≡ middle.next = restores.number ∙ next in
          record {
            own = inr (omega (arith, is));
            target = omega (arith, under);
            given = next_is_given r.plan middle.next later.next r.number a.target is (number_planned middle a at r.plan restores.planned ∙ next) restores.next (omega (arith, lt, le));
          }
    ]

-- one more object was restored, as its plan says
restored_next : (s middle later : State) (a : Aim) (at : ℕ) (r : Restored) → at ≤ s.clock → LeavesPast s middle → present middle a.target ≡ present s a.target → Restores middle later a at r → IsRestored s later at r
restored_next s middle later a at r le past same restores =
    let version : version_of middle a.object at ≡ version_of s a.object at = past.versions a.object at le in
    let planned : IsPlan (version_of s a.object at) (present s a.target) r.plan =
    subst (λ (v : Version). IsPlan (version_of s a.object at) v r.plan) same (subst (λ (v : Version). IsPlan v (present middle a.target) r.plan) version restores.planned) in
    record {
      visible = subst (λ (x : Aim). IsVisible s x.object at) (sym restores.aim_is) (visible_before s middle a.object at past le restores.visible);
      planned = subst (λ (x : Aim). IsPlan (version_of s x.object at) (present s x.target) r.plan) (sym restores.aim_is) planned;
      content = restores.content ∙ ap content_of version ∙ ap (λ (x : Aim). content_of (version_of s x.object at)) (sym restores.aim_is);
    }

-- it has the next number where it was made anew
numbered_next : (s middle later : State) (a : Aim) (at : ℕ) (all : List Restored) (r : Restored) → middle.next ≡ next_after s.next all → Restores middle later a at r → r.number ≡ number_by r.plan (next_after s.next all) r.aim.target
numbered_next s middle later a at all r next restores =
    restores.number ∙ sym (number_planned middle a at r.plan restores.planned) ∙ ap (λ n. number_by r.plan n a.target) next
    ∙ ap (λ (x : Aim). number_by r.plan (next_after s.next all) x.target) (sym restores.aim_is)

pub goes_on : (s middle later : State) (at : ℕ) (aims : List Aim) (a : Aim) (all : List Restored) (r : Restored) → StandsBy s middle aims → GoesOn s middle at aims all → a.target < s.next → AllByRecursion (λ (p : Aim). a.target ≢ p.target) aims
    → Restores middle later a at r → LeavesOthers (number_after middle a at) middle later → LeavesPast middle later → GoesOn s later at (aims ++ a ∷ []) (all ++ r ∷ [])
goes_on s middle later at aims a all r before goes lt apart restores others past =
    let le : at ≤ s.clock = read_by_clock s middle a.object at goes.begun restores.visible in
    let more : s.next ≤ middle.next = before.past.next in
    let others_apart : AllByRecursion (λ (q : Restored). a.target ≢ q.aim.target) all =
    all_map (λ (p : Aim). a.target ≢ p.target) (λ (q : Restored). q.aim) all (subst (AllByRecursion (λ (p : Aim). a.target ≢ p.target)) (sym goes.aims_are) apart) in
    record {
      aims_are = map_push (λ (q : Restored). q.aim) all r ∙ ap (λ l. l ++ r.aim ∷ []) goes.aims_are ∙ ap (λ (x : Aim). aims ++ x ∷ []) restores.aim_is;
      each = all_by_recursion_push (IsRestored s later at) all r (each_stays s middle later a at all more lt others others_apart goes.placed goes.each)
          (restored_next s middle later a at r le before.past (before.rest a.target lt apart) restores);
      placed = all_by_recursion_push (IsPlaced s later) all r (placed_stays s middle later all past.next goes.placed) (placed_next s middle later a at r more lt past.next restores);
      numbered = numbered_push s.next all r goes.numbered (numbered_next s middle later a at all r goes.next restores);
      next = restores.next ∙ ap (next_by_plan r.plan) goes.next ∙ sym (next_push s.next all r);
      begun = inr le;
    }

-- ---- and how

pub turn_none : (s : State) (store : StoreFields) (now at : ℕ) → RestoresInTurn s store now at [] s store
turn_none s store now at = (refl, refl)

pub turn_more : (s : State) (store : StoreFields) (middle : State) (between : StoreFields) (later : State) (after : StoreFields) (now at : ℕ) (all : List Restored) (a : Aim) (r : Restored) → RestoresInTurn s store now at all middle between
    → RestoresOver middle between now at a r later after → RestoresInTurn s store now at (all ++ r ∷ []) later after
turn_more s store middle between later after now at [] a r before here = (
  later,
  after,
  subst (λ (x : Aim). RestoresOver s store now at x r later after) (sym here.restores.aim_is)
      (subst (λ (k : StoreFields). RestoresOver s k now at a r later after) before.1 (subst (λ (t : State). RestoresOver t between now at a r later after) before.0 here)),
  (refl, refl),
)
turn_more s store middle between later after now at (q ∷ all) a r before here = (before.0, before.1, before.2, turn_more before.0 before.1 middle between later after now at all a r before.3 here)

-- ---- the beginning and the end

pub stands_none : (s : State) → StandsBy s s []
stands_none s = record { rest = λ q lt apart. refl; past = past_same s s refl }

pub goes_none : (s : State) (at : ℕ) → GoesOn s s at [] []
goes_none s at = record { aims_are = refl; each = tt; placed = tt; numbered = tt; next = refl; begun = inl refl }

-- what is by the first objects is by all
pub stands_whole : (s later : State) (aims : List Aim) (n : ℕ) → StandsBy s later (take n aims) → StandsBy s later aims
stands_whole s later aims n before = record { rest = λ q lt apart. before.rest q lt (all_front (λ (a : Aim). q ≢ a.target) aims n apart); past = before.past }

pub goes_whole : (s later : State) (at : ℕ) (aims : List Aim) (all : List Restored) → GoesOn s later at aims all → RestoresEach s later at aims all
goes_whole s later at aims all goes = record { aims_are = goes.aims_are; each = goes.each; numbered = goes.numbered }

-- an object that wasn't restored stops all
pub stops_at : (s middle later : State) (a : Aim) (at : ℕ) (f : Failure) → LeavesPast s middle → IsStopped middle later a at f → StopsAll s later at f
stops_at s middle later a at f before stopped = AtObject middle (record { before = before; stopped = subst (λ (x : Aim). IsStopped middle later x at f) (sym stopped.aim_is) stopped })

-- one more of a list
pub one_more : (aims : List Aim) (i : ℕ) (a : Aim) → i < length aims → a ≡ get_or aims i a → take (i + 1) aims ≡ take i aims ++ a ∷ []
one_more aims i a lt is = take_more aims i a lt ∙ ap (λ (x : Aim). take i aims ++ x ∷ []) (sym is)

-- it is above all in front of it
pub ascending_item : (high : ℕ) (aims : List Aim) (i : ℕ) (a : Aim) → AscendBelow 0 high (targets_of aims) → i < length aims → a ≡ get_or aims i a → (a.target < high) × AllByRecursion (λ (p : Aim). a.target ≢ p.target) (take i aims)
ascending_item high aims i a ascend lt is =
    (subst (λ (x : Aim). x.target < high) (sym is) (ascending_at 0 high aims i a ascend lt).1, subst (λ (x : Aim). AllByRecursion (λ (p : Aim). x.target ≢ p.target) (take i aims)) (sym is) (ascending_apart 0 high aims i a ascend lt))

-- what is by all objects where one of them was the last
pub stands_after : (s middle later : State) (at : ℕ) (aims : List Aim) (i : ℕ) (a : Aim) → i < length aims → a ≡ get_or aims i a → StandsBy s middle (take i aims) → LeavesOthers (number_after middle a at) middle later → LeavesPast middle later → StandsBy s later aims
stands_after s middle later at aims i a lt is before others past =
    stands_whole s later aims (i + 1) (subst (StandsBy s later) (sym (one_more aims i a lt is)) (stands_on s middle later at (take i aims) a before others past))
