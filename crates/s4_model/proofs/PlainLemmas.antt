-- What the plain drive's list of changes keeps, and what follows of versions.
use Rattle.std.proofs.Common.{◌≡◌, ℕ, Bool, true, false, ◌+◌, ◌<◌, ◌≤◌, ◌&&◌, nat_le, cond, List, [], ◌∷◌, ◌++◌, length, suc, zero, filter, fold, refl, sym, ap, subst, ◌∙◌, Result, Ok, Err, IfOk, arith}
use Rattle.std.specs.List.{AllByRecursion}
use Rattle.std.proofs.Math.Dec.{leb-suc-zero}
use Rattle.std.proofs.lemmas.Grind.{common_steps}
use Rattle.std.proofs.lemmas.Bool.Decides.{nat_tests}
use Rattle.s4_types.specs.declared.limits.TheConstants.{OBJECT_BYTES}
use Rattle.s4_types.specs.declared.changes.Accepted.{Accepted}
use Rattle.s4_types.specs.declared.changes.Change.{Change}
use Rattle.s4_types.specs.declared.changes.Change.TheVariants.{Create, Delete, Write, Truncate, SetAttr, SetWindow, Flush, FlushO}
use Rattle.s4_types.specs.declared.refusals.Refusal.{Refusal}
use Rattle.s4_types.specs.declared.versions.Version.{Version}
use Rattle.s4_types.specs.declared.versions.Version.TheVariants.{Absent, Live}
use Rattle.s4_model.specs.Effect.{resized, written, effect, is_change_of}
use Rattle.s4_model.specs.VersionAt.{is_by, effect_of, version_after}
use Rattle.s4_model.specs.Limits.{Fits, IsWithinLimits}
use Rattle.s4_model.specs.Plain.{IsKeptChange, EndsBy}

EndsBy-later : (c d : ℕ) (change : Change) → c ≤ d → EndsBy c change → EndsBy d change
EndsBy-later c d (Flush first last) le h = omega arith
EndsBy-later c d (FlushO object first last) le h = omega arith
EndsBy-later c d (Create object attribute) le h = tt
EndsBy-later c d (Delete object) le h = tt
EndsBy-later c d (Write object offset bytes) le h = tt
EndsBy-later c d (Truncate object size) le h = tt
EndsBy-later c d (SetAttr object attribute) le h = tt
EndsBy-later c d (SetWindow window) le h = tt

-- what is kept at a clock is kept at a later one
pub AllKept-later : (c d : ℕ) (changes : List Accepted) → c ≤ d → AllByRecursion (IsKeptChange c) changes → AllByRecursion (IsKeptChange d) changes
AllKept-later c d [] le h = tt
AllKept-later c d (a ∷ changes) le h =
    (record { dated = h.0.dated; fits = h.0.fits; ends = EndsBy-later c d a.change le h.0.ends }, AllKept-later c d changes le h.1)

pub AllKept-push : (c : ℕ) (changes : List Accepted) (a : Accepted) → AllByRecursion (IsKeptChange c) changes → IsKeptChange c a → AllByRecursion (IsKeptChange c) (changes ++ a ∷ [])
AllKept-push c [] a h k = (k, tt)
AllKept-push c (b ∷ changes) a h k = (h.0, AllKept-push c changes a h.1 k)

not_before : (b e : Bool) (a : Accepted) (rest : List Accepted) → e ≡ false → cond (b && e) (a ∷ rest) rest ≡ rest
not_before true e a rest h = ap (λ x. cond x (a ∷ rest) rest) h
not_before false e a rest h = refl

-- before the first change there is nothing
none_before : (c : ℕ) (changes : List Accepted) (o : ℕ) → AllByRecursion (IsKeptChange c) changes → filter (is_by o 0) changes ≡ []
none_before c [] o h = refl
none_before c (a ∷ changes) o h =
    let dated : 0 < a.moment = h.0.dated in
    let late : nat_le a.moment 0 ≡ false = grind (arith, nat_tests) in
    not_before (is_change_of o a.change) (nat_le a.moment 0) a (filter (is_by o 0) changes) late ∙ none_before c changes o h.1

pub version_after-0 : (c : ℕ) (changes : List Accepted) (o : ℕ) → AllByRecursion (IsKeptChange c) changes → version_after Absent changes o 0 ≡ Absent
version_after-0 c changes o h = ap (λ all. fold effect_of Absent all) (none_before c changes o h)

-- the version of an object of a drive that began new
pub version_of_new : (c : ℕ) (changes : List Accepted) (o t : ℕ) → AllByRecursion (IsKeptChange c) changes → version_after Absent changes o t ≡ cond (nat_le t 0) Absent (version_after Absent changes o t)
version_of_new c changes o zero h = version_after-0 c changes o h
version_of_new c changes o (suc t) h = ap (λ b. cond b Absent (version_after Absent changes o (suc t))) (sym (leb-suc-zero t))

pub length-resized : (size : ℕ) (content : List ℕ) → length (resized size content) ≡ size
length-resized size content = grind (arith, common_steps)

length-written : (limit offset : ℕ) (bytes content : List ℕ) → offset + length bytes ≤ limit → length content ≤ limit → length (written offset bytes content) ≤ limit
length-written limit offset [] content f h = h
length-written limit offset (b ∷ bs) content f h = grind (arith, common_steps)

-- a change that fits keeps a version within the limits
pub IsWithinLimits-effect : (change : Change) (m : ℕ) (version : Version) → Fits change → IsWithinLimits version → IsWithinLimits (effect change m version)
IsWithinLimits-effect (Create object attribute) m version f h = (omega arith, f)
IsWithinLimits-effect (Delete object) m version f h = tt
IsWithinLimits-effect (Write object offset bytes) m Absent f h = tt
IsWithinLimits-effect (Write object offset bytes) m (Live content attribute created changed) f h = (length-written OBJECT_BYTES offset bytes content f h.0, h.1)
IsWithinLimits-effect (Truncate object size) m Absent f h = tt
IsWithinLimits-effect (Truncate object size) m (Live content attribute created changed) f h = (rw length-resized f, h.1)
IsWithinLimits-effect (SetAttr object new_attribute) m Absent f h = tt
IsWithinLimits-effect (SetAttr object new_attribute) m (Live content attribute created changed) f h = (h.0, f)
IsWithinLimits-effect (SetWindow window) m version f h = h
IsWithinLimits-effect (Flush first last) m version f h = h
IsWithinLimits-effect (FlushO object first last) m version f h = h

-- versions that kept changes lead to are within the limits
pub IsWithinLimits-version_after : (c : ℕ) (version : Version) (changes : List Accepted) (o t : ℕ) → AllByRecursion (IsKeptChange c) changes → IsWithinLimits version → IsWithinLimits (version_after version changes o t)
IsWithinLimits-version_after c version [] o t h w = w
IsWithinLimits-version_after c version (a ∷ changes) o t h w =
    elim (is_by o t a) as (λ b. IsWithinLimits (fold effect_of version (cond b (a ∷ filter (is_by o t) changes) (filter (is_by o t) changes)))) [
      | true ↦ IsWithinLimits-version_after c (effect_of version a) changes o t h.1 (IsWithinLimits-effect a.change a.moment version h.0.fits w)
      | false ↦ IsWithinLimits-version_after c version changes o t h.1 w
    ]

-- the same of what a call may have answered
pub IfOk-version_of_new : (r : Result Version Refusal) (c : ℕ) (read changes : List Accepted) (o t : ℕ) → read ≡ changes → AllByRecursion (IsKeptChange c) changes → IfOk r (λ v. v ≡ version_after Absent read o t) → IfOk r (λ v. v ≡ cond (nat_le t 0) Absent (version_after Absent changes o t))
IfOk-version_of_new (Ok v) c read changes o t e h is = is ∙ ap (λ all. version_after Absent all o t) e ∙ version_of_new c changes o t h
IfOk-version_of_new (Err e') c read changes o t e h is = tt

pub IfOk-limits : (r : Result Version Refusal) (c : ℕ) (read changes : List Accepted) (o t : ℕ) → read ≡ changes → AllByRecursion (IsKeptChange c) changes → IfOk r (λ v. v ≡ version_after Absent read o t) → IfOk r IsWithinLimits
IfOk-limits (Ok v) c read changes o t e h is = subst IsWithinLimits (sym (is ∙ ap (λ all. version_after Absent all o t) e)) (IsWithinLimits-version_after c Absent changes o t h tt)
IfOk-limits (Err e') c read changes o t e h is = tt

-- the third of a row of tests is the first that passes
pub third_passes : {A : Type 0} (a b d : Bool) (x y z rest : A) → a ≡ false → b ≡ false → d ≡ true → cond a x (cond b y (cond d z rest)) ≡ z
third_passes a b d x y z rest f g h = ap (λ t. cond t x (cond b y (cond d z rest))) f ∙ ap (λ t. cond t y (cond d z rest)) g ∙ ap (λ t. cond t z rest) h

-- the fourth is
pub fourth_passes : {A : Type 0} (a b d e : Bool) (x y z w rest : A) → a ≡ false → b ≡ false → d ≡ false → e ≡ true → cond a x (cond b y (cond d z (cond e w rest))) ≡ w
fourth_passes a b d e x y z w rest f g h k = ap (λ t. cond t x (cond b y (cond d z (cond e w rest)))) f ∙ ap (λ t. cond t y (cond d z (cond e w rest))) g ∙ ap (λ t. cond t z (cond e w rest)) h ∙ ap (λ t. cond t w rest) k

-- the list with one more change is kept at the change's moment
pub AllKept-took : (c d : ℕ) (old new : List Accepted) (a : Accepted) → new ≡ old ++ a ∷ [] → c ≤ d → 0 < a.moment → Fits a.change → EndsBy c a.change → AllByRecursion (IsKeptChange c) old → AllByRecursion (IsKeptChange d) new
AllKept-took c d old new a e le dated fits ends h =
    let P : List Accepted → Type 0 = AllByRecursion (IsKeptChange d) in
    subst P (sym e) (AllKept-push d old a (AllKept-later c d old le h) (record { dated = dated; fits = fits; ends = EndsBy-later c d a.change le ends }))
