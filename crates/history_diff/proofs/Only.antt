-- The differences of a drive are the only ones.
use Rattle.std.proofs.Common.{◌≡◌, ◌∙◌, ℕ, List, [], ◌∷◌, Option, Some, None, inl, inr, refl, sym, ap, ap₂, subst}
use Rattle.std.proofs.lemmas.Bool.{cases_order}
use Rattle.s4_types.specs.declared.versions.Version.{Version}
use Rattle.s4_model.specs.State.{State}
use Rattle.s4_model.specs.VersionAt.{version_of}
use Rattle.history_diff.specs.declared.ranges.ByteRange.{ByteRange}
use Rattle.history_diff.specs.declared.differences.AttributePair.{AttributePair}
use Rattle.history_diff.specs.declared.differences.DifferenceKind.{DifferenceKind}
use Rattle.history_view.specs.Contents.{attribute_of, content_of}
use Rattle.history_diff.specs.Differences.{AreAlike, Told, TellsAttributes, IsDifferenceOf}
use Rattle.history_diff.specs.Diffing.{ObjectDifference, IsPassed, IsDifferenceAt, AreDifferencesFrom, AreDifferencesOf, DifferencesAreOnly}
use Rattle.history_diff.proofs.Apart.{ranges_are_only}

-- the attributes that are told are the only ones
attributes_are_only : (a b : List ℕ) (one other : Option AttributePair) → TellsAttributes a b one → TellsAttributes a b other → one ≡ other
attributes_are_only a b None None told also = refl
attributes_are_only a b None (Some q) told also = absurd (also.0 told)
attributes_are_only a b (Some p) None told also = absurd (told.0 also)
attributes_are_only a b (Some p) (Some q) told also =
    let same : p ≡ q = ap₂ (λ (m n : List ℕ). record { before = m; after = n }) (told.1 ∙ sym also.1) (told.2 ∙ sym also.2) in
    ap (λ (x : AttributePair). Some x) same

-- so is a difference of two versions
told_is_only : (v w : Version) (t u : Told) → IsDifferenceOf v w t → IsDifferenceOf v w u → t ≡ u
told_is_only v w t u told also =
    ap (λ (x : DifferenceKind). record t { kind = x }) (told.kind ∙ sym also.kind)
    ∙ ap (λ (x : ℕ). record t { kind = u.kind; size_before = x }) (told.size_before ∙ sym also.size_before)
    ∙ ap (λ (x : ℕ). record t { kind = u.kind; size_before = u.size_before; size_after = x }) (told.size_after ∙ sym also.size_after)
    ∙ ap (λ (x : Option AttributePair). record u { attributes = x; ranges = t.ranges }) (attributes_are_only (attribute_of v) (attribute_of w) t.attributes u.attributes told.attributes also.attributes)
    ∙ ap (λ (x : List ByteRange). record u { ranges = x }) (ranges_are_only (content_of v) (content_of w) t.ranges u.ranges told.ranges also.ranges)

-- and one of an object
row_is_only : (s : State) (t u : ℕ) (d e : ObjectDifference) → d.object ≡ e.object → IsDifferenceAt s t u d → IsDifferenceAt s t u e → d ≡ e
row_is_only s t u d e object one other =
    let before : d.before ≡ e.before = one.before ∙ ap (λ o. version_of s o t) object ∙ sym other.before in
    let after : d.after ≡ e.after = one.after ∙ ap (λ o. version_of s o u) object ∙ sym other.after in
    let told : IsDifferenceOf e.before e.after d.told = subst (λ v. IsDifferenceOf v e.after d.told) before (subst (λ w. IsDifferenceOf d.before w d.told) after one.told) in
    ap (λ (x : ℕ). record d { object = x }) object
    ∙ ap (λ (x : Version). record d { object = e.object; before = x }) before
    ∙ ap (λ (x : Version). record e { after = x; told = d.told }) after
    ∙ ap (λ (x : Told). record e { told = x }) (told_is_only e.before e.after d.told e.told told other.told)

-- an object that differs isn't passed
not_passed : (s : State) (t u : ℕ) (d : ObjectDifference) → IsDifferenceAt s t u d → IsPassed s t u d.object → ⊥
not_passed s t u d here passed =
    here.told.apart (subst (λ v. AreAlike v d.after) (sym here.before) (subst (AreAlike (version_of s d.object t)) (sym here.after) (passed here.visible_before here.visible_after)))

from_is_only : (s : State) (t u above : ℕ) (one other : List ObjectDifference) → AreDifferencesFrom s t u above one → AreDifferencesFrom s t u above other → one ≡ other
from_is_only s t u above [] [] these those = refl
from_is_only s t u above [] (e ∷ other) these those = absurd (not_passed s t u e those.0.here (these e.object those.0.beyond))
from_is_only s t u above (d ∷ one) [] these those = absurd (not_passed s t u d these.0.here (those d.object these.0.beyond))
from_is_only s t u above (d ∷ one) (e ∷ other) these those =
    let object : d.object ≡ e.object = elim (cases_order d.object e.object) [
      | inl same ↦ same
      | inr apart ↦ elim apart [
        | inl below ↦ absurd (not_passed s t u d these.0.here (those.0.least d.object these.0.beyond below))
        | inr beyond ↦ absurd (not_passed s t u e those.0.here (these.0.least e.object those.0.beyond beyond))
      ]
    ] in
    let rest : one ≡ other = from_is_only s t u d.object one other these.1 (subst (λ o. AreDifferencesFrom s t u o other) (sym object) those.1) in
    ap₂ (λ (x : ObjectDifference) (l : List ObjectDifference). x ∷ l) (row_is_only s t u d e object these.0.here those.0.here) rest

of_is_only : (s : State) (t u o : ℕ) (one other : List ObjectDifference) → AreDifferencesOf s t u o one → AreDifferencesOf s t u o other → one ≡ other
of_is_only s t u o [] [] these those = refl
of_is_only s t u o [] (e ∷ []) these those = absurd (not_passed s t u e those.1 (subst (IsPassed s t u) (sym those.0) these))
of_is_only s t u o (d ∷ []) [] these those = absurd (not_passed s t u d these.1 (subst (IsPassed s t u) (sym these.0) those))
of_is_only s t u o (d ∷ []) (e ∷ []) these those = ap (λ (x : ObjectDifference). x ∷ []) (row_is_only s t u d e (these.0 ∙ sym those.0) these.1 those.1)
of_is_only s t u o (d ∷ f ∷ one) other these those = absurd these
of_is_only s t u o [] (e ∷ f ∷ other) these those = absurd those
of_is_only s t u o (d ∷ []) (e ∷ f ∷ other) these those = absurd those

pub differences_are_only : DifferencesAreOnly
differences_are_only s c None one other these those = from_is_only s c.before c.after 0 one other these those
differences_are_only s c (Some o) one other these those = of_is_only s c.before c.after o one other these those
