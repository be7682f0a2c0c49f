-- What was restored needn't be restored again.
use Rattle.std.proofs.Common.{◌≡◌, ◌≢◌, ◌∙◌, ◌==◌, inl, inr, eq-eqb, ℕ, Bool, true, false, List, [], ◌∷◌, length, Option, None, Some, refl, sym, ap, subst, arith}
use Rattle.std.specs.Prelude.{MatchBool, ◌&&◌, not, is_none}
use Rattle.std.specs.List.{AllByRecursion}
use Rattle.std.proofs.lemmas.Bool.{eqb-true, true≢false}
use Rattle.std.proofs.lemmas.List.{nil_from_length}
use Rattle.std.proofs.lemmas.Bool.Decides.{nat_tests}
use Rattle.s4_types.specs.declared.versions.Version.{Version}
use Rattle.s4_types.specs.declared.versions.Version.TheVariants.{Absent, Live}
use Rattle.lemmas.proofs.List.{all_weaker}
use Rattle.s4_model.specs.State.{State}
use Rattle.s4_model.specs.VersionAt.{version_of}
use Rattle.s4_model.specs.Refusals.{present}
use Rattle.history_restore.specs.declared.plans.Changes.{Changes}
use Rattle.block_runs.specs.declared.running.Run.{Run}
use Rattle.block_runs.specs.Runs.{AreRuns, IsSized, differs, is_put, runs_to, written_over}
use Rattle.block_runs.proofs.Whole.{runs_are_whole}
use Rattle.block_runs.proofs.Exact.{runs_are_exact}
use Rattle.block_runs.proofs.Cutting.{never_whole, put_within}
use Rattle.history_restore.specs.declared.plans.Plan.{Plan}
use Rattle.history_restore.specs.declared.plans.Plan.TheVariants.{Keep, Delete, Remake, Change}
use Rattle.history_restore.specs.declared.restoring.Restored.{Restored}
use Rattle.history_restore.specs.Content.{Content, content_of, holding}
use Rattle.history_restore.specs.Keeping.{LeavesPast}
use Rattle.history_restore.specs.Plans.{IsChangesOf, IsPlan, IsPlanBetween, gap_of, is_idle}
use Rattle.history_restore.specs.Whole.{IsRestored}

-- nothing is cut of bytes that are the same
no_cut : (bytes : List ℕ) (cut : Option ℕ) → IsSized bytes bytes cut → is_none cut ≡ true
no_cut bytes None is = refl
no_cut bytes (Some size) (inl is) = absurd (omega (arith, is.0))
no_cut bytes (Some size) (inr is) = absurd (omega (arith, is.0))

-- nor is anything written
same_there : (bytes : List ℕ) (i : ℕ) → differs bytes bytes i ≡ false
same_there bytes i = grind (arith, nat_tests)

same_unput : (bytes : List ℕ) (i : ℕ) → is_put bytes bytes i ≡ false
same_unput bytes i = put_within bytes bytes i (never_whole bytes bytes (omega arith)) ∙ same_there bytes i

no_runs : (gap : ℕ) (bytes : List ℕ) (rs : List Run) → AreRuns (is_put bytes bytes) gap (length bytes) 0 0 rs → length rs ≡ 0
no_runs gap bytes [] are = refl
no_runs gap bytes (r ∷ rs) are = absurd (true≢false (sym are.0.first ∙ same_unput bytes r.offset))

no_write : (gap : ℕ) (bytes : List ℕ) (writes : ℕ) → writes ≡ length (runs_to gap bytes bytes) → (writes == 0) ≡ true
no_write gap bytes writes is = eq-eqb writes 0 (is ∙ no_runs gap bytes (runs_to gap bytes bytes) (runs_are_exact gap bytes bytes))

-- nor the attribute replaced
no_attribute : (attribute : List ℕ) (wanted : Bool) → MatchBool wanted (attribute ≢ attribute) (attribute ≡ attribute) → not wanted ≡ true
no_attribute attribute true is = absurd (is refl)
no_attribute attribute false is = refl

all_three : (a b c : Bool) → a ≡ true → b ≡ true → c ≡ true → (a && (b && c)) ≡ true
all_three true true true x y z = refl
all_three false b c x y z = absurd (true≢false (sym x))
all_three true false c x y z = absurd (true≢false (sym y))
all_three true true false x y z = absurd (true≢false (sym z))

-- so changes of what is the same are none
idle_same : (bytes attribute : List ℕ) (changes : Changes) → IsChangesOf bytes attribute bytes attribute changes → is_idle changes ≡ true
idle_same bytes attribute changes is =
    all_three (is_none changes.cut) (changes.writes == 0) (not changes.attribute) (no_cut bytes changes.cut is.shorter) (no_write (gap_of changes.joined) bytes changes.writes is.rewritten) (no_attribute attribute changes.attribute is.replaced)

-- and where there are none, all is what it was
both : (a b : Bool) → (a && b) ≡ true → (a ≡ true) × (b ≡ true)
both true b is = (refl, is)
both false b is = absurd (true≢false (sym is))

idle_bytes : (gap : ℕ) (bytes now : List ℕ) (cut : Option ℕ) (writes : ℕ) → IsSized bytes now cut → writes ≡ length (runs_to gap bytes now) → is_none cut ≡ true → (writes == 0) ≡ true → bytes ≡ now
idle_bytes gap bytes now (Some size) writes is written uncut idle = absurd (true≢false (sym uncut))
idle_bytes gap bytes now None writes is written uncut idle =
    let zeros : writes ≡ 0 = eqb-true writes 0 idle in
    let none : runs_to gap bytes now ≡ [] = nil_from_length (runs_to gap bytes now) (sym written ∙ zeros) in
    sym (runs_are_whole gap bytes now None is) ∙ ap (λ (rs : List Run). written_over bytes rs now) none

idle_attribute : (attribute now : List ℕ) (wanted : Bool) → MatchBool wanted (attribute ≢ now) (attribute ≡ now) → not wanted ≡ true → attribute ≡ now
idle_attribute attribute now true is idle = absurd (true≢false (sym idle))
idle_attribute attribute now false is idle = is

pub idle_is_same : (bytes attribute now attribute_now : List ℕ) (changes : Changes) → IsChangesOf bytes attribute now attribute_now changes → is_idle changes ≡ true → (bytes ≡ now) × (attribute ≡ attribute_now)
idle_is_same bytes attribute now attribute_now changes is idle =
    let one = both (is_none changes.cut) ((changes.writes == 0) && not changes.attribute) idle in
    let two = both (changes.writes == 0) (not changes.attribute) one.1 in
    (idle_bytes (gap_of changes.joined) bytes now changes.cut changes.writes is.shorter is.rewritten one.0 two.0, idle_attribute attribute attribute_now changes.attribute is.replaced two.1)

pub keeps_between : (bytes attribute : List ℕ) (plan : Plan) → IsPlanBetween bytes attribute bytes attribute plan → plan ≡ Keep
keeps_between bytes attribute Keep is = refl
keeps_between bytes attribute Delete is = absurd is
keeps_between bytes attribute (Remake changes) is = absurd is
keeps_between bytes attribute (Change changes) is = absurd (true≢false (sym (idle_same bytes attribute changes is.0) ∙ is.1))

-- the bytes and the attribute that are held
same_bytes : (bytes attribute now attribute_now : List ℕ) → holding now attribute_now ≡ holding bytes attribute → now ≡ bytes
same_bytes bytes attribute now attribute_now same = ap (λ (c : Option Content). bytes_held c) same
  where
    bytes_held : Option Content → List ℕ
    bytes_held None = []
    bytes_held (Some c) = c.bytes

same_attribute : (bytes attribute now attribute_now : List ℕ) → holding now attribute_now ≡ holding bytes attribute → attribute_now ≡ attribute
same_attribute bytes attribute now attribute_now same = ap (λ (c : Option Content). attribute_held c) same
  where
    attribute_held : Option Content → List ℕ
    attribute_held None = []
    attribute_held (Some c) = c.attribute

-- an object that has what it had is kept
pub keeps_same : (before now : Version) (plan : Plan) → content_of now ≡ content_of before → IsPlan before now plan → plan ≡ Keep
keeps_same Absent Absent plan same is = is
keeps_same Absent (Live now attribute_now created changed) plan same is = let none : ⊥ = cc in absurd none
keeps_same (Live bytes attribute made moved) Absent plan same is = let none : ⊥ = cc in absurd none
keeps_same (Live bytes attribute made moved) (Live now attribute_now created changed) plan same is =
    keeps_between bytes attribute plan
    (subst (λ (b : List ℕ). IsPlanBetween bytes attribute b attribute plan) (same_bytes bytes attribute now attribute_now same)
    (subst (λ (a : List ℕ). IsPlanBetween bytes attribute now a plan) (same_attribute bytes attribute now attribute_now same) is))

-- so what was restored is
again : (s later : State) (at : ℕ) (r : Restored) → LeavesPast s later → IsRestored s later at r → (plan : Plan) → IsPlan (version_of later r.aim.object at) (present later r.number) plan → plan ≡ Keep
again s later at r past is plan planned =
    let version : version_of later r.aim.object at ≡ version_of s r.aim.object at = past.versions r.aim.object at is.visible.reached in
    keeps_same (version_of later r.aim.object at) (present later r.number) plan (is.content ∙ ap content_of (sym version)) planned

pub does_nothing : (s later : State) (at : ℕ) (all : List Restored) → LeavesPast s later → AllByRecursion (IsRestored s later at) all
    → AllByRecursion (λ (r : Restored). (plan : Plan) → IsPlan (version_of later r.aim.object at) (present later r.number) plan → plan ≡ Keep) all
does_nothing s later at all past each =
    all_weaker (IsRestored s later at) (λ (r : Restored). (plan : Plan) → IsPlan (version_of later r.aim.object at) (present later r.number) plan → plan ≡ Keep) all (λ r is. again s later at r past is) each
