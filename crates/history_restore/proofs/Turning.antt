-- A plan turns an object back.
use Rattle.std.proofs.Common.{◌≡◌, ◌≢◌, ◌∙◌, inl, inr, ◌-◌, ℕ, Bool, true, false, cond, List, [], ◌∷◌, length, Option, None, Some, refl, sym, ap, subst, arith}
use Rattle.std.specs.Prelude.{MatchBool}
use Rattle.s4_types.specs.declared.versions.Version.{Version}
use Rattle.s4_types.specs.declared.versions.Version.TheVariants.{Absent, Live}
use Rattle.history_view.specs.Contents.{content_of as bytes_of}
use Rattle.block_runs.specs.declared.running.Run.{Run}
use Rattle.block_runs.specs.Runs.{AreRuns, IsSized, is_put, runs_to, sized, written_over}
use Rattle.block_runs.proofs.Exact.{runs_are_exact}
use Rattle.block_runs.proofs.Cutting.{few_cut}
use Rattle.block_runs.proofs.Whole.{runs_are_whole}
use Rattle.s4_model.specs.Step.{part}
use Rattle.s4_model.specs.Effect.{written}
use Rattle.history_restore.specs.declared.plans.Changes.{Changes}
use Rattle.history_restore.specs.declared.plans.Plan.{Plan}
use Rattle.history_restore.specs.declared.plans.Plan.TheVariants.{Keep, Delete, Remake, Change}
use Rattle.history_restore.specs.Content.{content_of, holding}
use Rattle.history_restore.specs.Plans.{IsPlan, IsPlanBetween, IsRemade, IsChangesOf, AreWithin, IsCutWithin, IsWithinPlan, IsThereFor, turned, attribute_by, gap_of, is_joined, runs_by, runs_between, runs_planned, cut_by, number_by}
use Rattle.history_restore.specs.Restoring.{number_from}

-- the attribute after it was replaced, if that is planned, is what it was
renamed : (attribute now : List ℕ) (wanted : Bool) → MatchBool wanted (attribute ≢ now) (attribute ≡ now) → cond wanted attribute now ≡ attribute
renamed attribute now true is = refl
renamed attribute now false is = sym is

-- what runs make of a live version
runs_act : (bytes attribute content attribute_now : List ℕ) (created changed o moment : ℕ) (runs : List Run) (wanted : Bool)
    → content_of (attribute_by attribute wanted o moment (runs_by bytes runs o moment (Live content attribute_now created changed))) ≡ holding (written_over bytes runs content) (cond wanted attribute attribute_now)
runs_act bytes attribute content attribute_now created changed o moment [] true = refl
runs_act bytes attribute content attribute_now created changed o moment [] false = refl
runs_act bytes attribute content attribute_now created changed o moment (r ∷ rs) wanted =
    runs_act bytes attribute (written r.offset (part bytes r.offset (r.end - r.offset)) content) attribute_now created moment o moment rs wanted

-- what changes make of it
changes_act : (bytes attribute now attribute_now : List ℕ) (created changed o moment : ℕ) (cut : Option ℕ) (runs : List Run) (wanted : Bool)
    → content_of (attribute_by attribute wanted o moment (runs_by bytes runs o moment (cut_by cut o moment (Live now attribute_now created changed)))) ≡ holding (written_over bytes runs (sized cut now)) (cond wanted attribute attribute_now)
changes_act bytes attribute now attribute_now created changed o moment None runs wanted = runs_act bytes attribute now attribute_now created changed o moment runs wanted
changes_act bytes attribute now attribute_now created changed o moment (Some size) runs wanted = runs_act bytes attribute (sized (Some size) now) attribute_now created moment o moment runs wanted

-- changes turn a live object back
changes_turn : (bytes attribute now attribute_now : List ℕ) (created changed o moment : ℕ) (changes : Changes) → IsChangesOf bytes attribute now attribute_now changes
    → content_of (attribute_by attribute changes.attribute o moment (runs_by bytes (runs_to (gap_of changes.joined) bytes now) o moment (cut_by changes.cut o moment (Live now attribute_now created changed)))) ≡ holding bytes attribute
changes_turn bytes attribute now attribute_now created changed o moment changes is =
    changes_act bytes attribute now attribute_now created changed o moment changes.cut (runs_to (gap_of changes.joined) bytes now) changes.attribute
    ∙ ap (λ b. holding b (cond changes.attribute attribute attribute_now)) (runs_are_whole (gap_of changes.joined) bytes now changes.cut is.shorter)
    ∙ ap (holding bytes) (renamed attribute attribute_now changes.attribute is.replaced)

pub turns_back : (before now : Version) (plan : Plan) (o moment : ℕ) → IsPlan before now plan → content_of (turned before (runs_planned plan before now) plan o moment now) ≡ content_of before
turns_back Absent Absent plan o moment is = ap (λ p. content_of (turned Absent [] p o moment Absent)) is
turns_back Absent (Live now attribute_now created changed) plan o moment is = ap (λ p. content_of (turned Absent [] p o moment (Live now attribute_now created changed))) is
turns_back (Live bytes attribute made moved) Absent Keep o moment is = absurd is
turns_back (Live bytes attribute made moved) Absent Delete o moment is = absurd is
turns_back (Live bytes attribute made moved) Absent (Remake changes) o moment is = changes_turn bytes attribute [] attribute moment moment o moment changes is
turns_back (Live bytes attribute made moved) Absent (Change changes) o moment is = absurd is
turns_back (Live bytes attribute made moved) (Live now attribute_now created changed) Keep o moment is = ap (λ b. holding b attribute_now) (sym is.0) ∙ ap (holding bytes) (sym is.1)
turns_back (Live bytes attribute made moved) (Live now attribute_now created changed) Delete o moment is = absurd is
turns_back (Live bytes attribute made moved) (Live now attribute_now created changed) (Remake changes) o moment is = absurd is
turns_back (Live bytes attribute made moved) (Live now attribute_now created changed) (Change changes) o moment is = changes_turn bytes attribute now attribute_now created changed o moment changes is.0

-- what runs write is among the bytes that were
are_within : (d : ℕ → Bool) (gap : ℕ) (bytes : List ℕ) (i block : ℕ) (rs : List Run) → AreRuns d gap (length bytes) i block rs → AreWithin bytes rs
are_within d gap bytes i block [] are = tt
are_within d gap bytes i block (r ∷ rs) are = (are.0.some, are.0.within, are_within d gap bytes r.end _ rs are.1)

bytes_within : (gap : ℕ) (bytes now : List ℕ) → AreWithin bytes (runs_to gap bytes now)
bytes_within gap bytes now = are_within (is_put bytes now) gap bytes 0 0 (runs_to gap bytes now) (runs_are_exact gap bytes now)

pub runs_within : (gap : ℕ) (before now : Version) → AreWithin (bytes_of before) (runs_between gap before now)
runs_within gap before now = bytes_within gap (bytes_of before) (bytes_of now)

cut_within : (bytes now : List ℕ) (cut : Option ℕ) → IsSized bytes now cut → IsCutWithin bytes cut
cut_within bytes now None is = tt
cut_within bytes now (Some size) (inl is) = omega (arith, is.1, few_cut bytes now)
cut_within bytes now (Some size) (inr is) = omega (arith, is.2)

within_changes : (bytes attribute now attribute_now : List ℕ) (changes : Changes) → IsChangesOf bytes attribute now attribute_now changes → IsCutWithin bytes changes.cut × AreWithin bytes (runs_to (gap_of changes.joined) bytes now)
within_changes bytes attribute now attribute_now changes is = (cut_within bytes now changes.cut is.shorter, bytes_within (gap_of changes.joined) bytes now)

within_between : (bytes attribute now attribute_now : List ℕ) (plan : Plan) → IsPlanBetween bytes attribute now attribute_now plan → IsWithinPlan bytes (runs_to (gap_of (is_joined plan)) bytes now) plan
within_between bytes attribute now attribute_now Keep is = tt
within_between bytes attribute now attribute_now Delete is = tt
within_between bytes attribute now attribute_now (Remake changes) is = absurd is
within_between bytes attribute now attribute_now (Change changes) is = within_changes bytes attribute now attribute_now changes is.0

within_remade : (bytes attribute : List ℕ) (plan : Plan) → IsRemade bytes attribute plan → IsWithinPlan bytes (runs_to (gap_of (is_joined plan)) bytes []) plan
within_remade bytes attribute Keep is = absurd is
within_remade bytes attribute Delete is = absurd is
within_remade bytes attribute (Remake changes) is = within_changes bytes attribute [] attribute changes is
within_remade bytes attribute (Change changes) is = absurd is

pub within_plan : (before now : Version) (plan : Plan) → IsPlan before now plan → IsWithinPlan (bytes_of before) (runs_planned plan before now) plan
within_plan Absent Absent plan is = subst (IsWithinPlan [] []) (sym is) tt
within_plan Absent (Live now attribute_now created changed) plan is = subst (IsWithinPlan [] []) (sym is) tt
within_plan (Live bytes attribute made moved) Absent plan is = within_remade bytes attribute plan is
within_plan (Live bytes attribute made moved) (Live now attribute_now created changed) plan is = within_between bytes attribute now attribute_now plan is

-- what is deleted or changed is there
there_between : (bytes attribute now attribute_now : List ℕ) (created changed : ℕ) (plan : Plan) → IsPlanBetween bytes attribute now attribute_now plan → IsThereFor plan (Live now attribute_now created changed)
there_between bytes attribute now attribute_now created changed Keep is = tt
there_between bytes attribute now attribute_now created changed Delete is = refl
there_between bytes attribute now attribute_now created changed (Remake changes) is = tt
there_between bytes attribute now attribute_now created changed (Change changes) is = refl

pub there_for_plan : (before now : Version) (plan : Plan) → IsPlan before now plan → IsThereFor plan now
there_for_plan Absent Absent plan is = subst (λ p. IsThereFor p Absent) (sym is) tt
there_for_plan Absent (Live now attribute_now created changed) plan is = subst (λ p. IsThereFor p (Live now attribute_now created changed)) (sym is) refl
there_for_plan (Live bytes attribute made moved) Absent Keep is = tt
there_for_plan (Live bytes attribute made moved) Absent Delete is = absurd is
there_for_plan (Live bytes attribute made moved) Absent (Remake changes) is = tt
there_for_plan (Live bytes attribute made moved) Absent (Change changes) is = absurd is
there_for_plan (Live bytes attribute made moved) (Live now attribute_now created changed) plan is = there_between bytes attribute now attribute_now created changed plan is

-- the number that an object has afterwards
pub number_by_plan : (before now : Version) (plan : Plan) (next o : ℕ) → IsPlan before now plan → number_by plan next o ≡ number_from before now next o
number_by_plan Absent Absent plan next o is = ap (λ p. number_by p next o) is
number_by_plan Absent (Live now attribute_now created changed) plan next o is = ap (λ p. number_by p next o) is
number_by_plan (Live bytes attribute made moved) Absent Keep next o is = absurd is
number_by_plan (Live bytes attribute made moved) Absent Delete next o is = absurd is
number_by_plan (Live bytes attribute made moved) Absent (Remake changes) next o is = refl
number_by_plan (Live bytes attribute made moved) Absent (Change changes) next o is = absurd is
number_by_plan (Live bytes attribute made moved) (Live now attribute_now created changed) Keep next o is = refl
number_by_plan (Live bytes attribute made moved) (Live now attribute_now created changed) Delete next o is = absurd is
number_by_plan (Live bytes attribute made moved) (Live now attribute_now created changed) (Remake changes) next o is = absurd is
number_by_plan (Live bytes attribute made moved) (Live now attribute_now created changed) (Change changes) next o is = refl
