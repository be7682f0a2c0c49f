-- How many changes a plan has, and plans one after the other.
use Rattle.std.proofs.Common.{◌≡◌, ◌∙◌, ◌+◌, ℕ, suc, Bool, true, false, List, [], ◌∷◌, ◌++◌, length, Option, None, Some, cond, inl, inr, refl, sym, ap, subst, arith}
use Rattle.std.specs.Prelude.{if◌then◌else◌, nat_lt}
use Rattle.std.proofs.lemmas.Bool.{true≢false}
use Rattle.std.proofs.lemmas.Option.{none-some, same_Some}
use Rattle.std.proofs.lemmas.List.{length-append}
use Rattle.s4_types.specs.declared.refusals.Refusal.{Refusal}
use Rattle.s4_types.specs.declared.refusals.Refusal.TheVariants.{Future, Expired, Flushed}
use Rattle.s4_types.specs.declared.versions.Version.{Version}
use Rattle.s4_types.specs.declared.versions.Version.TheVariants.{Absent, Live}
use Rattle.s4_model.specs.State.{State}
use Rattle.s4_model.specs.Visible.{is_hidden}
use Rattle.block_runs.specs.declared.running.Run.{Run}
use Rattle.block_runs.specs.Runs.{runs_to}
use Rattle.history_restore.specs.declared.plans.Plan.{Plan}
use Rattle.history_restore.specs.declared.plans.Plan.TheVariants.{Keep, Delete, Remake, Change}
use Rattle.history_restore.specs.declared.restoring.Restored.{Restored}
use Rattle.history_restore.specs.Asking.{IsMovedBy, clock_by, is_of_room}
use Rattle.history_restore.proofs.Moving.{clock_by_more}
use Rattle.history_restore.specs.Keeping.{IsDatedFrom}
use Rattle.history_restore.specs.Plans.{IsPlan, attribute_changes, change_count, changes_by, changes_of, count_of, count_of_changes, cut_changes, gap_of, next_by_plan, runs_changes, runs_planned}
use Rattle.history_restore.specs.Restoring.{IsUnread}
use Rattle.history_restore.specs.Whole.{IsCounted, changes_of_all, made_anew}

-- ---- a plan

count_runs : (o : ℕ) (bytes : List ℕ) (rs : List Run) → length (runs_changes o bytes rs) ≡ length rs
count_runs o bytes [] = refl
count_runs o bytes (r ∷ rs) = ap suc (count_runs o bytes rs)

count_cut : (o : ℕ) (cut : Option ℕ) → length (cut_changes o cut) ≡ count_of cut
count_cut o None = refl
count_cut o (Some n) = refl

count_attribute : (o : ℕ) (attribute : List ℕ) (wanted : Bool) → length (attribute_changes o attribute wanted) ≡ (if wanted then 1 else 0)
count_attribute o attribute true = refl
count_attribute o attribute false = refl

count_changed : (o : ℕ) (bytes attribute : List ℕ) (cut : Option ℕ) (rs : List Run) (writes : ℕ) (wanted : Bool) → writes ≡ length rs
    → length (cut_changes o cut ++ (runs_changes o bytes rs ++ attribute_changes o attribute wanted)) ≡ count_of cut + (writes + (if wanted then 1 else 0))
count_changed o bytes attribute cut rs writes wanted is =
    let cuts = cut_changes o cut in
    let written = runs_changes o bytes rs in
    let named = attribute_changes o attribute wanted in
    omega (arith, length-append cuts (written ++ named), length-append written named, count_cut o cut, count_runs o bytes rs, count_attribute o attribute wanted)

pub counts_changes : (before now : Version) (plan : Plan) (next o : ℕ) → IsPlan before now plan → length (changes_by before (runs_planned plan before now) plan next o) ≡ change_count plan
counts_changes Absent Absent plan next o is = subst (λ (p : Plan). length (changes_by Absent [] p next o) ≡ change_count p) (sym is) refl
counts_changes Absent (Live now attribute_now created changed) plan next o is = subst (λ (p : Plan). length (changes_by Absent [] p next o) ≡ change_count p) (sym is) refl
counts_changes (Live bytes attribute created changed) Absent Keep next o is = absurd is
counts_changes (Live bytes attribute created changed) Absent Delete next o is = absurd is
counts_changes (Live bytes attribute created changed) Absent (Remake changes) next o is =
    let own : length (changes_of (Live bytes attribute created changed) (runs_to (gap_of changes.joined) bytes []) changes next) ≡ count_of_changes changes = count_changed next bytes attribute changes.cut (runs_to (gap_of changes.joined) bytes []) changes.writes changes.attribute is.rewritten in
    omega (arith, own)
counts_changes (Live bytes attribute created changed) Absent (Change changes) next o is = absurd is
counts_changes (Live bytes attribute created changed) (Live now attribute_now created_now changed_now) Keep next o is = refl
counts_changes (Live bytes attribute created changed) (Live now attribute_now created_now changed_now) Delete next o is = absurd is
counts_changes (Live bytes attribute created changed) (Live now attribute_now created_now changed_now) (Remake changes) next o is = absurd is
counts_changes (Live bytes attribute created changed) (Live now attribute_now created_now changed_now) (Change changes) next o is = count_changed o bytes attribute changes.cut (runs_to (gap_of changes.joined) bytes now) changes.writes changes.attribute is.0.rewritten

-- ---- what isn't read isn't for a full journal or a lack of blocks

tests_are_others : (a b c : Bool) (e : Refusal) → cond a (Some Future) (cond b (Some Expired) (cond c (Some Flushed) None)) ≡ Some e → is_of_room e ≡ true → ⊥
tests_are_others true b c e is of = true≢false (sym of ∙ ap is_of_room (sym (same_Some Future e is)))
tests_are_others false true c e is of = true≢false (sym of ∙ ap is_of_room (sym (same_Some Expired e is)))
tests_are_others false false true e is of = true≢false (sym of ∙ ap is_of_room (sym (same_Some Flushed e is)))
tests_are_others false false false e is of = none-some e is

pub unread_is_other : (s : State) (o at : ℕ) (e : Refusal) → IsUnread s o at e → is_of_room e ≡ true → ⊥
unread_is_other s o at e (inl is) of = tests_are_others (nat_lt s.clock at) (nat_lt at s.floor) (is_hidden s o at) e is of
unread_is_other s o at e (inr (inl is)) of = true≢false (sym of ∙ ap is_of_room is)
unread_is_other s o at e (inr (inr is)) of = true≢false (sym of ∙ ap is_of_room is)

-- ---- plans

pub counted_none : (s : State) (now : ℕ) → IsCounted s s now []
counted_none s now = record { next = omega arith; moved = refl; dated = λ o t before. refl }

next_plus : (plan : Plan) (n : ℕ) → next_by_plan plan n ≡ n + next_by_plan plan 0
next_plus Keep n = omega arith
next_plus Delete n = omega arith
next_plus (Remake changes) n = omega arith
next_plus (Change changes) n = omega arith

made_push : (all : List Restored) (r : Restored) → made_anew (all ++ r ∷ []) ≡ made_anew all + next_by_plan r.plan 0
made_push [] r = omega arith
made_push (q ∷ all) r = omega (arith, made_push all r)

changes_push : (all : List Restored) (r : Restored) → changes_of_all (all ++ r ∷ []) ≡ changes_of_all all + change_count r.plan
changes_push [] r = omega arith
changes_push (q ∷ all) r = omega (arith, changes_push all r)

pub counted_more : (s middle later : State) (now : ℕ) (all : List Restored) (r : Restored) → IsCounted s middle now all → later.next ≡ next_by_plan r.plan middle.next
    → IsMovedBy middle now (change_count r.plan) later → IsDatedFrom now middle later → IsCounted s later now (all ++ r ∷ [])
counted_more s middle later now all r before next moved dated = record {
  next = omega (arith, next, next_plus r.plan middle.next, before.next, made_push all r);
  moved = moved ∙ ap (λ c. clock_by c now (change_count r.plan)) before.moved ∙ clock_by_more (changes_of_all all) (change_count r.plan) s.clock now ∙ ap (clock_by s.clock now) (sym (changes_push all r));
  dated = λ o t earlier. dated o t earlier ∙ before.dated o t earlier;
}
