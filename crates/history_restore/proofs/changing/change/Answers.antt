use Rattle.std.proofs.Common.{◌≡◌, ◌∙◌, ◌≤◌, ◌++◌, ℕ, List, length, OnOk, Ok, Err, sym, subst}
use Rattle.std.proofs.lemmas.Result.{IfErr-weaker, err_from_is_err_and, on_ok_weaker}
use Rattle.s4_types.specs.declared.limits.TheConstants.{OBJECT_BYTES, ATTRIBUTE_BYTES}
use Rattle.s4_model.specs.Refusals.{present}
use Rattle.drive.specs.Fields.{state_in}
use Rattle.history_view.specs.Contents.{attribute_of, content_of as bytes_of}
use Rattle.history_restore.specs.Asking.{AsksFor}
use Rattle.history_restore.specs.Plans.{attribute_by, attribute_changes, cut_by, cut_changes, runs_by, runs_changes}
use Rattle.history_restore.specs.Content.{content_of}
use Rattle.history_restore.proofs.Contents.{changed_whole}
use Rattle.history_restore.proofs.Planned.{asked_front, asked_then}
use Rattle.history_restore.proofs.There.{there_after_cut, there_after_runs, bytes_fit, attribute_fits}
use Rattle.history_restore.proofs.changing.change.Goals as goal

pub returns-in_err-write_runs-clause-refused : goal.returns-in_err-write_runs-clause-refused
returns-in_err-write_runs-clause-refused g c =
    let p = err_from_is_err_and c.from_residual-in_err-write_runs.result c.from_residual-in_err-write_runs.ensures.1 in
    let o = c.args.object in
    let before = present (state_in c.args.drive.now) o in
    let after = present (state_in c.cut.new.drive) o in
    rw (p.1, p.2) (λ fits there. c.in_err-write_runs.ensures.refused (there_after_cut c.args.changes.cut o 0 before after c.in_ok-cut.ensures.content there)
    (subst (λ (b : List ℕ). length b ≤ OBJECT_BYTES) (sym c.content_of-bytes.ensures) (bytes_fit c.args.before.now fits)))

pub returns-clause-refused : goal.returns-clause-refused
returns-clause-refused g c =
    let o = c.args.object in
    let changes = c.args.changes in
    let runs = c.args.runs.now in
    let before = present (state_in c.args.drive.now) o in
    let middle = present (state_in c.cut.new.drive) o in
    let after = present (state_in c.write_runs.new.drive) o in
    IfErr-weaker c.set_attribute.result _ _
    (λ e left fits there. left (there_after_runs c.content_of-bytes.result.now runs o 0 middle after c.in_ok-write_runs.ensures.content (there_after_cut changes.cut o 0 before middle c.in_ok-cut.ensures.content there))
    (subst (λ (a : List ℕ). length a ≤ ATTRIBUTE_BYTES) (sym c.attribute_of-attribute.ensures) (attribute_fits c.args.before.now fits)))
    c.set_attribute.ensures.refused

pub returns-in_err-cut-clause-asked : goal.returns-in_err-cut-clause-asked
returns-in_err-cut-clause-asked g c =
    let p = err_from_is_err_and c.from_residual.result c.from_residual.ensures.1 in
    let o = c.args.object in
    let changes = c.args.changes in
    let runs = c.args.runs.now in
    let before = c.args.before.now in
    let rest = runs_changes o (bytes_of before) runs ++ attribute_changes o (attribute_of before) changes.attribute in
    rw (p.1, p.2) (asked_front (cut_changes o changes.cut) rest c.args.drive.now c.cut.new.drive c.args.now c.in_err-cut.field-0.0 c.in_err-cut.ensures.asked)

pub returns-in_err-write_runs-clause-asked : goal.returns-in_err-write_runs-clause-asked
returns-in_err-write_runs-clause-asked g c =
    let p = err_from_is_err_and c.from_residual-in_err-write_runs.result c.from_residual-in_err-write_runs.ensures.1 in
    let o = c.args.object in
    let changes = c.args.changes in
    let runs = c.args.runs.now in
    let before = c.args.before.now in
    let middle = c.cut.new.drive in
    let later = c.write_runs.new.drive in
    let e = c.in_err-write_runs.field-0.0 in
    let cut = cut_changes o changes.cut in
    let written = runs_changes o (bytes_of before) runs in
    let rest = attribute_changes o (attribute_of before) changes.attribute in
    rw (p.1, p.2) (asked_then (Err e) cut (written ++ rest) c.args.drive.now middle later c.args.now _ c.in_ok-cut.ensures.asked
    (asked_front written rest middle later c.args.now e (subst (λ (b : List ℕ). AsksFor middle c.args.now (runs_changes o b runs) (Err e) later) c.content_of-bytes.ensures c.in_err-write_runs.ensures.asked)))

pub returns-clause-asked : goal.returns-clause-asked
returns-clause-asked g c =
    let o = c.args.object in
    let now = c.args.now in
    let changes = c.args.changes in
    let runs = c.args.runs.now in
    let before = c.args.before.now in
    let first = c.cut.new.drive in
    let second = c.write_runs.new.drive in
    let later = c.set_attribute.new.drive in
    let answer = c.set_attribute.result in
    let cut = cut_changes o changes.cut in
    let written = runs_changes o (bytes_of before) runs in
    let rest = attribute_changes o (attribute_of before) changes.attribute in
    asked_then answer cut (written ++ rest) c.args.drive.now first later now _ c.in_ok-cut.ensures.asked
    (asked_then answer written rest first second later now _ (subst (λ (b : List ℕ). AsksFor first now (runs_changes o b runs) (Ok _) second) c.content_of-bytes.ensures c.in_ok-write_runs.ensures.asked)
    (subst (λ (a : List ℕ). AsksFor second now (attribute_changes o a changes.attribute) answer later) c.attribute_of-attribute.ensures c.set_attribute.ensures.asked))

pub returns-clause-content : goal.returns-clause-content
returns-clause-content g c =
    let o = c.args.object in
    let changes = c.args.changes in
    let runs = c.args.runs.now in
    let before = present (state_in c.args.drive.now) o in
    let middle = present (state_in c.cut.new.drive) o in
    let after = present (state_in c.write_runs.new.drive) o in
    let later = present (state_in c.set_attribute.new.drive) o in
    let bytes : List ℕ = c.content_of-bytes.result.now in
    let attribute : List ℕ = c.attribute_of-attribute.result.now in
    let r = c.set_attribute.result in
    subst (λ (a : List ℕ). OnOk r (content_of later ≡ content_of (attribute_by a changes.attribute o 0 (runs_by (bytes_of c.args.before.now) runs o 0 (cut_by changes.cut o 0 before))))) c.attribute_of-attribute.ensures
    (subst (λ (b : List ℕ). OnOk r (content_of later ≡ content_of (attribute_by attribute changes.attribute o 0 (runs_by b runs o 0 (cut_by changes.cut o 0 before))))) c.content_of-bytes.ensures
    (on_ok_weaker r (λ (done : content_of later ≡ content_of (attribute_by attribute changes.attribute o 0 after)). done ∙ changed_whole bytes attribute changes.cut runs changes.attribute o before middle after c.in_ok-cut.ensures.content c.in_ok-write_runs.ensures.content) c.set_attribute.ensures.content))
