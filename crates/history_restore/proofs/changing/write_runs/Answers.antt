use Rattle.std.proofs.Common.{◌≡◌, ◌∙◌, ◌+◌, ◌<◌, ℕ, List, [], ◌∷◌, ◌++◌, length, take, drop, get_or, Ok, Err, sym, subst}
use Rattle.std.proofs.lemmas.List.{take_more}
use Rattle.std.proofs.lemmas.Result.{err_from_is_err_and}
use Rattle.s4_types.specs.declared.changes.Change.{Change}
use Rattle.s4_model.specs.Refusals.{present}
use Rattle.drive.specs.Fields.{state_in}
use Rattle.block_runs.specs.declared.running.Run.{Run}
use Rattle.history_restore.specs.Asking.{AsksFor}
use Rattle.history_restore.specs.Content.{content_of}
use Rattle.history_restore.specs.Plans.{runs_by, runs_changes}
use Rattle.history_restore.proofs.Chained.{others_on, past_on}
use Rattle.history_restore.proofs.Contents.{run_more, run_within, runs_changes_more, runs_changes_split}
use Rattle.history_restore.proofs.Planned.{asked_front, asked_ok, asked_then}
use Rattle.history_restore.proofs.There.{there_after_runs}
use Rattle.history_restore.proofs.changing.write_runs.Goals as goal

pub write_run-requires : goal.write_run-requires
write_run-requires g c =
    let within = run_within c.args.bytes.now c.args.runs.now c.loop-run.run-index (record { offset = 0; end = 0 }) c.requires c.loop-run-test.true in
    (within.0, within.1, tt)

pub returns-in_err-write_run-clause-refused : goal.returns-in_err-write_run-clause-refused
returns-in_err-write_run-clause-refused g c =
    let p = err_from_is_err_and c.from_residual.result c.from_residual.ensures.1 in
    let o = c.args.object in
    let before = present (state_in c.args.drive.now) o in
    let middle = present (state_in c.loop-run.drive) o in
    rw (p.1, p.2) (λ there fits. c.in_err-write_run.ensures.refused (there_after_runs c.args.bytes.now (take c.loop-run.run-index c.args.runs.now) o 0 before middle c.loop-run.invariant.content there) fits)

pub returns-in_err-write_run-clause-asked : goal.returns-in_err-write_run-clause-asked
returns-in_err-write_run-clause-asked g c =
    let p = err_from_is_err_and c.from_residual.result c.from_residual.ensures.1 in
    let o = c.args.object in
    let bytes = c.args.bytes.now in
    let runs = c.args.runs.now in
    let i = c.loop-run.run-index in
    let d : Run = record { offset = 0; end = 0 } in
    let e = c.in_err-write_run.field-0.0 in
    let first = c.args.drive.now in
    let middle = c.loop-run.drive in
    let later = c.write_run.new.drive in
    let front = runs_changes o bytes (take i runs) in
    let own = runs_changes o bytes (get_or runs i d ∷ []) in
    let rest = runs_changes o bytes (drop (i + 1) runs) in
    rw (p.1, p.2) (subst (λ (cs : List Change). AsksFor {T = Unit {0}} first c.args.now cs (Err e) later) (runs_changes_split o bytes runs i d c.loop-run-test.true)
    (asked_then (Err e) front (own ++ rest) first middle later c.args.now 0 c.loop-run.invariant.asked (asked_front own rest middle later c.args.now e c.in_err-write_run.ensures.asked)))

pub loop-run-preserved : goal.loop-run-preserved
loop-run-preserved g c =
    let o = c.args.object in
    let bytes = c.args.bytes.now in
    let runs = c.args.runs.now in
    let i = c.loop-run.run-index in
    let d : Run = record { offset = 0; end = 0 } in
    let first = c.args.drive.now in
    let middle = c.loop-run.drive in
    let later = c.write_run.new.drive in
    let before = c.loop-run.invariant in
    let less : i < length runs = c.loop-run-test.true in
    let more : take (i + 1) runs ≡ take i runs ++ get_or runs i d ∷ [] = take_more runs i d less in
    record {
      content = subst (λ (rs : List Run). content_of (present (state_in later) o) ≡ content_of (runs_by bytes rs o 0 (present (state_in first) o))) (sym more)
          (run_more bytes (take i runs) (get_or runs i d) o (present (state_in first) o) (present (state_in middle) o) (present (state_in later) o) before.content c.in_ok-write_run.ensures.content);
      next = c.in_ok-write_run.ensures.next ∙ before.next;
      asked = subst (λ (cs : List Change). AsksFor {T = ℕ} first c.args.now cs (Ok 0) later) (sym (runs_changes_more o bytes runs i d less))
          (asked_then (Ok 0) (runs_changes o bytes (take i runs)) (runs_changes o bytes (get_or runs i d ∷ [])) first middle later c.args.now 0 before.asked (asked_ok middle later c.args.now _ _ 0 c.in_ok-write_run.ensures.asked));
      others = others_on o (state_in first) (state_in middle) (state_in later) before.others c.write_run.ensures.others;
      past = past_on (state_in first) (state_in middle) (state_in later) before.past c.write_run.ensures.past;
    }
