use Rattle.std.proofs.Common.{◌≡◌, ◌+◌, ap, sym, ◌∙◌, arith}
use Rattle.s4_types.specs.declared.limits.TheConstants.{RUNS_IN_ALL}
use Rattle.s4_model.specs.Runs.{is_covered, run_count, run_count_of_all}
use Rattle.s4_model.proofs.RunLemmas.{run_count_of_all-step, too_many_so_far}
use Rattle.s4_model.proofs.runs.are_too_many.Goals as goal

pub returns-then-count-total-clause-ok : goal.returns-then-count-total-clause-ok
returns-then-count-total-clause-ok c = λ clock ends.
    let count : c.in_ok-count.count ≡ run_count (is_covered c.args.floor c.args.spans.now c.loop-list.list) clock = c.in_ok-count.ensures.ok clock ends ∙ ap (λ list. run_count (is_covered c.args.floor c.args.spans.now list) clock) c.new.ensures in
    too_many_so_far c.args.floor clock c.loop-list.list c.args.next c.loop-list.total c.in_ok-count.count RUNS_IN_ALL c.args.spans.now (omega arith) (omega arith) (c.loop-list.invariant.1 clock ends) count

pub loop-list-preserved : goal.loop-list-preserved
loop-list-preserved c = (
  omega arith,
  λ clock ends.
      let count : c.in_ok-count.count ≡ run_count (is_covered c.args.floor c.args.spans.now c.loop-list.list) clock = c.in_ok-count.ensures.ok clock ends ∙ ap (λ list. run_count (is_covered c.args.floor c.args.spans.now list) clock) c.new.ensures in
      let total : c.loop-list.total ≡ run_count_of_all c.args.floor c.args.spans.now clock c.loop-list.list = c.loop-list.invariant.1 clock ends in
      ap (λ n. n + c.in_ok-count.count) total ∙ ap (λ n. run_count_of_all c.args.floor c.args.spans.now clock c.loop-list.list + n) count ∙ sym (run_count_of_all-step c.args.floor clock c.loop-list.list c.args.spans.now),
)
