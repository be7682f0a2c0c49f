use Rattle.std.proofs.Common.{◌≡◌, ◌∙◌, ◌+◌, ◌<◌, length, take, get_or, sum, ap, arith}
use Rattle.std.proofs.lemmas.List.{take_more}
use Rattle.block_runs.specs.declared.running.Run.{Run}
use Rattle.block_runs.specs.Blocks.{blocks_in}
use Rattle.undo_redo.specs.Sizes.{entry_sizes}
use Rattle.history_restore.specs.Joining.{run_bytes}
use Rattle.history_restore.proofs.Costing.{run_bytes_more}
use Rattle.history_restore.proofs.costs.run_bytes.Goals as goal

pub loop-run-preserved : goal.loop-run-preserved
loop-run-preserved c =
    let runs = c.args.runs.now in
    let i = c.loop-run.run-index in
    let d : Run = record { offset = 0; end = 0 } in
    let r : Run = get_or runs i d in
    let lt : i < length runs = omega arith in
    let more : run_bytes (take (i + 1) runs) ≡ run_bytes (take i runs) + sum (entry_sizes (blocks_in r) 0) =
    ap run_bytes (take_more runs i d lt) ∙ run_bytes_more (take i runs) r in
    let one : c.size_of.result ≡ sum (entry_sizes (blocks_in r) 0) = c.size_of.ensures ∙ ap (λ n. sum (entry_sizes n 0)) c.blocks_in.ensures.blocks in
    omega (arith, more, one, c.loop-run.invariant, c.saturating_add-bytes.ensures)
