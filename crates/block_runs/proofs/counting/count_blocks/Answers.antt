use Rattle.std.proofs.Common.{◌≡◌, ◌∙◌, ◌+◌, ◌<◌, length, take, get_or, ap, arith}
use Rattle.std.proofs.lemmas.List.{take_more}
use Rattle.block_runs.specs.declared.running.Run.{Run}
use Rattle.block_runs.specs.Blocks.{blocks_in, blocks_in_all}
use Rattle.block_runs.proofs.Blocks.{blocks_more}
use Rattle.block_runs.proofs.counting.count_blocks.Goals as goal

pub loop-run-preserved : goal.loop-run-preserved
loop-run-preserved c =
    let runs = c.args.runs.now in
    let i = c.loop-run.run-index in
    let d : Run = record { offset = 0; end = 0 } in
    let r : Run = get_or runs i d in
    let lt : i < length runs = omega arith in
    let more : blocks_in_all (take (i + 1) runs) ≡ blocks_in_all (take i runs) + blocks_in r =
    ap blocks_in_all (take_more runs i d lt) ∙ blocks_more (take i runs) r in
    omega (arith, more, c.loop-run.invariant, c.blocks_in.ensures.blocks, c.saturating_add-count.ensures)
