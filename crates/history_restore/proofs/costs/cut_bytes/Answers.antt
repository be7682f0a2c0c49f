use Rattle.std.proofs.Common.{◌≡◌, ◌∙◌, ◌+◌, ℕ, Option, sum, sym, ap, arith}
use Rattle.inode.specs.Touched.{cut_count}
use Rattle.undo_redo.specs.Sizes.{entry_sizes}
use Rattle.version_store.specs.Costs.{past_count}
use Rattle.history_restore.specs.Joining.{entry_bytes}
use Rattle.history_restore.specs.Plans.{cut_changes}
use Rattle.history_restore.proofs.Costing.{cut_takes}
use Rattle.history_restore.proofs.costs.cut_bytes.Goals as goal

pub returns-in-Some : goal.returns-in-Some
returns-in-Some c = λ o.
    let i = c.args.inode.now in
    let size = c.in-Some.size in
    let count : c.blocks_past.result + c.blocks_cut.result ≡ past_count i size + cut_count i size = omega (arith, c.blocks_past.ensures.exact, c.blocks_cut.ensures.exact) in
    c.size_of.ensures ∙ ap (λ n. sum (entry_sizes n 0)) count ∙ cut_takes o size i ∙ ap (λ (cut : Option ℕ). entry_bytes (cut_changes o cut) i) (sym c.in-Some.is)
