use Rattle.std.proofs.Common.{ℕ, sym, subst, ◌∙◌, arith}
use Rattle.block_log.specs.Taken.{TakesPlaces}
use Rattle.checkpoint.proofs.Counted.{no_blocks, one_block}
use Rattle.checkpoint.proofs.calls.write_part.Goals as goal

pub returns-in_err-block-clause-takes : goal.returns-in_err-block-clause-takes
returns-in_err-block-clause-takes g c =
    subst (λ (n : ℕ). TakesPlaces n (g.B.Blocks.log c.args.table.now) (g.B.Blocks.log c.args.table.now)) (sym (no_blocks c.args.checkpoint.now c.args.part (sym c.pointer_block.ensures ∙ c.in_err-block.was))) (g.met.B.Blocks.no_change_takes_no_place (g.B.Blocks.log c.args.table.now))

pub unreachable-requires : goal.unreachable-requires
unreachable-requires g c =
    let one = one_block c.args.checkpoint.now c.args.part c.in_ok-block.block (sym c.pointer_block.ensures ∙ c.in_ok-block.was) in omega (arith, one, c.requires.room, c.in_default.ensures.full.1.0)

pub returns-clause-takes : goal.returns-clause-takes
returns-clause-takes g c =
    let one = one_block c.args.checkpoint.now c.args.part c.in_ok-block.block (sym c.pointer_block.ensures ∙ c.in_ok-block.was) in subst (λ (n : ℕ). TakesPlaces n (g.B.Blocks.log c.args.table.now) (g.B.Blocks.log c.append.new.self)) (sym one) (g.met.B.Blocks.an_append_takes_one_place (g.B.Blocks.log c.args.table.now) (g.B.Blocks.log c.append.new.self) _ c.in-Ok.place c.in-Ok.ensures.appended)
