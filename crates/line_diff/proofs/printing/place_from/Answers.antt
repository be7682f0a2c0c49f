use Rattle.std.proofs.Common.{ℕ, map, ap₂, arith}
use Rattle.std.proofs.lemmas.List.{length-map}
use Rattle.line_diff.specs.Script.{row_of}
use Rattle.line_diff.proofs.PlaceCounts.{old_within, new_within, old_moved, new_moved}
use Rattle.line_diff.proofs.printing.place_from.Goals as goal

pub overflow_add-result : goal.overflow_add-result
overflow_add-result c =
    let rows = c.args.rows.now in
    let sum = old_moved rows c.args.place c.args.from c.args.to c.lines_in-between.result.old c.requires.ordered c.requires.place c.lines_in-between.ensures.old in
    let within = old_within (map row_of rows) c.args.to (omega (arith, c.requires.within, length-map rows row_of)) in
    omega (arith, sum, within, c.ranges.to.fits)

pub overflow_add-result-2 : goal.overflow_add-result-2
overflow_add-result-2 c =
    let rows = c.args.rows.now in
    let sum = new_moved rows c.args.place c.args.from c.args.to c.lines_in-between.result.new c.requires.ordered c.requires.place c.lines_in-between.ensures.new in
    let within = new_within (map row_of rows) c.args.to (omega (arith, c.requires.within, length-map rows row_of)) in
    omega (arith, sum, within, c.ranges.to.fits)

pub returns : goal.returns
returns c =
    let rows = c.args.rows.now in
    ap₂ (λ (x y : ℕ). record { old = x; new = y }) (old_moved rows c.args.place c.args.from c.args.to c.lines_in-between.result.old c.requires.ordered c.requires.place c.lines_in-between.ensures.old)
    (new_moved rows c.args.place c.args.from c.args.to c.lines_in-between.result.new c.requires.ordered c.requires.place c.lines_in-between.ensures.new)
