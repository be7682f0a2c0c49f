use Rattle.std.proofs.Common.{rules, ◌≡◌, refl}
use Rattle.s4_copy.proofs.reports.report_value.Goals as goal

pub returns : goal.returns
returns c =
    let frames-is : c.from.result ≡ c.args.report.now.frames = search rules in
    let objects-is : c.from-2.result ≡ c.args.report.now.objects = search rules in
    let left-is : c.from-3.result ≡ c.args.report.now.left_out = search rules in
    let frames = c.with_number-made.ensures _ _ c.no_members.ensures frames-is in
    let objects = c.with_number-made-2.ensures _ _ frames objects-is in
    let left_out = c.with_number-made-3.ensures _ _ objects left-is in
    c.object_of.ensures _ (c.with_number.ensures _ _ left_out refl)
