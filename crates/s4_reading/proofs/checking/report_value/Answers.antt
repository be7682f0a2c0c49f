use Rattle.std.proofs.Common.{rules, ◌≡◌, refl}
use Rattle.s4_reading.proofs.checking.report_value.Goals as goal

pub returns : goal.returns
returns c =
    let digest-is : c.as_slice.result.now ≡ c.args.report.now.digest = search rules in
    let versions = c.with_number-made.ensures _ _ c.no_members.ensures refl in
    let digest = c.with_hex-made.ensures _ _ versions digest-is in
    c.object_of.ensures _ (c.with_number.ensures _ _ digest refl)
