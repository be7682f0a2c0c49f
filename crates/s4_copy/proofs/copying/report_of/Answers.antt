use Rattle.std.proofs.Common.{Some}
use Rattle.image_parts.specs.Image.{image_in}
use Rattle.image_commands.proofs.Fronts.{unsplit_is_damaged}
use Rattle.s4_copy.proofs.copying.report_of.Goals as goal

-- what encodes an image has parts
pub unreachable-requires : goal.unreachable-requires
unreachable-requires c =
    let bytes = c.args.new.now in
    c.what_has_a_fault_spells_nothing.ensures bytes _ (image_in bytes) (unsplit_is_damaged (Some bytes) _ c.in_default.ensures.damaged) c.requires.spelled
