use Rattle.std.proofs.Common.{sym, subst}
use Rattle.image_commands.specs.Files.{AreKnown}
use Rattle.image_commands.proofs.Fronts.{refused_so}
use Rattle.image_commands.proofs.verifying.read_image.Goals as goal

pub returns-clause-fault : goal.returns-clause-fault
returns-clause-fault g c =
    let known = g.F.Files.contents c.args.files.now c.args.path.now in
    let same : AreKnown known c.as_slice.result.now = subst (AreKnown known) (sym c.as_slice.ensures.value) c.in-Ok.ensures.bytes in
    refused_so known c.as_slice.result.now c.in-Err-verify.refusal same c.in-Err-verify.ensures.damaged
