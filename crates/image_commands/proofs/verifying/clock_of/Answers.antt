use Rattle.std.proofs.Common.{◌≡◌}
use Rattle.s4_types.specs.declared.refusals.Refusal.TheVariants.{Damaged}
use Rattle.image_commands.proofs.Fronts.{refused_truly}
use Rattle.image_commands.proofs.verifying.clock_of.Goals as goal

pub returns-in-Err-Damaged : goal.returns-in-Err-Damaged
returns-in-Err-Damaged g c =
    let cause = c.in-Err-Damaged.field-0-0 in
    let refused : c.in-Err-Damaged.field-0 ≡ Damaged cause = cc in
    record { clock = λ known same. (cause, refused_truly known c.args.bytes.now c.in-Err-Damaged.field-0 cause same c.in-Err-Damaged.ensures.damaged refused) }
