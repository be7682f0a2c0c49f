use Rattle.std.proofs.Common.{refl}
use Rattle.image_commands.proofs.Endings.{denied, ended, ending_of, other_front, stripped}
use Rattle.image_commands.proofs.beside.is_numbered.Goals as goal

pub returns-in-Some : goal.returns-in-Some
returns-in-Some c =
    let split = stripped c.args.front.now c.args.name.now c.in-Some.ending.now c.in-Some.ensures.cases in (
      (λ right. ended c.args.front.now c.args.name.now c.in-Some.ending.now split (rw c.as_bytes.ensures.value at (c.is_ending.ensures.0 right))),
      (λ is. c.is_ending.ensures.1 (rw c.as_bytes.ensures.value (ending_of c.args.front.now c.args.name.now c.in-Some.ending.now split is))),
    )

pub returns-in-None : goal.returns-in-None
returns-in-None c = denied _ refl (other_front c.args.front.now c.args.name.now c.in-None.ensures.cases)
