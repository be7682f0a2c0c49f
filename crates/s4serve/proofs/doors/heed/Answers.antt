use Rattle.std.proofs.Common.{ℕ, subst, sym}
use Rattle.s4_types.specs.declared.requests.Role.{Role}
use Rattle.s4serve.specs.Doors.{HasRole}
use Rattle.s4serve.specs.Heard.{IsOfDoor}
use Rattle.s4serve.specs.declared.heard.Said.{Said}
use Rattle.s4serve.proofs.DoorLemmas.{own_role}
use Rattle.s4serve.proofs.doors.heed.Goals as goal

-- a line waits for who serves its own door
pub put-requires : goal.put-requires
put-requires g c =
    let at = subst (λ (said : Said ℕ). IsOfDoor g.J.Serving.doors c.args.door.now said) c.in-Session.is c.requires.door in
    record {
      role = subst (λ (role : Role). HasRole g.J.Serving.doors c.in-Session.line.door role) (sym c.role.ensures) (own_role g.J.Serving.doors c.in-Session.line.door c.args.door.now at);
    }
