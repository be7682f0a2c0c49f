use Rattle.std.proofs.Common.{◌≡◌, ◌+◌, List, [], ◌∷◌, ◌++◌, arith, rules, subst, sym, take}
use Rattle.std.specs.List.{AllZip}
use Rattle.std.proofs.lemmas.List.{take_all}
use Rattle.s4serve_command.specs.declared.doors.Door.{Door as AskedDoor}
use Rattle.s4serve.specs.Doors.{ReadsDoor}
use Rattle.s4serve.proofs.DoorLemmas.{inputs_more}
use Rattle.s4serve.proofs.starting.open_inputs.Goals as goal

pub returns : goal.returns
returns g c = record {
  inputs = subst (λ (l : List AskedDoor). AllZip (ReadsDoor g.D.Fifos.reads) l c.loop-door.inputs.items) (take_all c.loop-door.door-index c.args.asked.now (omega arith)) c.loop-door.invariant.inputs;
}

-- what is read at one door more
pub loop-door-preserved : goal.loop-door-preserved
loop-door-preserved g c =
    let pushed : c.push.new.self.items ≡ c.loop-door.inputs.items ++ c.in_ok-input.input ∷ [] = search rules in
    record {
      inputs = subst (λ l. AllZip (ReadsDoor g.D.Fifos.reads) (take (c.loop-door.door-index + 1) c.args.asked.now) l) (sym pushed)
          (inputs_more (ReadsDoor g.D.Fifos.reads) c.args.asked.now c.loop-door.door-index _ c.loop-door.inputs.items c.in_ok-input.input c.loop-door-test.true c.loop-door.invariant.inputs c.in_ok-input.ensures);
    }
