use Rattle.std.proofs.Common.{ℕ, List, arith, subst, sym}
use Rattle.std.specs.List.{AllZip}
use Rattle.std.proofs.lemmas.List.{take_all}
use Rattle.std.proofs.lemmas.Slice.Zip.{AllZip-long}
use Rattle.s4serve.specs.Doors.{DoorFields, IsReadAt, ReadsAt}
use Rattle.s4serve.proofs.DoorLemmas.{next_input}
use Rattle.s4serve.proofs.spawning.Starting.watch_doors.Goals as goal

-- each door has one
pub loop-input-init : goal.loop-input-init
loop-input-init g c =
    let long = AllZip-long (ReadsAt g.D.Fifos.reads) g.J.Serving.doors c.args.inputs.items c.requires.inputs in
    record {
      inputs = subst (λ (l : List DoorFields). AllZip (ReadsAt g.D.Fifos.reads) l c.args.inputs.items) (sym (take_all _ g.J.Serving.doors (omega (arith, long)))) c.requires.inputs;
    }

-- the last of them is its door's
pub start-requires-clause-own : goal.start-requires-clause-own
start-requires-clause-own g c =
    let next = next_input (ReadsAt g.D.Fifos.reads) g.J.Serving.doors c.loop-input.inputs.items c.pop.new.self.items c.pop.result c.in-Some.input c.pop.ensures.items c.in-Some.is c.loop-input.invariant.inputs in
    λ lifetimes outlives. subst (λ (n : ℕ). IsReadAt g.D.Fifos.reads g.J.Serving.doors n c.in-Some.input) (omega (arith, c.pop.new.self.ok.0)) (next.1, next.2)

pub loop-input-preserved : goal.loop-input-preserved
loop-input-preserved g c = record {
  inputs = (next_input (ReadsAt g.D.Fifos.reads) g.J.Serving.doors c.loop-input.inputs.items c.pop.new.self.items c.pop.result c.in-Some.input c.pop.ensures.items c.in-Some.is c.loop-input.invariant.inputs).0;
}
