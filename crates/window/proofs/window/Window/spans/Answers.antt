use Rattle.std.proofs.Common.{refl}
use Rattle.window.specs.Chunks.{flat}
use Rattle.window.specs.Timeline.{Timeline}
use Rattle.window.proofs.Saving.{all_saved, saved_clauses}
use Rattle.window.proofs.window.Window.spans.Goals as goal

pub returns : goal.returns
returns c =
    let w : Timeline = record { clock = c.self.inside.clock; window = c.self.inside.window; floor = c.self.inside.floor; runs = flat c.self.inside.chunks.items; chunks = c.self.inside.chunks.items } in
    let clauses = saved_clauses c.args.self.now c.cut_runs.result
    (all_saved c.args.self.now w c.self.inside.earliest c.self.inside.count c.as_slice.result.now c.cut_runs.result c.self.invariant refl c.self.view_is c.as_slice.ensures.value c.cut_runs.ensures.ok) in
    record {
      exact = clauses.0;
      ordered = clauses.1;
      from_floor = clauses.2;
      past = clauses.3;
      numbered = clauses.4;
      few = clauses.5;
      few_in_each_list = clauses.6;
      alike = clauses.7;
      given = clauses.8;
      refusal = c.cut_runs.ensures.err;
    }
