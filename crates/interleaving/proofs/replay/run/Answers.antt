use Rattle.std.proofs.Common.{List, [], refl, sym, subst, ◌∙◌, arith}
use Rattle.std.proofs.lemmas.Grind.{common_steps}
use Rattle.std.proofs.lemmas.List.{map-id}
use Rattle.std.proofs.lemmas.Iterator.Adapters.{YieldsList-from_vec}
use Rattle.std.proofs.lemmas.Iterator.Consumers.{YieldsList-end}
use Rattle.interleaving.specs.declared.answers.Answer.{Answer}
use Rattle.interleaving.specs.declared.steps.Step.{Step}
use Rattle.interleaving.specs.Running.{Run, Stands}
use Rattle.interleaving.proofs.Runs.{run_on}
use Rattle.interleaving.proofs.Retold.{told_whole}
use Rattle.interleaving.proofs.Past.{kept_by_clients}
use Rattle.interleaving.proofs.replay.run.Goals as goal

pub loop-step-preserved : goal.loop-step-preserved
loop-step-preserved g c =
    let kept = c.rules-in-loop-step.ensures in
    let stands : Stands g.J.Naming.base g.J.Naming.frames c.take_step-answer.new.drive = record {
      decodes = kept.decodes;
      base = kept.base;
      table = kept.frames.table;
      sound = kept.sound;
      store = kept.store;
      past = kept.past;
      whole = kept.frames.whole;
    } in
    record {
      run = run_on g.C.Cleans.cleans g.M.Moves.commits g.J.Naming.base g.J.Naming.frames c.loop-step.yielded c.loop-step.answers.items c.push_reserved.new.self.items c.args.drive.now c.loop-step.drive c.take_step-answer.new.drive
          c.args.actors.now c.loop-step.actors c.take_step-answer.new.actors c.in-Some.step c.take_step-answer.result c.push_reserved.ensures.items c.loop-step.invariant.run c.take_step-answer.ensures stands;
      counted = grind (arith, common_steps);
      room = grind arith;
    }

pub returns-clause-model : goal.returns-clause-model
returns-clause-model g c =
    let made = c.into_iter-step-iterator.ensures.into_iter_gives in
    let road = YieldsList-from_vec {s = c.into_iter-step-iterator.result} c.in_ok-todo.todo.items made.0 (made.1 ∙ c.in_ok-todo.todo.ok.0) in
    let whole = YieldsList-end road c.loop-step.yielded c.loop-step.step-iterator c.loop-step.yielded_by c.next.result c.next.new.self c.in-None.is c.next.ensures.steps in
    told_whole g.C.Cleans.cleans g.M.Moves.commits g.J.Naming.base g.J.Naming.frames c.loop-step.yielded c.in_ok-todo.todo.items c.args.steps.now c.loop-step.answers.items c.args.drive.now c.loop-step.drive c.args.actors.now c.loop-step.actors
    whole.0 c.in_ok-todo.ensures.copies c.loop-step.invariant.run

pub loop-step-init : goal.loop-step-init
loop-step-init g c = record {
  run = subst (λ (answers : List Answer). Run g.C.Cleans.cleans g.M.Moves.commits g.J.Naming.base g.J.Naming.frames c.args.drive.now c.args.actors.now [] answers c.args.drive.now c.args.actors.now) (sym c.in_ok-answers.ensures.items) (refl, refl);
  counted = c.in_ok-answers.ensures.len;
  room = refl;
}

pub returns-clause-run : goal.returns-clause-run
returns-clause-run g c =
    let made = c.into_iter-step-iterator.ensures.into_iter_gives in
    let road = YieldsList-from_vec {s = c.into_iter-step-iterator.result} c.in_ok-todo.todo.items made.0 (made.1 ∙ c.in_ok-todo.todo.ok.0) in
    let whole = YieldsList-end road c.loop-step.yielded c.loop-step.step-iterator c.loop-step.yielded_by c.next.result c.next.new.self c.in-None.is c.next.ensures.steps in
    subst (λ (steps : List Step). Run g.C.Cleans.cleans g.M.Moves.commits g.J.Naming.base g.J.Naming.frames c.args.drive.now c.args.actors.now steps c.loop-step.answers.items c.loop-step.drive c.loop-step.actors) (sym (map-id c.loop-step.yielded) ∙ whole.0 ∙ c.in_ok-todo.ensures.copies) c.loop-step.invariant.run

pub returns-clause-decodes : goal.returns-clause-decodes
returns-clause-decodes g c = c.rules-2.ensures.decodes

pub returns-clause-base : goal.returns-clause-base
returns-clause-base g c = c.rules-2.ensures.base

pub returns-clause-past : goal.returns-clause-past
returns-clause-past g c =
    kept_by_clients c.clients_keep_the_past.ensures c.args.steps.now c.loop-step.answers.items c.args.drive.now c.loop-step.drive c.args.actors.now c.loop-step.actors (returns-clause-model g c)
