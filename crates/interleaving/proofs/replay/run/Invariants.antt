use Rattle.std.proofs.Common.{◌≡◌, length, vec_len, vec_capacity}
use Rattle.interleaving.specs.Running.{Run}
use Rattle.interleaving.proofs.replay.run.Given as goal

abbrev pub invariant-loop-step : goal.invariant-loop-step
invariant-loop-step g l = record {
  run : Run g.C.Cleans.cleans g.M.Moves.commits g.J.Naming.base g.J.Naming.frames l.fn.drive l.fn.actors l.yielded l.answers.items l.drive l.actors;
  counted : vec_len l.answers ≡ length l.yielded;
  room : vec_capacity l.answers ≡ vec_capacity l.initial.answers;
}
