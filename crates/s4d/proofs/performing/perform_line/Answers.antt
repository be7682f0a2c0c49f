use Rattle.std.proofs.Common.{Err, ap, inl, inr, map, refl}
use Rattle.std.proofs.lemmas.Result.{on_ok_weaker, IfErr-weaker}
use Rattle.clap.specs.Simple.{subcommand_of}
use Rattle.s4d_command.specs.CommandLine.{line}
use Rattle.s4d_command.specs.declared.CommandError.{CommandError}
use Rattle.s4d.proofs.Status.{within_limits}
use Rattle.s4d.proofs.performing.perform_line.Goals as goal

pub perform_command-performed-requires-clause-limits : goal.perform_command-performed-requires-clause-limits
perform_command-performed-requires-clause-limits g c κs within = within_limits (subcommand_of line (map g.S.AsStr.text c.args.words.now)) c.in-Ok.command c.in-Ok.ensures.spelled

pub returns-in-Err-Usage-clause-undone : goal.returns-in-Err-Usage-clause-undone
returns-in-Err-Usage-clause-undone g c = inl (refl, c.in-Err-Usage.ensures.usage (ap (λ (e : CommandError). Err e) c.in-Err-Usage.field-0-is))

pub returns-in-Ok : goal.returns-in-Ok
returns-in-Ok g c =
    let asked = c.in-Ok.command in
    let spelled = c.in-Ok.ensures.spelled in
    record {
      done = on_ok_weaker c.perform_command-performed.result (λ done. (asked, spelled, done)) c.perform_command-performed.ensures.done;
      undone = IfErr-weaker c.perform_command-performed.result _ _ (λ why says. inr (inr (asked, spelled, says))) c.perform_command-performed.ensures.undone;
    }
