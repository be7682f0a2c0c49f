use Rattle.std.proofs.Common.{ℕ, Option, IfSome, subst}
use Rattle.std.specs.Option.{IfNone}
use Rattle.std.specs.Str.Parse.{ParsesUnsigned, ExplainsUnsignedError, HasUnsignedDigitsIfOk}
use Rattle.clap.specs.Matches.{found_of}
use Rattle.clap.specs.Walk.{Text}
use Rattle.clap.proofs.WalkLemmas.{one_text-rows}
use Rattle.s4d_command.specs.CommandLine.{IsNumber}
use Rattle.s4d_command.proofs.CommandLineLemmas.{number_some, number_none}
use Rattle.s4d_command.proofs.reading.number.Goals as goal

pub returns : goal.returns
returns c =
    let r = c.get_one.result in
    let same = one_text-rows (found_of c.args.matches.now) c.args.id.now in
    record {
      none = subst (λ (o : Option Text). IfNone r ((n : ℕ) → IsNumber o n → ⊥)) same
          (number_none (λ bs x. ParsesUnsigned 64 10 bs x × ExplainsUnsignedError 10 bs x × HasUnsignedDigitsIfOk bs x) (λ t x g. g.0) _ r c.get_one.ensures.value);
      some = subst (λ (o : Option Text). IfSome r (IsNumber o)) same
          (number_some (λ bs x. ParsesUnsigned 64 10 bs x × ExplainsUnsignedError 10 bs x × HasUnsignedDigitsIfOk bs x) (λ t x g. g.0) _ r c.get_one.ensures.none c.get_one.ensures.value);
    }
