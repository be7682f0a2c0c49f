use Rattle.std.proofs.Common.{◌≡◌, ◌+◌, List, [], ◌∷◌, ◌++◌, ℕ, take, subst, sym, rules}
use Rattle.clap.specs.Walk.{texts}
use Rattle.s4_command.specs.CommandLine.{AreNumbers}
use Rattle.s4_command.proofs.Numbers.{numbers_more, no_numbers}
use Rattle.s4_command.proofs.reading.numbers_of.Goals as goal

pub returns-in_default-clause-usage : goal.returns-in_default-clause-usage
returns-in_default-clause-usage c = λ done numbers each kept.
    absurd (no_numbers c.args.words.now c.loop-word.word-index _ c.loop-word-test.true c.in_default.ensures.none numbers each)

pub loop-word-preserved : goal.loop-word-preserved
loop-word-preserved c =
    let pushed : c.push.new.self.items ≡ c.loop-word.numbers.items ++ c.in-Some.number ∷ [] = search rules in (
      subst (λ (ns : List ℕ). AreNumbers (texts (take (c.loop-word.word-index + 1) c.args.words.now)) ns) (sym pushed)
          (numbers_more c.args.words.now c.loop-word.word-index _ c.loop-word.numbers.items c.in-Some.number c.loop-word-test.true c.loop-word.invariant.0 c.in-Some.ensures.some),
      c.loop-word.invariant.1,
    )
