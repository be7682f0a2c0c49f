use Rattle.std.proofs.Common.{◌≡◌, ◌∙◌, ℕ, Bool, true, not, List, Option, None, Some, sym, ap, subst}
use Rattle.std.specs.Prelude.{IfNone, is_some}
use Rattle.std.proofs.lemmas.Bool.{true≢false}
use Rattle.std.proofs.lemmas.Option.{none-some}
use Rattle.clap.specs.Walk.{Row, Text, first_of}
use Rattle.moment_words.specs.Words.{IsAge}
use Rattle.s4_command.specs.CommandLine.{IsDurationAsked, IsDurationAt}
use Rattle.s4_command.proofs.reading.duration_in.Goals as goal

-- what holds where there is none holds
where_none : {X P : Type 0} (o : Option X) (b : Bool) → is_some o ≡ not b → b ≡ true → IfNone o P → P
where_none None b is none fact = fact
where_none (Some x) b is none fact = absurd (true≢false (is ∙ ap not none))

-- a text that is no age is no duration
no_duration : (name text : Text) (rows : List Row) (micros : Option ℕ) → first_of name rows ≡ Some text → ((n : ℕ) → IsAge text n → ⊥) → IsDurationAsked name rows micros → ⊥
no_duration name text rows None is none asked = none-some text (sym asked ∙ is)
no_duration name text rows (Some n) is none asked = none n (subst (λ (o : Option Text). IsDurationAt o n) is asked)

pub returns-then-is_none-clause-usage : goal.returns-then-is_none-clause-usage
returns-then-is_none-clause-usage c = λ micros asked kept.
    absurd (no_duration c.args.id.now c.in_ok-word.word.now _ micros c.in_ok-word.ensures.some (where_none c.age_of-micros.result c.is_none.result c.is_none.ensures c.if-is_none.true c.age_of-micros.ensures.none) asked)
