use Rattle.std.proofs.Common.{◌≡◌, ◌≢◌, ◌∙◌, ◌+◌, ◌≤◌, List, [], ◌∷◌, ◌++◌, length, take, subst, sym, arith, rules}
use Rattle.std.specs.List.{AllZip}
use Rattle.std.proofs.lemmas.Bool.{eqb-false, eqb-true}
use Rattle.std.proofs.lemmas.List.{take_all}
use Rattle.std.specs.Borrow.{Bor}
use Rattle.clap.specs.Walk.{Text, texts}
use Rattle.s4d_command.specs.CommandLine.{SpellsSession}
use Rattle.s4d_command.specs.declared.sessions.RunSession.{RunSession}
use Rattle.s4d_command.proofs.SessionLemmas.{as_many, sessions_more, no_sessions}
use Rattle.s4d_command.proofs.sessions.sessions_in.Goals as goal
use Rattle.s4d_command.proofs.sessions.sessions_in.Goals.{then-is_empty-via-then-is_empty, then-is_empty-via-else-is_empty+then-words-gt-MOST_SESSIONS}

pub returns-then-is_empty-clause-usage : goal.returns-then-is_empty-clause-usage
returns-then-is_empty-clause-usage c = λ u sessions h.
    let same : length sessions ≡ length c.args.words.now = as_many c.args.words.now sessions h.each in
    let some : 1 ≤ length sessions = h.some in
    let most : length sessions ≤ 16 = h.most in
    elim c.then-is_empty.branch [
      | then-is_empty-via-then-is_empty w ↦
          let none : length c.args.words.now ≡ 0 = eqb-true (length c.args.words.now) 0 (sym c.is_empty.ensures ∙ w.if-is_empty.true) in
          absurd (omega arith)
      | then-is_empty-via-else-is_empty+then-words-gt-MOST_SESSIONS w ↦ absurd (omega arith)
    ]

pub returns-clause-spelled : goal.returns-clause-spelled
returns-clause-spelled c =
    let whole : take c.loop-word.word-index c.args.words.now ≡ c.args.words.now
    = take_all c.loop-word.word-index c.args.words.now (omega arith) in
    let each : AllZip SpellsSession (texts c.args.words.now) c.loop-word.sessions.items
    = subst (λ (ws : List (Bor Text)). AllZip SpellsSession (texts ws) c.loop-word.sessions.items) whole c.loop-word.invariant in
    let same : length c.loop-word.sessions.items ≡ length c.args.words.now = as_many c.args.words.now c.loop-word.sessions.items each in
    let some : length c.args.words.now ≢ 0 = eqb-false (length c.args.words.now) 0 (sym c.is_empty.ensures ∙ c.if-is_empty.false) in
    record { each = each; some = omega arith; most = omega arith }

pub returns-in_default-clause-usage : goal.returns-in_default-clause-usage
returns-in_default-clause-usage c = λ u sessions h.
    no_sessions c.args.words.now c.loop-word.word-index _ c.loop-word-test.true c.in_default.ensures.none sessions h

pub loop-word-preserved : goal.loop-word-preserved
loop-word-preserved c =
    let pushed : c.push.new.self.items ≡ c.loop-word.sessions.items ++ c.in-Some.session ∷ [] = search rules in
    subst (λ (ss : List RunSession). AllZip SpellsSession (texts (take (c.loop-word.word-index + 1) c.args.words.now)) ss) (sym pushed)
    (sessions_more c.args.words.now c.loop-word.word-index _ c.loop-word.sessions.items c.in-Some.session c.loop-word-test.true c.loop-word.invariant c.in-Some.ensures.some)
