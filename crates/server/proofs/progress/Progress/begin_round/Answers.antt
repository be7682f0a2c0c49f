use Rattle.std.proofs.Common.{◌∙◌, sym, ap}
use Rattle.std.proofs.lemmas.Bool.{false≢true}
use Rattle.server.specs.declared.progress.Progress.{Progress}
use Rattle.server.proofs.progress.Progress.begin_round.Goals.{then-is_last, else-is_last}
use Rattle.server.proofs.progress.Progress.begin_round.Goals as goal

pub returns : goal.returns
returns c = elim c.if-is_last.branch [
  | then-is_last w ↦ record {
    last = search;
    all = λ _. (w.result-is, ap (λ (p : Progress). p.agenda) w.self-is);
    due = λ no. absurd (false≢true (sym no ∙ w.if-is_last.true));
    walks = search;
  }
  | else-is_last w ↦ record {
    last = search;
    all = λ yes. absurd (false≢true (sym w.if-is_last.false ∙ yes));
    due = λ _. rw w.result-is (rw w.self-is (record { removals = w.objects.ensures.due.removals; round = w.objects.ensures.due.round }));
    walks = search;
  }
]
