use Rattle.std.proofs.Common.{◌≡◌, ◌∙◌, true, refl, sym, ap, Bool, nat_le, not, ◌&&◌}
use Rattle.std.proofs.lemmas.Bool.{false≢true}
use Rattle.server.specs.Rounds.{is_pinched}
use Rattle.server.proofs.progress.Progress.objects.Goals as goal

-- it is a round of removals where all three conditions of one hold
of_removals : (pinched freed still : Bool) → pinched ≡ true → freed ≡ true → still ≡ true → (pinched && freed && still) ≡ true
of_removals pinched freed still is_pinched is_freed is_still = rw is_pinched (rw is_freed is_still)

-- A round of removals has the list that it was given.
pub returns-then-not-is_walking-clause-due : goal.returns-then-not-is_walking-clause-due
returns-then-not-is_walking-clause-due c = record {
  removals = λ of. (c.begin_removals.result, refl, rw (← c.new-floor.ensures) c.begin_removals.ensures);
  round = λ no. absurd (false≢true (sym no ∙ of_removals (is_pinched c.args.self.now) (nat_le c.args.self.now.frees c.args.self.now.ended) (not c.args.self.now.agenda.is_walking) (sym c.if-is_pinched.ensures) (search) (ap not (sym c.if-not-is_walking.ensures))));
}
