use Rattle.std.proofs.Common.{inr, ◌∙◌}
use Rattle.image_logging.proofs.Following.{on_ok}
use Rattle.image_logging.proofs.logged.LoggedImage.replace.Goals as goal

pub returns-clause-kept : goal.returns-clause-kept
returns-clause-kept g c = on_ok c.start_log.result (λ other h. c.start_log.ensures.only other h ∙ c.in_ok-image.ensures.front)

pub returns-clause-crash : goal.returns-clause-crash
returns-clause-crash g c = λ other h. inr (c.start_log.ensures.only other h ∙ c.in_ok-image.ensures.front)
