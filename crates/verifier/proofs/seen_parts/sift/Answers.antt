use Rattle.std.proofs.Common.{rules}
use Rattle.std.proofs.lemmas.Fn.{filter_same}
use Rattle.window.specs.Runs.{is_live}
use Rattle.verifier.proofs.seen_parts.sift.Goals as goal

pub returns : goal.returns
returns c = filter_same _ (is_live c.args.floor) _ (λ x b q r. (search rules, search rules)) _ _ c.retain.ensures.filtered
