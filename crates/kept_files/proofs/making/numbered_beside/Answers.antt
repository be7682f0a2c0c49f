use Rattle.kept_files.proofs.Steps.{numbered_image}
use Rattle.kept_files.proofs.making.numbered_beside.Goals as goal

pub returns-in_err-file-clause-image : goal.returns-in_err-file-clause-image
returns-in_err-file-clause-image g c = numbered_image _ _ _ _ _ _ _ c.path.ensures c.in_ok-path.ensures c.as_str.ensures.value c.made_beside.ensures.others

pub returns-in-Some-clause-image : goal.returns-in-Some-clause-image
returns-in-Some-clause-image g c = numbered_image _ _ _ _ _ _ _ c.path.ensures c.in_ok-path.ensures c.as_str.ensures.value c.made_beside.ensures.others

pub returns-in-None-clause-image : goal.returns-in-None-clause-image
returns-in-None-clause-image g c = numbered_image _ _ _ _ _ _ _ c.path.ensures c.in_ok-path.ensures c.as_str.ensures.value c.made_beside.ensures.others
