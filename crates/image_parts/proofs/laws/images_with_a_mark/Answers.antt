use Rattle.image_parts.proofs.CauseLaws.{one_cause}
use Rattle.image_parts.proofs.ImageLaws.{found, again}
use Rattle.image_parts.proofs.laws.images_with_a_mark.Goals as goal

pub returns-clause-found : goal.returns-clause-found
returns-clause-found c = found

pub returns-clause-tests : goal.returns-clause-tests
returns-clause-tests c = λ v bytes image s. (again v bytes image s).0

pub returns-clause-read : goal.returns-clause-read
returns-clause-read c = λ v bytes image s. (again v bytes image s).1

pub returns-clause-cause : goal.returns-clause-cause
returns-clause-cause c = one_cause
