use Rattle.std.proofs.Common.{refl}
use Rattle.inode.proofs.Standing.{tidy_empty}
use Rattle.inode.proofs.status.created.Goals as goal

pub returns-clause-tidy : goal.returns-clause-tidy
returns-clause-tidy c = λ contents. tidy_empty contents _ c.no_pointers.ensures refl
