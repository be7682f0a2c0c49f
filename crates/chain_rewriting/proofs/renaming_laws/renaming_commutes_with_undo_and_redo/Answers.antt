use Rattle.chain_rewriting.specs.Renaming.{renamed}
use Rattle.chain_rewriting.proofs.Mapped.{redone_mapped, undone_mapped, redone_all_mapped, undone_all_mapped}
use Rattle.chain_rewriting.proofs.renaming_laws.renaming_commutes_with_undo_and_redo.Goals as goal

pub returns-clause-redo : goal.returns-clause-redo
returns-clause-redo c = λ r. redone_mapped (renamed r)

pub returns-clause-undo : goal.returns-clause-undo
returns-clause-undo c = λ r. undone_mapped (renamed r)

pub returns-clause-redo_all : goal.returns-clause-redo_all
returns-clause-redo_all c = λ r. redone_all_mapped (renamed r)

pub returns-clause-undo_all : goal.returns-clause-undo_all
returns-clause-undo_all c = λ r. undone_all_mapped (renamed r)
