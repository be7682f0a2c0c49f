use Rattle.chain_rewriting.proofs.Mapped.{redone_mapped, undone_mapped, redone_all_mapped, undone_all_mapped}
use Rattle.chain_rewriting.proofs.mapping_laws.mapping_commutes_with_undo_and_redo.Goals as goal

pub returns-clause-redo : goal.returns-clause-redo
returns-clause-redo c = redone_mapped

pub returns-clause-undo : goal.returns-clause-undo
returns-clause-undo c = undone_mapped

pub returns-clause-redo_all : goal.returns-clause-redo_all
returns-clause-redo_all c = redone_all_mapped

pub returns-clause-undo_all : goal.returns-clause-undo_all
returns-clause-undo_all c = undone_all_mapped
