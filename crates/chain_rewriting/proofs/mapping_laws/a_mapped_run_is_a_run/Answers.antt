use Rattle.chain_rewriting.proofs.Mapped.{link_mapped, run_mapped, inode_after_mapped, pointer_mapped, blank_mapped, first_mapped}
use Rattle.chain_rewriting.proofs.mapping_laws.a_mapped_run_is_a_run.Goals as goal

pub returns-clause-link : goal.returns-clause-link
returns-clause-link c = link_mapped

pub returns-clause-run : goal.returns-clause-run
returns-clause-run c = run_mapped

pub returns-clause-shown : goal.returns-clause-shown
returns-clause-shown c = inode_after_mapped

pub returns-clause-pointers : goal.returns-clause-pointers
returns-clause-pointers c = pointer_mapped

pub returns-clause-blank : goal.returns-clause-blank
returns-clause-blank c = blank_mapped

pub returns-clause-first : goal.returns-clause-first
returns-clause-first c = first_mapped
