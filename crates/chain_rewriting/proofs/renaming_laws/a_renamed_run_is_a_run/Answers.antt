use Rattle.chain_rewriting.specs.Renaming.{renamed}
use Rattle.chain_rewriting.proofs.Mapped.{link_mapped, run_mapped, inode_after_mapped, pointer_mapped, blank_mapped}
use Rattle.chain_rewriting.proofs.renaming_laws.a_renamed_run_is_a_run.Goals as goal

pub returns-clause-link : goal.returns-clause-link
returns-clause-link c = λ r. link_mapped (renamed r)

pub returns-clause-run : goal.returns-clause-run
returns-clause-run c = λ r. run_mapped (renamed r)

pub returns-clause-shown : goal.returns-clause-shown
returns-clause-shown c = λ r. inode_after_mapped (renamed r)

pub returns-clause-pointers : goal.returns-clause-pointers
returns-clause-pointers c = λ r. pointer_mapped (renamed r)

pub returns-clause-blank : goal.returns-clause-blank
returns-clause-blank c = λ r. blank_mapped (renamed r)
