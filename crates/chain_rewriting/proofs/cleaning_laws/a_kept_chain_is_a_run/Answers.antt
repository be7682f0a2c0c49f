use Rattle.chain_rewriting.proofs.Runs.{cleaned_run}
use Rattle.chain_rewriting.proofs.cleaning_laws.a_kept_chain_is_a_run.Goals as goal
use Rattle.chain_rewriting.specs.private.Resting.{Redoes}

pub returns : goal.returns
returns c =
    let redoes : Redoes = λ i j e l. ((c.a_link_is_an_entry_redone_or_undone.ensures.forth i j e).0 l).1 in
    cleaned_run redoes c.the_entries_between_two_inodes.ensures.run c.entries_determine_a_run.ensures.join
