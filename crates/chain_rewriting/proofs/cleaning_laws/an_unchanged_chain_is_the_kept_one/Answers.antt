use Rattle.chain_rewriting.proofs.Unchanged.{unchanged_is_kept}
use Rattle.chain_rewriting.proofs.cleaning_laws.an_unchanged_chain_is_the_kept_one.Goals as goal

pub returns : goal.returns
returns c = unchanged_is_kept c.entries_determine_a_run.ensures.end c.a_kept_chain_is_a_run.ensures c.a_kept_chain_has_seen_inodes_alone.ensures
