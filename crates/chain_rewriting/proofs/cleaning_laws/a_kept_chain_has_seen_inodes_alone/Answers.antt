use Rattle.chain_rewriting.proofs.Seen.{cleaned_seen}
use Rattle.chain_rewriting.proofs.cleaning_laws.a_kept_chain_has_seen_inodes_alone.Goals as goal

pub returns : goal.returns
returns c = cleaned_seen c.the_entries_between_two_inodes.ensures.moments c.groups_part_at_a_moment.ensures.ascend
