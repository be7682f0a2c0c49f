use Rattle.chain_rewriting.proofs.Grouped.{cleaned_grouped}
use Rattle.chain_rewriting.proofs.cleaning_laws.a_kept_chain_is_grouped.Goals as goal
use Rattle.chain_rewriting.specs.private.Resting.{Redoes}

pub returns : goal.returns
returns c =
    let redoes : Redoes = λ i j e l. ((c.a_link_is_an_entry_redone_or_undone.ensures.forth i j e).0 l).1 in
    let between = c.the_entries_between_two_inodes.ensures in
    cleaned_grouped redoes between.moments between.group c.groups_part_at_a_moment.ensures.join c.groups_part_at_a_moment.ensures.ascend
