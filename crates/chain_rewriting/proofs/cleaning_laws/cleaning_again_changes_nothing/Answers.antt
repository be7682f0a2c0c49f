use Rattle.chain_rewriting.proofs.Again.{Facts, cleaned_again}
use Rattle.chain_rewriting.proofs.cleaning_laws.cleaning_again_changes_nothing.Goals as goal
use Rattle.chain_rewriting.specs.private.Resting.{Redoes}

pub returns : goal.returns
returns c =
    let redoes : Redoes = λ i j e l. ((c.a_link_is_an_entry_redone_or_undone.ensures.forth i j e).0 l).1 in
    let between = c.the_entries_between_two_inodes.ensures in
    let f : Facts = record { redoes = redoes; ends = c.entries_determine_a_run.ensures.end; one = between.moments; run = between.run; some = λ i j m. (between.count i j m).0; ascend = c.groups_part_at_a_moment.ensures.ascend } in
    cleaned_again f
