use Rattle.chain_rewriting.proofs.Ordered.{cleaned_order}
use Rattle.chain_rewriting.proofs.cleaning_laws.a_kept_chain_is_in_order.Goals as goal
use Rattle.chain_rewriting.specs.private.Resting.{Redoes}

pub returns : goal.returns
returns c =
    let redoes : Redoes = λ i j e l. ((c.a_link_is_an_entry_redone_or_undone.ensures.forth i j e).0 l).1 in
    let between = c.the_entries_between_two_inodes.ensures in
    cleaned_order (record { redoes = redoes; one = between.moments; group = between.group; run = between.run; join = c.entries_determine_a_run.ensures.join; rules = between.rules; some = λ i j m. (between.count i j m).0 }) c.a_kept_chain_has_old_moments.ensures
