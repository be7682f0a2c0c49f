use Rattle.chain_rewriting.proofs.Bytes.{Facts, cleaned_bytes}
use Rattle.chain_rewriting.proofs.cleaning_laws.a_kept_chain_takes_no_more_bytes.Goals as goal
use Rattle.chain_rewriting.specs.private.Resting.{Redoes}

pub returns : goal.returns
returns c =
    let redoes : Redoes = λ i j e l. ((c.a_link_is_an_entry_redone_or_undone.ensures.forth i j e).0 l).1 in
    let f : Facts = record { redoes = redoes; sizes = c.the_entries_between_two_inodes.ensures.sizes; add = c.entry_bytes_add_up.ensures } in
    cleaned_bytes f
