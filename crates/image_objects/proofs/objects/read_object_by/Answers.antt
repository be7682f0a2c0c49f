use Rattle.std.proofs.Common.{◌≡◌, true, List, Option, sym, ◌∙◌, subst}
use Rattle.std.specs.Prelude.{IfSome}
use Rattle.codec.specs.Entry.{EntryFields}
use Rattle.undo_redo.specs.Groups.{grouped}
use Rattle.image_objects.specs.Read.{IsReadBy}
use Rattle.image_objects.specs.Versions.{entries_used_by, VersionChainStandsBy}
use Rattle.image_objects.proofs.Grouping.{groups_of_a_version}
use Rattle.image_objects.proofs.objects.read_object_by.Goals as goal

pub are_tidy-requires-clause-groups : goal.are_tidy-requires-clause-groups
are_tidy-requires-clause-groups g c =
    let used = g.U.UsedBlocks.used c.args.used.now in
    let row = c.args.row.now in
    let stands : VersionChainStandsBy c.args.version used row c.args.clock = subst (λ (o : Option _). IfSome o (λ _. VersionChainStandsBy c.args.version used row c.args.clock)) c.in-Some.is c.in_ok-versions.ensures.stands in
    let read = subst (λ (o : Option _). IfSome o (IsReadBy c.args.version used row)) c.in-Some.is c.in_ok-versions.ensures.read in
    subst (λ (es : List EntryFields). grouped es ≡ true) (sym (c.as_slice-entries.ensures.value ∙ read.entries)) (groups_of_a_version c.args.version (entries_used_by c.args.version used row) stands.chain.groups)
