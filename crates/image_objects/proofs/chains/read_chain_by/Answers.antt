use Rattle.std.proofs.Common.{◌≡◌, Some, None, sym, ap, ◌∙◌, rules}
use Rattle.image_objects.proofs.Judging.{WalkOf, some_is, none_is, no_walk, too_many_bytes, another_time, no_groups, stands, items_are, bytes_are}
use Rattle.image_objects.proofs.chains.read_chain_by.Goals as goal

pub returns-in_default-clause-only : goal.returns-in_default-clause-only
returns-in_default-clause-only g c =
    let none : c.in_ok-entries.field-0 ≡ None = search rules in
    no_walk c.args.version (g.U.UsedBlocks.used c.args.used.now) c.args.row.now c.args.clock (none_is _ _ _ none c.in_ok-entries.ensures.exact)

pub returns-in_default-bytes_of-clause-only : goal.returns-in_default-bytes_of-clause-only
returns-in_default-bytes_of-clause-only g c =
    let used = g.U.UsedBlocks.used c.args.used.now in
    let listed = c.as_slice-listed.result.now in
    let walk : WalkOf c.args.version used c.args.row.now ≡ Some listed = some_is _ _ _ _ c.in-Some.is c.in_ok-entries.ensures.exact ∙ ap Some (sym c.as_slice-listed.ensures.value) in
    let none : c.bytes_of.result ≡ None = search rules in
    too_many_bytes c.args.version used c.args.row.now c.args.clock listed walk (sym none ∙ c.bytes_of.ensures)

pub returns-then-not-lie_from_to-clause-only : goal.returns-then-not-lie_from_to-clause-only
returns-then-not-lie_from_to-clause-only g c =
    let used = g.U.UsedBlocks.used c.args.used.now in
    let listed = c.as_slice-listed.result.now in
    let walk : WalkOf c.args.version used c.args.row.now ≡ Some listed = some_is _ _ _ _ c.in-Some.is c.in_ok-entries.ensures.exact ∙ ap Some (sym c.as_slice-listed.ensures.value) in
    another_time c.args.version used c.args.row.now c.args.clock listed walk (sym c.lie_from_to.ensures ∙ c.if-not-lie_from_to.true)

pub returns-then-not-are_grouped-clause-only : goal.returns-then-not-are_grouped-clause-only
returns-then-not-are_grouped-clause-only g c =
    let used = g.U.UsedBlocks.used c.args.used.now in
    let listed = c.as_slice-listed.result.now in
    let walk : WalkOf c.args.version used c.args.row.now ≡ Some listed = some_is _ _ _ _ c.in-Some.is c.in_ok-entries.ensures.exact ∙ ap Some (sym c.as_slice-listed.ensures.value) in
    no_groups c.args.version used c.args.row.now c.args.clock listed walk (sym c.are_grouped.ensures ∙ c.if-not-are_grouped.true)

pub returns-clause-stands : goal.returns-clause-stands
returns-clause-stands g c =
    let used = g.U.UsedBlocks.used c.args.used.now in
    let listed = c.as_slice-listed.result.now in
    let walk : WalkOf c.args.version used c.args.row.now ≡ Some listed = some_is _ _ _ _ c.in-Some.is c.in_ok-entries.ensures.exact ∙ ap Some (sym c.as_slice-listed.ensures.value) in
    stands c.args.version used c.args.row.now c.args.clock c.in-Some-bytes_of.bytes listed walk (sym c.in-Some-bytes_of.is ∙ c.bytes_of.ensures) (sym c.lie_from_to.ensures ∙ c.if-not-lie_from_to.false) (sym c.are_grouped.ensures ∙ c.if-not-are_grouped.false)

pub returns-clause-entries : goal.returns-clause-entries
returns-clause-entries g c =
    items_are c.args.version (g.U.UsedBlocks.used c.args.used.now) c.args.row.now c.in-Some.entries.items (some_is _ _ _ _ c.in-Some.is c.in_ok-entries.ensures.exact)

pub returns-clause-bytes : goal.returns-clause-bytes
returns-clause-bytes g c =
    let used = g.U.UsedBlocks.used c.args.used.now in
    let listed = c.as_slice-listed.result.now in
    let walk : WalkOf c.args.version used c.args.row.now ≡ Some listed = some_is _ _ _ _ c.in-Some.is c.in_ok-entries.ensures.exact ∙ ap Some (sym c.as_slice-listed.ensures.value) in
    bytes_are c.args.version c.in-Some-bytes_of.bytes listed _ (sym c.in-Some-bytes_of.is ∙ c.bytes_of.ensures) (items_are c.args.version used c.args.row.now listed walk)
