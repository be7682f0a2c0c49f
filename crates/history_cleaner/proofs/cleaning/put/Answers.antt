use Rattle.std.proofs.Common.{◌≡◌, Some}
use Rattle.s4_model.specs.Visible.{IsVisible}
use Rattle.chain_rewriting.specs.Cleaned.{KeptChain}
use Rattle.drive.specs.Fields.{state_in, store_of}
use Rattle.history_cleaner.proofs.Putting.{is_of_parts, may_go, may_replace, shows_same}
use Rattle.history_cleaner.proofs.Left.{removed_left, same_left, replaced_left}
use Rattle.history_cleaner.proofs.cleaning.put.Goals as goal

pub remove-requires : goal.remove-requires
remove-requires g c =
    let d = c.args.drive.now in
    let now : IsVisible (state_in d) c.args.object (state_in d).clock = c.what_is_left_can_be_put.ensures.present d.ledger.history c.args.object c.rules.ensures.sound in
    record { entries = c.requires.entries; gone = may_go c.what_is_left_can_be_put.ensures.none (store_of d) (state_in d) c.args.object c.args.entries.now c.args.left c.in_default.is now c.requires.left }

pub returns-in_default : goal.returns-in_default
returns-in_default g c =
    removed_left c.remove.result c.args.drive.now c.remove.new.self c.args.object c.args.entries.now c.args.left c.in_default.is c.requires.left c.remove.ensures.removed c.remove.ensures.inodes c.remove.ensures.refusal c.remove.ensures.unchanged c.remove.ensures.ledger c.remove.ensures.needed

pub returns-then-are_same : goal.returns-then-are_same
returns-then-are_same g c =
    let d = c.args.drive.now in
    let now : IsVisible (state_in d) c.args.object (state_in d).clock = c.what_is_left_can_be_put.ensures.present d.ledger.history c.args.object c.rules.ensures.sound in
    let chain : KeptChain = record { first = c.chain.inside.first; entries = c.as_slice-kept.result.now; last = c.chain.inside.last } in
    let some : c.args.left ≡ Some chain = is_of_parts c.args.left c.in-Some.chain c.chain.inside.first c.chain.inside.last c.chain.inside.entries.items c.as_slice-kept.result.now c.in-Some.is c.chain.view_is c.as_slice-kept.ensures.value in
    same_left c.what_is_left_can_be_put.ensures d c.args.object c.args.entries.now c.args.left chain some now c.requires.left c.if-are_same.ensures

pub replace-requires-clause-can : goal.replace-requires-clause-can
replace-requires-clause-can g c =
    let d = c.args.drive.now in
    let chain : KeptChain = record { first = c.chain.inside.first; entries = c.as_slice-kept.result.now; last = c.chain.inside.last } in
    let some : c.args.left ≡ Some chain = is_of_parts c.args.left c.in-Some.chain c.chain.inside.first c.chain.inside.last c.chain.inside.entries.items c.as_slice-kept.result.now c.in-Some.is c.chain.view_is c.as_slice-kept.ensures.value in
    may_replace c.what_is_left_can_be_put.ensures.stands c.what_is_left_can_be_put.ensures.empty (store_of d) (state_in d) c.args.object c.args.entries.now c.args.left chain some c.requires.left (λ is. c.if-are_same.ensures is)

pub replace-requires-clause-stays : goal.replace-requires-clause-stays
replace-requires-clause-stays g c =
    let d = c.args.drive.now in
    let now : IsVisible (state_in d) c.args.object (state_in d).clock = c.what_is_left_can_be_put.ensures.present d.ledger.history c.args.object c.rules.ensures.sound in
    let chain : KeptChain = record { first = c.chain.inside.first; entries = c.as_slice-kept.result.now; last = c.chain.inside.last } in
    let some : c.args.left ≡ Some chain = is_of_parts c.args.left c.in-Some.chain c.chain.inside.first c.chain.inside.last c.chain.inside.entries.items c.as_slice-kept.result.now c.in-Some.is c.chain.view_is c.as_slice-kept.ensures.value in
    shows_same c.what_is_left_can_be_put.ensures.same (store_of d) (state_in d) c.args.object c.args.entries.now c.args.left chain some now c.requires.left

pub returns : goal.returns
returns g c =
    let d = c.args.drive.now in
    let now : IsVisible (state_in d) c.args.object (state_in d).clock = c.what_is_left_can_be_put.ensures.present d.ledger.history c.args.object c.rules.ensures.sound in
    let chain : KeptChain = record { first = c.chain.inside.first; entries = c.as_slice-kept.result.now; last = c.chain.inside.last } in
    let some : c.args.left ≡ Some chain = is_of_parts c.args.left c.in-Some.chain c.chain.inside.first c.chain.inside.last c.chain.inside.entries.items c.as_slice-kept.result.now c.in-Some.is c.chain.view_is c.as_slice-kept.ensures.value in
    replaced_left c.what_is_left_can_be_put.ensures c.replace.result d c.replace.new.self c.args.object c.args.entries.now c.args.left chain some now c.requires.left (λ is. c.if-are_same.ensures is) c.replace.ensures.replaced c.replace.ensures.inodes c.replace.ensures.answer
    c.replace.ensures.unchanged c.replace.ensures.ledger c.replace.ensures.needed
