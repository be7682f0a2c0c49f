use Rattle.std.proofs.Common.{◌≡◌, ◌+◌, true, ◌++◌, IsSome}
use Rattle.std.specs.Prelude.{◌⊎◌}
use Rattle.std.specs.List.{Contains}
use Rattle.std.proofs.lemmas.Result.{IfOk-weaker}
use Rattle.s4_types.specs.Pointer.{Place}
use Rattle.block_log.specs.Log.{is_data}
use Rattle.block_log.specs.declared.kinds.BlockKind.{BlockKind}
use Rattle.journal_chain.specs.Chain.{times}
use Rattle.version_store.specs.Store.{times_led}
use Rattle.image_objects.specs.Naming.{NamesUsed}
use Rattle.image_objects.specs.Objects.{pointers_used}
use Rattle.image_objects.specs.private.Places.{places_named}
use Rattle.image_objects.proofs.Named.{only_named, all_named, all_kept, only_used, data_counted}
use Rattle.image_objects.proofs.naming.push_named.Goals as goal

pub returns-clause-only : goal.returns-clause-only
returns-clause-only g c =
    let used = g.U.UsedBlocks.used c.args.used.now in
    let row = c.args.row.now in
    let before = c.args.places.now.items in
    let items = c.push_all.new.places.items in
    IfOk-weaker c.push_all.result (λ _. items ≡ before ++ places_named used row) (λ _. (p : Place) → Contains items p → Contains before p ⊎ ((kind : BlockKind) × NamesUsed used row kind p)) (λ _ is. only_named c.a_checkpoint_is_in_its_blocks.ensures.held used row c.requires.stands.0 before items c.requires.stands.1 is) c.push_all.ensures.places

pub returns-clause-all : goal.returns-clause-all
returns-clause-all g c =
    let used = g.U.UsedBlocks.used c.args.used.now in
    let row = c.args.row.now in
    let before = c.args.places.now.items in
    let items = c.push_all.new.places.items in
    IfOk-weaker c.push_all.result (λ _. items ≡ before ++ places_named used row) (λ _. (kind : BlockKind) (p : Place) → NamesUsed used row kind p → Contains items p) (λ _ is. all_named c.one_place_has_one_name.ensures used row before items is)
    c.push_all.ensures.places

pub returns-clause-kept : goal.returns-clause-kept
returns-clause-kept g c =
    let used = g.U.UsedBlocks.used c.args.used.now in
    let row = c.args.row.now in
    let before = c.args.places.now.items in
    let items = c.push_all.new.places.items in
    IfOk-weaker c.push_all.result (λ _. items ≡ before ++ places_named used row) (λ _. (p : Place) → Contains before p → Contains items p) (λ _ is. all_kept used row before items is) c.push_all.ensures.places

pub returns-clause-used : goal.returns-clause-used
returns-clause-used g c =
    let used = g.U.UsedBlocks.used c.args.used.now in
    let row = c.args.row.now in
    let before = c.args.places.now.items in
    let items = c.push_all.new.places.items in
    IfOk-weaker c.push_all.result (λ _. items ≡ before ++ places_named used row) (λ _. (p : Place) → Contains items p → Contains before p ⊎ IsSome (used p))
    (λ _ is. only_used c.one_place_has_one_name.ensures c.a_checkpoint_is_in_its_blocks.ensures.held used row c.requires.stands.0 before items c.requires.stands.1 is) c.push_all.ensures.places

pub returns-clause-counted : goal.returns-clause-counted
returns-clause-counted g c =
    let used = g.U.UsedBlocks.used c.args.used.now in
    let row = c.args.row.now in
    let before = c.args.places.now.items in
    let items = c.push_all.new.places.items in
    IfOk-weaker c.push_all.result (λ _. items ≡ before ++ places_named used row) (λ _. (p : Place) → is_data (used p) ≡ true → times p items ≡ times p before + times_led p (pointers_used used row))
    (λ _ is. data_counted c.one_place_has_one_name.ensures c.a_checkpoint_is_in_its_blocks.ensures.held used row c.requires.stands.0 before items c.requires.stands.1 is) c.push_all.ensures.places
