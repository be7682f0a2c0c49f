use Rattle.std.proofs.Common.{◌∙◌, ◌+◌, IsSome, List, Option, ap, cond, sym, subst}
use Rattle.std.proofs.lemmas.List.{take_all}
use Rattle.std.proofs.lemmas.List.Elements.{All-get_or}
use Rattle.s4_types.specs.Pointer.{Place}
use Rattle.block_log.specs.Log.{Stored, same_place, is_data}
use Rattle.journal_chain.specs.Chain.{times}
use Rattle.segment_table.specs.Slots.{capped}
use Rattle.segment_table.specs.Table.{held_at, named_at}
use Rattle.segment_table.specs.Used.{used_at}
use Rattle.verifier.proofs.Holding.{also_none, also_more, alike_itself, alike_on}
use Rattle.verifier.proofs.Counting.{named_none, named_more}
use Rattle.verifier.proofs.blocks.hold_all.Goals as goal

pub loop-place-init : goal.loop-place-init
loop-place-init c =
    let start = c.args.table.now in record {
      also = also_none (used_at start) (held_at start);
      named = λ p n of_data was. named_none (named_at start) p n was;
      alike = alike_itself start;
    }

pub loop-place-preserved : goal.loop-place-preserved
loop-place-preserved c =
    let start = c.args.table.now in
    let now = c.loop-place.table in
    let after = c.hold.new.self in record {
      also = also_more c.one_place_has_one_name.ensures (used_at start) (held_at start) (held_at now) (held_at after) c.args.places.now c.loop-place.place-index c.place-item.result
          c.loop-place-test.true c.place-item.is c.loop-place.invariant.also (λ q. c.hold.ensures.held q ∙ ap (λ b. cond (same_place c.place-item.result q) b (held_at now q)) (c.loop-place.invariant.alike.used c.place-item.result));
      named = λ p n of_data was. named_more c.one_place_has_one_name.ensures (used_at now) (named_at now) (named_at after) c.args.places.now c.loop-place.place-index c.place-item.result p n
          c.loop-place-test.true c.place-item.is c.hold.ensures.named (ap is_data (c.loop-place.invariant.alike.used p) ∙ of_data) (c.loop-place.invariant.named p n of_data was);
      alike = alike_on start now after c.loop-place.invariant.alike (record { used = c.hold.ensures.used; frames = c.hold.ensures.frames; slots = c.hold.ensures.roles });
    }

pub hold-requires : goal.hold-requires
hold-requires c =
    let start = c.args.table.now in
    let IsUsed : Place → Type 0 = λ p. IsSome (used_at start p) in
    let p : Place = c.place-item.result in
    let used : IsUsed p = subst IsUsed (sym c.place-item.is) (All-get_or IsUsed c.args.places.now c.loop-place.place-index p c.loop-place-test.true c.requires) in
    subst (λ (block : Option Stored). IsSome block) (sym (c.loop-place.invariant.alike.used p)) used

pub returns-clause-named : goal.returns-clause-named
returns-clause-named c = λ p n of_data was.
    c.loop-place.invariant.named p n of_data was
    ∙ ap (λ (l : List Place). capped (n + times p l)) (take_all c.loop-place.place-index c.args.places.now c.loop-place-test.false)
