use Rattle.std.proofs.Common.{◌≡◌, ℕ, ◌+◌, ◌<◌, None, refl, ap, subst, ◌∙◌}
use Rattle.object_map.specs.Objects.{IsNextAbove}
use Rattle.object_map.specs.Rows.{row_of}
use Rattle.version_store.specs.Store.{StoreFields}
use Rattle.drive.specs.Fields.{state_in, store_of}
use Rattle.drive_compaction.specs.Past.{present_blocks, held_blocks}
use Rattle.drive_compaction.proofs.Summing.{summed_none, summed_more, none_beyond}
use Rattle.drive_compaction.proofs.past.past_blocks.Goals as goal

pub loop-next-init : goal.loop-next-init
loop-next-init g c = record {
  store = refl;
  ledger = refl;
  left = summed_none (store_of c.args.drive.now) (state_in c.args.drive.now).clock c.new-object.result c.held_blocks-past.result (held_blocks c.args.drive.now.store.table) c.rules.ensures.store c.new-object.ensures c.held_blocks-past.ensures.held;
}

pub loop-next-preserved : goal.loop-next-preserved
loop-next-preserved g c =
    let s : StoreFields = store_of c.args.drive.now in
    let clock : ℕ = (state_in c.args.drive.now).clock in
    let above : IsNextAbove s.rows c.loop-next.object c.in-Some.next = subst (λ (x : StoreFields). IsNextAbove x.rows c.loop-next.object c.in-Some.next) c.loop-next.invariant.store c.in-Some.ensures.some in
    let more : c.present_blocks.result ≡ present_blocks s clock c.in-Some.next =
    c.present_blocks.ensures.blocks ∙ ap (λ (x : StoreFields). present_blocks x c.clock-clock.result c.in-Some.next) c.loop-next.invariant.store ∙ ap (λ (t : ℕ). present_blocks s t c.in-Some.next) c.clock-clock.ensures in
    record {
      store = c.present_blocks.ensures.store ∙ c.loop-next.invariant.store;
      ledger = c.present_blocks.ensures.ledger ∙ c.loop-next.invariant.ledger;
      left = summed_more s clock c.loop-next.object c.in-Some.next c.loop-next.past (held_blocks c.args.drive.now.store.table) c.present_blocks.result c.saturating_sub-past.result above c.loop-next.invariant.left more c.saturating_sub-past.ensures;
    }

pub returns-clause-past : goal.returns-clause-past
returns-clause-past g c = record {
  bound = c.loop-next.object + 1;
  beyond = none_beyond (store_of c.args.drive.now) (state_in c.args.drive.now).clock c.loop-next.object
      (subst (λ (x : StoreFields). (q : ℕ) → c.loop-next.object < q → row_of x.rows q ≡ None) c.loop-next.invariant.store c.in_default.ensures.none);
  number = c.loop-next.invariant.left;
}
