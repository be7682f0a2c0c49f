use Rattle.std.proofs.Common.{◌≡◌, ◌<◌, ◌∙◌, ◌+◌, ◌*◌, ap, sym, subst, List, ℕ, [], rules, arith, suc}
use lib.ListN.{get_elem?}
use Rattle.atomic_table.specs.Seated.{TableId}
use Rattle.segment_word.specs.Frames.{Pinned, View}
use Rattle.segment_word.specs.Counting.{numbers_of}
use Rattle.segment_word.proofs.HeldPins.{popped, popped_rest, none_counted, older_at}
use Rattle.segment_word.proofs.pins.Pin.unpin.Goals as goal

pub returns-in_default-clause-pins : goal.returns-in_default-clause-pins
returns-in_default-clause-pins c = none_counted _ (sym c.self.invariant.2 ∙ (let e : c.self.inside.numbers.items ≡ [] = search rules in e))

pub lose-requires-clause-inside : goal.lose-requires-clause-inside
lose-requires-clause-inside c =
    let p = popped c.self.inside.seat.me.0.pins c.pop.new.self.items c.in-Some.frame (sym c.self.invariant.2 ∙ c.in-Some.ensures.items) in
    let low : 1025 * p.0.number + 1024 < c.self.inside.seat.table_id.words = c.self.invariant.3 0 p.0 (ap (λ (l : List Pinned). get_elem? l 0) p.2) in
    let here = c.self.invariant.0 ∙ sym (ap (λ b. b.table.shared.table_id) c.deref.ensures) in
    let there : 1025 * c.in-Some.frame + 1024 < c.deref.result.now.table.shared.table_id.words =
    subst (λ (n : ℕ). 1025 * n + 1024 < c.deref.result.now.table.shared.table_id.words) p.1 (subst (λ (z : TableId). 1025 * p.0.number + 1024 < z.words) here low) in
    (omega arith, c.deref.result.now.sized.1)

pub lose-requires-clause-newest : goal.lose-requires-clause-newest
lose-requires-clause-newest c = popped c.self.inside.seat.me.0.pins c.pop.new.self.items c.in-Some.frame (sym c.self.invariant.2 ∙ c.in-Some.ensures.items)

pub invariant_of-self-2 : goal.invariant_of-self-2
invariant_of-self-2 c =
    let view = c.lose.ensures.view in
    let pins = ap (λ (v : View). v.pins) view in
    let numbers = popped_rest c.self.inside.seat.me.0.pins c.pop.new.self.items c.in-Some.frame (sym c.self.invariant.2 ∙ c.in-Some.ensures.items) in (
      c.lose.ensures.seat.0 ∙ c.self.invariant.0,
      search rules,
      numbers ∙ ap numbers_of (sym pins),
      (λ i p e. subst (λ (z : TableId). 1025 * p.number + 1024 < z.words) (sym c.lose.ensures.seat.0)
          (c.self.invariant.3 (suc i) p (older_at c.self.inside.seat.me.0.pins i p (ap (λ (l : List Pinned). get_elem? l i) (sym pins) ∙ e)))),
      c.self.invariant.4,
    )
