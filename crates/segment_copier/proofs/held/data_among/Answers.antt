use Rattle.std.proofs.Common.{◌≡◌, ◌+◌, ◌<◌, ℕ, Bool, true, false, cond, List, [], ◌∷◌, ◌++◌, length, get_or, take, filter, append-nil, sym, ap, ◌∙◌}
use Rattle.std.proofs.lemmas.List.Elements.{filter_more}
use Rattle.s4_types.specs.Pointer.{Place}
use Rattle.segment_table.specs.Table.{held_at}
use Rattle.drive.specs.Fields.{DriveFields}
use Rattle.segment_copier.specs.Moves.{is_data}
use Rattle.segment_copier.proofs.held.data_among.Goals as goal

-- one place more was tested
tested : (p : Place → Bool) (all : List Place) (i : ℕ) (x : Place) (places later : List Place) (is : Bool) → i < length all → x ≡ get_or all i x → places ≡ filter p (take i all)
    → is ≡ p x → later ≡ places ++ cond is (x ∷ []) [] → later ≡ filter p (take (i + 1) all)
tested p all i x places later is below at before told added =
    added ∙ ap (λ (l : List Place). l ++ cond is (x ∷ []) []) before
    ∙ ap (λ (b : Bool). filter p (take i all) ++ cond b (x ∷ []) []) told
    ∙ ap (λ (y : Place). filter p (take i all) ++ cond (p y) (y ∷ []) []) at
    ∙ sym (filter_more p all i x below)

pub loop-pointer-preserved-then-not-leads_to_data : goal.loop-pointer-preserved-then-not-leads_to_data
loop-pointer-preserved-then-not-leads_to_data g c =
    let were = c.loop-pointer.invariant in
    let x : Place = c.pointer-item.result in
    record {
      same = c.leads_to_data.ensures.same ∙ were.same;
      found = tested (λ p. is_data (held_at c.args.drive.now.store.table p)) c.args.pointers.now c.loop-pointer.pointer-index x c.loop-pointer.places.items c.loop-pointer.places.items false
          c.loop-pointer-test.true c.pointer-item.is were.found
          (sym c.if-not-leads_to_data.true ∙ c.leads_to_data.ensures.found ∙ ap (λ (d : DriveFields). is_data (held_at d.store.table x)) were.same) (sym (append-nil c.loop-pointer.places.items));
    }

pub loop-pointer-preserved : goal.loop-pointer-preserved
loop-pointer-preserved g c =
    let were = c.loop-pointer.invariant in
    let x : Place = c.pointer-item.result in
    record {
      same = c.leads_to_data.ensures.same ∙ were.same;
      found = tested (λ p. is_data (held_at c.args.drive.now.store.table p)) c.args.pointers.now c.loop-pointer.pointer-index x c.loop-pointer.places.items _ true
          c.loop-pointer-test.true c.pointer-item.is were.found
          (sym c.if-not-leads_to_data.false ∙ c.leads_to_data.ensures.found ∙ ap (λ (d : DriveFields). is_data (held_at d.store.table x)) were.same) c.in_ok-push.ensures.items;
    }
