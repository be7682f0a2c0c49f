use Rattle.std.proofs.Common.{◌≡◌, ◌∷◌, ◌++◌, [], ◌∙◌, List, drop, sym, ap, subst, append_assoc, append-nil}
use Rattle.codec.specs.Entry.{EntryFields}
use Rattle.time_read.specs.Presents.{IsIndexOf}
use Rattle.time_read.proofs.presents.lengthen.Goals as goal

pub loop-entry-init : goal.loop-entry-init
loop-entry-init c = record {
  told = λ older tells. subst (λ (es : List EntryFields). IsIndexOf c.add_entry.new.index es) (sym (append-nil older)) tells;
  whole = ap (λ (es : List EntryFields). drop 1 es) c.split_first-others.ensures ∙ sym c.into_iter-entry-iterator.ensures.into_iter_gives;
}

pub loop-entry-preserved : goal.loop-entry-preserved
loop-entry-preserved c =
    let so_far = c.loop-entry.yielded in
    let entry = c.in-Some.entry in
    record {
      told = λ older tells. subst (λ (es : List EntryFields). IsIndexOf c.add_entry-in-loop-entry.new.index es) (append_assoc older so_far (entry ∷ []))
          (c.add_entry-in-loop-entry.ensures (older ++ so_far) (c.loop-entry.invariant.told older tells));
      whole = c.loop-entry.invariant.whole ∙ ap (λ (es : List EntryFields). so_far ++ es) c.in-Some.ensures.steps ∙ sym (append_assoc so_far (entry ∷ []) c.next.new.self);
    }

pub returns : goal.returns
returns c = λ older tells.
    (let first = c.split_first-others.result.0.now in
    let others = c.split_first-others.result.1 in
    let so_far = c.loop-entry.yielded in
    let all : so_far ≡ others = sym (append-nil so_far) ∙ ap (λ (es : List EntryFields). so_far ++ es) (sym c.in-None.ensures.steps.0) ∙ sym c.loop-entry.invariant.whole ∙ ap (λ (es : List EntryFields). drop 1 es) c.split_first-others.ensures in
    let whole : (older ++ first ∷ []) ++ so_far ≡ older ++ c.args.entries.now = append_assoc older (first ∷ []) so_far ∙ ap (λ (es : List EntryFields). older ++ first ∷ es) all ∙ ap (λ (es : List EntryFields). older ++ es) (sym c.split_first-others.ensures) in
    subst (λ (es : List EntryFields). IsIndexOf c.loop-entry.index es) whole (c.loop-entry.invariant.told (older ++ first ∷ []) (c.add_entry.ensures older tells)))
