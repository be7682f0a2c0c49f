use Rattle.std.proofs.Common.{◌≡◌, ℕ, ◌+◌, ◌<◌, ◌++◌, List, [], ◌∷◌, length, take, get_or, Option, sym, ap, ◌∙◌}
use Rattle.std.proofs.lemmas.List.{take_all, take_more, flat_map_more}
use Rattle.s4_types.specs.Pointer.{Place}
use Rattle.codec.specs.declared.entries.Triple.{Triple}
use Rattle.version_store.specs.Store.{sides_of}
use Rattle.version_store.proofs.data_blocks.add_sides.Goals as goal

-- both pointers of one triple more
one_more : (start now new : List (Option Place)) (triples : List Triple) (i : ℕ) (t : Triple) → i < length triples → t ≡ get_or triples i t → now ≡ start ++ sides_of (take i triples) → new ≡ now ++ (t.before ∷ t.after ∷ []) → new ≡ start ++ sides_of (take (i + 1) triples)
one_more start now new triples i t below at was is =
    is ∙ ap (λ (pointers : List (Option Place)). pointers ++ (t.before ∷ t.after ∷ [])) was ∙ flat_map_more (λ (t : Triple). t.before ∷ t.after ∷ []) start (take i triples) t
    ∙ ap (λ (front : List Triple). start ++ sides_of front) (ap (λ (t : Triple). take i triples ++ t ∷ []) at ∙ sym (take_more triples i t below))

pub loop-triple-preserved : goal.loop-triple-preserved
loop-triple-preserved c =
    one_more c.args.pointers.now.items c.loop-triple.pointers.items c.extend_from_slice.new.self.items c.triples-triple-items.result.now c.loop-triple.triple-index c.triple-item.result c.loop-triple-test.true c.triple-item.is c.loop-triple.invariant c.in_ok-extend_from_slice.ensures.items

pub returns : goal.returns
returns c = record {
  added = c.loop-triple.invariant ∙ ap (λ (triples : List Triple). c.args.pointers.now.items ++ sides_of triples) (take_all c.loop-triple.triple-index c.triples-triple-items.result.now c.loop-triple-test.false ∙ c.triples-triple-items.ensures.triples);
  refusal = tt;
}
