use Rattle.std.proofs.Common.{◌<◌, ◌++◌, ◌≡◌, List, [], ◌∷◌, Some}
use Rattle.std.proofs.lemmas.List.Elements.{All-pop}
use Rattle.s4_types.specs.declared.limits.TheConstants.{OBJECT_BLOCKS}
use Rattle.codec.specs.declared.entries.Triple.{Triple}
use Rattle.time_read.specs.Undoings.{earlier_of}
use Rattle.time_read.proofs.Undone.{kept_on, extends_on}
use Rattle.time_read.proofs.undo_records.keep_pointers.Goals as goal

pub loop-triple-preserved : goal.loop-triple-preserved
loop-triple-preserved c =
    let t : Triple = c.in-Some.triple.now in
    let rest : List Triple = c.next.new.self.iter.rest.now in
    let all : List Triple = c.loop-triple.triple-iterator.iter.rest.now in
    let split : all ≡ rest ++ t ∷ [] = c.in-Some.ensures.steps in
    let pushed : c.push.new.self ≡ c.loop-triple.pointers ++ earlier_of t ∷ [] = c.in_ok-push.ensures.pushed in
    record {
      low = (All-pop (λ (t : Triple). t.index < OBJECT_BLOCKS) all rest (Some t) split c.loop-triple.invariant.low).0;
      kept = kept_on c.args.pointers.now c.loop-triple.pointers c.push.new.self c.args.triples.now all rest t split pushed c.loop-triple.invariant.kept;
      extends = extends_on c.args.pointers.now c.loop-triple.pointers c.push.new.self c.loop-triple.invariant.extends (earlier_of t ∷ [], pushed);
    }
