use Rattle.std.proofs.Common.{◌≢◌, ◌∙◌, List, ℕ}
use Rattle.std.specs.Prelude.{string_bytes}
use Rattle.std.proofs.lemmas.List.Elements.{All-pop}
use Rattle.std.specs.List.{All}
use Rattle.kept_files.proofs.Steps.{before_then}
use Rattle.kept_files.proofs.folder.remove_left.Goals as goal

pub loop-leftover-preserved : goal.loop-leftover-preserved
loop-leftover-preserved g c =
    let parts = λ (path : List ℕ) (none : All (λ one. path ≢ string_bytes one.path) c.args.left.now.items).
    All-pop (λ one. path ≢ string_bytes one.path) c.loop-leftover.left.items c.pop.new.self.items c.pop.result c.pop.ensures.items (c.loop-leftover.invariant.rest path none) in
    record {
      image = before_then _ _ _ _ c.loop-leftover.invariant.image c.remove_apart.ensures.image;
      others = λ path none. before_then _ _ _ _ (c.loop-leftover.invariant.others path none)
          (c.remove_apart.ensures.others.each path
          (λ e. (rw c.in-Some.is at (parts path none).1) (e ∙ c.path.ensures)));
      rest = λ path none. (parts path none).0;
    }
