-- What is written of a difference.
use Rattle.std.proofs.Common.{◌≡◌, ◌∙◌, ℕ, Bool, List, Option, if◌then◌else◌, ap, sym}
use Rattle.std.specs.Io.KnownBytes.{Appends}
use Rattle.history_diff.specs.declared.diffing.Comparison.{Comparison}
use Rattle.history_diff.specs.declared.texts.Detail.{Detail}
use Rattle.history_view.specs.Contents.{content_of}
use Rattle.history_diff.specs.Diffing.{ObjectDifference, json_of, text_of}
use Rattle.history_diff.specs.Texts.{IsAskedText}
use Rattle.history_diff.specs.private.Writing.{WritesLines}

-- the lines for programs or for people are those of a comparison that asks for them
pub lines_written : (c : Comparison) (row : ObjectDifference) (json : Bool) (detail : Detail) (text : Option (List ℕ)) (a b : Option (List ℕ)) → c.json ≡ json → detail ≡ c.detail
    → IsAskedText c.detail row.object c (content_of row.before) (content_of row.after) text → Appends a b (if json then json_of detail row text else text_of c.raw detail row text) → WritesLines c row a b
lines_written c row json detail text a b asked is unified wrote = record {
  text = if json then json_of detail row text else text_of c.raw detail row text;
  lines = record {
    text = text;
    unified = unified;
    lines_are =
        ap (λ (d : Detail). if json then json_of d row text else text_of c.raw d row text) is
        ∙ ap (λ (x : Bool). if x then json_of c.detail row text else text_of c.raw c.detail row text) (sym asked);
  };
  wrote = wrote;
}
