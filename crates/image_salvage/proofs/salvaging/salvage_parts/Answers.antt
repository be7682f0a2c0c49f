use Rattle.std.proofs.Common.{◌∙◌, List, inl, length, ap, subst, rules}
use Rattle.image_parts.specs.declared.rows.RowPart.{RowPart}
use Rattle.segment_table.specs.Used.{used_at}
use Rattle.image_salvage.specs.Unlisted.{FindsUnlistedBy}
use Rattle.image_parts.specs.Image.{Image}
use Rattle.image_salvage.specs.Frames.{AreLostOf}
use Rattle.image_salvage.proofs.salvaging.salvage_parts.Goals as goal

pub returns-clause-salvaged : goal.returns-clause-salvaged
returns-clause-salvaged c = record {
  has = c.requires.has;
  sees = c.in_ok-table.ensures.sees;
  of = inl (record {
    split = c.requires.split;
    unlisted_are = subst (λ (l : List RowPart). FindsUnlistedBy c.args.fault (used_at c.in_ok-table.field-0.table) l c.in_ok-table.field-0.rows.items c.in_ok-table.field-0.unlisted.items)
        (c.in_ok-there.ensures.rows ∙ ap (λ (p : Image). p.rows) c.requires.parts) c.in_ok-table.ensures.unlisted;
    missing_are = search rules;
    lost_are = subst (λ (p : Image). AreLostOf p.frames (length p.frames) c.in_ok-whole.field-0.lost.items) c.requires.parts c.in_ok-whole.ensures.lost;
  });
}
