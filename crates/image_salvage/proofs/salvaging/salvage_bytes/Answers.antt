use Rattle.std.proofs.Common.{inr, List, subst, rules}
use Rattle.image_parts.specs.declared.rows.RowPart.{RowPart}
use Rattle.segment_table.specs.Used.{used_at}
use Rattle.verifier.proofs.Faults.{split_fault}
use Rattle.image_salvage.specs.Unlisted.{FindsUnlisted}
use Rattle.image_salvage.proofs.salvaging.salvage_bytes.Goals as goal

pub returns-clause-salvaged : goal.returns-clause-salvaged
returns-clause-salvaged c = record {
  has = split_fault c.args.bytes.now c.args.cause c.requires.split;
  sees = c.in_ok-table.ensures.finds;
  of = inr (record {
    cause = c.args.cause;
    split = c.requires.split;
    found = c.in_ok-found.found.items;
    found_are = c.in_ok-found.ensures.rows;
    unlisted_are = subst (λ (l : List RowPart). FindsUnlisted (used_at c.in_ok-table.field-0.table) l c.in_ok-rows.field-0.rows.items c.in_ok-rows.field-0.unlisted.items) c.as_slice-2.ensures.value c.in_ok-rows.ensures.finds;
    missing_are = search rules;
    lost_are = c.new.ensures.items;
  });
}
