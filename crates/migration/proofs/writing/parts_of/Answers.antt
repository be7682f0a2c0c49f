use Rattle.std.proofs.Common.{◌≡◌, ◌+◌, ◌<◌, ◌∷◌, ◌++◌, [], ℕ, suc, List, length, take, get_or, sym, subst, ap, ◌∙◌, arith}
use Rattle.std.specs.List.{AllByRecursion}
use Rattle.std.proofs.lemmas.List.{take_all, length-append}
use Rattle.object_map.specs.declared.map.Row.{Row}
use Rattle.image_parts.specs.Rows.{IsRow}
use Rattle.image_parts.specs.declared.rows.RowPart.{RowPart}
use Rattle.image_objects.specs.declared.rows.ImageRow.{ImageRow}
use Rattle.image_objects.specs.Saved.{saved_row}
use Rattle.verifier.specs.Rows.{SpellRows, SpellsRow}
use Rattle.migration.specs.Migrated.{rows_then}
use Rattle.migration.proofs.Parts.{are_push, then_more}
use Rattle.migration.proofs.writing.parts_of.Goals as goal

pub loop-index-preserved : goal.loop-index-preserved
loop-index-preserved c =
    let rows = c.args.rows.now in
    let laters = c.args.laters.now in
    let i = c.loop-index.index in
    let row : ImageRow = c.index-rows-index.result in
    let later : Row = c.index-laters-index.result in
    let front = rows_then (take i rows) (take i laters) in
    let within = c.loop-index-test.true in
    let in_laters : i < length laters = omega (arith, within, c.requires) in
    let more : rows_then (take (i + 1) rows) (take (i + 1) laters) ≡ front ++ saved_row row.object later ∷ [] =
    ap (λ (n : ℕ). rows_then (take n rows) (take n laters)) (let next : i + 1 ≡ suc i = omega arith in next)
    ∙ then_more i rows laters row later within in_laters
    ∙ ap (λ (r : ImageRow). front ++ saved_row r.object (get_or laters i later) ∷ []) (sym c.index-rows-index.is)
    ∙ ap (λ (l : Row). front ++ saved_row row.object l ∷ []) (sym c.index-laters-index.is) in
    let items : c.push.new.self.items ≡ c.loop-index.parts.items ++ c.part_of.result ∷ [] = c.in_ok-push.ensures.items in
    record {
      spelled = subst (λ (ps : List RowPart). SpellRows ps (rows_then (take (i + 1) rows) (take (i + 1) laters))) (sym items)
          (subst (λ (rs : List ImageRow). SpellRows (c.loop-index.parts.items ++ c.part_of.result ∷ []) rs) (sym more)
          (c.rows_are_read_in_order.ensures.next c.loop-index.parts.items front c.part_of.result (saved_row row.object later) c.loop-index.invariant.spelled
          (subst (λ (r : ImageRow). SpellsRow c.part_of.result (saved_row r.object later)) (sym c.index-rows-index.is) c.part_of.ensures.spelled)));
      are = subst (λ (ps : List RowPart). AllByRecursion IsRow ps) (sym items) (are_push c.loop-index.parts.items c.part_of.result c.loop-index.invariant.are c.part_of.ensures.is);
      count = ap length items ∙ length-append c.loop-index.parts.items (c.part_of.result ∷ []) ∙ ap (λ n. n + 1) c.loop-index.invariant.count;
    }

pub returns-clause-parts : goal.returns-clause-parts
returns-clause-parts c =
    let rows = c.args.rows.now in
    let laters = c.args.laters.now in
    let i = c.loop-index.index in
    let past = c.loop-index-test.false in
    record {
      spelled = subst (λ (rs : List ImageRow). SpellRows c.loop-index.parts.items rs)
          (ap (λ (rs : List ImageRow). rows_then rs (take i laters)) (take_all i rows past) ∙ ap (λ (ls : List Row). rows_then rows ls) (take_all i laters (omega (arith, past, c.requires)))) c.loop-index.invariant.spelled;
      are = c.loop-index.invariant.are;
    }
