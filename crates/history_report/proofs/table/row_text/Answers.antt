use Rattle.std.proofs.Common.{ℕ, List, take, refl}
use Rattle.history_report.specs.Page.{Part}
use Rattle.history_report.specs.Table.{row_of}
use Rattle.history_report.proofs.table.row_text.Goals as goal

pub returns : goal.returns
returns c =
    let so_far : ℕ → List Part = λ n. take n (row_of c.args.style c.args.row.now) in
    let begun = c.with_text-made.ensures (so_far 0) _ c.no_parts.ensures refl in
    let object = c.with_number-made.ensures (so_far 1) _ begun c.number.ensures in
    let state = c.with_text-made-2.ensures (so_far 2) _ object c.state_cell.ensures in
    let size = c.with_number-made-2.ensures (so_far 3) _ state c.from.ensures in
    let next = c.with_text-made-3.ensures (so_far 4) _ size refl in
    let created = c.with_moment-made.ensures (so_far 5) _ _ next refl refl in
    let after = c.with_text-made-4.ensures (so_far 6) _ created refl in
    let changed = c.with_moment-made-2.ensures (so_far 7) _ _ after refl refl in
    let last = c.with_text-made-5.ensures (so_far 8) _ changed refl in
    let attribute = c.with_data-made.ensures (so_far 9) _ last c.as_slice.ensures.value in
    c.with_text.ensures (so_far 10) _ attribute refl
