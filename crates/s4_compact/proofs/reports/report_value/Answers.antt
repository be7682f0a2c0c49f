use Rattle.std.proofs.Common.{rules, ◌≡◌, refl}
use Rattle.s4_compact.proofs.reports.report_value.Goals as goal

pub returns : goal.returns
returns c =
    let free_before-is : c.from.result ≡ c.args.report.now.compaction.free_before = search rules in
    let free_after-is : c.from-2.result ≡ c.args.report.now.compaction.free_after = search rules in
    let turns-is : c.from-3.result ≡ c.args.report.now.compaction.turns = search rules in
    let room_before = c.with_number-made.ensures _ _ c.no_members.ensures refl in
    let room_after = c.with_number-made-2.ensures _ _ room_before refl in
    let free_before = c.with_number-made-3.ensures _ _ room_after free_before-is in
    let free_after = c.with_number-made-4.ensures _ _ free_before free_after-is in
    let turns = c.with_number-made-5.ensures _ _ free_after turns-is in
    let rewritten = c.with_number-made-6.ensures _ _ turns refl in
    let removed = c.with_number-made-7.ensures _ _ rewritten refl in
    let emptied = c.with_number-made-8.ensures _ _ removed refl in
    let moves = c.with_number-made-9.ensures _ _ emptied refl in
    let cleaning = c.with_text-made.ensures _ _ moves c.cleaning_word.ensures in
    let ending = c.with_text-made-2.ensures _ _ cleaning c.ending_word.ensures in
    let full_pass = c.with_text-made-3.ensures _ _ ending c.pass_word.ensures in
    let held = c.with_number-made-10.ensures _ _ full_pass refl in
    c.object_of.ensures _ (c.with_number.ensures _ _ held refl)
