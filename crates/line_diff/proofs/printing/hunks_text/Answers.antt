use Rattle.std.proofs.Common.{rules, ◌≡◌, ◌++◌, [], map, string_bytes, refl, arith}
use Rattle.line_diff.specs.Script.{row_of}
use Rattle.line_diff.specs.Unified.{hunk_text}
use Rattle.line_diff.proofs.Hunks.{none_shown, one_shown, all_shown}
use Rattle.line_diff.proofs.printing.hunks_text.Goals as goal

pub loop-span-init : goal.loop-span-init
loop-span-init c =
    let empty : string_bytes c.new-text.result ≡ [] = search rules in
    record { within = omega arith; place = refl; shown = none_shown (map row_of c.args.rows.now) (string_bytes c.new-text.result) empty }

pub loop-span-preserved : goal.loop-span-preserved
loop-span-preserved c =
    let rows = map row_of c.args.rows.now in
    let l = c.loop-span in
    let span = c.in-Some.span in
    let grown : string_bytes c.push_hunk.new.text ≡ string_bytes l.text ++ hunk_text rows span = search rules in
    record {
      within = omega (arith, c.in-Some.ensures.ordered.2);
      place = c.place_from-end.ensures;
      shown = one_shown rows l.from span (string_bytes l.text) (string_bytes c.push_hunk.new.text) l.invariant.shown c.in-Some.ensures.some grown;
    }

pub returns : goal.returns
returns c = all_shown (map row_of c.args.rows.now) c.loop-span.from (string_bytes c.loop-span.text) c.loop-span.invariant.shown c.in_default.ensures.none
