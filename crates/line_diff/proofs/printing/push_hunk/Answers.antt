use Rattle.std.proofs.Common.{rules, ◌≡◌, ◌∙◌, ◌+◌, ◌-◌, ◌++◌, map, take, drop, flat_map, string_bytes, ap, ap₂, append_assoc, arith}
use Rattle.line_diff.specs.declared.places.Place.{Place}
use Rattle.line_diff.specs.Script.{row_of}
use Rattle.line_diff.specs.Unified.{row_text, header_text}
use Rattle.line_diff.proofs.Lists.{range_seen}
use Rattle.line_diff.proofs.PlaceCounts.{old_joined, new_joined}
use Rattle.line_diff.proofs.printing.push_hunk.Goals as goal

pub header_text-requires-clause-old : goal.header_text-requires-clause-old
header_text-requires-clause-old c =
    let rows = map row_of c.args.rows.now in
    let span = c.args.span in
    omega (arith, ap (λ (p : Place). p.old) c.requires.from, ap (λ (p : Place). p.old) c.requires.to, old_joined rows span.first (span.last + 1) (omega (arith, c.requires.ordered)))

pub header_text-requires-clause-new : goal.header_text-requires-clause-new
header_text-requires-clause-new c =
    let rows = map row_of c.args.rows.now in
    let span = c.args.span in
    omega (arith, ap (λ (p : Place). p.new) c.requires.from, ap (λ (p : Place). p.new) c.requires.to, new_joined rows span.first (span.last + 1) (omega (arith, c.requires.ordered)))

pub returns : goal.returns
returns c =
    let rows = c.args.rows.now in
    let span = c.args.span in
    let text = string_bytes c.args.text.now in
    let header = header_text c.args.from c.args.to in
    let first : string_bytes c.push_str.new.self ≡ text ++ header = search rules in
    let second : string_bytes c.push_rows.new.text ≡ string_bytes c.push_str.new.self ++ flat_map row_text (map row_of (take (span.last + 1 - span.first) (drop span.first rows))) = search rules in
    let shown = flat_map row_text (take (span.last + 1 - span.first) (drop span.first (map row_of rows))) in
    second ∙ ap₂ (λ x y. x ++ flat_map row_text y) first (range_seen row_of rows span.first (span.last + 1)) ∙ append_assoc text header shown
    ∙ ap (λ h. text ++ (h ++ shown)) (ap₂ header_text c.requires.from c.requires.to)
