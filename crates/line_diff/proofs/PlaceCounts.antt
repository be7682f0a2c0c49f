-- How many old and new lines are in front of a row.
use Rattle.std.proofs.Common.{◌≡◌, ◌∙◌, ◌+◌, ◌-◌, ◌≤◌, ℕ, Bool, List, length, take, drop, map, filter, count_by, ap, ap₂, sym, length-append, length-take-le, arith}
use Rattle.std.proofs.lemmas.List.{length-map}
use Rattle.std.proofs.lemmas.List.Sums.{length-filter, count_by-le-length}
use Rattle.line_diff.specs.declared.places.Place.{Place}
use Rattle.line_diff.specs.declared.script.Row.{Row}
use Rattle.line_diff.specs.Script.{TextRow, row_of, line_of, is_old, is_new, old_lines, new_lines}
use Rattle.line_diff.specs.Unified.{place_at}
use Rattle.line_diff.proofs.Lists.{joined, range_seen, count_seen}
use Rattle.line_diff.proofs.Turning.{old_both, new_both}

-- the lines of rows that pass are counted
pub lines_counted : (p : TextRow → Bool) (rows : List Row) → count_by (λ row. p (row_of row)) rows ≡ length (map line_of (filter p (map row_of rows)))
lines_counted p rows = count_seen p row_of rows ∙ sym (length-map (filter p (map row_of rows)) line_of)

-- they aren't more than the rows
lines_within : (p : TextRow → Bool) (rows : List TextRow) → length (map line_of (filter p rows)) ≤ length rows
lines_within p rows = omega (arith, length-map (filter p rows) line_of, length-filter p rows, count_by-le-length p rows)

pub old_within : (rows : List TextRow) (i : ℕ) → i ≤ length rows → length (old_lines (take i rows)) ≤ i
old_within rows i le = omega (arith, lines_within is_old (take i rows), length-take-le i rows le)

pub new_within : (rows : List TextRow) (i : ℕ) → i ≤ length rows → length (new_lines (take i rows)) ≤ i
new_within rows i le = omega (arith, lines_within is_new (take i rows), length-take-le i rows le)

-- the lines in front of a row, and those from there to another
pub old_joined : (rows : List TextRow) (a b : ℕ) → a ≤ b → length (old_lines (take a rows)) + length (old_lines (take (b - a) (drop a rows))) ≡ length (old_lines (take b rows))
old_joined rows a b le =
    sym (length-append (old_lines (take a rows)) (old_lines (take (b - a) (drop a rows)))) ∙ ap length (sym (old_both (take a rows) (take (b - a) (drop a rows)))) ∙ ap (λ (r : List TextRow). length (old_lines r)) (joined rows a b le)

pub new_joined : (rows : List TextRow) (a b : ℕ) → a ≤ b → length (new_lines (take a rows)) + length (new_lines (take (b - a) (drop a rows))) ≡ length (new_lines (take b rows))
new_joined rows a b le =
    sym (length-append (new_lines (take a rows)) (new_lines (take (b - a) (drop a rows)))) ∙ ap length (sym (new_both (take a rows) (take (b - a) (drop a rows)))) ∙ ap (λ (r : List TextRow). length (new_lines r)) (joined rows a b le)

-- the place of a row and the lines from there to another give the other's place
pub old_moved : (rows : List Row) (place : Place) (a b m : ℕ) → a ≤ b → place ≡ place_at (map row_of rows) a → m ≡ length (old_lines (map row_of (take (b - a) (drop a rows)))) → place.old + m ≡ length (old_lines (take b (map row_of rows)))
old_moved rows place a b m le at is =
    ap₂ (λ (x y : ℕ). x + y) (ap (λ (p : Place). p.old) at) (is ∙ ap (λ (r : List TextRow). length (old_lines r)) (range_seen row_of rows a b)) ∙ old_joined (map row_of rows) a b le

pub new_moved : (rows : List Row) (place : Place) (a b m : ℕ) → a ≤ b → place ≡ place_at (map row_of rows) a → m ≡ length (new_lines (map row_of (take (b - a) (drop a rows)))) → place.new + m ≡ length (new_lines (take b (map row_of rows)))
new_moved rows place a b m le at is =
    ap₂ (λ (x y : ℕ). x + y) (ap (λ (p : Place). p.new) at) (is ∙ ap (λ (r : List TextRow). length (new_lines r)) (range_seen row_of rows a b)) ∙ new_joined (map row_of rows) a b le
