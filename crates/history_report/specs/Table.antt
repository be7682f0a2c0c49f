-- The table of objects: a row for each.
use Rattle.std.specs.Prelude.{ℕ, if◌then◌else◌, Bool, List, [], ◌∷◌, codes, decimal}
use Rattle.moment_words.specs.declared.printing.MomentStyle.{MomentStyle}
use Rattle.moment_words.specs.Texts.{moment_text}
use Rattle.history_view.specs.declared.listing.Listed.{Listed}
use Rattle.history_report.specs.Page.{Part, Constant, Escaped}

-- whether an object is live, in its cell, and the end of that
abbrev pub state_cell : Bool → List ℕ
state_cell is_live = if is_live then codes "</td><td>live</td><td>" else codes "</td><td>deleted</td><td>"

-- the row of an object: its number, its state, its size in bytes, its moments and its attribute
abbrev pub row_of : MomentStyle → Listed → List Part
row_of style row =
    Constant (codes "<tr><td>") ∷ Escaped (decimal row.object) ∷ Constant (state_cell row.is_live) ∷ Escaped (decimal row.size) ∷ Constant (codes "</td><td>") ∷ Escaped (moment_text row.created style)
    ∷ Constant (codes "</td><td>") ∷ Escaped (moment_text row.changed style) ∷ Constant (codes "</td><td>") ∷ Escaped row.attribute ∷ Constant (codes "</td></tr>\n") ∷ []
