-- The data of a page is where it may be.
use Rattle.std.proofs.Common.{◌+◌, ◌-◌, ◌++◌, ℕ, Bool, true, false, List, [], ◌∷◌, filter, flat_map, decimal, refl, sym, subst, codes}
use Rattle.s4_types.specs.declared.audit_rows.AuditKind.{AuditKind}
use Rattle.s4_types.specs.declared.audit_rows.AuditKind.TheVariants as audit
use Rattle.s4_types.specs.declared.audit_rows.AuditRow.{AuditRow}
use Rattle.s4_types.specs.declared.spans.Span.{Span}
use Rattle.s4_model.specs.State.{State}
use Rattle.version_store.specs.Store.{StoreFields}
use Rattle.moment_words.specs.declared.printing.MomentStyle.{MomentStyle}
use Rattle.moment_words.specs.Texts.{moment_text, style_of}
use Rattle.window.specs.Runs.{span_is_of}
use Rattle.history_view.specs.declared.listing.Listed.{Listed}
use Rattle.history_view.specs.Changes.{changes_between}
use Rattle.history_view.specs.declared.changes.Kind.{Kind}
use Rattle.history_view.specs.declared.changes.Kind.TheVariants.{Made, Deleted, Continued, Attribute, Cut, Written, Lengthened, Touched}
use Rattle.history_view.specs.declared.changes.ObjectChange.{ObjectChange}
use Rattle.history_report.specs.declared.scale.Scale.{Scale}
use Rattle.history_report.specs.declared.texts.TheConstants.{TIMELINE_HEAD}
use Rattle.history_report.specs.Page.{Part, Constant, Escaped}
use Rattle.history_report.specs.Timeline.{scale_of, place_of, mark_head, mark_shape, done_text, mark_of, marks_by, change_marks, run_mark, run_marks, strip_head, strip_end, strip_by, strip_of}
use Rattle.history_report.specs.Table.{row_of, state_cell}
use Rattle.history_report.specs.Flushes.{flush_parts, flushes_and_windows_of, flushes_part, none_flushed, parts_by}
use Rattle.history_diff.specs.Diffing.{has_any}
use Rattle.history_report.specs.Differences.{ShownDifference, difference_end, difference_of, first_lines, has_more_lines, lines_of}
use Rattle.history_report.specs.Report.{head_of, numbers_of, axis_of, timeline_of, table_of, end_of, since_of}
use Rattle.history_report.specs.Markup.{Mode, Text, read, AreSafe, PagesAreSafe}
use Rattle.history_report.proofs.Markup.{in_text, in_value}

-- ---- parts that follow each other

safe_two : (mode : Mode) (a b : List Part) → AreSafe mode a → AreSafe Text b → AreSafe mode (a ++ b)
safe_two mode [] b one other = subst (λ (m : Mode). AreSafe m b) (sym one) other
safe_two mode (Constant text ∷ a) b one other = safe_two (read mode text) a b one other
safe_two mode (Escaped bytes ∷ a) b one other = (one.0, one.1, safe_two mode a b one.2 other)

safe_each : {X : Type 0} (f : X → List Part) → ((x : X) → AreSafe Text (f x)) → (xs : List X) → AreSafe Text (flat_map f xs)
safe_each f each [] = refl
safe_each f each (x ∷ xs) = safe_two Text (f x) (flat_map f xs) (each x) (safe_each f each xs)

-- ---- the timeline

mark_parts : (kind : Kind) (a b c d e : List ℕ) → AreSafe Text
    (Constant (mark_head kind) ∷ Escaped a ∷ Constant (mark_shape kind) ∷ Escaped b ∷ Constant (done_text kind) ∷ Escaped c ∷ Constant (codes ": ") ∷ Escaped d ∷ Constant (codes " to ") ∷ Escaped e ∷ Constant (codes " bytes</title></path>\n") ∷ [])
mark_parts Made a b c d e = (refl, in_value a, (tt, in_text b, (tt, in_text c, (tt, in_text d, (tt, in_text e, refl)))))
mark_parts Deleted a b c d e = (refl, in_value a, (tt, in_text b, (tt, in_text c, (tt, in_text d, (tt, in_text e, refl)))))
mark_parts Continued a b c d e = (refl, in_value a, (tt, in_text b, (tt, in_text c, (tt, in_text d, (tt, in_text e, refl)))))
mark_parts Attribute a b c d e = (refl, in_value a, (tt, in_text b, (tt, in_text c, (tt, in_text d, (tt, in_text e, refl)))))
mark_parts Cut a b c d e = (refl, in_value a, (tt, in_text b, (tt, in_text c, (tt, in_text d, (tt, in_text e, refl)))))
mark_parts Written a b c d e = (refl, in_value a, (tt, in_text b, (tt, in_text c, (tt, in_text d, (tt, in_text e, refl)))))
mark_parts Lengthened a b c d e = (refl, in_value a, (tt, in_text b, (tt, in_text c, (tt, in_text d, (tt, in_text e, refl)))))
mark_parts Touched a b c d e = (refl, in_value a, (tt, in_text b, (tt, in_text c, (tt, in_text d, (tt, in_text e, refl)))))

marks_safe : (kind : Kind) (mark : List Part) → AreSafe Text mark → AreSafe Text (marks_by kind mark)
marks_safe Made mark safe = safe
marks_safe Deleted mark safe = safe
marks_safe Continued mark safe = refl
marks_safe Attribute mark safe = safe
marks_safe Cut mark safe = safe
marks_safe Written mark safe = safe
marks_safe Lengthened mark safe = safe
marks_safe Touched mark safe = safe

change_safe : (scale : Scale) (o : ℕ) (change : ObjectChange) → AreSafe Text (change_marks scale o change)
change_safe scale o change =
    marks_safe change.kind (mark_of scale o change)
    (mark_parts change.kind (decimal (place_of scale change.moment)) (decimal o) (moment_text change.moment scale.style) (decimal change.size_before) (decimal change.size_after))

run_safe : (scale : Scale) (o : ℕ) (run : Span) → AreSafe Text (run_mark scale o run)
run_safe scale o run = (
  refl,
  in_value (decimal (place_of scale run.first)),
  (refl, in_value (decimal (place_of scale run.last - place_of scale run.first + 3)), (tt, in_text (decimal o), (tt, in_text (moment_text run.first scale.style), (tt, in_text (moment_text run.last scale.style), refl)))),
)

head_safe : (o : ℕ) → AreSafe Text (strip_head o)
head_safe o = (tt, in_text (decimal o), refl)

by_safe : (scale : Scale) (runs : List Span) (o : ℕ) (changes : List ObjectChange) → AreSafe Text (strip_by scale runs o changes)
by_safe scale runs o changes =
    let all = run_marks scale o runs 0 in
    let own = run_marks scale o runs o in
    let marks = flat_map (change_marks scale o) changes in
    let one = safe_two Text (strip_head o) all (head_safe o) (safe_each (run_mark scale o) (run_safe scale o) (filter (span_is_of 0) runs)) in
    let two = safe_two Text (strip_head o ++ all) own one (safe_each (run_mark scale o) (run_safe scale o) (filter (span_is_of o) runs)) in
    let three = safe_two Text ((strip_head o ++ all) ++ own) marks two (safe_each (change_marks scale o) (change_safe scale o) changes) in
    safe_two Text (((strip_head o ++ all) ++ own) ++ marks) strip_end three refl

strip_safe : (scale : Scale) (s : State) (store : StoreFields) (runs : List Span) (o : ℕ) → AreSafe Text (strip_of scale s store runs o)
strip_safe scale s store runs o = by_safe scale runs o (changes_between s store o s.floor s.clock)

-- ---- the table

row_parts : (is_live : Bool) (a b c d e : List ℕ) → AreSafe Text
    (Constant (codes "<tr><td>") ∷ Escaped a ∷ Constant (state_cell is_live) ∷ Escaped b ∷ Constant (codes "</td><td>") ∷ Escaped c ∷ Constant (codes "</td><td>") ∷ Escaped d ∷ Constant (codes "</td><td>") ∷ Escaped e ∷ Constant (codes "</td></tr>\n") ∷ [])
row_parts true a b c d e = (tt, in_text a, (tt, in_text b, (tt, in_text c, (tt, in_text d, (tt, in_text e, refl)))))
row_parts false a b c d e = (tt, in_text a, (tt, in_text b, (tt, in_text c, (tt, in_text d, (tt, in_text e, refl)))))

row_safe : (style : MomentStyle) (row : Listed) → AreSafe Text (row_of style row)
row_safe style row = row_parts row.is_live (decimal row.object) (decimal row.size) (moment_text row.created style) (moment_text row.changed style) row.attribute

-- ---- the flushes and windows

parts_safe : (kind : AuditKind) (style : MomentStyle) (row : AuditRow) → AreSafe Text (parts_by kind style row)
parts_safe audit.Create style row = refl
parts_safe audit.Delete style row = refl
parts_safe audit.Write style row = refl
parts_safe audit.Truncate style row = refl
parts_safe audit.SetAttr style row = refl
parts_safe audit.SetWindow style row = (tt, in_text (moment_text row.moment style), (tt, in_text (decimal row.first), refl))
parts_safe audit.Flush style row =
    (tt, in_text (moment_text row.moment style), (tt, in_text (moment_text row.first style), (tt, in_text (moment_text row.second style), refl)))
parts_safe audit.FlushO style row =
    (tt, in_text (moment_text row.moment style), (tt, in_text (moment_text row.first style), (tt, in_text (moment_text row.second style), (tt, in_text (decimal row.object), refl))))

flush_safe : (style : MomentStyle) (row : AuditRow) → AreSafe Text (flush_parts style row)
flush_safe style row = parts_safe row.kind style row

none_safe : (rows : List AuditRow) → AreSafe Text (Constant (none_flushed rows) ∷ [])
none_safe [] = refl
none_safe (row ∷ rows) = refl

flushes_safe : (s : State) → AreSafe Text (flushes_part s)
flushes_safe s =
    let style = style_of s.clock false in
    safe_two Text (flat_map (flush_parts style) (flushes_and_windows_of s)) (Constant (none_flushed (flushes_and_windows_of s)) ∷ []) (safe_each (flush_parts style) (flush_safe style) (flushes_and_windows_of s)) (none_safe (flushes_and_windows_of s))

-- ---- the differences

difference_parts : (is_cut : Bool) (a b : List ℕ) → AreSafe Text (Constant (codes "<h3>object ") ∷ Escaped a ∷ Constant (codes "</h3>\n<pre>") ∷ Escaped b ∷ Constant (difference_end is_cut) ∷ [])
difference_parts true a b = (tt, in_text a, (tt, in_text b, refl))
difference_parts false a b = (tt, in_text a, (tt, in_text b, refl))

difference_safe : (d : ShownDifference) → AreSafe Text (difference_of d)
difference_safe d = difference_parts (has_more_lines (lines_of d)) (decimal d.differing.object) (first_lines (lines_of d))

end_safe : (differs : Bool) → AreSafe Text (end_of differs)
end_safe true = refl
end_safe false = refl

-- ---- the page

numbers_safe : (s : State) (from : ℕ) → AreSafe Text (numbers_of s from)
numbers_safe s from =
    let style = style_of s.clock false in
    (tt, in_text (moment_text s.clock style), (tt, in_text (moment_text s.floor style), (tt, in_text (moment_text from style), refl)))

axis_safe : (s : State) → AreSafe Text (axis_of s)
axis_safe s =
    let style = style_of s.clock false in
    (tt, in_text (moment_text s.floor style), (tt, in_text (moment_text s.clock style), refl))

page_head_safe : (s : State) (from : ℕ) → AreSafe Text (head_of s from)
page_head_safe s from = safe_two Text (numbers_of s from) (Constant TIMELINE_HEAD.now ∷ axis_of s) (numbers_safe s from) (axis_safe s)

pub pages_are_safe : PagesAreSafe
pages_are_safe s store runs from objects rows differences =
    safe_two Text (timeline_of s store runs from objects) (table_of (style_of s.clock false) rows ++ (flushes_part s ++ since_of differences))
    (safe_two Text (head_of s from) (flat_map (strip_of (scale_of s) s store runs) objects) (page_head_safe s from) (safe_each (strip_of (scale_of s) s store runs) (strip_safe (scale_of s) s store runs) objects))
    (safe_two Text (table_of (style_of s.clock false) rows) (flushes_part s ++ since_of differences) (safe_each (row_of (style_of s.clock false)) (row_safe (style_of s.clock false)) rows)
    (safe_two Text (flushes_part s) (since_of differences) (flushes_safe s)
    (safe_two Text (flat_map difference_of differences) (end_of (has_any differences)) (safe_each difference_of difference_safe differences) (end_safe (has_any differences)))))
