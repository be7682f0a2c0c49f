-- The page about a drive.
use Rattle.std.specs.Prelude.{◌≡◌, ℕ, ◌<◌, ◌++◌, if◌then◌else◌, Bool, true, false, List, [], ◌∷◌, Option, Some, None, ⊤, codes}
use Rattle.std.specs.List.{flat_map}
use Rattle.std.specs.Io.KnownBytes.{Appends}
use Rattle.s4_types.specs.declared.spans.Span.{Span}
use Rattle.s4_model.specs.State.{State}
use Rattle.s4_model.specs.Visible.{IsVisible, spans_of}
use Rattle.version_store.specs.Store.{StoreFields}
use Rattle.moment_words.specs.declared.printing.MomentStyle.{MomentStyle}
use Rattle.moment_words.specs.Texts.{moment_text, style_of}
use Rattle.window.specs.Runs.{Ascend}
use Rattle.window.specs.Timeline.{CoverAlike}
use Rattle.history_view.specs.declared.listing.Listed.{Listed}
use Rattle.history_view.specs.Listing.{AreListedFrom}
use Rattle.history_view.specs.Logs.{AreRowsFrom}
use Rattle.history_report.specs.declared.faults.ReportFault.{ReportFault}
use Rattle.history_report.specs.declared.faults.ReportFault.TheVariants.{Unreadable, Stopped}
use Rattle.history_report.specs.declared.texts.TheConstants.{PAGE_HEAD, TIMELINE_HEAD, TABLE_HEAD, DIFFERENCES_HEAD, NO_DIFFERENCE, PAGE_END}
use Rattle.history_report.specs.Page.{Part, Constant, Escaped, page_text}
use Rattle.history_report.specs.Timeline.{scale_of, strip_of}
use Rattle.history_report.specs.Table.{row_of}
use Rattle.history_report.specs.Flushes.{flushes_part}
use Rattle.history_diff.specs.Diffing.{has_any}
use Rattle.history_report.specs.Differences.{ShownDifference, AreShownFrom, difference_of}

-- the numbers of a drive: the clock, the floor, and the moment since which differences are shown
abbrev pub numbers_by : MomentStyle → State → ℕ → List Part
numbers_by style s from =
    Constant (codes "<p>Clock ") ∷ Escaped (moment_text s.clock style) ∷ Constant (codes ", floor ") ∷ Escaped (moment_text s.floor style) ∷ Constant (codes ". Differences are those since ") ∷ Escaped (moment_text from style) ∷ Constant (codes ".</p>\n") ∷ []

abbrev pub numbers_of : State → ℕ → List Part
numbers_of s from = numbers_by (style_of s.clock false) s from

-- the ends of the timeline: the floor and the clock
abbrev pub axis_by : MomentStyle → State → List Part
axis_by style s = Constant (codes "<div class=\"axis\"><span>") ∷ Escaped (moment_text s.floor style) ∷ Constant (codes "</span><span>") ∷ Escaped (moment_text s.clock style) ∷ Constant (codes "</span></div>\n") ∷ []

abbrev pub axis_of : State → List Part
axis_of s = axis_by (style_of s.clock false) s

-- the beginning of a page
abbrev pub head_of : State → ℕ → List Part
head_of s from = Constant PAGE_HEAD.now ∷ (numbers_of s from ++ Constant TIMELINE_HEAD.now ∷ axis_of s)

-- that, and a strip for each object
abbrev pub timeline_of : State → StoreFields → List Span → ℕ → List ℕ → List Part
timeline_of s store runs from objects = head_of s from ++ flat_map (strip_of (scale_of s) s store runs) objects

-- the table: a row for each object that is listed
abbrev pub table_of : MomentStyle → List Listed → List Part
table_of style rows = Constant TABLE_HEAD.now ∷ flat_map (row_of style) rows

-- what is in place of the differences where there are none
abbrev pub none_text : Bool → List ℕ
none_text differs = if differs then [] else NO_DIFFERENCE.now

-- the end of a page, which says it where nothing differs
abbrev pub end_of : Bool → List Part
end_of differs = Constant (none_text differs) ∷ Constant PAGE_END.now ∷ []

-- what differs, and the end of a page
abbrev pub since_of : List ShownDifference → List Part
since_of differences = Constant DIFFERENCES_HEAD.now ∷ (flat_map difference_of differences ++ end_of (has_any differences))

-- The parts of a page: the timeline, the table, the flushes and windows, and the differences. All but the data of the drive are fixed texts; the one script is within the last of
-- them.
abbrev pub page_of : State → StoreFields → List Span → ℕ → List ℕ → List Listed → List ShownDifference → List Part
page_of s store runs from objects rows differences = timeline_of s store runs from objects ++ (table_of (style_of s.clock false) rows ++ (flushes_part s ++ since_of differences))

-- the moment since which differences are shown: the one that is asked for, or the earliest that can be read where none is
abbrev pub IsSince : State → Option ℕ → ℕ → Type 0
IsSince s None from = IsVisible s 0 from × ((t : ℕ) → t < from → IsVisible s 0 t → ⊥)
IsSince s (Some since) from = (from ≡ since) × IsVisible s 0 since

-- The output has the page about a drive after it: the strips of all objects that have a row, with the moments that the drive hides; the table of all that are listed
-- at the clock, live or deleted; what administrators hid and which windows they set, since the floor; and all differences between a moment and the clock.
pub record WritesPage (s : State) (store : StoreFields) (from : ℕ) (output output' : Option (List ℕ)) : Type 0 where
  pub runs : List Span
  pub hidden : CoverAlike s.floor runs (spans_of s)
  pub ordered : Ascend runs
  pub objects : List ℕ
  pub have_rows : AreRowsFrom store 0 objects
  pub rows : List Listed
  pub listed : AreListedFrom s store true s.clock 0 rows
  pub differences : List ShownDifference
  pub are : AreShownFrom s from s.clock 0 differences
  pub wrote : Appends output output' (page_text (page_of s store runs from objects rows differences))

-- The same, with the differences since the moment that is asked for.
pub record Reports (s : State) (store : StoreFields) (since : Option ℕ) (output output' : Option (List ℕ)) : Type 0 where
  pub from : ℕ
  pub asked : IsSince s since from
  pub page : WritesPage s store from output output'

-- A moment can't be read where it is the one that is asked for, and can't; then nothing is written.
abbrev pub IsFaultOf : State → Option ℕ → (output output' : Option (List ℕ)) → ReportFault → Type 0
IsFaultOf s since output output' (Unreadable moment) = (since ≡ Some moment) × (IsVisible s 0 moment → ⊥) × (output' ≡ output)
IsFaultOf s since output output' (Stopped stop) = ⊤
