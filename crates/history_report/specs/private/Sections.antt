-- What the sections of a page are.
use Rattle.std.specs.Prelude.{◌≡◌, ℕ, Bool, true, false, List, Option}
use Rattle.std.specs.List.{flat_map}
use Rattle.std.specs.Io.KnownBytes.{Appends}
use Rattle.s4_types.specs.declared.spans.Span.{Span}
use Rattle.s4_model.specs.State.{State}
use Rattle.version_store.specs.Store.{StoreFields}
use Rattle.moment_words.specs.declared.printing.MomentStyle.{MomentStyle}
use Rattle.moment_words.specs.Texts.{style_of}
use Rattle.history_diff.specs.Diffing.{has_any}
use Rattle.history_view.specs.declared.listing.Listed.{Listed}
use Rattle.history_view.specs.Listing.{AreListedFrom}
use Rattle.history_view.specs.Logs.{AreRowsFrom}
use Rattle.history_report.specs.declared.scale.Scale.{Scale}
use Rattle.history_report.specs.Page.{page_text}
use Rattle.history_report.specs.Timeline.{strip_of}
use Rattle.history_report.specs.Table.{row_of}
use Rattle.history_report.specs.Flushes.{flushes_part}
use Rattle.history_report.specs.Differences.{ShownDifference, AreShownFrom, difference_of}
use Rattle.history_report.specs.Report.{timeline_of, table_of, since_of}

-- The output has the strip of each object that has a row after it, by ascending number.
pub record WritesStrips (scale : Scale) (s : State) (store : StoreFields) (runs : List Span) (output output' : Option (List ℕ)) : Type 0 where
  pub objects : List ℕ
  pub have_rows : AreRowsFrom store 0 objects
  pub wrote : Appends output output' (page_text (flat_map (strip_of scale s store runs) objects))

-- The output has the row of each object that is listed at a moment after it, by ascending number.
pub record WritesRows (s : State) (store : StoreFields) (t : ℕ) (style : MomentStyle) (output output' : Option (List ℕ)) : Type 0 where
  pub rows : List Listed
  pub listed : AreListedFrom s store true t 0 rows
  pub wrote : Appends output output' (page_text (flat_map (row_of style) rows))

-- The output has the differences between two moments after it, by ascending object, and this says whether there are any.
pub record WritesDifferences (s : State) (from until : ℕ) (differs : Bool) (output output' : Option (List ℕ)) : Type 0 where
  pub differences : List ShownDifference
  pub are : AreShownFrom s from until 0 differences
  pub wrote : Appends output output' (page_text (flat_map difference_of differences))
  pub answer : differs ≡ has_any differences

-- The output has the beginning of a page after it, and the strips.
pub record WritesTimeline (s : State) (store : StoreFields) (runs : List Span) (from : ℕ) (output output' : Option (List ℕ)) : Type 0 where
  pub objects : List ℕ
  pub have_rows : AreRowsFrom store 0 objects
  pub wrote : Appends output output' (page_text (timeline_of s store runs from objects))

-- The output has the table after it.
pub record WritesTable (s : State) (store : StoreFields) (output output' : Option (List ℕ)) : Type 0 where
  pub rows : List Listed
  pub listed : AreListedFrom s store true s.clock 0 rows
  pub wrote : Appends output output' (page_text (table_of (style_of s.clock false) rows))

-- The output has the flushes and windows of the audit after it.
pub record WritesFlushes (s : State) (output output' : Option (List ℕ)) : Type 0 where
  pub wrote : Appends output output' (page_text (flushes_part s))

-- The output has what differs between a moment and the clock after it, and the end of a page.
pub record WritesSince (s : State) (from : ℕ) (output output' : Option (List ℕ)) : Type 0 where
  pub differences : List ShownDifference
  pub are : AreShownFrom s from s.clock 0 differences
  pub wrote : Appends output output' (page_text (since_of differences))
