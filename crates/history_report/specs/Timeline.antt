-- The timeline: for each object a strip with a mark for each of its changes, and one for each run of its hidden moments.
use Rattle.std.specs.Prelude.{ℕ, ◌+◌, ◌-◌, ◌*◌, ◌/◌, ◌++◌, min, max, List, [], ◌∷◌, filter, false, codes, decimal}
use Rattle.std.specs.List.{flat_map}
use Rattle.moment_words.specs.Texts.{moment_text, style_of}
use Rattle.s4_types.specs.declared.spans.Span.{Span}
use Rattle.s4_model.specs.State.{State}
use Rattle.version_store.specs.Store.{StoreFields}
use Rattle.window.specs.Runs.{span_is_of}
use Rattle.history_view.specs.Changes.{changes_between}
use Rattle.history_view.specs.declared.changes.Kind.{Kind}
use Rattle.history_view.specs.declared.changes.Kind.TheVariants.{Made, Deleted, Continued, Attribute, Cut, Written, Lengthened, Touched}
use Rattle.history_view.specs.declared.changes.ObjectChange.{ObjectChange}
use Rattle.history_report.specs.declared.scale.Scale.{Scale}
use Rattle.history_report.specs.Page.{Part, Constant, Escaped}

-- how many units a picture has across
abbrev pub units : ℕ
units = 1000

-- the scale from one moment to another; moments are printed as where the last one is the clock
abbrev pub scale_between : ℕ → ℕ → Scale
scale_between first last = record { first = first; last = last; style = style_of last false }

-- the scale of a drive, from its floor to its clock
abbrev pub scale_of : State → Scale
scale_of s = scale_between s.floor s.clock

-- the unit that has a moment: 0 has the first, and the last has the last
abbrev pub place_of : Scale → ℕ → ℕ
place_of scale t = min ((t - scale.first) * units / max (scale.last - scale.first) 1) units

-- the beginning of a mark, by what was done
abbrev pub mark_head : Kind → List ℕ
mark_head Made = codes "<path class=\"made\" d=\"M"
mark_head Deleted = codes "<path class=\"deleted\" d=\"M"
mark_head _ = codes "<path class=\"changed\" d=\"M"

-- its lines, from the place of its middle on: a circle where an object is made, a cross where it is deleted, and else an upright bar
abbrev pub mark_shape : Kind → List ℕ
mark_shape Made = codes " 8m-5 0a5 5 0 1 0 10 0a5 5 0 1 0 -10 0\"><title>object "
mark_shape Deleted = codes " 8m-5 -5l10 10m0 -10l-10 10\"><title>object "
mark_shape _ = codes " 2v12\"><title>object "

-- what was done, between the object and the moment
abbrev pub done_text : Kind → List ℕ
done_text Made = codes " made at "
done_text Deleted = codes " deleted at "
done_text Continued = codes " changed at "
done_text Attribute = codes " changed (attribute) at "
done_text Cut = codes " changed (cut) at "
done_text Written = codes " changed (written) at "
done_text Lengthened = codes " changed (lengthened) at "
done_text Touched = codes " changed (touched) at "

-- The mark of a change of an object. Its title has the object, what was done, the moment, and the sizes before and after.
abbrev pub mark_of : Scale → ℕ → ObjectChange → List Part
mark_of scale o change =
    Constant (mark_head change.kind) ∷ Escaped (decimal (place_of scale change.moment)) ∷ Constant (mark_shape change.kind) ∷ Escaped (decimal o) ∷ Constant (done_text change.kind)
    ∷ Escaped (moment_text change.moment scale.style) ∷ Constant (codes ": ") ∷ Escaped (decimal change.size_before) ∷ Constant (codes " to ") ∷ Escaped (decimal change.size_after) ∷ Constant (codes " bytes</title></path>\n") ∷ []

-- a mark by what was done: one that goes on with the change before it has none of its own
abbrev pub marks_by : Kind → List Part → List Part
marks_by Continued mark = []
marks_by _ mark = mark

-- the marks of a change of an object: one, or none
abbrev pub change_marks : Scale → ℕ → ObjectChange → List Part
change_marks scale o change = marks_by change.kind (mark_of scale o change)

-- The mark of a run of hidden moments of an object, as wide as the run, and three units wide at least. Its title has the object and the moments.
abbrev pub run_mark : Scale → ℕ → Span → List Part
run_mark scale o run =
    Constant (codes "<rect class=\"hidden\" x=\"") ∷ Escaped (decimal (place_of scale run.first)) ∷ Constant (codes "\" width=\"") ∷ Escaped (decimal (place_of scale run.last - place_of scale run.first + 3))
    ∷ Constant (codes "\" height=\"16\"><title>object ") ∷ Escaped (decimal o) ∷ Constant (codes " hidden by a flush: ") ∷ Escaped (moment_text run.first scale.style) ∷ Constant (codes " to ") ∷ Escaped (moment_text run.last scale.style)
    ∷ Constant (codes "</title></rect>\n") ∷ []

-- the marks on an object's strip of the runs of a list: of the object, or of all under number 0
abbrev pub run_marks : Scale → ℕ → List Span → ℕ → List Part
run_marks scale o runs list = flat_map (run_mark scale o) (filter (span_is_of list) runs)

-- the beginning of an object's strip
abbrev pub strip_head : ℕ → List Part
strip_head o = Constant (codes "<div class=\"strip\"><span>object ") ∷ Escaped (decimal o) ∷ Constant (codes "</span><svg viewBox=\"-8 0 1016 16\">\n") ∷ []

-- its end
abbrev pub strip_end : List Part
strip_end = Constant (codes "</svg></div>\n") ∷ []

-- The strip of an object that has these changes: the moments that are hidden of all objects, those that are of this one, and over them a mark for each
-- change.
abbrev pub strip_by : Scale → List Span → ℕ → List ObjectChange → List Part
strip_by scale runs o changes = (((strip_head o ++ run_marks scale o runs 0) ++ run_marks scale o runs o) ++ flat_map (change_marks scale o) changes) ++ strip_end

-- the strip of an object, with all its changes that can be read
abbrev pub strip_of : Scale → State → StoreFields → List Span → ℕ → List Part
strip_of scale s store runs o = strip_by scale runs o (changes_between s store o s.floor s.clock)
