-- How a reader of HTML goes through a page, as far as it matters where data is.
use Rattle.std.specs.Prelude.{◌≡◌, ℕ, ◌==◌, ◌&&◌, ◌||◌, not, if◌then◌else◌, Bool, true, false, List, [], ◌∷◌, ◌++◌, ⊤, codes}
use Rattle.std.specs.Cmp.Lexicographic.{pointwise}
use Rattle.std.specs.List.{list_all}
use Rattle.s4_types.specs.declared.spans.Span.{Span}
use Rattle.s4_model.specs.State.{State}
use Rattle.version_store.specs.Store.{StoreFields}
use Rattle.history_view.specs.declared.listing.Listed.{Listed}
use Rattle.history_report.specs.Page.{Part, Constant, Escaped, part_text}
use Rattle.history_report.specs.Differences.{ShownDifference}
use Rattle.history_report.specs.Report.{page_of}

-- Where a reader is: in text, in the name of a tag, in the rest of a tag, in a value between quotation marks, in the text of a script or a style, or in a tag there. A
-- tag, or a value in it, may be of a script or a style.
pub data Mode : Type 0 where
  Text : Mode
  Name : List ℕ → Mode
  Tag : Bool → Mode
  Value : Bool → Mode
  Raw : Mode
  RawTag : List ℕ → Mode

-- whether a tag's name begins a script or a style
abbrev pub is_raw : List ℕ → Bool
is_raw name = pointwise ◌==◌ name (codes "script") || pointwise ◌==◌ name (codes "style")

-- whether it ends one
abbrev pub is_raw_end : List ℕ → Bool
is_raw_end name = pointwise ◌==◌ name (codes "/script") || pointwise ◌==◌ name (codes "/style")

-- where a tag ends
abbrev pub after_tag : Bool → Mode
after_tag raw = if raw then Raw else Text

-- where the reader is after a byte
abbrev pub next : Mode → ℕ → Mode
next Text b = if b == 60 then Name [] else Text
next (Name name) b = if b == 62 then after_tag (is_raw name) else (if b == 32 then Tag (is_raw name) else Name (name ++ b ∷ []))
next (Tag raw) b = if b == 62 then after_tag raw else (if b == 34 then Value raw else Tag raw)
next (Value raw) b = if b == 34 then Tag raw else Value raw
next Raw b = if b == 60 then RawTag [] else Raw
next (RawTag name) b = if b == 62 then (if is_raw_end name then Text else Raw) else RawTag (name ++ b ∷ [])

-- where it is after a text
abbrev pub read : Mode → List ℕ → Mode
read mode [] = mode
read mode (b ∷ bytes) = read (next mode b) bytes

-- data may be in text, and in a value between quotation marks of a tag that is neither a script's nor a style's
abbrev pub HoldsData : Mode → Type 0
HoldsData Text = ⊤
HoldsData (Value raw) = raw ≡ false
HoldsData _ = ⊥

-- From where a reader is, each data of these parts is where it may be, and leaves the reader there; at the end it is in text.
abbrev pub AreSafe : Mode → List Part → Type 0
AreSafe mode [] = mode ≡ Text
AreSafe mode (Constant text ∷ parts) = AreSafe (read mode text) parts
AreSafe mode (Escaped bytes ∷ parts) = HoldsData mode × (read mode (part_text (Escaped bytes)) ≡ mode) × AreSafe mode parts

-- whether a byte is none of those that begin or end a tag or a value
abbrev pub is_harmless : ℕ → Bool
is_harmless b = not (b == 60) && (not (b == 62) && (not (b == 34) && not (b == 39)))

-- ---- what this comes to: each is a clause of a function with an empty body

-- No data has such a byte on a page.
abbrev pub DataIsHarmless : Type 0
DataIsHarmless = (bytes : List ℕ) → list_all is_harmless (part_text (Escaped bytes)) ≡ true

-- The data of each page is in text or in a value between quotation marks, never in a script or a style, and never ends what it is in.
abbrev pub PagesAreSafe : Type 0
PagesAreSafe = (s : State) (store : StoreFields) (runs : List Span) (from : ℕ) (objects : List ℕ) (rows : List Listed) (differences : List ShownDifference) → AreSafe Text (page_of s store runs from objects rows differences)
