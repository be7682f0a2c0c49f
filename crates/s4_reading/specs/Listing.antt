-- What `list` prints.
use Rattle.std.specs.Prelude.{◌≡◌, ℕ, ◌++◌, if◌then◌else◌, Bool, List, [], Option}
use Rattle.std.specs.List.{flat_map}
use Rattle.std.specs.Io.KnownBytes.{Appends}
use Rattle.s4_model.specs.State.{State}
use Rattle.s4_model.specs.Visible.{IsVisible}
use Rattle.version_store.specs.Store.{StoreFields}
use Rattle.drive.specs.Fields.{DriveFields, state_in, store_of}
use Rattle.history_view.specs.declared.listing.Listed.{Listed}
use Rattle.history_view.specs.Listing.{AreListedFrom}
use Rattle.history_text.specs.Lines.{list_head, listed_line}
use Rattle.history_text.specs.Json.{json_line, listed_data}
use Rattle.history_versions.specs.Lines.{line_with_versions}
use Rattle.history_versions.specs.declared.lines.VersionsAsked.{VersionsAsked}
use Rattle.s4_command.specs.declared.contents.ListAsked.{ListAsked}
use Rattle.moment_words.specs.declared.printing.MomentStyle.{MomentStyle}
use Rattle.s4_images.specs.declared.commands.Verdict.{Verdict}
use Rattle.s4_images.specs.declared.commands.Verdict.TheVariants.{Fine}
use Rattle.s4_images.specs.Moments.{moment_asked}
use Rattle.s4_reading.specs.declared.forms.Form.{Form}
use Rattle.s4_reading.specs.Forms.{form_over}

-- the line above the objects; no line above JSON
abbrev pub head_of_list : Bool → MomentStyle → List ℕ
head_of_list json style = if json then [] else list_head style

-- the line of an object, for programs or for people
abbrev pub line_of_listed : Bool → MomentStyle → Listed → List ℕ
line_of_listed json style row = if json then json_line (listed_data style row) else listed_line style row

-- what is asked of the versions of objects up to a moment
abbrev pub asked_by : ListAsked → ℕ → MomentStyle → VersionsAsked
asked_by list t style = record { until = t; contents = list.contents; style = style }

-- the line of an object as it is asked for at a moment: with its versions up to then, or without
abbrev pub line_asked : State → StoreFields → ListAsked → Form → ℕ → Listed → List ℕ
line_asked s store list form t = if list.versions then line_with_versions s store (asked_by list t form.style) else line_of_listed form.json form.style

-- a head, and the line of each of these objects
abbrev pub list_text : State → StoreFields → ListAsked → Form → List Listed → List ℕ
list_text s store list form rows = head_of_list form.json form.style ++ flat_map (line_asked s store list form (moment_asked s list.at)) rows

-- The output has such a line after it for each object that is listed at a moment, by ascending number.
pub record ListsRows (s : State) (store : StoreFields) (t : ℕ) (deleted : Bool) (line : Listed → List ℕ) (output output' : Option (List ℕ)) : Type 0 where
  pub rows : List Listed
  pub listed : AreListedFrom s store deleted t 0 rows
  pub wrote : Appends output output' (flat_map line rows)

-- The output has a list after it: the line of each object that is listed at the moment asked for, by ascending number. That moment can be
-- read, but of objects of which alone it is hidden.
pub record ListsObjects (s : State) (store : StoreFields) (list : ListAsked) (output output' : Option (List ℕ)) : Type 0 where
  pub readable : IsVisible s 0 (moment_asked s list.at)
  pub rows : List Listed
  pub listed : AreListedFrom s store list.deleted (moment_asked s list.at) 0 rows
  pub wrote : Appends output output' (list_text s store list (form_over s list.moments list.json) rows)

-- What `list` asks for was printed of a drive, and the verdict says so.
abbrev pub Lists : DriveFields → ListAsked → Verdict → (output output' : Option (List ℕ)) → Type 0
Lists d list verdict output output' = (verdict ≡ Fine) × ListsObjects (state_in d) (store_of d) list output output'
