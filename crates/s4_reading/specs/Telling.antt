-- What `info` prints.
use Rattle.std.specs.Prelude.{◌≡◌, ℕ, ◌+◌, ◌-◌, ◌^◌, ◌==◌, ◌&&◌, if◌then◌else◌, Bool, true, List, [], ◌∷◌, length, Option, count_by}
use Rattle.std.specs.Io.KnownBytes.{Appends}
use Rattle.s4_types.specs.declared.spans.Span.{Span}
use Rattle.s4_model.specs.State.{State}
use Rattle.segment_word.specs.Frames.{Frame, is_free}
use Rattle.segment_table.specs.Room.{can_open}
use Rattle.version_store.specs.Store.{StoreFields}
use Rattle.version_store.specs.Costs.{room}
use Rattle.drive.specs.Fields.{DriveFields, state_in, store_of}
use Rattle.history_view.specs.declared.listing.Listed.{Listed}
use Rattle.history_view.specs.Listing.{AreListedFrom}
use Rattle.history_view.specs.Logs.{AreHidden}
use Rattle.history_text.specs.declared.numbers.DriveNumbers.{DriveNumbers}
use Rattle.history_text.specs.Lines.{numbers_lines}
use Rattle.history_text.specs.Json.{json_line, numbers_data}
use Rattle.moment_words.specs.declared.printing.MomentStyle.{MomentStyle}
use Rattle.moment_words.specs.Texts.{style_of}
use Rattle.s4_command.specs.declared.whole.InfoAsked.{InfoAsked}
use Rattle.s4_images.specs.declared.commands.Verdict.{Verdict}
use Rattle.s4_images.specs.declared.commands.Verdict.TheVariants.{Fine}

-- This many objects are live at the clock, and this many were deleted by then.
pub record CountsObjects (s : State) (store : StoreFields) (live deleted : ℕ) : Type 0 where
  pub rows : List Listed
  pub listed : AreListedFrom s store true s.clock 0 rows
  pub are_live : live ≡ count_by (λ row. row.is_live) rows
  pub are_all : live + deleted ≡ length rows

-- whether a frame is retired: free at the last generation, so that it is opened no more
abbrev pub is_retired : Frame → Bool
is_retired k = is_free k.phase && (k.generation == 2 ^ 32 - 1)

-- whether a run hides moments of all objects
abbrev pub is_of_all : Span → Bool
is_of_all run = run.object == 0

-- how many objects these runs are of that aren't the one before them; the runs of an object are together
abbrev pub objects_hidden : ℕ → List Span → ℕ
objects_hidden before [] = 0
objects_hidden before (run ∷ runs) = (if run.object == before then 0 else 1) + objects_hidden run.object runs

-- This many runs of moments are hidden of all objects, and of this many objects some are alone.
pub record CountsHidden (s : State) (hidden objects : ℕ) : Type 0 where
  pub runs : List Span
  pub are : AreHidden s runs
  pub of_all : hidden ≡ count_by is_of_all runs
  pub of_objects : objects ≡ objects_hidden 0 runs

-- These are the numbers of a drive of these frames.
pub record IsNumbersOf (s : State) (store : StoreFields) (frames : List Frame) (n : DriveNumbers) : Type 0 where
  pub frame_count : n.frames ≡ length frames
  pub free : n.free ≡ count_by can_open frames
  pub retired : n.retired ≡ count_by is_retired frames
  pub counted : CountsObjects s store n.live n.deleted
  pub next : n.next ≡ s.next
  pub clock : n.clock ≡ s.clock
  pub window : n.window ≡ s.window
  pub floor : n.floor ≡ s.floor
  pub room : n.room ≡ room store
  pub hidden : CountsHidden s n.hidden n.hidden_objects

-- the text of numbers, for programs or for people
abbrev pub text_of_numbers : Bool → MomentStyle → DriveNumbers → List ℕ
text_of_numbers json style n = if json then json_line (numbers_data style n) else numbers_lines style n

-- The output has the numbers of a drive of these frames after it.
pub record TellsNumbers (s : State) (store : StoreFields) (frames : List Frame) (json : Bool) (style : MomentStyle) (output output' : Option (List ℕ)) : Type 0 where
  pub numbers : DriveNumbers
  pub is : IsNumbersOf s store frames numbers
  pub wrote : Appends output output' (text_of_numbers json style numbers)

-- What `info` asks for was printed of a drive, and the verdict says so.
abbrev pub Informs : DriveFields → InfoAsked → Verdict → (output output' : Option (List ℕ)) → Type 0
Informs d info verdict output output' = (verdict ≡ Fine) × TellsNumbers (state_in d) (store_of d) d.store.table.seat.frames info.json (style_of (state_in d).clock info.moments) output output'
