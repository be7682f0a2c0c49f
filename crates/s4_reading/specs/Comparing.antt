-- What `diff` asks for, what it prints, and what its status tells.
use Rattle.std.specs.Prelude.{ℕ, if◌then◌else◌, Bool, true, false, List, Option, option_map}
use Rattle.s4_model.specs.State.{State}
use Rattle.drive.specs.Fields.{DriveFields, state_in, store_of}
use Rattle.s4_command.specs.declared.changes.DiffAsked.{DiffAsked as Words}
use Rattle.history_diff.specs.Diffing.{TellsDifferences}
use Rattle.history_diff.specs.declared.diffing.DiffAsked.{DiffAsked}
use Rattle.history_diff.specs.declared.texts.Detail.{Detail}
use Rattle.history_diff.specs.declared.texts.Detail.TheVariants.{Ranges, Bytes, Lines}
use Rattle.moment_words.specs.Texts.{style_of}
use Rattle.s4_images.specs.Moments.{IsObjectInEither, moment_asked, moment_given, moment_said}
use Rattle.s4_images.specs.declared.commands.Verdict.{Verdict}
use Rattle.s4_images.specs.declared.commands.Verdict.TheVariants.{Fine, Differs}

-- how much is asked for of the bytes that differ
abbrev pub detail_asked : Words → Detail
detail_asked words = if words.patch then Bytes else if words.text then Lines else Ranges

-- the comparison that the words ask for, of this object or of all
abbrev pub comparison_asked : State → Words → Option ℕ → DiffAsked
comparison_asked s words object = record {
  object = object;
  before = moment_said s words.from;
  after = moment_given s words.to;
  json = words.json;
  detail = detail_asked words;
  raw = words.raw;
  style = style_of s.clock words.moments;
}

-- whether something differs, by what was found
abbrev pub differs_by : Verdict → Bool
differs_by Fine = false
differs_by Differs = true

-- What `diff` asks for was printed of a drive, and this was found: of the object of its number, or of its name at the first moment, or where
-- none has it then, at the other; and of all objects where neither is given.
pub record Compares (d : DriveFields) (diff : Words) (verdict : Verdict) (output output' : Option (List ℕ)) : Type 0 where
  pub object : Option ℕ
  pub asked : IsObjectInEither (state_in d) (store_of d) diff.object (option_map (λ name. name.now) diff.name) (moment_said (state_in d) diff.from) (moment_asked (state_in d) diff.to) object
  pub told : TellsDifferences (state_in d) (comparison_asked (state_in d) diff object) (differs_by verdict) output output'
