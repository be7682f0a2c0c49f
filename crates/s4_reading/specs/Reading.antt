-- What `cat` prints.
use Rattle.std.specs.Prelude.{◌≡◌, ℕ, List, Option, Some, option_map}
use Rattle.s4_model.specs.VersionAt.{version_of}
use Rattle.s4_model.specs.Visible.{IsVisible}
use Rattle.drive.specs.Fields.{DriveFields, state_in, store_of}
use Rattle.image_commands.specs.ReadingPast.{GivesVersion}
use Rattle.s4_command.specs.declared.contents.CatAsked.{CatAsked}
use Rattle.s4_images.specs.declared.commands.Verdict.{Verdict}
use Rattle.s4_images.specs.declared.commands.Verdict.TheVariants.{Fine}
use Rattle.s4_images.specs.Moments.{IsObjectAsked, moment_asked}

-- What `cat` asks for was printed of a drive: the object of its number, or else of its name at its moment, as it was then. That moment of
-- it can be read. The verdict says so.
pub record Gives (d : DriveFields) (cat : CatAsked) (verdict : Verdict) (output output' : Option (List ℕ)) : Type 0 where
  pub fine : verdict ≡ Fine
  pub object : ℕ
  pub asked : IsObjectAsked (state_in d) (store_of d) cat.object (option_map (λ name. name.now) cat.name) (moment_asked (state_in d) cat.at) (Some object)
  pub readable : IsVisible (state_in d) object (moment_asked (state_in d) cat.at)
  pub gives : GivesVersion (version_of (state_in d) object (moment_asked (state_in d) cat.at)) output output'
