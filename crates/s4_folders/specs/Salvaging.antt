-- What `salvage` writes and prints.
use Rattle.std.specs.Prelude.{◌≡◌, ℕ, ◌++◌, if◌then◌else◌, Bool, List, Option, codes, decimal}
use Rattle.std.specs.Io.KnownBytes.{Appends}
use Rattle.image_commands.specs.Files.{AreKnown}
use Rattle.history_export.specs.Folders.{NamedFile}
use Rattle.image_salvage.specs.declared.giving.GivenOut.{GivenOut}
use Rattle.image_salvage.specs.Counts.{given_line}
use Rattle.image_salvage.specs.Giving.{GivesOut, is_whole}
use Rattle.image_salvage.specs.Salvaging.{SalvageFields, IsSalvageOf}
use Rattle.image_salvage.specs.Wholeness.{IsGivenWhole, HasEachLive}
use Rattle.s4_command.specs.declared.whole.SalvageAsked.{SalvageAsked}
use Rattle.s4_images.specs.declared.commands.Verdict.{Verdict}
use Rattle.s4_images.specs.declared.commands.Verdict.TheVariants.{Fine, Differs}

-- 1 where the bytes are no image
abbrev pub damage_count : GivenOut → ℕ
damage_count g = if g.damaged then 1 else 0

-- the counts of what is lost or uncertain, each after its name
abbrev pub lost_text : GivenOut → ℕ → List ℕ
lost_text g damaged =
    codes "lost_objects " ++ (decimal g.lost_objects ++ (codes "\nlost_frames " ++ (decimal g.lost_frames
    ++ (codes "\nunlisted " ++ (decimal g.unlisted ++ (codes "\nleft_out " ++ (decimal g.left_out ++ (codes "\ndamaged " ++ (decimal damaged ++ codes "\n")))))))))

-- the counts of what was written, each after its name
abbrev pub written_text : GivenOut → List ℕ
written_text g = codes "objects " ++ (decimal g.objects ++ (codes "\nblocks_gone " ++ (decimal g.blocks_gone ++ codes "\n")))

-- the counts, each after its name
abbrev pub counts_text : GivenOut → ℕ → List ℕ
counts_text g damaged = written_text g ++ lost_text g damaged

-- what is printed
abbrev pub given_text : GivenOut → List ℕ
given_text g = counts_text g (damage_count g)

-- what is printed, as JSON where that is asked for
abbrev pub given_words : Bool → GivenOut → List ℕ
given_words json g = if json then given_line g else given_text g

-- what was found: whether anything is lost
abbrev pub verdict_of : GivenOut → Verdict
verdict_of g = if is_whole g then Fine else Differs

-- What was salvaged of an image was written into a folder, and the output has the counts after it. Where the verdict is that all is fine,
-- nothing of the image is lost.
pub record SalvagesInto (s : SalvageFields) (json : Bool) (verdict : Verdict) (files files' : Option (List NamedFile)) (output output' : Option (List ℕ)) : Type 0 where
  pub given : GivenOut
  pub gives : GivesOut s given files files'
  pub found : verdict ≡ verdict_of given
  pub wrote : Appends output output' (given_words json given)
  pub whole : verdict ≡ Fine → IsGivenWhole s files'

-- So it was of the bytes of a file, into a folder that was opened at the path that is asked for, by what the path and the files of an opened
-- folder are. Where the verdict is that all is fine, the bytes are an image, and the folder has each object that is live in its drive, with
-- all of its bytes.
pub record SalvagesFile {Opened : Type 0} (path_of : Opened → List ℕ) (files_of : Opened → Option (List NamedFile)) (verdict : Verdict) (known : Option (List ℕ)) (salvage : SalvageAsked) (output output' : Option (List ℕ)) : Type 0 where
  pub bytes : List ℕ
  pub read : AreKnown known bytes
  pub image : SalvageFields
  pub of : IsSalvageOf bytes image
  pub folder : Opened
  pub later : Opened
  pub opened : path_of folder ≡ salvage.folder.now
  pub stays : path_of later ≡ salvage.folder.now
  pub into : SalvagesInto image salvage.json verdict (files_of folder) (files_of later) output output'
  pub whole : verdict ≡ Fine → HasEachLive bytes (files_of later)
