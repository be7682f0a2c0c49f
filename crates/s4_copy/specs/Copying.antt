-- What `copy` prints, and what it leaves.
use Rattle.std.specs.Prelude.{◌≡◌, ℕ, ◌++◌, ◌-◌, Bool, true, false, List, length, Option, None, codes, decimal}
use Rattle.std.specs.Io.KnownBytes.{Appends}
use Rattle.serde_json.specs.Data.{Data, number, unsigned, object, member, no_members}
use Rattle.history_text.specs.Json.{json_line}
use Rattle.image_parts.specs.Image.{Image, image_in}
use Rattle.image_commands.specs.Files.{AreKnown}
use Rattle.migration.specs.declared.copying.CopyAsked.{CopyAsked as Wanted}
use Rattle.migration.specs.Copies.{Copies, IsTooMuchToCopy}
use Rattle.s4_command.specs.declared.copying.CopyAsked.{CopyAsked}
use Rattle.s4_copy.specs.Asking.{Wants, first_absent}
use Rattle.s4_copy.specs.Counting.{IsLeftOut}
use Rattle.s4_copy.specs.declared.reports.Report.{Report}

-- ---- what is printed

abbrev pub report_text : Report → List ℕ
report_text r =
    codes "frames " ++ (decimal r.frames ++ (codes "\nobjects " ++ (decimal r.objects
    ++ (codes "\nleft_out " ++ (decimal r.left_out ++ (codes "\nversions_left_out " ++ (decimal r.versions_left_out ++ codes "\n")))))))

abbrev pub report_data : Report → Data
report_data r =
    object (member (codes "frames") (number (unsigned r.frames))
    (member (codes "left_out") (number (unsigned r.left_out))
    (member (codes "objects") (number (unsigned r.objects))
    (member (codes "versions_left_out") (number (unsigned r.versions_left_out)) no_members))))

abbrev pub report_line : Report → List ℕ
report_line r = json_line (report_data r)

abbrev pub printed : Bool → Report → List ℕ
printed true r = report_line r
printed false r = report_text r

-- ---- what is made

-- These are the numbers of a copy, by the parts of the image and of the copy; that of versions isn't among them.
pub record Tells (was is : Image) (r : Report) : Type 0 where
  pub frames : r.frames ≡ length is.frames
  pub objects : r.objects ≡ length is.rows
  pub left_out : r.left_out ≡ length was.rows - length is.rows

-- The bytes are a copy of an image, by what is wanted of it, and these are its numbers. It has no more frames than it may have.
pub record IsCopy (wanted : Wanted) (old new : List ℕ) (r : Report) : Type 0 where
  pub copies : Copies wanted old new
  pub fits : IsTooMuchToCopy wanted old → ⊥
  pub tells : Tells (image_in old) (image_in new) r
  pub versions : IsLeftOut wanted old r.left_out r.versions_left_out

-- The bytes are the copy of an image that is asked for, and these are its numbers. Each object that is named has a row in the image.
pub record IsMade (asked : CopyAsked) (old new : List ℕ) (r : Report) : Type 0 where
  pub named : first_absent (image_in old) asked.without.items ≡ None
  pub wanted : Wanted
  pub wants : Wants asked (image_in old) wanted
  pub copy : IsCopy wanted old new r

-- What is known of a file is the copy of an image that is asked for, by what is known of that; and its numbers were printed.
pub record CopiesImage (image copy : Option (List ℕ)) (asked : CopyAsked) (output output' : Option (List ℕ)) : Type 0 where
  pub old : List ℕ
  pub read : AreKnown image old
  pub new : List ℕ
  pub kept : AreKnown copy new
  pub report : Report
  pub made : IsMade asked old new report
  pub told : Appends output output' (printed asked.json report)
