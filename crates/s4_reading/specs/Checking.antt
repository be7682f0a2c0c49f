-- What `check` prints.
use Rattle.std.specs.Prelude.{◌≡◌, ℕ, ◌++◌, if◌then◌else◌, Bool, List, Option, None, codes, decimal}
use Rattle.std.specs.Io.KnownBytes.{Appends}
use Rattle.hex.specs.Hex.{encode_lower}
use Rattle.serde_json.specs.Data.{Data, number, unsigned, string, object, member, no_members}
use Rattle.history_text.specs.Json.{json_line}
use Rattle.s4_model.specs.State.{State}
use Rattle.version_store.specs.Store.{StoreFields}
use Rattle.drive.specs.Fields.{DriveFields, state_in, store_of}
use Rattle.history_export.specs.Checks.{ChecksAll}
use Rattle.history_export.specs.declared.checking.CheckReport.{CheckReport}
use Rattle.history_export.specs.declared.checking.Checked.{Checked}
use Rattle.s4_command.specs.declared.whole.CheckAsked.{CheckAsked}
use Rattle.s4_images.specs.declared.commands.Verdict.{Verdict}
use Rattle.s4_images.specs.declared.commands.Verdict.TheVariants.{Fine}

-- how many versions were read, how many bytes they have, and these digits
abbrev pub counts_text : Checked → List ℕ → List ℕ
counts_text checked digits =
    codes "versions " ++ (decimal checked.versions ++ (codes "\nbytes " ++ (decimal checked.bytes ++ (codes "\nsha256 " ++ (digits ++ codes "\n")))))

-- the same as one object
abbrev pub counts_data : Checked → List ℕ → Data
counts_data checked digits =
    object (member (codes "bytes") (number (unsigned checked.bytes))
    (member (codes "sha256") (string digits)
    (member (codes "versions") (number (unsigned checked.versions)) no_members)))

-- lines for people, or with `json` the one object
abbrev pub printed_counts : Bool → Checked → List ℕ → List ℕ
printed_counts json checked digits = if json then json_line (counts_data checked digits) else counts_text checked digits

-- how many versions were read, how many bytes they have, and the digest of these
abbrev pub printed_report : Bool → CheckReport → List ℕ
printed_report json report = printed_counts json report.checked (encode_lower report.digest)

-- Every version that can be read was read, and the output has after it how many these are, and the SHA-256 of their bytes.
pub record ChecksVersions (s : State) (store : StoreFields) (json : Bool) (output output' : Option (List ℕ)) : Type 0 where
  pub report : CheckReport
  pub all : ChecksAll s store report None None
  pub wrote : Appends output output' (printed_report json report)

-- What `check` asks for was done over a drive, and the verdict says so.
abbrev pub Checks : DriveFields → CheckAsked → Verdict → (output output' : Option (List ℕ)) → Type 0
Checks d check verdict output output' = (verdict ≡ Fine) × ChecksVersions (state_in d) (store_of d) check.json output output'
