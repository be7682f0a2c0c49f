-- How many versions age by a restore, as it says.
use Rattle.std.specs.Prelude.{ℕ, ◌++◌, ◌==◌, if◌then◌else◌, Bool, List, [], Option, Some, codes, decimal}
use Rattle.std.specs.Io.KnownBytes.{Appends}
use Rattle.serde_json.specs.Data.{Data, number, unsigned, string, object, member, no_members}
use Rattle.drive.specs.Fields.{DriveFields, state_in, store_of}
use Rattle.history_text.specs.Json.{json_line}
use Rattle.history_aging.specs.Ends.{AreEnds, aged_count}
use Rattle.restore_orders.specs.Orders.{RestoresBy}
use Rattle.restore_orders.specs.declared.orders.Order.{Order}

-- ---- the line

abbrev pub aged_line : ℕ → List ℕ
aged_line count = if count == 1 then codes "1 version ages by this\n" else decimal count ++ codes " versions age by this\n"

abbrev pub aged_data : ℕ → Data
aged_data count = object (member (codes "done") (string (codes "aged")) (member (codes "versions") (number (unsigned count)) no_members))

abbrev pub aged_json : ℕ → List ℕ
aged_json count = json_line (aged_data count)

-- the line of how many versions age, for people or for programs; none where none does
abbrev pub aged_text : Bool → ℕ → List ℕ
aged_text json count = if count == 0 then [] else (if json then aged_json count else aged_line count)

-- ---- what is printed

-- A drive was restored by an order, and the output ends with the lines of that, and with the line of how many versions age by it: of those that
-- could be read of the drive as it was, as many as ended by the floor of the drive that was restored.
pub record RestoresCounted (d later : DriveFields) (order : Order) (output output' : Option (List ℕ)) : Type 0 where
  pub lines : List ℕ
  pub restores : RestoresBy d later order (Some []) (Some lines)
  pub ends : List ℕ
  pub ended : AreEnds (state_in d) (store_of d) ends
  pub wrote : Appends output output' (lines ++ aged_text order.json (aged_count ends (state_in later).floor))

-- The output has these lines, over a drive that isn't saved.
pub record WouldRestoreCounted (d : DriveFields) (order : Order) (output output' : Option (List ℕ)) : Type 0 where
  pub later : DriveFields
  pub restores : RestoresCounted d later order output output'
