-- What `compact` prints, and what it leaves.
use Rattle.std.specs.Prelude.{◌≡◌, ℕ, ◌≤◌, ◌++◌, ◌==◌, if◌then◌else◌, Bool, true, false, List, Option, codes, decimal}
use Rattle.std.specs.Io.KnownBytes.{Appends}
use Rattle.serde_json.specs.Data.{Data, number, unsigned, string, object, member, no_members}
use Rattle.history_text.specs.Json.{json_line}
use Rattle.version_store.specs.Costs.{room}
use Rattle.drive.specs.Fields.{DriveFields, state_in, store_of}
use Rattle.drive.specs.Keeping.{KeepsVersions}
use Rattle.drive_compaction.specs.Compacting.{blocks_left}
use Rattle.drive_compaction.specs.Holding.{data_blocks}
use Rattle.drive_compaction.specs.Passing.{HoldsWhatIsRead, PassesOver, as_left}
use Rattle.drive_compaction.specs.Past.{IsPast}
use Rattle.drive_compaction.specs.declared.compacting.Compaction.{Compaction}
use Rattle.drive_compaction.specs.declared.passing.FullPass.{FullPass}
use Rattle.drive_compaction.specs.declared.passing.FullPass.TheVariants.{Made, CostsRoom, Refused}
use Rattle.drive_compaction.specs.declared.turns.Ending.{Ending}
use Rattle.drive_compaction.specs.declared.turns.Ending.TheVariants.{Done, OutOfRoom, Limit}
use Rattle.s4_command.specs.declared.whole.CompactAsked.{CompactAsked}
use Rattle.s4_compact.specs.Ways.{IsCompactedBy, cleans_by}
use Rattle.s4_compact.specs.declared.reports.Report.{Report}
use Rattle.s4_compact.specs.declared.ways.Way.{Way}

-- ---- what is printed

-- how far the cleaner came: to its end, or not for too little room; or no object was cleaned
abbrev pub cleaning_word : Report → List ℕ
cleaning_word r = if r.cleans then (if r.compaction.work.is_cleaned then codes "whole" else codes "stopped") else codes "none"

-- why the turns ended: a whole one freed nothing, a move found too little room, or there were as many as may be
abbrev pub ending_word : Ending → List ℕ
ending_word Done = codes "done"
ending_word OutOfRoom = codes "no room"
ending_word Limit = codes "limit"

-- how the full pass ended that follows them: it was made; or nothing of it is kept, since it cost room, or was refused for too little room
abbrev pub pass_word : FullPass → List ℕ
pass_word Made = codes "made"
pass_word CostsRoom = codes "costs room"
pass_word Refused = codes "refused"

-- whether hiding moments would give more room
abbrev pub advice : ℕ → List ℕ
advice past = if past == 0 then codes "only a larger image gives more room\n" else (decimal past ++ codes " blocks are held for the past alone; hiding its moments frees them\n")

-- how much room there was and is, in blocks and in free frames
abbrev pub room_text : Report → List ℕ
room_text r =
    codes "room_before " ++ (decimal r.compaction.room_before ++ (codes "\nroom_after " ++ (decimal r.compaction.room_after
    ++ (codes "\nfree_before " ++ (decimal r.compaction.free_before ++ (codes "\nfree_after " ++ (decimal r.compaction.free_after ++ codes "\n")))))))

-- what was done for it
abbrev pub work_text : Report → List ℕ
work_text r =
    codes "turns " ++ (decimal r.compaction.turns ++ (codes "\nrewritten " ++ (decimal r.compaction.work.rewritten ++ (codes "\nremoved " ++ (decimal r.compaction.work.removed
    ++ (codes "\nemptied " ++ (decimal r.compaction.work.frames ++ (codes "\nmoves " ++ (decimal r.compaction.work.moves ++ codes "\n")))))))))

-- how it ended
abbrev pub end_text : Report → List ℕ
end_text r = codes "cleaning " ++ (cleaning_word r ++ (codes "\nending " ++ (ending_word r.compaction.ending ++ codes "\n")))

-- how the full pass ended, how many data blocks are held, and what is held for the past alone
abbrev pub held_text : Report → List ℕ
held_text r = codes "full_pass " ++ (pass_word r.pass ++ (codes "\ndata " ++ (decimal r.data_blocks ++ (codes "\npast " ++ (decimal r.past ++ codes "\n")))))

-- the lines of a compaction, each number after its name
abbrev pub report_text : Report → List ℕ
report_text r = room_text r ++ (work_text r ++ (end_text r ++ (held_text r ++ advice r.past)))

-- the same as one object
abbrev pub report_data : Report → Data
report_data r =
    object (member (codes "cleaning") (string (cleaning_word r))
    (member (codes "data") (number (unsigned r.data_blocks))
    (member (codes "emptied") (number (unsigned r.compaction.work.frames))
    (member (codes "ending") (string (ending_word r.compaction.ending))
    (member (codes "free_after") (number (unsigned r.compaction.free_after))
    (member (codes "free_before") (number (unsigned r.compaction.free_before))
    (member (codes "full_pass") (string (pass_word r.pass))
    (member (codes "moves") (number (unsigned r.compaction.work.moves))
    (member (codes "past") (number (unsigned r.past))
    (member (codes "removed") (number (unsigned r.compaction.work.removed))
    (member (codes "rewritten") (number (unsigned r.compaction.work.rewritten))
    (member (codes "room_after") (number (unsigned r.compaction.room_after))
    (member (codes "room_before") (number (unsigned r.compaction.room_before))
    (member (codes "turns") (number (unsigned r.compaction.turns)) no_members))))))))))))))

-- the line of that object
abbrev pub report_line : Report → List ℕ
report_line r = json_line (report_data r)

-- the lines that are asked for
abbrev pub printed : Bool → Report → List ℕ
printed true r = report_line r
printed false r = report_text r

-- ---- what is left

-- What follows a compaction: a full pass that no fewer blocks are left after. Where that would cost room, or is refused, the drive stays as
-- the compaction left it.
abbrev pub Finishes : FullPass → DriveFields → DriveFields → Type 0
Finishes Made d later = PassesOver Made d later
Finishes CostsRoom d later = later ≡ d
Finishes Refused d later = later ≡ d

-- A drive was compacted this way, a full pass followed that ended so, and the output has the lines of that. History and versions stay, no
-- fewer blocks are left, and where the pass was made just what can be read is held.
pub record CompactsBy (way : Way) (pass : FullPass) (d later : DriveFields) (compact : CompactAsked) (output output' : Option (List ℕ)) : Type 0 where
  pub report : Report
  pub cleans : report.cleans ≡ cleans_by way
  pub pass_is : report.pass ≡ pass
  pub between : DriveFields
  pub compaction : Compaction
  pub is : IsCompactedBy way d between compaction
  pub since : DriveFields
  pub finishes : Finishes pass between since
  pub left : report.compaction ≡ as_left compaction since
  pub held : report.data_blocks ≡ data_blocks since.store.table
  pub past : IsPast since report.past
  pub same : store_of later ≡ store_of since
  pub ledger : later.ledger ≡ d.ledger
  pub needed : KeepsVersions (state_in d) (store_of d) (store_of later)
  pub no_fewer : blocks_left (store_of d) ≤ blocks_left (store_of later)
  pub more : room (store_of d) ≤ room (store_of later)
  pub holds : pass ≡ Made → HoldsWhatIsRead d later
  pub wrote : Appends output output' (printed compact.json report)

-- What `compact` asks for was done to a drive.
pub record Compacts (d later : DriveFields) (compact : CompactAsked) (output output' : Option (List ℕ)) : Type 0 where
  pub way : Way
  pub pass : FullPass
  pub compacts : CompactsBy way pass d later compact output output'
