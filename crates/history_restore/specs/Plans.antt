-- What has to be done to an object, so that it is what it was, and what that comes to.
use Rattle.std.specs.Prelude.{◌≡◌, ◌≢◌, ℕ, ◌+◌, ◌-◌, ◌<◌, ◌≤◌, ◌==◌, min, ◌&&◌, not, is_none, if◌then◌else◌, Bool, false, List, [], ◌∷◌, ◌++◌, length, Option, None, Some, MatchBool}
use Rattle.s4_types.specs.declared.changes.Change.{Change as ChangeOf}
use Rattle.s4_types.specs.declared.changes.Change.TheVariants as change
use Rattle.s4_types.specs.declared.limits.TheConstants.{OBJECT_BYTES}
use Rattle.s4_types.specs.declared.versions.Version.{Version}
use Rattle.s4_types.specs.declared.versions.Version.TheVariants.{Absent, Live}
use Rattle.s4_model.specs.Effect.{effect}
use Rattle.s4_model.specs.Refusals.{is_absent, last_number}
use Rattle.s4_model.specs.Step.{part}
use Rattle.history_view.specs.Contents.{attribute_of, content_of as bytes_of}
use Rattle.history_restore.specs.declared.plans.Changes.{Changes}
use Rattle.history_restore.specs.declared.plans.Plan.{Plan}
use Rattle.history_restore.specs.declared.plans.Plan.TheVariants.{Keep, Delete, Remake, Change}
use Rattle.history_restore.specs.Content.{content_of}
use Rattle.block_runs.specs.declared.running.Run.{Run}
use Rattle.block_runs.specs.Blocks.{blocks_in_all}
use Rattle.block_runs.specs.Runs.{IsSized, runs_to}

-- How many blocks that are the same may lie between two of one run.
abbrev pub gap_of : Bool → ℕ
gap_of joined = if joined then 1 else 0

-- whether the runs of a plan are joined
abbrev pub is_joined : Plan → Bool
is_joined Keep = false
is_joined Delete = false
is_joined (Remake changes) = changes.joined
is_joined (Change changes) = changes.joined

-- where the bytes of what an object was differ from those that it has, once these are cut, as runs of which those are one that no more than this
-- many blocks lie between
abbrev pub runs_between : ℕ → Version → Version → List Run
runs_between gap before now = runs_to gap (bytes_of before) (bytes_of now)

-- those of a plan
abbrev pub runs_planned : Plan → Version → Version → List Run
runs_planned plan before now = runs_between (gap_of (is_joined plan)) before now

-- The changes of an object that had bytes and an attribute and has others now: it is cut where it is longer, and gets zeros where
-- it is shorter and ended by one; bytes are written for each run of blocks that differ then, which are neighbours or, where runs are joined, have one
-- between them; the attribute is replaced where it differs.
pub record IsChangesOf (bytes attribute now attribute_now : List ℕ) (changes : Changes) : Type 0 where
  pub shorter : IsSized bytes now changes.cut
  pub rewritten : changes.writes ≡ length (runs_to (gap_of changes.joined) bytes now)
  pub blocks : changes.blocks ≡ min last_number (blocks_in_all (runs_to (gap_of changes.joined) bytes now))
  pub replaced : MatchBool changes.attribute (attribute ≢ attribute_now) (attribute ≡ attribute_now)

-- whether no change is among them
abbrev pub is_idle : Changes → Bool
is_idle changes = is_none changes.cut && ((changes.writes == 0) && not changes.attribute)

-- The plan of an object that was there and is there: nothing exactly where its bytes and its attribute are what they were.
abbrev pub IsPlanBetween : List ℕ → List ℕ → List ℕ → List ℕ → Plan → Type 0
IsPlanBetween bytes attribute now attribute_now Keep = (bytes ≡ now) × (attribute ≡ attribute_now)
IsPlanBetween bytes attribute now attribute_now Delete = ⊥
IsPlanBetween bytes attribute now attribute_now (Remake changes) = ⊥
IsPlanBetween bytes attribute now attribute_now (Change changes) = IsChangesOf bytes attribute now attribute_now changes × (is_idle changes ≡ false)

-- The plan of an object that was there and isn't any more: one is made with its attribute, and has no bytes at first.
abbrev pub IsRemade : List ℕ → List ℕ → Plan → Type 0
IsRemade bytes attribute Keep = ⊥
IsRemade bytes attribute Delete = ⊥
IsRemade bytes attribute (Remake changes) = IsChangesOf bytes attribute [] attribute changes
IsRemade bytes attribute (Change changes) = ⊥

-- The plan of an object, by what it was and what it is now: one that wasn't there is deleted, one that isn't there any more is made anew.
abbrev pub IsPlan : Version → Version → Plan → Type 0
IsPlan Absent Absent plan = plan ≡ Keep
IsPlan Absent (Live now attribute_now created changed) plan = plan ≡ Delete
IsPlan (Live bytes attribute created changed) Absent plan = IsRemade bytes attribute plan
IsPlan (Live bytes attribute created changed) (Live now attribute_now created_now changed_now) plan = IsPlanBetween bytes attribute now attribute_now plan

-- ---- what a plan comes to, as changes of an object at a moment

-- what an object is after a cut, if one is planned
abbrev pub cut_by : Option ℕ → ℕ → ℕ → Version → Version
cut_by None o moment now = now
cut_by (Some size) o moment now = effect (change.Truncate o size) moment now

-- after bytes were written, run by run
abbrev pub runs_by : List ℕ → List Run → ℕ → ℕ → Version → Version
runs_by bytes [] o moment now = now
runs_by bytes (r ∷ rs) o moment now = runs_by bytes rs o moment (effect (change.Write o r.offset (part bytes r.offset (r.end - r.offset))) moment now)

-- after the attribute was replaced, if that is planned
abbrev pub attribute_by : List ℕ → Bool → ℕ → ℕ → Version → Version
attribute_by attribute wanted o moment now = if wanted then effect (change.SetAttr o attribute) moment now else now

-- after these changes, one after the other
abbrev pub changed_by : Version → List Run → Changes → ℕ → ℕ → Version → Version
changed_by before runs changes o moment now = attribute_by (attribute_of before) changes.attribute o moment (runs_by (bytes_of before) runs o moment (cut_by changes.cut o moment now))

-- what an object becomes by the changes of a plan, whose bytes and attribute are those of an earlier version, with these runs
abbrev pub turned : Version → List Run → Plan → ℕ → ℕ → Version → Version
turned before runs Keep o moment now = now
turned before runs Delete o moment now = effect (change.Delete o) moment now
turned before runs (Remake changes) o moment now = changed_by before runs changes o moment (effect (change.Create o (attribute_of before)) moment now)
turned before runs (Change changes) o moment now = changed_by before runs changes o moment now

-- A plan turns an object back: after its changes it has the bytes and the attribute that it had, or isn't there where it wasn't.
abbrev pub APlanTurnsBack : Type 0
APlanTurnsBack = (before now : Version) (plan : Plan) (o moment : ℕ) → IsPlan before now plan → content_of (turned before (runs_planned plan before now) plan o moment now) ≡ content_of before

-- the bytes of runs are among these
abbrev pub AreWithin : List ℕ → List Run → Type 0
AreWithin bytes [] = Unit {0}
AreWithin bytes (r ∷ rs) = (r.offset < r.end) × (r.end ≤ length bytes) × AreWithin bytes rs

-- a cut leaves no more bytes than there are of these
abbrev pub IsCutWithin : List ℕ → Option ℕ → Type 0
IsCutWithin bytes None = Unit {0}
IsCutWithin bytes (Some size) = size ≤ length bytes

-- a cut leaves no more bytes than an object may have
abbrev pub FitsCut : Option ℕ → Type 0
FitsCut None = Unit {0}
FitsCut (Some size) = size ≤ OBJECT_BYTES

-- what is planned can be had from these bytes
abbrev pub IsWithinPlan : List ℕ → List Run → Plan → Type 0
IsWithinPlan bytes runs Keep = Unit {0}
IsWithinPlan bytes runs Delete = Unit {0}
IsWithinPlan bytes runs (Remake changes) = IsCutWithin bytes changes.cut × AreWithin bytes runs
IsWithinPlan bytes runs (Change changes) = IsCutWithin bytes changes.cut × AreWithin bytes runs

-- an object is there where it is to be deleted or changed
abbrev pub IsThereFor : Plan → Version → Type 0
IsThereFor Keep now = Unit {0}
IsThereFor Delete now = is_absent now ≡ false
IsThereFor (Remake changes) now = Unit {0}
IsThereFor (Change changes) now = is_absent now ≡ false

-- ---- numbers

-- the number that an object has afterwards: another one exactly where it is made anew
abbrev pub number_by : Plan → ℕ → ℕ → ℕ
number_by (Remake changes) next o = next
number_by Keep next o = o
number_by Delete next o = o
number_by (Change changes) next o = o

-- the number that the next object gets afterwards
abbrev pub next_by_plan : Plan → ℕ → ℕ
next_by_plan (Remake changes) next = next + 1
next_by_plan Keep next = next
next_by_plan Delete next = next
next_by_plan (Change changes) next = next

-- ---- the changes of a plan

abbrev pub cut_changes : ℕ → Option ℕ → List ChangeOf
cut_changes o None = []
cut_changes o (Some size) = change.Truncate o size ∷ []

abbrev pub runs_changes : ℕ → List ℕ → List Run → List ChangeOf
runs_changes o bytes [] = []
runs_changes o bytes (r ∷ rs) = change.Write o r.offset (part bytes r.offset (r.end - r.offset)) ∷ runs_changes o bytes rs

abbrev pub attribute_changes : ℕ → List ℕ → Bool → List ChangeOf
attribute_changes o attribute wanted = if wanted then change.SetAttr o attribute ∷ [] else []

abbrev pub changes_of : Version → List Run → Changes → ℕ → List ChangeOf
changes_of before runs changes o = cut_changes o changes.cut ++ (runs_changes o (bytes_of before) runs ++ attribute_changes o (attribute_of before) changes.attribute)

-- The changes of an object that a plan asks for, in order, where bytes and attribute are those of an earlier version, with these runs; of one
-- that is made anew under the next number those are of this number.
abbrev pub changes_by : Version → List Run → Plan → ℕ → ℕ → List ChangeOf
changes_by before runs Keep next o = []
changes_by before runs Delete next o = change.Delete o ∷ []
changes_by before runs (Remake changes) next o = change.Create next (attribute_of before) ∷ changes_of before runs changes next
changes_by before runs (Change changes) next o = changes_of before runs changes o

-- how many these are
abbrev pub count_of : {X : Type 0} → Option X → ℕ
count_of None = 0
count_of (Some x) = 1

abbrev pub count_of_changes : Changes → ℕ
count_of_changes changes = count_of changes.cut + (changes.writes + (if changes.attribute then 1 else 0))

abbrev pub change_count : Plan → ℕ
change_count Keep = 0
change_count Delete = 1
change_count (Remake changes) = 1 + count_of_changes changes
change_count (Change changes) = count_of_changes changes
