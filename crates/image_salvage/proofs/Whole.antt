-- Each row of an image that isn't damaged gives its object.
use Rattle.std.proofs.Common.{◌≡◌, ◌⊎◌, inl, inr, ℕ, zero, suc, ◌<◌, ◌≤◌, ◌&&◌, ◌==◌, Bool, true, false, cond, List, [], ◌∷◌, ◌^◌, length, get_or, Option, Some, None, refl, sym, ap, subst, ◌∙◌, arith}
use Rattle.std.specs.Prelude.{IsSome, MatchOption, unwrap_or}
use Rattle.std.specs.List.{All, AllByRecursion, Contains}
use Rattle.std.proofs.lemmas.List.Elements.{All-get_or}
use Rattle.s4_types.specs.Pointer.{Place}
use Rattle.block_log.specs.Log.{Stored, seen_as, same_kind, of_kind}
use Rattle.block_log.specs.declared.kinds.BlockKind.TheVariants.{Data}
use Rattle.codec.specs.Fields.{SpellsSlot}
use Rattle.codec.specs.Checkpoint.{pointer_at}
use Rattle.codec.specs.Entry.{EntryFields}
use Rattle.codec.specs.declared.inodes.Inode.{Inode}
use Rattle.undo_redo.specs.Runs.{AllBy, redone_all, inode_after}
use Rattle.inode.specs.Contents.{bytes_stored, contents_of, meaning}
use Rattle.inode.specs.Laws.{OnlyItsBlocksMatter}
use Rattle.version_store.specs.Store.{IsLed}
use Rattle.segment_table.specs.Used.{used_at}
use Rattle.image_parts.specs.Image.{Image, image_in}
use Rattle.image_parts.specs.declared.rows.RowPart.{RowPart}
use Rattle.image_objects.specs.declared.rows.ImageRow.{ImageRow}
use Rattle.image_objects.specs.Chains.{entries_used}
use Rattle.image_objects.specs.Inodes.{first_used}
use Rattle.image_objects.specs.VersionChain.{present_used}
use Rattle.image_objects.specs.Objects.{ObjectStands, inode_used, pointers_used}
use Rattle.image_objects.specs.Laws.{InodesUsedPointToWhatRowsLeadTo}
use Rattle.verifier.specs.Rows.{SpellsRow, SpellRows}
use Rattle.verifier.specs.Grammar.{SpellsDrive, FirstFault}
use Rattle.image_salvage.specs.declared.rows.Salvaged.{Salvaged}
use Rattle.image_salvage.specs.Contents.{data_of}
use Rattle.image_salvage.specs.Rows.{last_moment, IsLost, IsPresentOf, IsSalvagedBy}
use Rattle.s4_types.specs.declared.refusals.Cause.{Cause}
use Rattle.segment_table.specs.Table.{Table}
use Rattle.time_read.proofs.Ordering.{all_by_last}
use Rattle.verifier.proofs.Faults.{split_fault}
use Rattle.verifier.proofs.OpenedRows.{one_row}
use Rattle.image_salvage.specs.Frames.{Sees, AreLostOf}
use Rattle.image_salvage.specs.Salvaging.{SalvageFields, HasFault, SeesBy, IsSalvageOfParts, IsSalvageOfBytes, IsSalvageOf}
use Rattle.image_salvage.specs.declared.unlisted.Unlisted.{Unlisted}
use Rattle.image_salvage.specs.Unlisted.{FindsUnlistedBy}
use Rattle.image_salvage.specs.Laws.{salvaged_version, IsSalvagedWhole, HasAll}
use Rattle.image_salvage.proofs.Seeing.{OneSummaryASpelling}
use Rattle.image_salvage.proofs.Alike.{RulesOfASummary, used_alike, none_lost_of}
use Rattle.image_salvage.proofs.Later.{stands_later}

-- what laws tell
abbrev pub OnePointerASpelling : Type 0
OnePointerASpelling = (bytes : List ℕ) (p q : Option Place) → SpellsSlot bytes p → SpellsSlot bytes q → p ≡ q

abbrev pub AllEntriesAreDone : Type 0
AllEntriesAreDone = (i : Inode) (entries : List EntryFields) (t : ℕ) → AllBy t entries → inode_after i entries t ≡ redone_all entries i

-- ---- bytes

by_kind : (b : Bool) (bytes : List ℕ) → IsSome (cond b (Some bytes) None) → unwrap_or (cond b (Some bytes) None) [] ≡ bytes
by_kind true bytes some = refl
by_kind false bytes some = absurd (cc)

data_there : (o : ℕ) (held : Option Stored) → IsSome (seen_as Data o held) → unwrap_or (seen_as Data o held) [] ≡ bytes_stored held
data_there o None some = absurd (cc)
data_there o (Some block) some = by_kind (same_kind Data block.kind && block.object == o) block.bytes some

-- where each pointer of an inode refers to data of its object, it represents the same over that data alone
same_version : OnlyItsBlocksMatter → (used : Place → Option Stored) (o : ℕ) (i : Inode) → ((k : ℕ) (p : Place) → pointer_at i k ≡ Some p → IsSome (of_kind Data o used p)) → meaning (data_of used o) i ≡ meaning (contents_of used) i
same_version only used o i led = (only (contents_of used) (data_of used o) i (λ k p is. data_there o (used p) (led k p is))).0

-- ---- pointers

led_by : (used : Place → Option Stored) (o : ℕ) (all : List (Option Place)) (p : Place) → All (IsLed used o) all → Contains all (Some p) → IsSome (of_kind Data o used p)
led_by used o all p each (k, h, e) = subst (IsLed used o) e (All-get_or (IsLed used o) all k (Some p) h each)

-- ---- one row

present_whole : OnePointerASpelling → AllEntriesAreDone → InodesUsedPointToWhatRowsLeadTo → OnlyItsBlocksMatter → (used seen : Place → Option Stored) (clock : ℕ) (part : RowPart) (row : ImageRow) (salvaged : Salvaged) (found : Option Inode)
    → seen ≡ used → clock ≤ last_moment → SpellsRow part row → ObjectStands used row clock → salvaged.object ≡ part.object → salvaged.present ≡ found → MatchOption found (IsLost used part) (IsPresentOf used part)
    → IsSalvagedWhole used clock row seen salvaged
present_whole one done points only used seen clock part row salvaged None same later spelled stands object is lost =
    absurd (lost row spelled (stands_later used row clock last_moment later stands.versions))
present_whole one done points only used seen clock part row salvaged (Some inode) same later spelled stands object is present =
    let rows : present.row ≡ row = one_row one part present.row row present.spelled spelled in
    let by : AllBy clock (entries_used used row) = all_by_last row.created clock (entries_used used row) stands.versions.chain.moments in
    let current : inode ≡ inode_used used row clock = present.present ∙ ap (present_used used) rows ∙ sym (done (first_used used row) (entries_used used row) clock by) in
    let led : (k : ℕ) (p : Place) → pointer_at (inode_used used row clock) k ≡ Some p → IsSome (of_kind Data row.object used p) =
    (λ k p at. led_by used row.object (pointers_used used row) p stands.led (points used row clock k p at)) in
    record {
      object = object ∙ sym spelled.object;
      inode = inode;
      present = is;
      version = ap (λ (view : Place → Option Stored). salvaged_version view row.object inode) same
          ∙ ap (salvaged_version used row.object) current
          ∙ same_version only used row.object (inode_used used row clock) led;
    }

-- ---- all rows

pub spelled_count : (parts : List RowPart) (rows : List ImageRow) → SpellRows parts rows → length parts ≡ length rows
spelled_count [] [] all = refl
spelled_count [] (row ∷ rows) all = absurd all
spelled_count (part ∷ parts) [] all = absurd all
spelled_count (part ∷ parts) (row ∷ rows) all = ap suc (spelled_count parts rows all.1)

spelled_at : (parts : List RowPart) (rows : List ImageRow) (k : ℕ) (part : RowPart) (row : ImageRow) → SpellRows parts rows → k < length rows → SpellsRow (get_or parts k part) (get_or rows k row)
spelled_at [] [] k p r all h = absurd (omega arith)
spelled_at [] (row ∷ rows) k p r all h = absurd all
spelled_at (part ∷ parts) [] k p r all h = absurd all
spelled_at (part ∷ parts) (row ∷ rows) zero p r all h = all.0
spelled_at (part ∷ parts) (row ∷ rows) (suc k) p r all h = spelled_at parts rows k p r all.1 (omega arith)

stands_at : (P : ImageRow → Type 0) (rows : List ImageRow) (k : ℕ) (row : ImageRow) → AllByRecursion P rows → k < length rows → P (get_or rows k row)
stands_at P [] k r all h = absurd (omega arith)
stands_at P (row ∷ rows) zero r all h = all.0
stands_at P (row ∷ rows) (suc k) r all h = stands_at P rows k r all.1 (omega arith)

-- ---- the image

-- what laws of images tell
abbrev pub NoFaultIsThere : Type 0
NoFaultIsThere = (bytes : List ℕ) (cause : Cause) (image : Image) → FirstFault bytes (Some cause) → SpellsDrive bytes image → ⊥

abbrev pub ImageIsRead : Type 0
ImageIsRead = (bytes : List ℕ) (image : Image) → SpellsDrive bytes image → image_in bytes ≡ image

sound_by : NoFaultIsThere → (bytes : List ℕ) (image : Image) (fault : Option Cause) → SpellsDrive bytes image → HasFault bytes fault → fault ≡ None
sound_by no_fault bytes image None spells has = refl
sound_by no_fault bytes image (Some cause) spells has = absurd (no_fault bytes cause image has spells)

sees_by : NoFaultIsThere → (bytes : List ℕ) (image : Image) (t : Table) (fault : Option Cause) → SpellsDrive bytes image → HasFault bytes fault → SeesBy bytes t fault → Sees (image_in bytes).frames t
sees_by no_fault bytes image t None spells has sees = sees
sees_by no_fault bytes image t (Some cause) spells has sees = absurd (no_fault bytes cause image has spells)

parts_by : NoFaultIsThere → (bytes : List ℕ) (image : Image) (s : SalvageFields) → SpellsDrive bytes image → IsSalvageOfParts bytes s ⊎ IsSalvageOfBytes bytes s → IsSalvageOfParts bytes s
parts_by no_fault bytes image s spells (inl parts) = parts
parts_by no_fault bytes image s spells (inr other) = absurd (no_fault bytes other.cause image (split_fault bytes other.cause other.split) spells)

rows_by : (fault : Option Cause) (used : Place → Option Stored) (there rows : List RowPart) (found : List Unlisted) → fault ≡ None → FindsUnlistedBy fault used there rows found → rows ≡ there
rows_by None used there rows found sound finds = finds.0
rows_by (Some cause) used there rows found sound finds = absurd (cc)

pub has_all : RulesOfASummary → OneSummaryASpelling → OnePointerASpelling → AllEntriesAreDone → InodesUsedPointToWhatRowsLeadTo → OnlyItsBlocksMatter → NoFaultIsThere → ImageIsRead
    → (bytes : List ℕ) (image : Image) (s : SalvageFields) → SpellsDrive bytes image → IsSalvageOf bytes s → HasAll image s
has_all rules_of one_summary one_pointer done points only no_fault read bytes image s spells salvages =
    let chains = spells.chains in
    let is : image_in bytes ≡ image = read bytes image spells in
    let parts : IsSalvageOfParts bytes s = parts_by no_fault bytes image s spells salvages.of in
    let sees : Sees image.frames s.table = subst (λ (i : Image). Sees i.frames s.table) is (sees_by no_fault bytes image s.table s.fault spells salvages.has salvages.sees) in
    let lost : AreLostOf image.frames (length image.frames) s.lost = subst (λ (i : Image). AreLostOf i.frames (length i.frames) s.lost) is parts.lost_are in
    let same : used_at s.table ≡ used_at chains.table = used_alike rules_of one_summary image.frames s.table chains.table spells.parts.rules.frames.each sees chains.frames in
    let count : length image.rows ≡ length chains.rows = spelled_count image.rows chains.rows chains.spelled in
    let clock : image.clock < 2 ^ 64 = spells.parts.is.clock in
    record {
      sound = sound_by no_fault bytes image s.fault spells salvages.has;
      same = rows_by s.fault (used_at s.table) (image_in bytes).rows s.rows s.unlisted (sound_by no_fault bytes image s.fault spells salvages.has) parts.unlisted_are ∙ ap (λ (i : Image). i.rows) is;
      table = chains.table;
      frames = chains.frames;
      rows = chains.rows;
      spelled = chains.spelled;
      intact = none_lost_of image.frames s.lost spells.parts.rules.frames.each lost;
      each = λ k part row salvaged h by.
          let here : IsSalvagedBy (used_at chains.table) (get_or image.rows k part) salvaged = subst (λ (view : Place → Option Stored). IsSalvagedBy view (get_or image.rows k part) salvaged) same by in
          present_whole one_pointer done points only (used_at chains.table) (used_at s.table) image.clock (get_or image.rows k part) (get_or chains.rows k row) salvaged salvaged.present same (omega (arith, clock))
          (spelled_at image.rows chains.rows k part row chains.spelled h)
          (stands_at (λ r. ObjectStands (used_at chains.table) r image.clock) chains.rows k row chains.stand.objects h)
          here.object refl here.present;
    }
