-- Where nothing is lost by the counts, each live object is in the folder with all of its bytes.
use Rattle.std.proofs.Common.{◌≡◌, inl, inr, ℕ, zero, suc, ◌+◌, ◌-◌, ◌^◌, ◌<◌, ◌==◌, ◌&&◌, not, Bool, true, false, min, nat_lt, is_some, if◌then◌else◌, List, [], ◌∷◌, ◌++◌, length, get_or, Option, Some, None, refl, sym, ap, subst, ◌∙◌, arith}
use Rattle.std.specs.Prelude.{MatchOption}
use Rattle.std.specs.List.{AllZip}
use Rattle.std.specs.Cmp.Lexicographic.{pointwise}
use Rattle.std.proofs.lemmas.Bool.{and_parts, eqb-true, cases_lt, not-true}
use Rattle.std.proofs.lemmas.List.{nil_from_length}
use Rattle.std.proofs.Math.Nat.{min-eq_left, min-eq_right}
use Rattle.s4_types.specs.Pointer.{Place}
use Rattle.s4_types.specs.declared.refusals.Cause.{Cause}
use Rattle.s4_types.specs.declared.versions.Version.{Version}
use Rattle.s4_types.specs.declared.versions.Version.TheVariants.{Absent, Live}
use Rattle.block_log.specs.Log.{Stored}
use Rattle.codec.specs.declared.inodes.Inode.{Inode}
use Rattle.segment_table.specs.Used.{used_at}
use Rattle.version_store.specs.Versions.{version_by}
use Rattle.image_parts.specs.Image.{image_in}
use Rattle.image_parts.specs.declared.rows.RowPart.{RowPart}
use Rattle.image_objects.specs.declared.rows.ImageRow.{ImageRow}
use Rattle.image_objects.specs.Objects.{inode_used}
use Rattle.verifier.specs.Grammar.{SpellsDrive}
use Rattle.history_export.specs.Folders.{NamedFile, AreFiles, with_bytes, with_file}
use Rattle.history_export.specs.Manifest.{manifest_name, file_name}
use Rattle.image_salvage.specs.declared.rows.Salvaged.{Salvaged}
use Rattle.image_salvage.specs.declared.giving.GivenOut.{GivenOut}
use Rattle.image_salvage.specs.declared.giving.Fate.{Fate}
use Rattle.image_salvage.specs.declared.giving.Fate.TheVariants.{Given, Lost, Deleted}
use Rattle.image_salvage.specs.Contents.{salvaged_bytes, blocks_gone}
use Rattle.image_salvage.specs.Rows.{IsLost, IsPresentOf, IsSalvagedBy}
use Rattle.image_salvage.specs.declared.unlisted.Unlisted.{Unlisted}
use Rattle.image_salvage.specs.Manifest.{unlisted_name}
use Rattle.image_salvage.specs.Giving.{capped, fate_by, fate_of, counted_by, counted, counted_all, with_fate, with_row, with_rows, with_frames, none_given, with_unlisted, with_all_unlisted, salvaged_files, GivesOut, is_whole}
use Rattle.image_salvage.specs.Salvaging.{SalvageFields, HasFault}
use Rattle.image_salvage.specs.Wholeness.{HasNamed, HasFile, RowIsWhole, IsGivenWhole}
use Rattle.image_salvage.specs.Laws.{AnUndamagedImageIsSalvagedWhole, IsSalvagedWhole, HasAll, WhatIsWholeIsAll}
use Rattle.image_salvage.proofs.Whole.{spelled_count}

-- ---- files

has_left : (files more : List NamedFile) (name bytes : List ℕ) → HasNamed files name bytes → HasNamed (files ++ more) name bytes
has_left [] more name bytes has = absurd has
has_left (file ∷ files) more name bytes (inl is) = inl is
has_left (file ∷ files) more name bytes (inr has) = inr (has_left files more name bytes has)

has_new : (files : List NamedFile) (name bytes : List ℕ) → HasNamed (with_file name bytes files) name bytes
has_new [] name bytes = inl (refl, refl)
has_new (file ∷ files) name bytes = inr (has_new files name bytes)

-- a file whose name is another than that to which bytes are added
line_by : (file : NamedFile) (files : List NamedFile) (other line name bytes : List ℕ) (b : Bool) → pointwise ◌==◌ file.name other ≡ b → pointwise ◌==◌ name other ≡ false
    → (HasNamed files name bytes → HasNamed (with_bytes other line files) name bytes) → HasNamed (file ∷ files) name bytes
    → HasNamed (if b then record { name = file.name; bytes = file.bytes ++ line } ∷ files else file ∷ with_bytes other line files) name bytes
line_by file files other line name bytes true is apart rest (inl same) = absurd (let clash : true ≡ false = sym is ∙ ap (λ (n : List ℕ). pointwise ◌==◌ n other) same.0 ∙ apart in cc)
line_by file files other line name bytes true is apart rest (inr has) = inr has
line_by file files other line name bytes false is apart rest (inl same) = inl same
line_by file files other line name bytes false is apart rest (inr has) = inr (rest has)

has_line : (files : List NamedFile) (other line name bytes : List ℕ) → pointwise ◌==◌ name other ≡ false → HasNamed files name bytes → HasNamed (with_bytes other line files) name bytes
has_line [] other line name bytes apart has = absurd has
has_line (file ∷ files) other line name bytes apart has =
    line_by file files other line name bytes (pointwise ◌==◌ file.name other) refl apart (has_line files other line name bytes apart) has

no_manifest : (o : ℕ) → pointwise ◌==◌ (file_name o) manifest_name ≡ false
no_manifest o = refl

-- ---- counts

-- nothing is lost by the counts
abbrev IsNothingLost : GivenOut → Type 0
IsNothingLost g = (g.damaged ≡ false) × (g.blocks_gone ≡ 0) × (g.lost_objects ≡ 0) × (g.lost_frames ≡ 0)

capped_none : (n : ℕ) → capped n ≡ 0 → n ≡ 0
capped_none n none = elim (cases_lt n (2 ^ 64 - 1)) [
  | inl below ↦ sym (min-eq_left (omega (arith, below))) ∙ none
  | inr past ↦ absurd (let top : min n (2 ^ 64 - 1) ≡ 2 ^ 64 - 1 = min-eq_right past in let clash : 2 ^ 64 - 1 ≡ 0 = sym top ∙ none in omega (arith, clash))
]

step_by : (used : Place → Option Stored) (o : ℕ) (g : GivenOut) (fate : Fate) → IsNothingLost (counted_by used o fate g) → IsNothingLost g
step_by used o g (Given i) (sound, gone, objects, frames) = (sound, (let all : g.blocks_gone + blocks_gone used o i ≡ 0 = capped_none (g.blocks_gone + blocks_gone used o i) gone in omega (arith, all)), objects, frames)
step_by used o g Lost (sound, gone, objects, frames) = (sound, gone, (let all : g.lost_objects + 1 ≡ 0 = capped_none (g.lost_objects + 1) objects in omega (arith, all)), frames)
step_by used o g Deleted none = none

nothing_before : (used : Place → Option Stored) (rows : List Salvaged) (g : GivenOut) → IsNothingLost (counted_all used g rows) → IsNothingLost g
nothing_before used [] g none = none
nothing_before used (row ∷ rows) g none = step_by used row.object g (fate_of g.last row) (nothing_before used rows (counted used g row) none)

-- a row whose object is live was given out
given_by : (used : Place → Option Stored) (o : ℕ) (g : GivenOut) (i : Inode) (alive below : Bool) → alive ≡ true → IsNothingLost (counted_by used o (if alive then (if below then Given i else Lost) else Deleted) g)
    → (if alive then (if below then Given i else Lost) else Deleted) ≡ Given i
given_by used o g i true true live none = refl
given_by used o g i true false live (sound, gone, objects, frames) = absurd (let all : g.lost_objects + 1 ≡ 0 = capped_none (g.lost_objects + 1) objects in omega (arith, all))
given_by used o g i false below live none = absurd (cc)

-- ---- files, row by row

fate_keeps : (used : Place → Option Stored) (o key : ℕ) (fate : Fate) (files : List NamedFile) (bytes : List ℕ) → HasNamed files (file_name key) bytes → HasNamed (with_fate used o fate files) (file_name key) bytes
fate_keeps used o key (Given i) files bytes has = has_line (with_file (file_name o) (salvaged_bytes used o i) files) manifest_name _ (file_name key) bytes (no_manifest key) (has_left files _ (file_name key) bytes has)
fate_keeps used o key Lost files bytes has = has_line files manifest_name _ (file_name key) bytes (no_manifest key) has
fate_keeps used o key Deleted files bytes has = has

rows_keep : (used : Place → Option Stored) (key : ℕ) (rows : List Salvaged) (g : GivenOut) (files : List NamedFile) (bytes : List ℕ) → HasNamed files (file_name key) bytes → HasNamed (with_rows used g rows files) (file_name key) bytes
rows_keep used key [] g files bytes has = has
rows_keep used key (row ∷ rows) g files bytes has = rows_keep used key rows (counted used g row) (with_row used g row files) bytes (fate_keeps used row.object key (fate_of g.last row) files bytes has)

given_has : (used : Place → Option Stored) (o : ℕ) (i : Inode) (fate : Fate) (files : List NamedFile) → fate ≡ Given i → HasNamed (with_fate used o fate files) (file_name o) (salvaged_bytes used o i)
given_has used o i fate files is = subst (λ (f : Fate). HasNamed (with_fate used o f files) (file_name o) (salvaged_bytes used o i)) (sym is)
    (has_line (with_file (file_name o) (salvaged_bytes used o i) files) manifest_name _ (file_name o) (salvaged_bytes used o i) (no_manifest o) (has_new files (file_name o) (salvaged_bytes used o i)))

given_none_gone : (used : Place → Option Stored) (o : ℕ) (i : Inode) (g : GivenOut) (fate : Fate) → fate ≡ Given i → IsNothingLost (counted_by used o fate g) → blocks_gone used o i ≡ 0
given_none_gone used o i g fate is none =
    let here : IsNothingLost (counted_by used o (Given i) g) = subst (λ (f : Fate). IsNothingLost (counted_by used o f g)) is none in
    let all : g.blocks_gone + blocks_gone used o i ≡ 0 = capped_none (g.blocks_gone + blocks_gone used o i) here.1 in
    omega (arith, all)

-- ---- one row

row_by : (used : Place → Option Stored) (part : RowPart) (o : ℕ) (found : Option Inode) (g : GivenOut) (rows : List Salvaged) (later : GivenOut) (files : List NamedFile) → o ≡ part.object → MatchOption found (IsLost used part) (IsPresentOf used part)
    → IsNothingLost (counted_by used o (fate_by g.last o found) g) → RowIsWhole used part (Some (with_rows used later rows (with_fate used o (fate_by g.last o found) files)))
row_by used part o None g rows later files object is (sound, gone, objects, frames) = absurd (let all : g.lost_objects + 1 ≡ 0 = capped_none (g.lost_objects + 1) objects in omega (arith, all))
row_by used part o (Some i) g rows later files object present none = record {
  inode = i;
  present = present;
  none_gone = λ live. subst (λ (n : ℕ). blocks_gone used n i ≡ 0) object
      (given_none_gone used o i g (fate_by g.last o (Some i)) (given_by used o g i i.alive (nat_lt g.last o) live none) none);
  has = λ live. subst (λ (n : ℕ). HasNamed (with_rows used later rows (with_fate used o (fate_by g.last o (Some i)) files)) (file_name n) (salvaged_bytes used n i)) object
      (rows_keep used o rows later (with_fate used o (fate_by g.last o (Some i)) files) (salvaged_bytes used o i)
      (given_has used o i (fate_by g.last o (Some i)) files (given_by used o g i i.alive (nat_lt g.last o) live none)));
}

-- ---- all rows

each_whole : (used : Place → Option Stored) (parts : List RowPart) (rows : List Salvaged) (g : GivenOut) (files : List NamedFile) (k : ℕ) (part : RowPart) → AllZip (IsSalvagedBy used) parts rows → IsNothingLost (counted_all used g rows)
    → k < length parts → RowIsWhole used (get_or parts k part) (Some (with_rows used g rows files))
each_whole used [] rows g files k d all none inside = absurd (omega (arith, inside))
each_whole used (part ∷ parts) [] g files k d all none inside = absurd all
each_whole used (part ∷ parts) (row ∷ rows) g files zero d all none inside =
    row_by used part row.object row.present g rows (counted used g row) files all.0.object all.0.present (nothing_before used rows (counted used g row) none)
each_whole used (part ∷ parts) (row ∷ rows) g files (suc k) d all none inside = each_whole used parts rows (counted used g row) (with_row used g row files) k d all.1 none (omega (arith, inside))

-- ---- the objects that no row refers to

unlisted_keep : (used : Place → Option Stored) (key : ℕ) (unlisted : List Unlisted) (files : List NamedFile) (bytes : List ℕ) → HasNamed files (file_name key) bytes → HasNamed (with_all_unlisted used unlisted files) (file_name key) bytes
unlisted_keep used key [] files bytes has = has
unlisted_keep used key (u ∷ unlisted) files bytes has =
    unlisted_keep used key unlisted (with_unlisted used u files) bytes
    (has_line (with_file (unlisted_name u.object) (salvaged_bytes used u.object u.inode) files) manifest_name _ (file_name key) bytes (no_manifest key) (has_left files _ (file_name key) bytes has))

whole_keeps : (used : Place → Option Stored) (part : RowPart) (unlisted : List Unlisted) (files : List NamedFile) → RowIsWhole used part (Some files) → RowIsWhole used part (Some (with_all_unlisted used unlisted files))
whole_keeps used part unlisted files whole = record {
  inode = whole.inode;
  present = whole.present;
  none_gone = whole.none_gone;
  has = λ live. unlisted_keep used part.object unlisted files (salvaged_bytes used part.object whole.inode) (whole.has live);
}

-- ---- the image

whole_counts : (g : GivenOut) → is_whole g ≡ true → IsNothingLost g
whole_counts g whole =
    let halves = and_parts (not g.damaged && g.blocks_gone == 0) (g.lost_objects == 0 && g.lost_frames == 0) whole in
    let front = and_parts (not g.damaged) (g.blocks_gone == 0) halves.0 in
    let back = and_parts (g.lost_objects == 0) (g.lost_frames == 0) halves.1 in
    (not-true g.damaged front.0, eqb-true g.blocks_gone 0 front.1, eqb-true g.lost_objects 0 back.0, eqb-true g.lost_frames 0 back.1)

none_there : (fault : Option Cause) → is_some fault ≡ false → fault ≡ None
none_there None is = refl
none_there (Some cause) is = absurd (cc)

-- what files are, where they are known
known_whole : (used : Place → Option Stored) (part : RowPart) (known : Option (List NamedFile)) (files : List NamedFile) → AreFiles known files → RowIsWhole used part (Some files) → RowIsWhole used part known
known_whole used part None files are whole = record { inode = whole.inode; present = whole.present; none_gone = whole.none_gone; has = λ live. tt }
known_whole used part (Some known) files are whole = subst (λ (l : List NamedFile). RowIsWhole used part (Some l)) (sym are) whole

pub given_whole : (s : SalvageFields) (given : GivenOut) (files files' : Option (List NamedFile)) → GivesOut s given files files' → is_whole given ≡ true → IsGivenWhole s files'
given_whole s given files files' gives whole =
    let used = used_at s.table in
    let none : IsNothingLost (counted_all used (none_given s) gives.rows) = whole_counts (counted_all used (none_given s) gives.rows) (ap is_whole (sym gives.counts) ∙ whole) in
    let first : IsNothingLost (none_given s) = nothing_before used gives.rows (none_given s) none in
    record {
      sound = none_there s.fault first.0;
      intact = nil_from_length s.lost first.3;
      each = λ k part inside. known_whole used (get_or s.rows k part) files' (salvaged_files s gives.rows) gives.has
          (whole_keeps used (get_or s.rows k part) s.unlisted (with_rows used (none_given s) gives.rows (with_frames s.lost (with_file manifest_name [] [])))
          (each_whole used s.rows gives.rows (none_given s) (with_frames s.lost (with_file manifest_name [] [])) k part gives.are none inside));
    }

-- ---- what a drive has

spelled_by : (bytes : List ℕ) (fault : Option Cause) → fault ≡ None → HasFault bytes fault → SpellsDrive bytes (image_in bytes)
spelled_by bytes None is has = has
spelled_by bytes (Some cause) is has = absurd (cc)

live_by : (b : Bool) (content other attribute changes : List ℕ) (version : Version) (created changed : ℕ) (c d : ℕ) → version ≡ Live content attribute created changed → (if b then Live other changes c d else Absent) ≡ version
    → (b ≡ true) × (other ≡ content)
live_by true content other attribute changes version created changed c d is same = (refl, (let all : Live other changes c d ≡ Live content attribute created changed = same ∙ is in cc))
live_by false content other attribute changes version created changed c d is same = absurd (let clash : Absent ≡ Live content attribute created changed = same ∙ is in cc)

some_is : {A : Type 0} (x y : A) → ◌≡◌ {A = Option A} (Some x) (Some y) → x ≡ y
some_is x y e = cc

file_of : (s : SalvageFields) (used : Place → Option Stored) (clock : ℕ) (part : RowPart) (row : ImageRow) (files : Option (List NamedFile)) (whole : RowIsWhole (used_at s.table) part files)
    → IsSalvagedWhole used clock row (used_at s.table) (record { object = part.object; present = Some whole.inode })
    → (content attribute : List ℕ) (created changed : ℕ) → version_by used (Some (inode_used used row clock)) ≡ Live content attribute created changed → HasFile files (file_name row.object) content
file_of s used clock part row files whole salvaged content attribute created changed live =
    let seen = used_at s.table in
    let same : whole.inode ≡ salvaged.inode = some_is whole.inode salvaged.inode salvaged.present in
    let here = live_by salvaged.inode.alive content (salvaged_bytes seen row.object salvaged.inode) attribute salvaged.inode.attribute (version_by used (Some (inode_used used row clock))) created changed salvaged.inode.created salvaged.inode.changed live
    salvaged.version in
    let alive : whole.inode.alive ≡ true = ap (λ (i : Inode). i.alive) same ∙ here.0 in
    let bytes : salvaged_bytes seen part.object whole.inode ≡ content = ap (λ (o : ℕ). salvaged_bytes seen o whole.inode) salvaged.object ∙ ap (λ (i : Inode). salvaged_bytes seen row.object i) same ∙ here.1 in
    subst (λ (l : List ℕ). HasFile files (file_name row.object) l) bytes
    (subst (λ (o : ℕ). HasFile files (file_name o) (salvaged_bytes seen part.object whole.inode)) salvaged.object (whole.has alive))

no_part_there : RowPart
no_part_there = record { object = 0; created = 0; checkpoint = 0; checkpoint_moment = 0; head = 0 }

pub whole_is_all : AnUndamagedImageIsSalvagedWhole → WhatIsWholeIsAll
whole_is_all undamaged bytes s files salvages whole =
    let spells : SpellsDrive bytes (image_in bytes) = spelled_by bytes s.fault whole.sound salvages.has in
    let all : HasAll (image_in bytes) s = undamaged bytes (image_in bytes) s spells salvages in
    let count : length (image_in bytes).rows ≡ length all.rows = spelled_count (image_in bytes).rows all.rows all.spelled in
    let rows : length s.rows ≡ length (image_in bytes).rows = ap length all.same in
    record {
      image = image_in bytes;
      spelled = spells;
      table = all.table;
      frames = all.frames;
      rows = all.rows;
      read = all.spelled;
      each = λ k row content attribute created changed inside live.
          let row_whole : RowIsWhole (used_at s.table) (get_or s.rows k no_part_there) files = whole.each k no_part_there (omega (arith, inside, count, rows)) in
          let by : IsSalvagedBy (used_at s.table) (get_or (image_in bytes).rows k no_part_there) (record { object = (get_or s.rows k no_part_there).object; present = Some row_whole.inode }) =
          subst (λ (l : List RowPart). IsSalvagedBy (used_at s.table) (get_or l k no_part_there) (record { object = (get_or s.rows k no_part_there).object; present = Some row_whole.inode })) all.same
          (record { object = refl; present = row_whole.present }) in
          file_of s (used_at all.table) (image_in bytes).clock (get_or s.rows k no_part_there) (get_or all.rows k row) files row_whole
          (all.each k no_part_there row (record { object = (get_or s.rows k no_part_there).object; present = Some row_whole.inode }) inside by) content attribute created changed live;
    }
