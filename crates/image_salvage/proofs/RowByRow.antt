-- What was given out so far, row by row.
use Rattle.std.proofs.Common.{◌≡◌, ◌∙◌, ◌+◌, ◌<◌, ◌≤◌, ◌++◌, ℕ, zero, suc, List, [], ◌∷◌, drop, length, get_or, slice_get, Option, Some, None, refl, sym, ap, subst, arith, append_assoc}
use Rattle.std.specs.List.{AllZip}
use Rattle.std.specs.Option.{option_map}
use Rattle.std.proofs.lemmas.List.{append-nil, drop_all, drop_more}
use Rattle.s4_types.specs.Pointer.{Place}
use Rattle.block_log.specs.Log.{Stored}
use Rattle.segment_table.specs.Used.{used_at}
use Rattle.image_parts.specs.declared.rows.RowPart.{RowPart}
use Rattle.history_export.specs.Folders.{NamedFile, AreFiles, with_file}
use Rattle.history_export.specs.Manifest.{manifest_name}
use Rattle.history_export.proofs.Files.{files_become}
use Rattle.image_salvage.specs.declared.rows.Salvaged.{Salvaged}
use Rattle.image_salvage.specs.declared.giving.GivenOut.{GivenOut}
use Rattle.image_salvage.specs.declared.giving.Fate.{Fate}
use Rattle.image_salvage.specs.declared.unlisted.Unlisted.{Unlisted}
use Rattle.image_salvage.specs.Giving.{fate_of, with_fate, with_row, with_rows, with_frames, with_unlisted, with_all_unlisted, with_gone, capped, counted, counted_all, none_given, GivesRows, GivesOut}
use Rattle.image_salvage.specs.Contents.{blocks_gone}
use Rattle.image_salvage.specs.Rows.{IsSalvagedBy}
use Rattle.image_salvage.specs.Salvaging.{SalvageFields}

-- ---- files

-- one change after another is one
pub changes_join : (f g h : List NamedFile → List NamedFile) (a b c : Option (List NamedFile)) → b ≡ option_map f a → c ≡ option_map g b → ((files : List NamedFile) → g (f files) ≡ h files) → c ≡ option_map h a
changes_join f g h None b c first second is = second ∙ ap (option_map g) first
changes_join f g h (Some files) b c first second is = second ∙ ap (option_map g) first ∙ ap Some (is files)

-- a change that changes nothing
pub changes_none : (f : List NamedFile → List NamedFile) (known : Option (List NamedFile)) → ((files : List NamedFile) → files ≡ f files) → known ≡ option_map f known
changes_none f None is = refl
changes_none f (Some files) is = ap Some (is files)

-- a change by what became of a row is one by the row
pub fate_changes : (used : Place → Option Stored) (g : GivenOut) (row : Salvaged) (fate : Fate) (change : List NamedFile → List NamedFile) (known later : Option (List NamedFile)) → fate ≡ fate_of g.last row
    → ((files : List NamedFile) → change files ≡ with_fate used row.object fate files) → later ≡ option_map change known → later ≡ option_map (with_row used g row) known
fate_changes used g row fate change None later is same becomes = becomes
fate_changes used g row fate change (Some files) later is same becomes = becomes ∙ ap Some (same files ∙ ap (λ (f : Fate). with_fate used row.object f files) is)

-- ---- rows, one by one

counted_more : (used : Place → Option Stored) (g : GivenOut) (rows : List Salvaged) (row : Salvaged) → counted used (counted_all used g rows) row ≡ counted_all used g (rows ++ row ∷ [])
counted_more used g [] row = refl
counted_more used g (first ∷ rows) row = counted_more used (counted used g first) rows row

rows_more : (used : Place → Option Stored) (g : GivenOut) (rows : List Salvaged) (row : Salvaged) (files : List NamedFile)
    → with_row used (counted_all used g rows) row (with_rows used g rows files) ≡ with_rows used g (rows ++ row ∷ []) files
rows_more used g [] row files = refl
rows_more used g (first ∷ rows) row files = rows_more used (counted used g first) rows row (with_row used g first files)

-- the part at an index, and those from it on
part_at : (parts : List RowPart) (n : ℕ) → n < length parts → (part : RowPart) × (slice_get parts n ≡ Some part) × (drop n parts ≡ part ∷ drop (suc n) parts)
part_at [] n lt = absurd (omega (arith, lt))
part_at (part ∷ parts) zero lt = (part, refl, refl)
part_at (first ∷ parts) (suc n) lt = part_at parts n (omega (arith, lt))

-- the rows up to an index are given out
pub record GivenTo (s : SalvageFields) (n : ℕ) (given : GivenOut) (files files' : Option (List NamedFile)) : Type 0 where
  pub rows : List Salvaged
  pub front : (rest : List Salvaged) → AllZip (IsSalvagedBy (used_at s.table)) (drop n s.rows) rest → AllZip (IsSalvagedBy (used_at s.table)) s.rows (rows ++ rest)
  pub counts : given ≡ counted_all (used_at s.table) (none_given s) rows
  pub becomes : files' ≡ option_map (with_rows (used_at s.table) (none_given s) rows) files

-- none is at first
pub none_yet : (s : SalvageFields) (given : GivenOut) (files : Option (List NamedFile)) → given ≡ none_given s → GivenTo s 0 given files files
none_yet s given files is = record {
  rows = [];
  front = λ rest are. are;
  counts = is;
  becomes = changes_none (with_rows (used_at s.table) (none_given s) []) files (λ f. refl);
}

-- the next one is
pub given_on : (s : SalvageFields) (n m : ℕ) (row : Salvaged) (given given' : GivenOut) (start files files' : Option (List NamedFile)) → n < length s.rows → m ≡ suc n → GivenTo s n given start files
    → ((part : RowPart) → slice_get s.rows n ≡ Some part → IsSalvagedBy (used_at s.table) part row)
    → given' ≡ counted (used_at s.table) given row → files' ≡ option_map (with_row (used_at s.table) given row) files → GivenTo s m given' start files'
given_on s n m row given given' start files files' lt next before salvaged counts becomes =
    let used = used_at s.table in
    let none = none_given s in
    let here = part_at s.rows n lt in
    let onward : drop n s.rows ≡ here.0 ∷ drop m s.rows = here.2 ∙ ap (λ (k : ℕ). here.0 ∷ drop k s.rows) (sym next) in
    let changes : files' ≡ option_map (with_row used (counted_all used none before.rows) row) files = becomes ∙ ap (λ (g : GivenOut). option_map (with_row used g row) files) before.counts in
    record {
      rows = before.rows ++ row ∷ [];
      front = λ rest are.
          subst (AllZip (IsSalvagedBy used) s.rows) (sym (append_assoc before.rows (row ∷ []) rest))
          (before.front (row ∷ rest) (subst (λ (l : List RowPart). AllZip (IsSalvagedBy used) l (row ∷ rest)) (sym onward) (salvaged here.0 here.1, are)));
      counts = counts ∙ ap (λ (g : GivenOut). counted used g row) before.counts ∙ counted_more used none before.rows row;
      becomes = changes_join (with_rows used none before.rows) (with_row used (counted_all used none before.rows) row) (with_rows used none (before.rows ++ row ∷ [])) start files files' before.becomes changes (rows_more used none before.rows row);
    }

-- all are, where there is none after
pub all_given : (s : SalvageFields) (n : ℕ) (given : GivenOut) (files files' : Option (List NamedFile)) → length s.rows ≤ n → GivenTo s n given files files' → GivesRows s given files files'
all_given s n given files files' le before =
    let used = used_at s.table in
    record {
      rows = before.rows;
      are = subst (AllZip (IsSalvagedBy used) s.rows) (append-nil before.rows)
          (before.front [] (subst (λ (l : List RowPart). AllZip (IsSalvagedBy used) l []) (sym (drop_all n s.rows le)) tt));
      counts = before.counts;
      becomes = before.becomes;
    }

-- ---- all of an image

-- the objects that no row refers to after the rows, and these after the lines of lost frames, in a folder that had nothing
pub gives_out : (s : SalvageFields) (given : GivenOut) (first begun told files later : Option (List NamedFile)) → AreFiles first [] → begun ≡ option_map (with_file manifest_name []) first → told ≡ option_map (with_frames s.lost) begun
    → GivesRows s given told files → later ≡ option_map (with_all_unlisted (used_at s.table) s.unlisted) files → GivesOut s given first later
gives_out s given first begun told files later empty begins tells gives unlisted = record {
  empty = empty;
  rows = gives.rows;
  are = gives.are;
  counts = gives.counts;
  has = files_become (with_all_unlisted (used_at s.table) s.unlisted) files later (with_rows (used_at s.table) (none_given s) gives.rows (with_frames s.lost (with_file manifest_name [] [])))
      (files_become (with_rows (used_at s.table) (none_given s) gives.rows) told files (with_frames s.lost (with_file manifest_name [] []))
      (files_become (with_frames s.lost) begun told (with_file manifest_name [] []) (files_become (with_file manifest_name []) first begun [] empty begins) tells) gives.becomes) unlisted;
}

-- ---- the objects that no row refers to

-- what is left to be given out of them gives all
abbrev pub GivesLeft : (Place → Option Stored) → List Unlisted → ℕ → Option (List NamedFile) → Option (List NamedFile) → Type 0
GivesLeft used unlisted n first files = option_map (with_all_unlisted used (drop n unlisted)) files ≡ option_map (with_all_unlisted used unlisted) first

pub unlisted_on : (used : Place → Option Stored) (unlisted : List Unlisted) (n m : ℕ) (u : Unlisted) (first files later : Option (List NamedFile)) → n < length unlisted → u ≡ get_or unlisted n u → m ≡ n + 1 → GivesLeft used unlisted n first files
    → later ≡ option_map (with_unlisted used u) files → GivesLeft used unlisted m first later
unlisted_on used unlisted n m u first files later inside is next before gives =
    let front : drop n unlisted ≡ u ∷ drop m unlisted = drop_more unlisted n u inside ∙ ap (λ (v : Unlisted). v ∷ drop (n + 1) unlisted) (sym is) ∙ ap (λ (k : ℕ). u ∷ drop k unlisted) (sym next) in
    changes_join (with_unlisted used u) (with_all_unlisted used (drop m unlisted)) (with_all_unlisted used (drop n unlisted)) files later (option_map (with_all_unlisted used (drop m unlisted)) later) gives refl
    (λ f. ap (λ (l : List Unlisted). with_all_unlisted used l f) (sym front)) ∙ before

pub unlisted_all : (used : Place → Option Stored) (unlisted : List Unlisted) (n : ℕ) (first files : Option (List NamedFile)) → length unlisted ≤ n → GivesLeft used unlisted n first files → files ≡ option_map (with_all_unlisted used unlisted) first
unlisted_all used unlisted n first files end before =
    changes_none (with_all_unlisted used (drop n unlisted)) files (λ f. sym (ap (λ (l : List Unlisted). with_all_unlisted used l f) (drop_all n unlisted end))) ∙ before

-- ---- the blocks of these that are gone

pub gone_on : (used : Place → Option Stored) (unlisted : List Unlisted) (n : ℕ) (u : Unlisted) (gone more later all : ℕ) → n < length unlisted → u ≡ get_or unlisted n u → with_gone used (drop n unlisted) gone ≡ all
    → more ≡ blocks_gone used u.object u.inode → later ≡ capped (gone + more) → with_gone used (drop (n + 1) unlisted) later ≡ all
gone_on used unlisted n u gone more later all inside is before counted counts =
    let front : drop n unlisted ≡ u ∷ drop (n + 1) unlisted = drop_more unlisted n u inside ∙ ap (λ (v : Unlisted). v ∷ drop (n + 1) unlisted) (sym is) in
    ap (with_gone used (drop (n + 1) unlisted)) (counts ∙ ap (λ (k : ℕ). capped (gone + k)) counted) ∙ ap (λ (l : List Unlisted). with_gone used l gone) (sym front) ∙ before

pub gone_all : (used : Place → Option Stored) (unlisted : List Unlisted) (n gone all : ℕ) → length unlisted ≤ n → with_gone used (drop n unlisted) gone ≡ all → gone ≡ all
gone_all used unlisted n gone all end before = ap (λ (l : List Unlisted). with_gone used l gone) (sym (drop_all n unlisted end)) ∙ before
