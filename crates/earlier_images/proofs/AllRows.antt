-- The rows of an image that were read, one after another.
use Rattle.std.proofs.Common.{◌≡◌, ℕ, List, [], ◌∷◌, ◌++◌, Bool, true, false, MatchBool, Option, None, Some, IfSome, sym, ap, ◌∙◌, subst}
use Rattle.std.specs.List.{AllByRecursion, Contains}
use Rattle.std.proofs.lemmas.List.{append-nil}
use Rattle.std.proofs.lemmas.List.Elements.{All-contains, All-from_recursion, recursion_from_All, All-push}
use Rattle.std.proofs.lemmas.Grind.{flat_map-append}
use Rattle.s4_types.specs.Pointer.{Place}
use Rattle.block_log.specs.Log.{Stored}
use Rattle.codec.specs.declared.versions.ImageVersion.{ImageVersion}
use Rattle.image_parts.specs.declared.rows.RowPart.{RowPart}
use Rattle.image_objects.specs.declared.rows.ImageRow.{ImageRow}
use Rattle.image_objects.specs.Moments.{moments_of_chain, StandOnce}
use Rattle.image_objects.specs.Versions.{entries_used_by, moments_used_by, ObjectStandsBy, RowsShareNoMomentBy, RowsStandBy}
use Rattle.verifier.specs.Rows.{SpellsRow, SpellRows}
use Rattle.verifier.proofs.SpelledRows.{no_rows}
use Rattle.earlier_images.specs.declared.rows.ReadRows.{ReadRows}
use Rattle.earlier_images.specs.private.OneRow.{IsRowRead, PartStands}

-- of images of this version
module _ (v : ImageVersion) where
  -- ---- one row more

  -- what a part more encodes comes after what the parts before it do
  abbrev pub Next : Type 0
  Next = (parts : List RowPart) (rows : List ImageRow) (part : RowPart) (row : ImageRow) → SpellRows parts rows → SpellsRow part row → SpellRows (parts ++ part ∷ []) (rows ++ row ∷ [])

  -- where the parts encode nothing else, and that one neither, the parts together don't
  abbrev pub Only : Type 0
  Only = (parts : List RowPart) (part : RowPart) (rows : List ImageRow) (row : ImageRow) → ((others : List ImageRow) → SpellRows parts others → others ≡ rows) → ((other : ImageRow) → SpellsRow part other → other ≡ row)
      → (others : List ImageRow) → SpellRows (parts ++ part ∷ []) others → others ≡ rows ++ row ∷ []

  -- a part among others encodes one of the rows
  abbrev pub Listed : Type 0
  Listed = (done : List RowPart) (part : RowPart) (rest : List RowPart) (rows : List ImageRow) → SpellRows (done ++ part ∷ rest) rows → (row : ImageRow) × SpellsRow part row × Contains rows row

  objects_more : (used : Place → Option Stored) (clock : ℕ) (rows : List ImageRow) (row : ImageRow) → AllByRecursion (λ r. ObjectStandsBy v used r clock) rows → ObjectStandsBy v used row clock
      → AllByRecursion (λ r. ObjectStandsBy v used r clock) (rows ++ row ∷ [])
  objects_more used clock rows row front last =
      let P : ImageRow → Type 0 = λ r. ObjectStandsBy v used r clock in
      recursion_from_All P (rows ++ row ∷ []) (All-push P rows row (All-from_recursion P rows front) last)

  moments_more : (used : Place → Option Stored) (rows : List ImageRow) (row : ImageRow) → moments_used_by v used (rows ++ row ∷ []) ≡ moments_used_by v used rows ++ moments_of_chain (entries_used_by v used row)
  moments_more used rows row =
      let f : ImageRow → List ℕ = λ r. moments_of_chain (entries_used_by v used r) in
      flat_map-append f rows (row ∷ []) ∙ ap (λ (l : List ℕ). moments_used_by v used rows ++ l) (append-nil (f row))

  -- ---- what was read

  -- These rows are what the parts encode, and nothing else is; their objects keep the rules, and these are the moments of their chains.
  pub record AreRowsOf (used : Place → Option Stored) (clock : ℕ) (done : List RowPart) (rows : List ImageRow) (moments : List ℕ) : Type 0 where
    pub spelled : SpellRows done rows
    pub only : (others : List ImageRow) → SpellRows done others → others ≡ rows
    pub stand : AllByRecursion (λ row. ObjectStandsBy v used row clock) rows
    pub moments_are : moments ≡ moments_used_by v used rows

  -- the rows of these parts were read
  abbrev pub HaveRead : (Place → Option Stored) → ℕ → List RowPart → ReadRows → Type 0
  HaveRead used clock done now = AreRowsOf used clock done now.rows.items now.moments.items

  pub none_read : (used : Place → Option Stored) (clock : ℕ) (now : ReadRows) → now.rows.items ≡ [] → now.moments.items ≡ [] → HaveRead used clock [] now
  none_read used clock now rows moments =
      let R : List ImageRow → Type 0 = λ l. AreRowsOf used clock [] l now.moments.items in
      subst R (sym rows) (record { spelled = tt; only = no_rows; stand = tt; moments_are = moments })

  pub one_read : Next → Only → (used : Place → Option Stored) (clock : ℕ) (done : List RowPart) (part : RowPart) (old new : ReadRows) → HaveRead used clock done old → IsRowRead v used part clock old new → HaveRead used clock (done ++ part ∷ []) new
  one_read next only used clock done part old new h r =
      let R : List ImageRow → Type 0 = λ l. AreRowsOf used clock (done ++ part ∷ []) l new.moments.items in
      subst R (sym r.rows) (record {
        spelled = next done old.rows.items part r.row h.spelled r.spelled;
        only = only done part old.rows.items r.row h.only r.only;
        stand = objects_more used clock old.rows.items r.row h.stand r.stands;
        moments_are = r.moments ∙ ap (λ (l : List ℕ). l ++ moments_of_chain (entries_used_by v used r.row)) h.moments_are ∙ sym (moments_more used old.rows.items r.row);
      })

  -- ---- what that says of an image

  -- a row that keeps no rules
  pub one_falls : Listed → (used : Place → Option Stored) (clock : ℕ) (done : List RowPart) (part : RowPart) (rest all : List RowPart) → (PartStands v used part clock → ⊥) → all ≡ done ++ part ∷ rest
      → (rows : List ImageRow) → SpellRows all rows → RowsStandBy v used rows clock → ⊥
  one_falls listed used clock done part rest all falls whole rows spelled stand =
      let (row, spells, there) = listed done part rest rows (subst (λ (l : List RowPart). SpellRows l rows) whole spelled) in
      let P : ImageRow → Type 0 = λ r. ObjectStandsBy v used r clock in
      falls (record { row = row; spelled = spells; stands = All-contains P rows row (All-from_recursion P rows stand.objects) there })

  -- all rows, where no two chains share a moment
  pub all_stand : (used : Place → Option Stored) (clock : ℕ) (all : List RowPart) (now : ReadRows) (rows : List ImageRow) → HaveRead used clock all now
      → ((rows : List ImageRow) → StandOnce (moments_used_by v used rows) → RowsShareNoMomentBy v used rows) → rows ≡ now.rows.items → StandOnce now.moments.items → RowsStandBy v used rows clock
  all_stand used clock all now rows h apart is once =
      let R : List ImageRow → Type 0 = λ l. RowsStandBy v used l clock in
      subst R (sym is) (record { objects = h.stand; apart = apart now.rows.items (subst StandOnce h.moments_are once) })

  -- all rows, where two chains share one
  pub moments_fall : (used : Place → Option Stored) (clock : ℕ) (all : List RowPart) (now : ReadRows) → HaveRead used clock all now
      → ((rows : List ImageRow) (at : ℕ) → RowsStandBy v used rows at → StandOnce (moments_used_by v used rows)) → (StandOnce now.moments.items → ⊥)
      → (rows : List ImageRow) → SpellRows all rows → RowsStandBy v used rows clock → ⊥
  moments_fall used clock all now h standing falls rows spelled stand =
      falls (subst StandOnce (ap (moments_used_by v used) (h.only rows spelled) ∙ sym h.moments_are) (standing rows clock stand))

  -- ---- the loop over the rows

  pub row_read : (b : Bool) (used : Place → Option Stored) (part : RowPart) (clock : ℕ) (old new : ReadRows) → b ≡ true
      → MatchBool b (IsRowRead v used part clock old new) (PartStands v used part clock → ⊥) → IsRowRead v used part clock old new
  row_read b used part clock old new is h = subst (λ x. MatchBool x (IsRowRead v used part clock old new) (PartStands v used part clock → ⊥)) is h

  pub row_falls : (b : Bool) (used : Place → Option Stored) (part : RowPart) (clock : ℕ) (old new : ReadRows) → b ≡ false
      → MatchBool b (IsRowRead v used part clock old new) (PartStands v used part clock → ⊥) → PartStands v used part clock → ⊥
  row_falls b used part clock old new is h = subst (λ x. MatchBool x (IsRowRead v used part clock old new) (PartStands v used part clock → ⊥)) is h

  pub have_all : (used : Place → Option Stored) (clock : ℕ) (all done left : List RowPart) (now : ReadRows) → HaveRead used clock done now → all ≡ done ++ left → left ≡ [] → HaveRead used clock all now
  have_all used clock all done left now h whole is =
      subst (λ (l : List RowPart). HaveRead used clock l now) (sym (whole ∙ ap (λ (l : List RowPart). done ++ l) is ∙ append-nil done)) h

  -- ---- the end of the loop

  pub both_some : {A : Type 0} (o : Option A) (P Q R : A → Type 0) → ((x : A) → P x → Q x → R x) → IfSome o P → IfSome o Q → IfSome o R
  both_some None P Q R f p q = tt
  both_some (Some x) P Q R f p q = f x p q
