-- The rows that parts encode, one after the other.
use Rattle.std.proofs.Common.{◌≡◌, List, [], ◌∷◌, ◌++◌, refl, sym, ap, ◌∙◌, subst, append_assoc}
use Rattle.std.specs.List.{Contains}
use Rattle.std.proofs.lemmas.List.Elements.{Contains-append_left, Contains-push}
use Rattle.image_parts.specs.declared.rows.RowPart.{RowPart}
use Rattle.image_objects.specs.declared.rows.ImageRow.{ImageRow}
use Rattle.verifier.specs.Rows.{SpellsRow, SpellRows}

pub rows_push : (parts : List RowPart) (rows : List ImageRow) (part : RowPart) (row : ImageRow) → SpellRows parts rows → SpellsRow part row → SpellRows (parts ++ part ∷ []) (rows ++ row ∷ [])
rows_push [] [] part row front last = (last, tt)
rows_push [] (r ∷ rows) part row front last = absurd front
rows_push (x ∷ parts) [] part row front last = absurd front
rows_push (x ∷ parts) (r ∷ rows) part row front last = (front.0, rows_push parts rows part row front.1 last)

-- ---- rows that parts encode, one of which is looked at

record SpelledAt (done : List RowPart) (part : RowPart) (rest : List RowPart) (rows : List ImageRow) : Type 0 where
  front : List ImageRow
  row : ImageRow
  behind : List ImageRow
  before : SpellRows done front
  here : SpellsRow part row
  after : SpellRows rest behind
  is : rows ≡ front ++ row ∷ behind

spelled_at : (done : List RowPart) (part : RowPart) (rest : List RowPart) (rows : List ImageRow) → SpellRows (done ++ part ∷ rest) rows → SpelledAt done part rest rows
spelled_at [] part rest [] spelled = absurd spelled
spelled_at [] part rest (r ∷ rows) spelled = record { front = []; row = r; behind = rows; before = tt; here = spelled.0; after = spelled.1; is = refl }
spelled_at (x ∷ done) part rest [] spelled = absurd spelled
spelled_at (x ∷ done) part rest (r ∷ rows) spelled =
    let s : SpelledAt done part rest rows = spelled_at done part rest rows spelled.1 in
    record { front = r ∷ s.front; row = s.row; behind = s.behind; before = (spelled.0, s.before); here = s.here; after = s.after; is = ap (λ (l : List ImageRow). r ∷ l) s.is }

pub no_rows : (rows : List ImageRow) → SpellRows [] rows → rows ≡ []
no_rows [] spelled = refl
no_rows (r ∷ rows) spelled = absurd spelled

pub only_more : (done : List RowPart) (part : RowPart) (rows : List ImageRow) (row : ImageRow) → ((others : List ImageRow) → SpellRows done others → others ≡ rows) → ((other : ImageRow) → SpellsRow part other → other ≡ row)
    → (others : List ImageRow) → SpellRows (done ++ part ∷ []) others → others ≡ rows ++ row ∷ []
only_more done part rows row front last others spelled =
    let s : SpelledAt done part [] others = spelled_at done part [] others spelled in
    s.is ∙ ap (λ (l : List ImageRow). s.front ++ s.row ∷ l) (no_rows s.behind s.after)
    ∙ ap (λ (l : List ImageRow). l ++ s.row ∷ []) (front s.front s.before) ∙ ap (λ (r : ImageRow). rows ++ r ∷ []) (last s.row s.here)

-- a part among others encodes one of the rows
abbrev pub IsListed : RowPart → List ImageRow → Type 0
IsListed part rows = (row : ImageRow) × SpellsRow part row × Contains rows row

pub listed : (done : List RowPart) (part : RowPart) (rest : List RowPart) (rows : List ImageRow) → SpellRows (done ++ part ∷ rest) rows → IsListed part rows
listed done part rest rows spelled =
    let s : SpelledAt done part rest rows = spelled_at done part rest rows spelled in (
      s.row,
      s.here,
      subst (λ (l : List ImageRow). Contains l s.row) (sym s.is)
          (subst (λ (l : List ImageRow). Contains l s.row) (append_assoc s.front (s.row ∷ []) s.behind) (Contains-append_left (s.front ++ s.row ∷ []) s.behind s.row (Contains-push s.front s.row))),
    )
