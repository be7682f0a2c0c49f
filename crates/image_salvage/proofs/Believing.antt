-- Rows that aren't outdated, one by one.
use Rattle.std.proofs.Common.{inl, inr, ℕ, ◌++◌, List, [], ◌∷◌, Option, refl, ap, ◌∙◌}
use Rattle.s4_types.specs.Pointer.{Place}
use Rattle.block_log.specs.Log.{Stored}
use Rattle.image_parts.specs.declared.rows.RowPart.{RowPart}
use Rattle.image_salvage.specs.declared.newest.Note.{Note}
use Rattle.image_salvage.specs.Outdated.{AreBelieved}
use Rattle.image_salvage.specs.private.Passing.{Believes}

-- one row more
pub believed_more : (used : Place → Option Stored) (heads : ℕ → Option Note) (rows : List RowPart) (part : RowPart) (believed later : List RowPart) → AreBelieved used heads rows believed → Believes used heads part believed later → AreBelieved used heads (rows ++ part ∷ []) later
believed_more used heads [] part believed later are (inl out) = inl (out.0, out.1 ∙ are)
believed_more used heads [] part believed later are (inr kept) = inr (kept.0, ([], kept.1 ∙ ap (λ (l : List RowPart). l ++ part ∷ []) are, refl))
believed_more used heads (row ∷ rows) part believed later (inl gone) step = inl (gone.0, believed_more used heads rows part believed later gone.1 step)
believed_more used heads (row ∷ rows) part believed later (inr there) (inl out) =
    let rest : List RowPart = there.1.0 in
    inr (there.0, (rest, out.1 ∙ there.1.1, believed_more used heads rows part rest rest there.1.2 (inl (out.0, refl))))
believed_more used heads (row ∷ rows) part believed later (inr there) (inr kept) =
    let rest : List RowPart = there.1.0 in
    inr (there.0, (rest ++ part ∷ [], kept.1 ∙ ap (λ (l : List RowPart). l ++ part ∷ []) there.1.1, believed_more used heads rows part rest (rest ++ part ∷ []) there.1.2 (inr (kept.0, refl))))
