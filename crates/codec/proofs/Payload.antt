-- Payload blocks one after the other, as loops go over them.
use Rattle.std.proofs.Common.{◌≡◌, ℕ, zero, suc, ◌+◌, ◌<◌, List, [], ◌∷◌, ◌++◌, length, get_or, take, sym, ap, ◌∙◌, append_assoc, append-nil, arith}
use Rattle.std.proofs.lemmas.List.{take_more}
use Rattle.std.proofs.lemmas.List.Folds.{concat-append}
use Rattle.std.specs.List.{concat, AllByRecursion}

-- a block more after a head
pub joined_more : (head : List ℕ) (blocks : List (List ℕ)) (i : ℕ) → i < length blocks → (head ++ concat (take i blocks)) ++ get_or blocks i [] ≡ head ++ concat (take (i + 1) blocks)
joined_more head blocks i lt =
    let block = get_or blocks i [] in
    let more : concat (take (i + 1) blocks) ≡ concat (take i blocks) ++ block =
    ap (λ (xs : List (List ℕ)). concat xs) (take_more blocks i [] lt) ∙ concat-append (take i blocks) (block ∷ []) ∙ ap (λ (xs : List ℕ). concat (take i blocks) ++ xs) (append-nil block) in
    append_assoc head (concat (take i blocks)) block ∙ ap (λ (xs : List ℕ). head ++ xs) (sym more)

-- what holds of all holds of each
pub each_of : {X : Type 0} (P : X → Type 0) (xs : List X) (i : ℕ) (d : X) → i < length xs → AllByRecursion P xs → P (get_or xs i d)
each_of P [] i d lt h = absurd (omega (arith, lt))
each_of P (x ∷ xs) zero d lt h = h.0
each_of P (x ∷ xs) (suc i) d lt h = each_of P xs i d (omega (arith, lt)) h.1
