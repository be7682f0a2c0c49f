-- What a folder in memory may have after a crash, where one file more may be there all the same.
use Rattle.std.proofs.Common.{◌≡◌, ◌⊎◌, ℕ, ◌&&◌, Bool, true, false, List, [], ◌∷◌, ◌++◌, inl, inr, subst}
use Rattle.image_keeping.specs.Memory.{IsAmong, Leaves, LeavesOne}

shifted : (first : List ℕ) (files : List (List ℕ)) (file c : List ℕ) → IsAmong files c ⊎ (c ≡ file) → IsAmong (first ∷ files) c ⊎ (c ≡ file)
shifted first files file c (inl h) = inl (inr h)
shifted first files file c (inr is) = inr is

among_more : (files : List (List ℕ)) (file c : List ℕ) → IsAmong (files ++ file ∷ []) c → IsAmong files c ⊎ (c ≡ file)
among_more [] file c (inl is) = inr is
among_more [] file c (inr h) = absurd h
among_more (first ∷ files) file c (inl is) = inl (inl is)
among_more (first ∷ files) file c (inr h) = shifted first files file c (among_more files file c h)

-- with a file more there are the outcomes before, and what that one leaves
one_more : (last lasts : Bool) (files : List (List ℕ)) (file c : List ℕ) → LeavesOne (last && lasts) (files ++ file ∷ []) c → LeavesOne last files c ⊎ Leaves lasts file c
one_more true true files file c h = among_more files file c h
one_more true false files file c h = inr tt
one_more false lasts files file c h = inl tt

-- the file that had the path's name may be there all the same, and else another file is
pub renamed : (last lasts all_last : Bool) (files files' : List (List ℕ)) (file c : List ℕ) (Other : Type 0) → all_last ≡ (last && lasts) → files' ≡ files ++ file ∷ []
    → LeavesOne all_last files' c ⊎ Other → (LeavesOne last files c ⊎ Leaves lasts file c) ⊎ Other
renamed last lasts all_last files files' file c Other is more (inl h) =
    let tested = subst (λ (b : Bool). LeavesOne b files' c) is h in
    inl (one_more last lasts files file c (subst (λ (fs : List (List ℕ)). LeavesOne (last && lasts) fs c) more tested))
renamed last lasts all_last files files' file c Other is more (inr h) = inr h
