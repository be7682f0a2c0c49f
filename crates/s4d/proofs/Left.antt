-- What is left of files, step by step.
use Rattle.std.proofs.Common.{◌≡◌, ◌<◌, ℕ, Bool, true, false, List, Option, Some, None, get_or, inl, inr, length, subst, sym}
use Rattle.std.proofs.lemmas.Bool.{cases_Bool}
use Rattle.std.proofs.lemmas.List.{get_or_default}
use Rattle.std.specs.Io.KnownBytes.{Keeps}
use Rattle.std.proofs.KnownBytes.{Keeps-refl, Keeps-trans}
use Rattle.image_commands.specs.Leaving.{IsBeside, IsKeptOrLeft, IsKeptWhereWhole}

-- of a file that wasn't touched
pub untouched : {IsLeft : Type 0} (known : Option (List ℕ)) → IsKeptOrLeft IsLeft known known
untouched known = inl (Keeps-refl known)

-- one step more, by which it is kept
pub kept_on : {IsLeft : Type 0} (a b c : Option (List ℕ)) → IsKeptOrLeft IsLeft a b → Keeps b c → IsKeptOrLeft IsLeft a c
kept_on a b c (inl kept) on = inl (Keeps-trans a b c kept on)
kept_on a b c (inr left) on = inr left

-- what was left beside an image is removed where it is no image
pub kept_or_left : {Claim : Type 0} (leads : Claim → List ℕ → Type 0) (reserves : Claim → List ℕ → Bool) (claim : Claim) (image path : List ℕ) (a b : Option (List ℕ)) → leads claim image
    → (reserves claim path ≡ false → Keeps a b) → IsKeptWhereWhole a b → IsKeptOrLeft (IsBeside leads reserves image path) a b
kept_or_left leads reserves claim image path a b to elsewhere (inl kept) = inl kept
kept_or_left leads reserves claim image path a b to elsewhere (inr none) =
    elim (cases_Bool (reserves claim path)) [ inl is ↦ inr ((claim, to, is), none) | inr not ↦ inl (elsewhere not) ]

-- of a file of which nothing is known any more, anything may be
pub left_anew : {IsLeft : Type 0} (a b known : Option (List ℕ)) → IsKeptOrLeft IsLeft a b → b ≡ None → IsKeptOrLeft IsLeft a known
left_anew None b known is none = inl tt
left_anew (Some xs) None known (inl kept) none = absurd kept
left_anew (Some xs) (Some ys) known (inl kept) none = absurd cc
left_anew (Some xs) b known (inr left) none = inr left

-- what is beside an image is new, and all else is kept in a further step
pub kept_past : {IsLeft : Type 0} (is_beside : Bool) (a b c : Option (List ℕ)) → IsKeptOrLeft IsLeft a b → (is_beside ≡ true → (known : Option (List ℕ)) → IsKeptOrLeft IsLeft a known)
    → (is_beside ≡ false → Keeps b c) → IsKeptOrLeft IsLeft a c
kept_past is_beside a b c kept anew on = elim (cases_Bool is_beside) [ inl is ↦ anew is c | inr not ↦ kept_on a b c kept (on not) ]

-- what is read of a file that was kept is what was known of it
pub read_of : (before now : List ℕ → Option (List ℕ)) → ((path : List ℕ) → Keeps (before path) (now path)) → (path : List ℕ) (read : Option (List ℕ)) → read ≡ now path → Keeps (before path) read
read_of before now kept path read is = subst (Keeps (before path)) (sym is) (kept path)

-- what one of several elements names is kept, where what another one names is apart from it, and what is apart from that is kept
pub kept_apart : {A : Type 0} (apart : List ℕ → List ℕ → Type 0) (before now : List ℕ → Option (List ℕ)) (path : A → List ℕ) (xs : List A) (i n : ℕ) (d e : A) → n < length xs
    → apart (path (get_or xs i d)) (path (get_or xs n d)) → ((other : List ℕ) → apart other (path (get_or xs n e)) → Keeps (before other) (now other))
    → Keeps (before (path (get_or xs i d))) (now (path (get_or xs i d)))
kept_apart apart before now path xs i n d e lt are_apart kept = kept (path (get_or xs i d)) (subst (λ x. apart (path (get_or xs i d)) (path x)) (get_or_default xs n d e lt) are_apart)

-- what a writer took is in its file, by either of its names
pub finished_by : {W : Type 0} (written : W → Option (List ℕ)) (now : List ℕ → Option (List ℕ)) (path : List ℕ) (one other : W) → one ≡ other → Keeps (written one) (now path) → Keeps (written other) (now path)
finished_by written now path one other is kept = subst (λ w. Keeps (written w) (now path)) is kept
