-- An object's pointers into a frame, block by block.
use Rattle.std.proofs.Common.{◌≡◌, ℕ, zero, suc, ◌+◌, Bool, true, false, cond, List, [], ◌∷◌, ◌++◌, filter, refl, sym, ap, add-one, ◌∙◌, arith}
use Rattle.std.proofs.lemmas.List.{append-nil}
use Rattle.std.proofs.lemmas.List.Elements.{filter-append}
use Rattle.s4_types.specs.Pointer.{Place}
use Rattle.segment_table.specs.Room.{places}

places_last : (f g b n : ℕ) → places f g b (suc n) ≡ places f g b n ++ (record { frame = f; block = b + n; generation = g }) ∷ []
unfolding places
places_last f g b zero = ap (λ (m : ℕ). (record { frame = f; block = m; generation = g }) ∷ []) (omega arith)
places_last f g b (suc n) = ap (λ (l : List Place). (record { frame = f; block = b; generation = g }) ∷ l)
    (places_last f g (b + 1) n ∙ ap (λ (m : ℕ). places f g (b + 1) n ++ (record { frame = f; block = m; generation = g }) ∷ []) (omega arith))

-- no block was looked at
pub none_seen : (test : Place → Bool) (f g : ℕ) → filter test (places f g 1 0) ≡ []
unfolding places
none_seen test f g = refl

seen : (test : Place → Bool) (f g n : ℕ) → filter test (places f g 1 (n + 1)) ≡ filter test (places f g 1 n) ++ cond (test (record { frame = f; block = n + 1; generation = g })) ((record { frame = f; block = n + 1; generation = g }) ∷ []) []
seen test f g n = ap (filter test) (ap (places f g 1) (add-one n) ∙ places_last f g 1 n ∙ ap (λ (m : ℕ). places f g 1 n ++ (record { frame = f; block = m; generation = g }) ∷ []) (omega arith))
    ∙ filter-append test (places f g 1 n) ((record { frame = f; block = n + 1; generation = g }) ∷ [])

-- the next block passes the test
pub one_more : (test : Place → Bool) (f g n : ℕ) (found : List Place) → found ≡ filter test (places f g 1 n) → test (record { frame = f; block = n + 1; generation = g }) ≡ true
    → found ++ (record { frame = f; block = n + 1; generation = g }) ∷ [] ≡ filter test (places f g 1 (n + 1))
one_more test f g n found so passes =
    ap (λ (l : List Place). l ++ (record { frame = f; block = n + 1; generation = g }) ∷ []) so
    ∙ sym (seen test f g n ∙ ap (λ (x : Bool). filter test (places f g 1 n) ++ cond x ((record { frame = f; block = n + 1; generation = g }) ∷ []) []) passes)

-- the next block doesn't
pub no_more : (test : Place → Bool) (f g n : ℕ) (found : List Place) → found ≡ filter test (places f g 1 n) → test (record { frame = f; block = n + 1; generation = g }) ≡ false
    → found ≡ filter test (places f g 1 (n + 1))
no_more test f g n found so fails =
    so ∙ sym (append-nil (filter test (places f g 1 n)))
    ∙ sym (seen test f g n ∙ ap (λ (x : Bool). filter test (places f g 1 n) ++ cond x ((record { frame = f; block = n + 1; generation = g }) ∷ []) []) fails)
