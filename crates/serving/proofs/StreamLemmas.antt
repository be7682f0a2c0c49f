-- Known bytes that are appended in parts.
use Rattle.std.proofs.Common.{◌≡◌, ℕ, ◌+◌, ◌-◌, List, [], length, take, drop, Option, refl, sym, take-append-drop, take_all, take-add, length-drop, subst, arith}
use Rattle.std.specs.Io.KnownBytes.{Appends, Keeps}
use Rattle.std.proofs.KnownBytes.{Appends-nil, Appends-kept, Appends-trans}
use Rattle.serving.specs.Streams.{AppendsPart}

pub AppendsPart-first : (a b : Option (List ℕ)) (n : ℕ) (bs : List ℕ) → Appends a b (take n bs) → AppendsPart a b bs
AppendsPart-first a b n bs h = (take n bs, drop n bs, sym (take-append-drop n bs), h)

pub AppendsPart-none : (a b : Option (List ℕ)) (bs : List ℕ) → Keeps a b → AppendsPart a b bs
AppendsPart-none a b bs h = ([], bs, refl, Appends-kept a a b [] (Appends-nil a) h)

-- the bytes of a slice from a place on
tail_is : (xs : List ℕ) (n : ℕ) → take (length xs - n) (drop n xs) ≡ drop n xs
tail_is xs n = take_all (length xs - n) (drop n xs) (omega (arith, length-drop n xs))

pub kept_part : (a b : Option (List ℕ)) (n : ℕ) (bs : List ℕ) → n ≡ 0 → Keeps a b → Appends a b (take n bs)
kept_part a b n bs none h = subst (λ (k : ℕ). Appends a b (take k bs)) (sym none) (Appends-kept a a b [] (Appends-nil a) h)

-- a writer took the first of the bytes, and then more of them
pub took_more : (a b c : Option (List ℕ)) (bs : List ℕ) (n m : ℕ) → Appends a b (take n bs) → Appends b c (take m (take (length bs - n) (drop n bs))) → Appends a c (take (n + m) bs)
took_more a b c bs n m h k =
    subst (Appends a c) (sym (take-add n m bs))
    (Appends-trans a b c _ _ h (subst (λ (x : List ℕ). Appends b c (take m x)) (tail_is bs n) k))
