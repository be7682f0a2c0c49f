-- Records make one front after the other.
use Rattle.std.proofs.Common.{◌≡◌, ◌∙◌, ℕ, List, [], ◌∷◌, ◌++◌, Bool, true, false, subst, Option, Some, None, is_some, Result, Ok, Err, OnOk, if◌then◌else◌, refl, sym, ap, true≢false, bytes_eq, Decides, length, take, length-append, arith, Vec, Global, get_or, drop, map, zero, suc, ◌<◌}
use Rattle.std.proofs.lemmas.Slice.Eq.{bytes_eq-Decides}
use Rattle.std.proofs.lemmas.List.{take-append-le, take_all}
use Rattle.sha2.specs.Sha256.{sha256}
use Rattle.sha2.proofs.Facts256.{length-sha256}
use Rattle.image_logging.specs.Reading.{digest_of, followed, front_of, made, read_of}

-- the value, or none of its bytes
abbrev value_of : Option (List ℕ) → List ℕ
value_of None = []
value_of (Some bytes) = bytes

pub same_some : (a b : List ℕ) → Some a ≡ Some b → a ≡ b
same_some a b e = ap value_of e

pub none_some : (a : List ℕ) → None ≡ Some a → ⊥
none_some a e = true≢false (sym (ap is_some e))

pub some_none : (a : List ℕ) → Some a ≡ None → ⊥
some_none a e = true≢false (ap is_some e)

-- something that isn't none
pub some_of : (o : Option (List ℕ)) → (o ≡ None → ⊥) → (a : List ℕ) × o ≡ Some a
some_of None h = absurd (h refl)
some_of (Some a) h = (a, refl)

-- one more record
pub followed_more : (payloads : List (List ℕ)) (payload mid last : List ℕ) (front : Option (List ℕ)) → followed payloads front ≡ Some mid → made payload mid ≡ Some last → followed (payloads ++ payload ∷ []) front ≡ Some last
followed_more [] payload mid last None f m = absurd (none_some mid f)
followed_more [] payload mid last (Some front) f m = ap (made payload) (same_some front mid f) ∙ m
followed_more (p ∷ payloads) payload mid last None f m = absurd (none_some mid f)
followed_more (p ∷ payloads) payload mid last (Some front) f m = followed_more payloads payload mid last (made p front) f m

-- before the last record is a front that the others make
pub followed_before : (payloads : List (List ℕ)) (payload last : List ℕ) (front : Option (List ℕ)) → followed (payloads ++ payload ∷ []) front ≡ Some last → (mid : List ℕ) × (followed payloads front ≡ Some mid) × (made payload mid ≡ Some last)
followed_before [] payload last None f = absurd (none_some last f)
followed_before [] payload last (Some front) f = (front, refl, f)
followed_before (p ∷ payloads) payload last None f = absurd (none_some last f)
followed_before (p ∷ payloads) payload last (Some front) f = followed_before payloads payload last (made p front) f

is_false : {P : Type 0} (r : Bool) → Decides r P → (P → ⊥) → r ≡ false
is_false true d refutes = absurd (refutes (d.0 refl))
is_false false d refutes = refl

-- what is read by a log that is the image's, and by another
pub read_by : (image bound : List ℕ) (payloads : List (List ℕ)) → bound ≡ digest_of image → read_of image bound payloads ≡ followed payloads (Some (front_of image))
read_by image bound payloads is = ap (λ (b : Bool). if b then followed payloads (Some (front_of image)) else Some (front_of image)) ((bytes_eq-Decides bound (digest_of image)).1 is)

pub read_alone : (image bound : List ℕ) (payloads : List (List ℕ)) → (bound ≡ digest_of image → ⊥) → read_of image bound payloads ≡ Some (front_of image)
read_alone image bound payloads isnt = ap (λ (b : Bool). if b then followed payloads (Some (front_of image)) else Some (front_of image)) (is_false (bytes_eq bound (digest_of image)) (bytes_eq-Decides bound (digest_of image)) isnt)

pub followed_none : (payloads : List (List ℕ)) → followed payloads None ≡ None
followed_none [] = refl
followed_none (payload ∷ payloads) = refl

-- the records from one on, which makes no front of this one, make none
pub followed_from : (payloads : List (List ℕ)) (payload front : List ℕ) (all : Option (List ℕ)) → followed (payload ∷ payloads) (Some front) ≡ all → made payload front ≡ None → all ≡ None
followed_from payloads payload front all is none = sym is ∙ (ap (followed payloads) none ∙ followed_none payloads)

-- a front and 32 bytes after it are an image of that front
pub front_again : (front digest : List ℕ) → length digest ≡ 32 → front_of (front ++ digest) ≡ front
front_again front digest n =
    ap (λ (k : ℕ). take k (front ++ digest)) (omega (arith, length-append front digest, n))
    ∙ (take-append-le (length front) front digest (omega arith) ∙ take_all (length front) front (omega arith))

pub image_again : (front : List ℕ) → front_of (front ++ sha256 front) ≡ front
image_again front = front_again front (sha256 front) (length-sha256 front)

-- what holds anyway
pub on_ok : {T E P : Type 0} (r : Result T E) → P → OnOk r P
on_ok (Ok value) h = h
on_ok (Err e) h = tt

drop_here : {A : Type 0} (xs : List A) (i : ℕ) (d : A) → i < length xs → drop i xs ≡ get_or xs i d ∷ drop (suc i) xs
drop_here [] i d lt = absurd (omega (arith, lt))
drop_here (x ∷ xs) zero d lt = refl
drop_here (x ∷ xs) (suc i) d lt = drop_here xs i d (omega (arith, lt))

-- the same of the record at an index
pub unmade_from : (payloads : List (Vec ℕ Global)) (i : ℕ) (p d : Vec ℕ Global) (payload front first : List ℕ) (all : Option (List ℕ)) → i < length payloads → p ≡ get_or payloads i d
    → payload ≡ p.items → first ≡ front → followed (map (λ v. v.items) (drop i payloads)) (Some front) ≡ all → made payload first ≡ None → all ≡ None
unmade_from payloads i p d payload front first all lt is same same-front so_far none =
    followed_from (map (λ v. v.items) (drop (suc i) payloads)) (get_or payloads i d).items front all
    (subst (λ (l : List (Vec ℕ Global)). followed (map (λ v. v.items) l) (Some front) ≡ all) (drop_here payloads i d lt) so_far)
    (subst (λ (v : Vec ℕ Global). made v.items front ≡ None) is (subst (λ (l : List ℕ). made l front ≡ None) same (subst (λ (l : List ℕ). made payload l ≡ None) same-front none)))
