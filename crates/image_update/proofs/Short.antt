-- Only what differs is put.
use Rattle.std.proofs.Common.{◌≡◌, inl, inr, ℕ, zero, suc, ◌+◌, ◌-◌, ◌*◌, ◌/◌, ◌<◌, ◌≤◌, ◌==◌, ◌&&◌, Bool, true, false, cond, List, [], ◌∷◌, ◌++◌, length, take, drop, refl, sym, ap, subst, ◌∙◌, arith, length-append}
use Rattle.std.specs.Str.{bytes_eq}
use Rattle.std.proofs.lemmas.List.{length-drop, length-take}
use Rattle.std.proofs.Math.Nat.{mul-div_cancel_left}
use Rattle.image_update.specs.declared.kinds.Kind.{Kind}
use Rattle.image_update.specs.declared.kinds.Kind.TheVariants.{Head, Word, Block, Row, Span, AuditRow}
use Rattle.image_update.specs.Bounds.{IsPlaced, PutsUnitsApart, PutsWhatDiffers, differing, differing_bytes, units_apart}
use Rattle.image_update.specs.Layout.{facing, key_in, pairs_in, pairs_of, size_of}
use Rattle.image_update.proofs.Loops.{one_pair, pairs_next}
use Rattle.image_update.specs.Pairs.{Built, Pair, after, built, keeping, nothing_built, replacing}

-- whether the last step skips or puts bytes
abbrev is_clean : Built → Bool
is_clean b = b.last.skip == 0 && b.last.put == 0

-- how many steps there would be, if one were begun now
abbrev begun : Built → ℕ
begun b = length b.done + cond (is_clean b) 0 1

-- one pair's worth: how much more is begun, and how much more is put
abbrev Within : Built → Built → ℕ → ℕ → Type 0
Within b c steps bytes = (begun c ≤ begun b + steps) × (length c.put ≡ length b.put + bytes)

most_one : (t : Bool) (n : ℕ) → n + cond t 0 1 ≤ n + 1
most_one true n = omega arith
most_one false n = omega arith

abbrev same_step : ℕ → Built → Built
same_step n b = record { done = b.done; last = record { keep = b.last.keep + n; skip = 0; put = 0 }; put = b.put }

abbrev new_step : ℕ → Built → Built
new_step n b = record { done = b.done ++ b.last ∷ []; last = record { keep = n; skip = 0; put = 0 }; put = b.put }

step_within : (t : Bool) (n : ℕ) (b : Built) → is_clean b ≡ t → Within b (cond t (same_step n b) (new_step n b)) 0 0
step_within true n b is =
    let z : begun b ≡ length b.done + 0 = ap (λ (u : Bool). length b.done + cond u 0 1) is in
    (omega (arith, z), omega arith)
step_within false n b is =
    let z : begun b ≡ length b.done + 1 = ap (λ (u : Bool). length b.done + cond u 0 1) is in
    (omega (arith, z, length-append b.done (b.last ∷ [])), omega arith)

any_within : (t : Bool) (n : ℕ) (b : Built) → Within b (cond t b (cond (is_clean b) (same_step n b) (new_step n b))) 0 0
any_within true n b = (omega arith, omega arith)
any_within false n b = step_within (is_clean b) n b refl

keep_within : (n : ℕ) (b : Built) → Within b (keeping n b) 0 0
keep_within n b = any_within (n == 0) n b

replace_within : (x y : List ℕ) (b : Built) → Within b (replacing x y b) 1 (length y)
replace_within x y b =
    let m = most_one (is_clean (replacing x y b)) (length b.done) in
    (omega arith, length-append b.put y)

after_within : (t : Bool) (p : Pair) (b : Built) → Within b (cond t (keeping (length p.old) b) (replacing p.old p.new b)) (cond t 0 1) (cond t 0 (length p.new))
after_within true p b = keep_within (length p.old) b
after_within false p b = replace_within p.old p.new b

built_within : (pairs : List Pair) (b : Built) → Within b (built pairs b) (differing pairs) (differing_bytes pairs)
built_within [] b = (omega arith, omega arith)
built_within (p ∷ pairs) b =
    let one = after_within (bytes_eq p.old p.new) p b in
    let on = built_within pairs (after p b) in
    (omega (arith, one.0, on.0), omega (arith, one.1, on.1))

pub puts_what_differs : PutsWhatDiffers
puts_what_differs old new =
    let pairs = pairs_of old new in
    let w = built_within pairs nothing_built in
    let b = built pairs nothing_built in
    let put : length b.put ≡ differing_bytes pairs = omega (arith, w.1) in
    let steps : length (b.done ++ b.last ∷ []) ≡ length b.done + 1 = length-append b.done (b.last ∷ []) in
    (put, omega (arith, w.0, put, steps))

-- ---- units at their places

placed : (k : Kind) (old new : List ℕ) → IsPlaced k → facing k old new ≡ (size_of k, size_of k)
unfolding key_in
placed Head old new is = refl
placed Word old new is = refl
placed Block old new is = refl
placed Row old new is = absurd is
placed Span old new is = absurd is
placed AuditRow old new is = absurd is

pairs_placed : (k : Kind) (old new : List ℕ) (m : ℕ) → IsPlaced k → size_of k ≤ length old → size_of k ≤ length new
    → pairs_in k (suc m) old new ≡ record { old = take (size_of k) old; new = take (size_of k) new } ∷ pairs_in k m (drop (size_of k) old) (drop (size_of k) new)
pairs_placed k old new m is a b =
    let next = pairs_next k (suc m) old new (omega arith) a b in
    let e : suc m - 1 ≡ m = omega arith in
    let f = placed k old new is in
    next ∙ rw (f, e) refl

one_empty : (old new : List ℕ) → length old ≡ 0 → length new ≡ 0 → (differing (record { old = old; new = new } ∷ []) ≡ 0) × (differing_bytes (record { old = old; new = new } ∷ []) ≡ 0)
one_empty [] [] a b = (refl, refl)
one_empty [] (x ∷ new) a b = absurd (omega (arith, b))
one_empty (x ∷ old) new a b = absurd (omega (arith, a))

pub some_size : (k : Kind) → 0 < size_of k
some_size Head = omega arith
some_size Word = omega arith
some_size Block = omega arith
some_size Row = omega arith
some_size Span = omega arith
some_size AuditRow = omega arith

-- a unit's worth of bytes
unit_bytes : (t : Bool) (s n u b : ℕ) → n ≡ s → b ≡ s * u → cond t 0 n + b ≡ s * (cond t 0 1 + u)
unit_bytes true s n u b is e = omega arith
unit_bytes false s n u b is e = let m : s * (1 + u) ≡ s + s * u = omega arith in omega arith

abbrev Apart : Kind → ℕ → List ℕ → List ℕ → List Pair → Type 0
Apart k n old new pairs = (differing pairs ≡ units_apart (size_of k) n old new) × (differing_bytes pairs ≡ size_of k * units_apart (size_of k) n old new)

units_by : (k : Kind) (m n : ℕ) (old new : List ℕ) → IsPlaced k → n ≤ m → length old ≡ size_of k * n → length new ≡ size_of k * n → Apart k n old new (pairs_in k m old new)
units_by k m zero old new is le a b =
    let z : size_of k * 0 ≡ 0 = omega arith in
    let some = some_size k in
    let none = one_empty old new (a ∙ z) (b ∙ z) in
    let short : length old < size_of k = omega arith in
    let one : pairs_in k m old new ≡ record { old = old; new = new } ∷ [] = one_pair k m old new (inr (inl short)) in
    subst (Apart k 0 old new) (sym one) (none.0, none.1 ∙ sym z)
units_by k zero (suc n) old new is le a b = absurd (omega (arith, le))
units_by k (suc m) (suc n) old new is le a b =
    let s = size_of k in
    let more : s * suc n ≡ s + s * n = omega arith in
    let next : pairs_in k (suc m) old new ≡ record { old = take s old; new = take s new } ∷ pairs_in k m (drop s old) (drop s new) = pairs_placed k old new m is (omega (arith, a, more)) (omega (arith, b, more)) in
    let on = units_by k m n (drop s old) (drop s new) is (omega (arith, le)) (omega (arith, a, more, length-drop s old)) (omega (arith, b, more, length-drop s new)) in
    let len : length (take s new) ≡ s = omega (arith, length-take s new, b, more) in
    subst (Apart k (suc n) old new) (sym next)
    (ap (λ (d : ℕ). cond (bytes_eq (take s old) (take s new)) 0 1 + d) on.0, unit_bytes (bytes_eq (take s old) (take s new)) s _ _ _ len on.1)

pub puts_units_apart : PutsUnitsApart
puts_units_apart k n old new is a b =
    let some = some_size k in
    let count : length old / size_of k ≡ n = ap (λ (l : ℕ). l / size_of k) a ∙ mul-div_cancel_left n some in
    units_by k (length old / size_of k + length new / size_of k) n old new is (omega arith) a b
