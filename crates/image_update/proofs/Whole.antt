-- The steps that pairs give make the new parts of the old ones.
use Rattle.std.proofs.Common.{◌≡◌, ℕ, ◌+◌, ◌-◌, ◌≤◌, nat_le, ◌==◌, ◌&&◌, Bool, true, false, cond, List, [], ◌∷◌, ◌++◌, length, take, drop, Option, Some, None, refl, sym, ap, subst, ◌∙◌, arith, append_assoc, length-append}
use Rattle.std.specs.Option.{option_map}
use Rattle.std.specs.Str.{bytes_eq}
use Rattle.std.proofs.lemmas.Bool.{and_parts, and_from, leb-true, le-leb, eqb-true}
use Rattle.std.proofs.lemmas.List.{append-nil, take_all, drop_all, length-drop, take-append-le, drop-append-le, nil_from_length}
use Rattle.std.proofs.lemmas.Slice.Eq.{bytes_eq-Decides}
use Rattle.image_update.specs.declared.steps.Step.{Step}
use Rattle.image_update.specs.Changes.{applied, fits, patched}
use Rattle.image_update.specs.Pairs.{Built, Pair, after, built, changes_by, keeping, news, no_step, nothing_built, olds, replacing}

-- ---- one step

chosen : (b : Bool) (x : Option (List ℕ)) (f : List ℕ → List ℕ) (n : List ℕ) → cond b (option_map f x) None ≡ Some n → (b ≡ true) × (r : List ℕ) × (x ≡ Some r) × (n ≡ f r)
chosen true (Some r) f n e = (refl, r, refl, cc)
chosen true None f n e = absurd (cc)
chosen false x f n e = absurd (cc)

chosen_back : (b : Bool) (x : Option (List ℕ)) (f : List ℕ → List ℕ) (r : List ℕ) → b ≡ true → x ≡ Some r → cond b (option_map f x) None ≡ Some (f r)
chosen_back b x f r is e = rw (is, e) refl

fits_parts : (s : Step) (o p : List ℕ) → fits s o p ≡ true → (s.keep ≤ length o) × (s.skip ≤ length (drop s.keep o)) × (s.put ≤ length p)
fits_parts s o p e =
    let a = and_parts (nat_le s.keep (length o)) (nat_le s.skip (length (drop s.keep o)) && nat_le s.put (length p)) e in
    let b = and_parts (nat_le s.skip (length (drop s.keep o))) (nat_le s.put (length p)) a.1 in
    (leb-true _ _ a.0, leb-true _ _ b.0, leb-true _ _ b.1)

pub fits_from : (s : Step) (o p : List ℕ) → s.keep ≤ length o → s.skip ≤ length (drop s.keep o) → s.put ≤ length p → fits s o p ≡ true
fits_from s o p a b c = and_from _ _ (le-leb _ _ a) (and_from _ _ (le-leb _ _ b) (le-leb _ _ c))

stepped : (s : Step) (ss : List Step) (o p n : List ℕ) → applied (s ∷ ss) o p ≡ Some n
    → (fits s o p ≡ true) × (r : List ℕ) × (applied ss (drop s.skip (drop s.keep o)) (drop s.put p) ≡ Some r) × (n ≡ take s.keep o ++ (take s.put p ++ r))
stepped s ss o p n e =
    chosen (fits s o p) (applied ss (drop s.skip (drop s.keep o)) (drop s.put p)) (λ (r : List ℕ). take s.keep o ++ (take s.put p ++ r)) n e

made : (s : Step) (ss : List Step) (o p r : List ℕ) → fits s o p ≡ true → applied ss (drop s.skip (drop s.keep o)) (drop s.put p) ≡ Some r → applied (s ∷ ss) o p ≡ Some (take s.keep o ++ (take s.put p ++ r))
made s ss o p r f e =
    chosen_back (fits s o p) (applied ss (drop s.skip (drop s.keep o)) (drop s.put p)) (λ (r : List ℕ). take s.keep o ++ (take s.put p ++ r)) r f e

-- no step leaves nothing
none_left : (o p n : List ℕ) → applied [] o p ≡ Some n → (o ≡ []) × (p ≡ []) × (n ≡ [])
none_left [] [] n e = (refl, refl, cc)
none_left [] (b ∷ p) n e = absurd (cc)
none_left (b ∷ o) p n e = absurd (cc)

-- a last step goes over all that is there
last : (l : Step) (o p n : List ℕ) → applied (l ∷ []) o p ≡ Some n → (length o ≡ l.keep + l.skip) × (length p ≡ l.put) × (n ≡ take l.keep o ++ p)
last l o p n e =
    let k = stepped l [] o p n e in
    let f = fits_parts l o p k.0 in
    let z = none_left (drop l.skip (drop l.keep o)) (drop l.put p) k.1 k.2 in
    let a : length (drop l.skip (drop l.keep o)) ≡ 0 = ap length z.0 in
    let b : length (drop l.put p) ≡ 0 = ap length z.1 in
    let d : length (drop l.skip (drop l.keep o)) ≡ length o - l.keep - l.skip = length-drop l.skip (drop l.keep o) ∙ ap (λ m. m - l.skip) (length-drop l.keep o) in
    let g : length (drop l.put p) ≡ length p - l.put = length-drop l.put p in
    let s : l.skip ≤ length o - l.keep = subst (λ m. l.skip ≤ m) (length-drop l.keep o) f.1 in
    let lp : length p ≡ l.put = omega arith in
    (omega arith, lp, k.3 ∙ rw (z.2, append-nil, take_all l.put p (omega arith)) refl)

last_back : (l : Step) (o p : List ℕ) → length o ≡ l.keep + l.skip → length p ≡ l.put → applied (l ∷ []) o p ≡ Some (take l.keep o ++ p)
last_back l o p a b =
    let len : length (drop l.keep o) ≡ length o - l.keep = length-drop l.keep o in
    let f : fits l o p ≡ true = fits_from l o p (omega arith) (omega arith) (omega arith) in
    let e : drop l.skip (drop l.keep o) ≡ [] = drop_all l.skip (drop l.keep o) (omega arith) in
    let g : drop l.put p ≡ [] = drop_all l.put p (omega arith) in
    let rest : applied [] (drop l.skip (drop l.keep o)) (drop l.put p) ≡ Some [] = rw (e, g) refl in
    made l [] o p [] f rest ∙ ap (λ (q : List ℕ). Some (take l.keep o ++ q)) (append-nil (take l.put p) ∙ take_all l.put p (omega arith))

-- ---- more at the end

carried : (done tail more : List Step) (x y z : List ℕ) → ((o p n : List ℕ) → applied tail o p ≡ Some n → applied more (o ++ x) (p ++ y) ≡ Some (n ++ z))
    → (o p n : List ℕ) → applied (done ++ tail) o p ≡ Some n → applied (done ++ more) (o ++ x) (p ++ y) ≡ Some (n ++ z)
carried [] tail more x y z base o p n e = base o p n e
carried (s ∷ ss) tail more x y z base o p n e =
    let k = stepped s (ss ++ tail) o p n e in
    let f = fits_parts s o p k.0 in
    let dk : drop s.keep (o ++ x) ≡ drop s.keep o ++ x = drop-append-le s.keep o x f.0 in
    let da : drop s.skip (drop s.keep (o ++ x)) ≡ drop s.skip (drop s.keep o) ++ x = ap (drop s.skip) dk ∙ drop-append-le s.skip (drop s.keep o) x f.1 in
    let db : drop s.put (p ++ y) ≡ drop s.put p ++ y = drop-append-le s.put p y f.2 in
    let ta : take s.keep (o ++ x) ≡ take s.keep o = take-append-le s.keep o x f.0 in
    let tb : take s.put (p ++ y) ≡ take s.put p = take-append-le s.put p y f.2 in
    let on : applied (ss ++ more) (drop s.skip (drop s.keep o) ++ x) (drop s.put p ++ y) ≡ Some (k.1 ++ z) = carried ss tail more x y z base _ _ _ k.2 in
    let on_too : applied (ss ++ more) (drop s.skip (drop s.keep (o ++ x))) (drop s.put (p ++ y)) ≡ Some (k.1 ++ z) = rw (da, db) on in
    let len : length (drop s.keep (o ++ x)) ≡ length (drop s.keep o) + length x = ap length dk ∙ length-append (drop s.keep o) x in
    let fit : fits s (o ++ x) (p ++ y) ≡ true = fits_from s (o ++ x) (p ++ y) (omega (arith, f.0, length-append o x)) (omega (arith, f.1, len)) (omega (arith, f.2, length-append p y)) in
    let whole : take s.keep o ++ (take s.put p ++ (k.1 ++ z)) ≡ n ++ z = sym (ap (λ (q : List ℕ). q ++ z) k.3 ∙ append_assoc (take s.keep o) (take s.put p ++ k.1) z ∙ ap (λ (q : List ℕ). take s.keep o ++ q) (append_assoc (take s.put p) k.1 z)) in
    made s (ss ++ more) (o ++ x) (p ++ y) (k.1 ++ z) fit on_too
    ∙ ap (λ (q : List ℕ). Some q) (rw (ta, tb) whole)

kept_more : (l : Step) (x : List ℕ) → l.skip ≡ 0 → l.put ≡ 0 → (o p n : List ℕ) → applied (l ∷ []) o p ≡ Some n
    → applied (record { keep = l.keep + length x; skip = 0; put = 0 } ∷ []) (o ++ x) (p ++ []) ≡ Some (n ++ x)
kept_more l x skip put o p n e =
    let k = last l o p n e in
    let none : p ≡ [] = nil_from_length p (omega (arith, k.1)) in
    let m : Step = record { keep = l.keep + length x; skip = 0; put = 0 } in
    let lo : length o ≡ l.keep = omega (arith, k.0) in
    let len : length (o ++ x) ≡ l.keep + length x = omega (arith, length-append o x) in
    let old : n ≡ o = k.2 ∙ rw (none, append-nil) (take_all l.keep o (omega arith)) in
    last_back m (o ++ x) (p ++ []) (omega arith) (rw none refl)
    ∙ ap (λ (q : List ℕ). Some q) (rw (none, append-nil, old) (take_all (l.keep + length x) (o ++ x) (omega arith)))

kept_new : (x o p n : List ℕ) → applied [] o p ≡ Some n → applied (record { keep = length x; skip = 0; put = 0 } ∷ []) (o ++ x) (p ++ []) ≡ Some (n ++ x)
kept_new x o p n e =
    let k = none_left o p n e in
    let m : Step = record { keep = length x; skip = 0; put = 0 } in
    rw (k.0, k.1, k.2) (last_back m x [] (omega arith) refl ∙ ap (λ (q : List ℕ). Some q) (append-nil (take (length x) x) ∙ take_all (length x) x (omega arith)))

replaced : (l : Step) (x y o p n : List ℕ) → applied (l ∷ []) o p ≡ Some n
    → applied (record { keep = l.keep; skip = l.skip + length x; put = l.put + length y } ∷ []) (o ++ x) (p ++ y) ≡ Some (n ++ y)
replaced l x y o p n e =
    let k = last l o p n e in
    let m : Step = record { keep = l.keep; skip = l.skip + length x; put = l.put + length y } in
    last_back m (o ++ x) (p ++ y) (omega (arith, k.0, length-append o x)) (omega (arith, k.1, length-append p y))
    ∙ ap (λ (q : List ℕ). Some q) (ap (λ (q : List ℕ). q ++ (p ++ y)) (take-append-le l.keep o x (omega (arith, k.0))) ∙ sym (append_assoc (take l.keep o) p y) ∙ ap (λ (q : List ℕ). q ++ y) (sym k.2))

-- ---- what is built

abbrev Gives : Built → List ℕ → List ℕ → Type 0
Gives b o n = applied (b.done ++ b.last ∷ []) o b.put ≡ Some n

-- nothing is put
same_put : (steps : List Step) (o p : List ℕ) (n : Option (List ℕ)) → applied steps o (p ++ []) ≡ n → applied steps o p ≡ n
same_put steps o p n e = subst (λ (q : List ℕ). applied steps o q ≡ n) (append-nil p) e

keeping_by : (t : Bool) (x : List ℕ) (b : Built) (o n : List ℕ) → (b.last.skip == 0 && b.last.put == 0) ≡ t → Gives b o n
    → Gives (cond t (record { done = b.done; last = record { keep = b.last.keep + length x; skip = 0; put = 0 }; put = b.put }) (record { done = b.done ++ b.last ∷ []; last = record { keep = length x; skip = 0; put = 0 }; put = b.put })) (o ++ x) (n ++ x)
keeping_by true x b o n is g =
    let parts = and_parts (b.last.skip == 0) (b.last.put == 0) is in
    same_put _ (o ++ x) b.put _ (carried b.done (b.last ∷ []) _ x [] x (kept_more b.last x (eqb-true _ _ parts.0) (eqb-true _ _ parts.1)) o b.put n g)
keeping_by false x b o n is g =
    let all : applied ((b.done ++ b.last ∷ []) ++ []) o b.put ≡ Some n = rw append-nil g in
    same_put _ (o ++ x) b.put _ (carried (b.done ++ b.last ∷ []) [] _ x [] x (kept_new x) o b.put n all)

abbrev kept_on : List ℕ → Built → Built
kept_on x b =
    cond (b.last.skip == 0 && b.last.put == 0)
    (record { done = b.done; last = record { keep = b.last.keep + length x; skip = 0; put = 0 }; put = b.put })
    (record { done = b.done ++ b.last ∷ []; last = record { keep = length x; skip = 0; put = 0 }; put = b.put })

keeping_any : (t : Bool) (x : List ℕ) (b : Built) (o n : List ℕ) → (length x == 0) ≡ t → Gives b o n → Gives (cond t b (kept_on x b)) (o ++ x) (n ++ x)
keeping_any true x b o n is g =
    let none : x ≡ [] = nil_from_length x (eqb-true _ _ is) in
    rw (none, append-nil o, append-nil n) g
keeping_any false x b o n is g = keeping_by (b.last.skip == 0 && b.last.put == 0) x b o n refl g

keeping_gives : (x : List ℕ) (b : Built) (o n : List ℕ) → Gives b o n → Gives (keeping (length x) b) (o ++ x) (n ++ x)
keeping_gives x b o n g = keeping_any (length x == 0) x b o n refl g

replacing_gives : (x y : List ℕ) (b : Built) (o n : List ℕ) → Gives b o n → Gives (replacing x y b) (o ++ x) (n ++ y)
replacing_gives x y b o n g = carried b.done (b.last ∷ []) _ x y y (replaced b.last x y) o b.put n g

after_by : (t : Bool) (p : Pair) (b : Built) (o n : List ℕ) → bytes_eq p.old p.new ≡ t → Gives b o n → Gives (cond t (keeping (length p.old) b) (replacing p.old p.new b)) (o ++ p.old) (n ++ p.new)
after_by true p b o n is g =
    let same : p.old ≡ p.new = (bytes_eq-Decides p.old p.new).0 is in
    subst (λ (q : List ℕ). Gives (keeping (length p.old) b) (o ++ p.old) (n ++ q)) same (keeping_gives p.old b o n g)
after_by false p b o n is g = replacing_gives p.old p.new b o n g

built_gives : (pairs : List Pair) (b : Built) (o n : List ℕ) → Gives b o n → Gives (built pairs b) (o ++ olds pairs) (n ++ news pairs)
built_gives [] b o n g = rw (append-nil o, append-nil n) g
built_gives (p ∷ pairs) b o n g =
    let one = after_by (bytes_eq p.old p.new) p b o n refl g in
    let on = built_gives pairs (after p b) (o ++ p.old) (n ++ p.new) one in
    rw (sym (append_assoc o p.old (olds pairs)), sym (append_assoc n p.new (news pairs))) on

pub pairs_give : (pairs : List Pair) → patched (changes_by pairs) (olds pairs) ≡ Some (news pairs)
pairs_give pairs = built_gives pairs nothing_built [] [] (last_back no_step [] [] refl refl)
