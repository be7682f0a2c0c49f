-- What pairs give puts as many bytes as its steps say, and its steps are no longer than the pairs.
use Rattle.std.proofs.Common.{◌≡◌, ℕ, ◌+◌, ◌^◌, ◌<◌, ◌==◌, ◌&&◌, Bool, true, false, cond, List, [], ◌∷◌, ◌++◌, length, refl, sym, ap, ◌∙◌, arith, length-append}
use Rattle.std.specs.List.{AllByRecursion}
use Rattle.std.specs.Str.{bytes_eq}
use Rattle.std.proofs.lemmas.Bool.{and_parts, eqb-true}
use Rattle.image_update.specs.declared.steps.Step.{Step}
use Rattle.image_update.specs.Encoding.{IsEven, IsStep, count_put}
use Rattle.image_update.specs.Layout.{difference_of, pairs_of}
use Rattle.image_update.specs.Pairs.{Built, Pair, after, built, changes_of, keeping, news, nothing_built, olds, replacing}
use Rattle.image_update.proofs.Cuts.{pairs_new, pairs_old}
use Rattle.image_update.proofs.Loops.{count_put_more}

even_from : (c : Built) → count_put c.done + c.last.put ≡ length c.put → IsEven (changes_of c)
even_from c e = count_put_more c.done c.last ∙ e

even_to : (b : Built) → IsEven (changes_of b) → count_put b.done + b.last.put ≡ length b.put
even_to b e = sym (count_put_more b.done b.last) ∙ e

-- bytes more are kept, by the last step or by a new one
abbrev same_step : ℕ → Built → Built
same_step n b = record { done = b.done; last = record { keep = b.last.keep + n; skip = 0; put = 0 }; put = b.put }

abbrev new_step : ℕ → Built → Built
new_step n b = record { done = b.done ++ b.last ∷ []; last = record { keep = n; skip = 0; put = 0 }; put = b.put }

step_even : (t : Bool) (n : ℕ) (b : Built) → (b.last.skip == 0 && b.last.put == 0) ≡ t → IsEven (changes_of b) → IsEven (changes_of (cond t (same_step n b) (new_step n b)))
step_even true n b is e =
    let z : b.last.put ≡ 0 = eqb-true _ _ (and_parts (b.last.skip == 0) (b.last.put == 0) is).1 in
    even_from (same_step n b) (omega (arith, even_to b e, z))
step_even false n b is e = even_from (new_step n b) (omega (arith, even_to b e, count_put_more b.done b.last))

abbrev kept_on : ℕ → Built → Built
kept_on n b = cond (b.last.skip == 0 && b.last.put == 0) (same_step n b) (new_step n b)

any_even : (t : Bool) (n : ℕ) (b : Built) → IsEven (changes_of b) → IsEven (changes_of (cond t b (kept_on n b)))
any_even true n b e = e
any_even false n b e = step_even (b.last.skip == 0 && b.last.put == 0) n b refl e

keeping_even : (n : ℕ) (b : Built) → IsEven (changes_of b) → IsEven (changes_of (keeping n b))
keeping_even n b e = any_even (n == 0) n b e

replacing_even : (x y : List ℕ) (b : Built) → IsEven (changes_of b) → IsEven (changes_of (replacing x y b))
replacing_even x y b e = even_from (replacing x y b) (omega (arith, even_to b e, length-append b.put y))

after_even : (t : Bool) (p : Pair) (b : Built) → IsEven (changes_of b) → IsEven (changes_of (cond t (keeping (length p.old) b) (replacing p.old p.new b)))
after_even true p b e = keeping_even (length p.old) b e
after_even false p b e = replacing_even p.old p.new b e

built_even : (pairs : List Pair) (b : Built) → IsEven (changes_of b) → IsEven (changes_of (built pairs b))
built_even [] b e = e
built_even (p ∷ pairs) b e = built_even pairs (after p b) (after_even (bytes_eq p.old p.new) p b e)

pub pairs_even : (pairs : List Pair) → IsEven (changes_of (built pairs nothing_built))
pairs_even pairs = built_even pairs nothing_built refl

-- ---- how long each step is

-- the steps have an encoding, and the last one still has after so many bytes more of both fronts
record Fit (b : Built) (x y : ℕ) : Type 0 where
  done : AllByRecursion IsStep b.done
  old : b.last.keep + b.last.skip + x < 2 ^ 64
  new : b.last.put + y < 2 ^ 64

last_fits : (b : Built) (x y : ℕ) → Fit b x y → IsStep b.last
last_fits b x y f = record { keep = omega (arith, f.old); skip = omega (arith, f.old); put = omega (arith, f.new) }

all_push : (steps : List Step) (s : Step) → AllByRecursion IsStep steps → IsStep s → AllByRecursion IsStep (steps ++ s ∷ [])
all_push [] s all is = (is, tt)
all_push (t ∷ steps) s all is = (all.0, all_push steps s all.1 is)

step_fit : (t : Bool) (n x y : ℕ) (b : Built) → Fit b (n + x) y → Fit (cond t (same_step n b) (new_step n b)) x y
step_fit true n x y b f = record { done = f.done; old = omega (arith, f.old); new = omega (arith, f.new) }
step_fit false n x y b f = record { done = all_push b.done b.last f.done (last_fits b (n + x) y f); old = omega (arith, f.old); new = omega (arith, f.new) }

any_fit : (t : Bool) (n x y : ℕ) (b : Built) → Fit b (n + x) y → Fit (cond t b (kept_on n b)) x y
any_fit true n x y b f = record { done = f.done; old = omega (arith, f.old); new = f.new }
any_fit false n x y b f = step_fit (b.last.skip == 0 && b.last.put == 0) n x y b f

after_fit : (t : Bool) (u v : List ℕ) (x y : ℕ) (b : Built) → Fit b (length u + x) (length v + y) → Fit (cond t (keeping (length u) b) (replacing u v b)) x y
after_fit true u v x y b f = any_fit (length u == 0) (length u) x y b (record { done = f.done; old = f.old; new = omega (arith, f.new) })
after_fit false u v x y b f = record { done = f.done; old = omega (arith, f.old); new = omega (arith, f.new) }

built_fit : (pairs : List Pair) (b : Built) → Fit b (length (olds pairs)) (length (news pairs)) → Fit (built pairs b) 0 0
built_fit [] b f = f
built_fit (p ∷ pairs) b f =
    built_fit pairs (after p b)
    (after_fit (bytes_eq p.old p.new) p.old p.new (length (olds pairs)) (length (news pairs)) b
    (record { done = f.done; old = omega (arith, f.old, length-append p.old (olds pairs)); new = omega (arith, f.new, length-append p.new (news pairs)) }))

pub pairs_fit : (old new : List ℕ) → length old < 2 ^ 64 → length new < 2 ^ 64 → AllByRecursion IsStep (difference_of old new).steps
pairs_fit old new a b =
    let last = built (pairs_of old new) nothing_built in
    let f = built_fit (pairs_of old new) nothing_built (record { done = tt; old = omega (arith, a, ap length (pairs_old old new)); new = omega (arith, b, ap length (pairs_new old new)) }) in
    all_push last.done last.last f.done (last_fits last 0 0 f)
