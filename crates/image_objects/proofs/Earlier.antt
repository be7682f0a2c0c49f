-- An entry's values before are those of an inode where each of its tests says so.
use Rattle.std.proofs.Common.{◌≡◌, ℕ, ◌+◌, ◌<◌, ◌≤◌, ◌==◌, ◌&&◌, Bool, true, false, leb, ltb, cond, inl, inr, List, [], ◌∷◌, length, take, get_or, Option, refl, sym, ap, ◌∙◌, arith}
use Rattle.std.specs.Prelude.{not}
use Rattle.std.specs.List.{list_all}
use Rattle.std.proofs.lemmas.List.Folds.{list_all_more, list_all_at}
use Rattle.std.proofs.lemmas.List.{take_all}
use Rattle.std.proofs.lemmas.Bool.{cases_Bool, and_parts, and_from, leb-true, ltb-true, eqb-true, ne_eqb, eq-eqb}
use Rattle.s4_types.specs.Pointer.{Place}
use Rattle.s4_types.specs.declared.limits.TheConstants.{OBJECT_BLOCKS}
use Rattle.codec.specs.declared.inodes.Inode.{Inode}
use Rattle.codec.specs.declared.entries.Triple.{Triple}
use Rattle.codec.specs.Checkpoint.{pointer_at}
use Rattle.codec.specs.Entry.{same_slot, ascend_from}
use Rattle.undo_redo.specs.Linked.{pointer_before}
use Rattle.undo_redo.proofs.Slots.{same_slot_itself, one_slot}
use Rattle.undo_redo.proofs.Indices.{ascend_parts}
use Rattle.image_objects.specs.private.Standing.{is_earlier}

-- ---- pointers

-- an index below those of the triples is none of theirs
untold : (low n : ℕ) (triples : List Triple) (p : Option Place) → ascend_from low triples ≡ true → n < low → pointer_before triples n p ≡ p
untold low n [] p h lt = refl
untold low n (t ∷ triples) p h lt =
    let parts = ascend_parts low t triples h in
    let least : low ≤ t.index = leb-true low t.index (and_parts (leb low t.index) (ltb t.index OBJECT_BLOCKS && not (same_slot t.before t.after)) parts.0).0 in
    let other : (t.index == n) ≡ false = ne_eqb t.index n (λ (is : t.index ≡ n). absurd (omega (arith, least, lt, is))) in
    ap (λ b. pointer_before triples n (cond b t.before p)) other ∙ untold (t.index + 1) n triples p parts.1 (omega (arith, least, lt))

pub told_before : (i : Inode) (triples : List Triple) (n : ℕ) → list_all (is_earlier i) triples ≡ true → pointer_before triples n (pointer_at i n) ≡ pointer_at i n
told_before i [] n h = refl
told_before i (t ∷ triples) n h =
    let parts = and_parts (is_earlier i t) (list_all (is_earlier i) triples) h in
    let slot : pointer_at i t.index ≡ t.before = one_slot (pointer_at i t.index) t.before parts.0 in
    elim (cases_Bool (t.index == n)) [
      | inl is ↦ (let here : t.before ≡ pointer_at i n = sym slot ∙ ap (pointer_at i) (eqb-true t.index n is) in
          ap (λ b. pointer_before triples n (cond b t.before (pointer_at i n))) is ∙ ap (pointer_before triples n) here ∙ told_before i triples n parts.1)
      | inr ne ↦ ap (λ b. pointer_before triples n (cond b t.before (pointer_at i n))) ne ∙ told_before i triples n parts.1
    ]

pub are_told : (i : Inode) (low : ℕ) (triples : List Triple) → ascend_from low triples ≡ true → ((n : ℕ) → n < OBJECT_BLOCKS → pointer_at i n ≡ pointer_before triples n (pointer_at i n)) → list_all (is_earlier i) triples ≡ true
are_told i low [] h all = refl
are_told i low (t ∷ triples) h all =
    let parts = ascend_parts low t triples h in
    let tests = and_parts (leb low t.index) (ltb t.index OBJECT_BLOCKS && not (same_slot t.before t.after)) parts.0 in
    let below : t.index < OBJECT_BLOCKS = ltb-true t.index OBJECT_BLOCKS (and_parts (ltb t.index OBJECT_BLOCKS) (not (same_slot t.before t.after)) tests.1).0 in
    let here : pointer_at i t.index ≡ t.before =
    all t.index below
    ∙ ap (λ b. pointer_before triples t.index (cond b t.before (pointer_at i t.index))) (eq-eqb t.index t.index refl)
    ∙ untold (t.index + 1) t.index triples t.before parts.1 (omega arith) in
    let others : (n : ℕ) → n < OBJECT_BLOCKS → pointer_at i n ≡ pointer_before triples n (pointer_at i n) = λ n lt. elim (cases_Bool (t.index == n)) [
      | inl is ↦ (let same : t.index ≡ n = eqb-true t.index n is in sym (untold (t.index + 1) n triples (pointer_at i n) parts.1 (omega (arith, same))))
      | inr ne ↦ all n lt ∙ ap (λ b. pointer_before triples n (cond b t.before (pointer_at i n))) ne
    ] in
    and_from (is_earlier i t) (list_all (is_earlier i) triples) (ap (λ (p : Option Place). same_slot p t.before) here ∙ same_slot_itself t.before) (are_told i (t.index + 1) triples parts.1 others)

-- ---- a test of each triple, one after another

pub one_more_passes : (p : Triple → Bool) (triples : List Triple) (k : ℕ) (t : Triple) → k < length triples → t ≡ get_or triples k t → p t ≡ true → list_all p (take k triples) ≡ true → list_all p (take (k + 1) triples) ≡ true
one_more_passes p triples k t lt is here before =
    list_all_more p triples k t lt ∙ and_from (list_all p (take k triples)) (p (get_or triples k t)) before (ap p (sym is) ∙ here)

pub one_fails : (p : Triple → Bool) (triples : List Triple) (k : ℕ) (t : Triple) → k < length triples → t ≡ get_or triples k t → p t ≡ false → list_all p triples ≡ false
one_fails p triples k t lt is here = list_all_at p triples k t lt (ap p (sym is) ∙ here)

pub all_pass : (p : Triple → Bool) (triples : List Triple) (k : ℕ) → length triples ≤ k → list_all p (take k triples) ≡ true → list_all p triples ≡ true
all_pass p triples k le h = ap (list_all p) (sym (take_all k triples le)) ∙ h
