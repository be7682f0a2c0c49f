-- The blocks of a checkpoint tell it: lists of pointers cut in four, and joined.
use Rattle.std.proofs.Common.{◌≡◌, ℕ, zero, suc, ◌*◌, ◌+◌, ◌≤◌, Bool, true, false, not, eqb, ◌&&◌, List, [], ◌∷◌, ◌++◌, length, get_or, take, drop, Option, Some, None, refl, sym, ap, subst, ◌∙◌, arith, length-append}
use Rattle.std.specs.Prelude.{replicate}
use Rattle.std.specs.Int.{w32, w64}
use Rattle.std.specs.List.{AllByRecursion}
use Rattle.std.proofs.lemmas.Bool.{eq-eqb, eqb-true, and_from, and_parts, false≢true, not-true, not-false}
use Rattle.std.proofs.lemmas.List.{take-append-drop, take_all, take_at, drop-drop, drop_at, length-drop, length-take}
use Rattle.std.proofs.lemmas.Option.{same_Some}
use Rattle.s4_types.specs.Pointer.{Place}
use Rattle.s4_types.specs.declared.limits.TheConstants.{CHECKPOINT_POINTERS, CHECKPOINT_PARTS, OBJECT_BLOCKS}
use Rattle.codec.specs.Fields.{◌>>=◌, all_of, kept, ended, byte_at, number_at, zeros_at, mark_at, flag_at, slot_at, many_at, padded_at}
use Rattle.codec.specs.Checkpoint.{CheckpointFields, CheckpointNumbers, IsSlot, checkpoint_rules, holes}
use Rattle.codec.specs.FirstBlock.{FirstNumbers, behind_size, first_at}
use Rattle.codec.specs.PointerBlock.{SpellsPointers, behind_part, pointers_at}
use Rattle.codec.specs.Parts.{part_of, are_holes, first_of, pointers_of, block_with, is_part, told_in, whole, joined, ArePart, TellsPart}
use Rattle.codec.specs.declared.first_blocks.FirstBlock.{FirstBlock}
use Rattle.codec.specs.declared.pointer_blocks.PointerBlock.{PointerBlock}
use Rattle.codec.specs.declared.pointer_blocks.TheConstants.{GAP_BYTES, END_BYTES}
use Rattle.codec.proofs.Many.{many_count}
use Rattle.codec.proofs.PointerLaws.{pointers_field}
use Rattle.codec.proofs.Slots.{mark_whole, kept_is}
use Rattle.codec.proofs.Whole.{all_exact, ended_is}
use Rattle.codec.proofs.Exact.{bind_some}

-- ---- what is read, whatever the bytes are

-- what reading gives has a property
record Gives {R : Type 0} (P : R → Type 0) (read : List ℕ → Option R) : Type 0 where
  each : (bytes : List ℕ) (r : R) → read bytes ≡ Some r → P r

skip_gives : {A R : Type 0} {P : R → Type 0} (read : List ℕ → Option (A × List ℕ)) {k : A → List ℕ → Option R} → ((a : A) → Gives P (k a)) → Gives P (λ bytes. read bytes >>= λ x. k x.0 x.1)
skip_gives read {k} behind = record { each = λ bytes r e. let s = bind_some (read bytes) (λ x. k x.0 x.1) r e in (behind s.0.0).each s.0.1 r s.2 }

count_gives : {A R : Type 0} {P : R → Type 0} (read : List ℕ → Option (A × List ℕ)) (n : ℕ) {k : List A → List ℕ → Option R} → ((xs : List A) → length xs ≡ n → Gives P (k xs)) → Gives P (λ bytes. many_at read n bytes >>= λ x. k x.0 x.1)
count_gives read n {k} behind =
    record { each = λ bytes r e. let s = bind_some (many_at read n bytes) (λ x. k x.0 x.1) r e in (behind s.0.0 (many_count read n bytes s.0 s.1)).each s.0.1 r s.2 }

made_gives : {A : Type 0} {P : A × List ℕ → Type 0} (a : A) → ((rest : List ℕ) → P (a, rest)) → Gives P (λ bytes. Some (a, bytes))
made_gives {P = P} a fact = record { each = λ bytes r e. subst P (same_Some _ _ e) (fact bytes) }

abbrev FirstCounts : FirstBlock × List ℕ → Type 0
FirstCounts x = (length x.0.pointers ≡ CHECKPOINT_POINTERS) × (length x.0.parts ≡ CHECKPOINT_PARTS)

first_counts : Gives FirstCounts first_at
unfolding first_at
first_counts =
    skip_gives (mark_at 2) (λ _. skip_gives flag_at (λ alive. skip_gives byte_at (λ len. skip_gives (mark_at 0) (λ _.
    skip_gives (number_at w32) (λ size. skip_gives (number_at w64) (λ object. skip_gives (number_at w64) (λ moment. skip_gives (number_at w64) (λ created. skip_gives (number_at w64) (λ changed.
    skip_gives (padded_at len) (λ attribute. count_gives slot_at CHECKPOINT_POINTERS (λ pointers n. count_gives slot_at CHECKPOINT_PARTS (λ parts m. made_gives _ (λ rest. (n, m))))))))))))))

abbrev PointerCount : PointerBlock × List ℕ → Type 0
PointerCount x = length x.0.pointers ≡ CHECKPOINT_POINTERS

pointer_count : Gives PointerCount pointers_at
unfolding pointers_at
pointer_count =
    skip_gives (mark_at 4) (λ _. skip_gives byte_at (λ part. skip_gives (zeros_at GAP_BYTES) (λ _. skip_gives (number_at w64) (λ object. skip_gives (number_at w64) (λ moment.
    count_gives slot_at CHECKPOINT_POINTERS (λ pointers n. skip_gives (zeros_at END_BYTES) (λ _. made_gives _ (λ rest. n))))))))

-- all of the bytes are read
all_read : {A : Type 0} (read : List ℕ → Option (A × List ℕ)) (bytes : List ℕ) (a : A) → all_of read bytes ≡ Some a → read bytes ≡ Some (a, [])
all_read read bytes a e =
    let s = bind_some (read bytes) (λ x. ended (Some x.0) x.1) a e in
    let end = ended_is s.0.0 a s.0.1 s.2 in
    s.1 ∙ ap (λ (b : _). Some (b, s.0.1)) end.1 ∙ ap (λ (rest : List ℕ). Some (a, rest)) end.0

pub first_has : (block : List ℕ) (f : FirstBlock) → all_of first_at block ≡ Some f → FirstCounts (f, [])
first_has block f e = first_counts.each block (f, []) (all_read first_at block f e)

pub block_has : (block : List ℕ) (b : PointerBlock) → all_of pointers_at block ≡ Some b → length b.pointers ≡ CHECKPOINT_POINTERS
block_has block b e = pointer_count.each block (b, []) (all_read pointers_at block b e)

first_begins : (block : List ℕ) (x : FirstBlock × List ℕ) → first_at block ≡ Some x → get_or block 0 0 ≡ 2
unfolding first_at
first_begins block x e =
    let s = bind_some (mark_at 2 block) (λ mark. flag_at mark.1 >>= λ alive. byte_at alive.1 >>= λ len. mark_at 0 len.1 >>= λ gap. number_at w32 gap.1 >>= λ size. behind_size alive.0 len.0 size.0 size.1) x e in
    ap (λ (l : List ℕ). get_or l 0 0) (mark_whole 2 block s.0 s.1)

pub first_kind : (block : List ℕ) (f : FirstBlock) → all_of first_at block ≡ Some f → get_or block 0 0 ≡ 2
first_kind block f e = first_begins block (f, []) (all_read first_at block f e)

block_begins : (block : List ℕ) (x : PointerBlock × List ℕ) → pointers_at block ≡ Some x → get_or block 0 0 ≡ 4
unfolding pointers_at
block_begins block x e =
    let s = bind_some (mark_at 4 block) (λ mark. byte_at mark.1 >>= λ part. behind_part part.0 part.1) x e in
    ap (λ (l : List ℕ). get_or l 0 0) (mark_whole 4 block s.0 s.1)

pub block_kind : (block : List ℕ) (b : PointerBlock) → all_of pointers_at block ≡ Some b → get_or block 0 0 ≡ 4
block_kind block b e = block_begins block (b, []) (all_read pointers_at block b e)

pub tells : (f : FirstBlock) (part : ℕ) (block : List ℕ) (pointers : List (Option Place)) → told_in f part block ≡ Some pointers → TellsPart f part block pointers
tells f part block pointers e =
    let s = bind_some (all_of pointers_at block) (λ b. kept (is_part f part b) b.pointers) pointers e in
    let b = s.0 in
    let k = kept_is (is_part f part b) b.pointers pointers s.2 in
    let one = and_parts (eqb b.part part) (eqb b.object f.object && (eqb b.moment f.moment && not (are_holes b.pointers))) k.0 in
    let two = and_parts (eqb b.object f.object) (eqb b.moment f.moment && not (are_holes b.pointers)) one.1 in
    let three = and_parts (eqb b.moment f.moment) (not (are_holes b.pointers)) two.1 in
    record {
      found = b;
      read = s.1;
      its_part = eqb-true _ _ one.0;
      object = eqb-true _ _ two.0;
      moment = eqb-true _ _ three.0;
      some = sym (ap are_holes k.1) ∙ not-true _ three.1;
      count = sym (ap length k.1) ∙ block_has block b s.1;
    }

-- ---- four parts of a list

module _ {A : Type 0} (n : ℕ) where
  piece : (from to : ℕ) (xs : List A) → to ≡ from + n → take n (drop from xs) ++ drop to xs ≡ drop from xs
  piece from to xs is =
      ap (λ m. take n (drop from xs) ++ drop m xs) is ∙ ap (λ (r : List A). take n (drop from xs) ++ r) (sym (drop-drop n from xs)) ∙ take-append-drop n (drop from xs)

  four_parts : (b c d : ℕ) (xs : List A) → b ≡ n → c ≡ b + n → d ≡ c + n → length xs ≤ d + n → take n xs ++ (take n (drop b xs) ++ (take n (drop c xs) ++ take n (drop d xs))) ≡ xs
  four_parts b c d xs is next last all =
      let start : b ≡ 0 + n = omega (arith, is) in
      let end : take n (drop d xs) ≡ drop d xs = take_all n (drop d xs) (omega (arith, length-drop d xs)) in
      ap (λ (r : List A). take n xs ++ (take n (drop b xs) ++ (take n (drop c xs) ++ r))) end
      ∙ ap (λ (r : List A). take n xs ++ (take n (drop b xs) ++ r)) (piece c d xs last)
      ∙ ap (λ (r : List A). take n xs ++ r) (piece b c xs next)
      ∙ piece 0 b xs start

  -- the part behind a first one
  part_behind : (m from : ℕ) (a r : List A) → length a ≡ n → m ≡ n + from → take n (drop m (a ++ r)) ≡ take n (drop from r)
  part_behind m from a r len is =
      ap (λ k. take n (drop k (a ++ r))) is ∙ ap (take n) (sym (drop-drop from n (a ++ r))) ∙ ap (λ (l : List A). take n (drop from l)) (drop_at a r n len)

pub part_one : (a b c d : List (Option Place)) → length a ≡ CHECKPOINT_POINTERS → length b ≡ CHECKPOINT_POINTERS → part_of 1 (a ++ (b ++ (c ++ d))) ≡ b
unfolding part_of
part_one a b c d first len = part_behind 48 48 0 a (b ++ (c ++ d)) first refl ∙ take_at b (c ++ d) 48 len

pub part_two : (a b c d : List (Option Place)) → length a ≡ CHECKPOINT_POINTERS → length b ≡ CHECKPOINT_POINTERS → length c ≡ CHECKPOINT_POINTERS → part_of 2 (a ++ (b ++ (c ++ d))) ≡ c
unfolding part_of
part_two a b c d first second len = part_behind 48 96 48 a (b ++ (c ++ d)) first refl ∙ part_behind 48 48 0 b (c ++ d) second refl ∙ take_at c d 48 len

pub part_three : (a b c d : List (Option Place)) → length a ≡ CHECKPOINT_POINTERS → length b ≡ CHECKPOINT_POINTERS → length c ≡ CHECKPOINT_POINTERS → length d ≡ CHECKPOINT_POINTERS → part_of 3 (a ++ (b ++ (c ++ d))) ≡ d
unfolding part_of
part_three a b c d first second third len =
    part_behind 48 144 96 a (b ++ (c ++ d)) first refl ∙ part_behind 48 96 48 b (c ++ d) second refl ∙ part_behind 48 48 0 c d third refl ∙ take_all 48 d (omega (arith, len))

all_parts : (ps : List (Option Place)) → length ps ≡ OBJECT_BLOCKS → part_of 0 ps ++ (part_of 1 ps ++ (part_of 2 ps ++ part_of 3 ps)) ≡ ps
unfolding part_of
all_parts ps len = four_parts 48 48 96 144 ps refl refl refl (omega (arith, len))

-- ---- the checkpoint of its blocks

abbrev with_pointers : CheckpointFields → List (Option Place) → CheckpointFields
with_pointers c ps =
    record { object = c.object; moment = c.moment; inode = record { alive = c.inode.alive; size = c.inode.size; created = c.inode.created; changed = c.inode.changed; attribute = c.inode.attribute; pointers = ps } }

made_is : (c d : CheckpointFields) → d ≡ c → checkpoint_rules c ≡ true → kept (checkpoint_rules d) d ≡ Some c
made_is c d is rules = rw (is, rules) refl

pub joins : (c : CheckpointFields) (parts : List (Option Place)) → checkpoint_rules c ≡ true → length c.inode.pointers ≡ OBJECT_BLOCKS
    → joined (first_of c parts) (part_of 1 c.inode.pointers) (part_of 2 c.inode.pointers) (part_of 3 c.inode.pointers) ≡ Some c
joins c parts rules len = made_is c _ (ap (with_pointers c) (all_parts c.inode.pointers len)) rules

pub joined_is : (f : FirstBlock) (one two three : List (Option Place)) (c : CheckpointFields) → joined f one two three ≡ Some c → whole f (f.pointers ++ (one ++ (two ++ three))) ≡ c
joined_is f one two three c e = (kept_is (checkpoint_rules (whole f (f.pointers ++ (one ++ (two ++ three))))) (whole f (f.pointers ++ (one ++ (two ++ three)))) c e).1

pub not_kept : {A : Type 0} (test : Bool) (x : A) → kept test x ≡ None → test ≡ false
not_kept true x e = absurd cc
not_kept false x e = refl

block_told : (object moment part : ℕ) (f : FirstBlock) (ps : List (Option Place)) (b : PointerBlock) → f.object ≡ object → f.moment ≡ moment → block_with object moment part ps ≡ Some b → (is_part f part b ≡ true) × (b.pointers ≡ ps)
block_told object moment part f ps b o m e =
    let made : PointerBlock = record { part = part; object = object; moment = moment; pointers = ps } in
    let k = kept_is (not (are_holes ps)) made b e in
    let is : is_part f part made ≡ true =
    and_from (eqb part part) (eqb object f.object && (eqb moment f.moment && not (are_holes ps))) (eq-eqb part part refl)
    (and_from (eqb object f.object) (eqb moment f.moment && not (are_holes ps)) (eq-eqb object f.object (sym o)) (and_from (eqb moment f.moment) (not (are_holes ps)) (eq-eqb moment f.moment (sym m)) k.0)) in
    (subst (λ (x : PointerBlock). is_part f part x ≡ true) k.1 is, sym (ap (λ (x : PointerBlock). x.pointers) k.1))

pub told_of : (c : CheckpointFields) (parts : List (Option Place)) (part : ℕ) (b : PointerBlock) (block : List ℕ) → pointers_of c part ≡ Some b → SpellsPointers block b → told_in (first_of c parts) part block ≡ Some (part_of part c.inode.pointers)
told_of c parts part b block e spells =
    let f = first_of c parts in
    let t = block_told c.object c.moment part f (part_of part c.inode.pointers) b refl refl e in
    ap (λ (o : Option PointerBlock). o >>= λ x. kept (is_part f part x) x.pointers) ((all_exact pointers_field).again block b spells)
    ∙ ap (λ test. kept test b.pointers) t.0 ∙ ap (λ (ps : List (Option Place)). Some ps) t.1

pub all_holes : (ps : List (Option Place)) (n : ℕ) → length ps ≡ n → are_holes ps ≡ true → ps ≡ replicate n None
all_holes [] zero len e = refl
all_holes [] (suc n) len e = absurd (omega (arith, len))
all_holes (p ∷ ps) zero len e = absurd (omega (arith, len))
all_holes (None ∷ ps) (suc n) len e = ap (λ (rest : List (Option Place)). None ∷ rest) (all_holes ps n (omega (arith, len)) e)
all_holes (Some p ∷ ps) (suc n) len e = absurd (false≢true e)

part_length : (n m : ℕ) (ps : List (Option Place)) → m + n ≤ length ps → length (take n (drop m ps)) ≡ n
part_length n m ps room = omega (arith, length-take n (drop m ps), length-drop m ps)

pub holes_of : (c : CheckpointFields) (part : ℕ) → part ≤ CHECKPOINT_PARTS → length c.inode.pointers ≡ OBJECT_BLOCKS → pointers_of c part ≡ None → part_of part c.inode.pointers ≡ holes CHECKPOINT_POINTERS
unfolding part_of holes
holes_of c part le len e =
    all_holes (take CHECKPOINT_POINTERS (drop (CHECKPOINT_POINTERS * part) c.inode.pointers)) CHECKPOINT_POINTERS (part_length CHECKPOINT_POINTERS (CHECKPOINT_POINTERS * part) c.inode.pointers (omega (arith, len, le)))
    (not-false _ (not_kept _ _ e))

-- ---- numbers in their ranges

both_in : (xs ys : List (Option Place)) → AllByRecursion IsSlot xs → AllByRecursion IsSlot ys → AllByRecursion IsSlot (xs ++ ys)
both_in [] ys h k = k
both_in (x ∷ xs) ys h k = (h.0, both_in xs ys h.1 k)

pub numbers_of : (f : FirstBlock) (one two three : List (Option Place)) → FirstNumbers f → ArePart one → ArePart two → ArePart three → CheckpointNumbers (whole f (f.pointers ++ (one ++ (two ++ three))))
numbers_of f one two three n a b c = record {
  object = n.object;
  moment = n.moment;
  inode = record {
    size = n.size;
    created = n.created;
    changed = n.changed;
    attribute = n.attribute;
    count = omega (arith, length-append f.pointers (one ++ (two ++ three)), length-append one (two ++ three), length-append two three, n.count, a.0, b.0, c.0);
    pointers = both_in f.pointers (one ++ (two ++ three)) n.pointers (both_in one (two ++ three) a.1 (both_in two three b.1 c.1));
  };
}

only_holes : (n : ℕ) → AllByRecursion IsSlot (replicate n None)
only_holes zero = tt
only_holes (suc n) = (tt, only_holes n)

many_holes : (n : ℕ) → length (holes n) ≡ n
unfolding holes
many_holes zero = refl
many_holes (suc n) = ap (λ (k : ℕ). suc k) (many_holes n)

holes_in : (n : ℕ) → AllByRecursion IsSlot (holes n)
unfolding holes
holes_in n = only_holes n

pub holes_are : ArePart (holes CHECKPOINT_POINTERS)
holes_are = (many_holes CHECKPOINT_POINTERS, holes_in CHECKPOINT_POINTERS)

-- what a block that is read tells of its pointers
pub part_is : (part : ℕ) (f : FirstBlock) (block : List ℕ) (b : PointerBlock) → SpellsPointers block b → ArePart b.pointers
part_is part f block b spells = (spells.0.count, spells.0.pointers)
