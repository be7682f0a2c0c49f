-- How many blocks a checkpoint takes.
use Rattle.std.proofs.Common.{◌≡◌, ℕ, zero, suc, ◌*◌, ◌+◌, ◌≤◌, Bool, true, false, not, cond, List, [], ◌∷◌, ◌++◌, length, take, drop, map, Option, Some, None, is_some, refl, sym, ap, subst, ◌∙◌, arith}
use Rattle.std.specs.Prelude.{is_none, slice_index_or}
use Rattle.std.specs.List.{list_all}
use Rattle.std.specs.Option.{option_to_list}
use Rattle.std.proofs.lemmas.Bool.{not-true, not-false}
use Rattle.std.proofs.lemmas.Option.{same_Some}
use Rattle.s4_types.specs.Pointer.{Place}
use Rattle.s4_types.specs.declared.limits.TheConstants.{CHECKPOINT_POINTERS, CHECKPOINT_BLOCKS}
use Rattle.block_log.specs.Log.{Stored}
use Rattle.codec.specs.Fields.{all_of, kept}
use Rattle.codec.specs.Checkpoint.{CheckpointFields, holes}
use Rattle.codec.specs.FirstBlock.{first_at}
use Rattle.codec.specs.Parts.{part_of, are_holes, pointers_of, told_in, ArePart}
use Rattle.codec.specs.declared.first_blocks.FirstBlock.{FirstBlock}
use Rattle.codec.specs.declared.inodes.Inode.{Inode}
use Rattle.codec.specs.declared.pointer_blocks.PointerBlock.{PointerBlock}
use Rattle.codec.proofs.PartLaws.{not_kept}
use Rattle.codec.proofs.Exact.{bind_some}
use Rattle.checkpoint.specs.Held.{places_in, part_in, checkpoint_held, checkpoint_places, checkpoint_blocks, part_blocks, of_checkpoints}
use Rattle.checkpoint.proofs.Places.{all_places}
use Rattle.checkpoint.proofs.Reading.{View, Tells, tells, first_told, places_are, BlockLaws, JoinedIs}

few_bit : (b : Bool) → cond b 0 1 ≤ 1
few_bit true = omega arith
few_bit false = omega arith

pub part_few : (i : Inode) (part : ℕ) → part_blocks i part ≤ 1
unfolding part_blocks
part_few i part = few_bit (are_holes (part_of part i.pointers))

pub some_block : (i : Inode) → 1 ≤ checkpoint_blocks i
unfolding checkpoint_blocks
some_block i = omega arith

pub few_blocks : (i : Inode) → checkpoint_blocks i ≤ CHECKPOINT_BLOCKS
unfolding checkpoint_blocks
few_blocks i = omega (arith, part_few i 1, part_few i 2, part_few i 3)

-- ---- holes alone matter

seen_take : (n : ℕ) (ps : List (Option Place)) → list_all is_none (take n ps) ≡ list_all not (take n (map is_some ps))
seen_take zero [] = refl
seen_take zero (p ∷ ps) = refl
seen_take (suc n) [] = refl
seen_take (suc n) (None ∷ ps) = seen_take n ps
seen_take (suc n) (Some p ∷ ps) = refl

seen_part : (n m : ℕ) (ps : List (Option Place)) → list_all is_none (take n (drop m ps)) ≡ list_all not (take n (drop m (map is_some ps)))
seen_part n zero [] = seen_take n []
seen_part n zero (p ∷ ps) = seen_take n (p ∷ ps)
seen_part n (suc m) [] = seen_take n []
seen_part n (suc m) (p ∷ ps) = seen_part n m ps

part_by_holes : (i j : Inode) (part : ℕ) → map is_some i.pointers ≡ map is_some j.pointers → part_blocks i part ≡ part_blocks j part
unfolding part_blocks part_of
part_by_holes i j part same =
    let n = CHECKPOINT_POINTERS in
    let m = CHECKPOINT_POINTERS * part in
    ap (λ b. cond b 0 1) (seen_part n m i.pointers ∙ ap (λ (l : List Bool). list_all not (take n (drop m l))) same ∙ sym (seen_part n m j.pointers))

pub as_many_blocks : (i j : Inode) → map is_some i.pointers ≡ map is_some j.pointers → checkpoint_blocks i ≡ checkpoint_blocks j
unfolding checkpoint_blocks
as_many_blocks i j same = omega (arith, part_by_holes i j 1 same, part_by_holes i j 2 same, part_by_holes i j 3 same)

-- ---- a checkpoint that is told is in as many blocks as it takes

-- Laws of the pointers that blocks tell.
pub record PointerLaws : Type 0 where
  pub first : (block : List ℕ) (f : FirstBlock) → all_of first_at block ≡ Some f → length f.pointers ≡ CHECKPOINT_POINTERS
  pub one : (a one two three : List (Option Place)) → length a ≡ CHECKPOINT_POINTERS → length one ≡ CHECKPOINT_POINTERS → part_of 1 (a ++ (one ++ (two ++ three))) ≡ one
  pub two : (a one two three : List (Option Place)) → length a ≡ CHECKPOINT_POINTERS → length one ≡ CHECKPOINT_POINTERS → length two ≡ CHECKPOINT_POINTERS → part_of 2 (a ++ (one ++ (two ++ three))) ≡ two
  pub three : (a one two three : List (Option Place)) → length a ≡ CHECKPOINT_POINTERS → length one ≡ CHECKPOINT_POINTERS → length two ≡ CHECKPOINT_POINTERS → length three ≡ CHECKPOINT_POINTERS → part_of 3 (a ++ (one ++ (two ++ three))) ≡ three
  pub holes : ArePart (holes CHECKPOINT_POINTERS)

holes_there : (n : ℕ) → are_holes (holes n) ≡ true
unfolding holes
holes_there zero = refl
holes_there (suc n) = holes_there n

-- the pointers of a part, and how many blocks have them
record Part (place : Option Place) (pointers : List (Option Place)) : Type 0 where
  count : length pointers ≡ CHECKPOINT_POINTERS
  blocks : cond (are_holes pointers) 0 1 ≡ length (option_to_list place)

part_there : BlockLaws → PointerLaws → (view : View) (f : FirstBlock) (part : ℕ) (place : Option Place) (pointers : List (Option Place)) → part_in view f part place ≡ Some pointers → Part place pointers
part_there blocks laws view f part None pointers has =
    let same : holes CHECKPOINT_POINTERS ≡ pointers = same_Some _ _ has in
    subst (Part None) same (record { count = laws.holes.0; blocks = ap (λ b. cond b 0 1) (holes_there CHECKPOINT_POINTERS) })
part_there blocks laws view f part (Some q) pointers has =
    let s = bind_some (view q) (told_in f part) pointers has in
    let t = blocks.part f part s.0 pointers s.2 in
    record { count = t.count; blocks = ap (λ b. cond b 0 1) t.some }

length_more : (a : Option Place) (places : List Place) → length (option_to_list a ++ places) ≡ length (option_to_list a) + length places
length_more None places = omega arith
length_more (Some p) places = omega arith

blocks_of : (i : Inode) (part : ℕ) (place : Option Place) (pointers : List (Option Place)) → part_of part i.pointers ≡ pointers → Part place pointers → part_blocks i part ≡ length (option_to_list place)
unfolding part_blocks
blocks_of i part place pointers is p = ap (λ (ps : List (Option Place)). cond (are_holes ps) 0 1) is ∙ p.blocks

as_many : BlockLaws → PointerLaws → JoinedIs → (view : View) (p : Place) (c : CheckpointFields) → Tells view p c → length (places_in view p) ≡ checkpoint_blocks c.inode
unfolding checkpoint_blocks
as_many blocks laws law view p c t =
    let f = t.first in
    let a = slice_index_or f.parts 0 None in
    let b = slice_index_or f.parts 1 None in
    let d = slice_index_or f.parts 2 None in
    let x = part_there blocks laws view f 1 a t.one t.has_one in
    let y = part_there blocks laws view f 2 b t.two t.has_two in
    let z = part_there blocks laws view f 3 d t.three t.has_three in
    let own = laws.first t.block f t.read in
    let all : f.pointers ++ (t.one ++ (t.two ++ t.three)) ≡ c.inode.pointers = ap (λ (k : CheckpointFields). k.inode.pointers) (law f t.one t.two t.three c t.joins) in
    let one : part_of 1 c.inode.pointers ≡ t.one = ap (part_of 1) (sym all) ∙ laws.one f.pointers t.one t.two t.three own x.count in
    let two : part_of 2 c.inode.pointers ≡ t.two = ap (part_of 2) (sym all) ∙ laws.two f.pointers t.one t.two t.three own x.count y.count in
    let three : part_of 3 c.inode.pointers ≡ t.three = ap (part_of 3) (sym all) ∙ laws.three f.pointers t.one t.two t.three own x.count y.count z.count in
    let count : length (places_in view p) ≡ length (all_places a b d p) = ap length (places_are view p f (first_told view p c t)) in
    omega (
      arith,
      count,
      length_more a (option_to_list b ++ (option_to_list d ++ p ∷ [])),
      length_more b (option_to_list d ++ p ∷ []),
      length_more d (p ∷ []),
      blocks_of c.inode 1 a t.one one x,
      blocks_of c.inode 2 b t.two two y,
      blocks_of c.inode 3 d t.three three z,
    )

pub placed : BlockLaws → PointerLaws → JoinedIs → (held : Place → Option Stored) (o : ℕ) (p : Place) (c : CheckpointFields) → checkpoint_held held o p ≡ Some c → length (checkpoint_places held o p) ≡ checkpoint_blocks c.inode
placed blocks laws law held o p c found = as_many blocks laws law (of_checkpoints o held) p c (tells (of_checkpoints o held) p c found)

-- ---- a part is in a block, or in none

some_kept : {A : Type 0} (test : Bool) (x y : A) → kept test x ≡ Some y → test ≡ true
some_kept true x y e = refl
some_kept false x y e = absurd cc

pub no_blocks : (c : CheckpointFields) (part : ℕ) → pointers_of c part ≡ None → part_blocks c.inode part ≡ 0
unfolding part_blocks
no_blocks c part none = ap (λ b. cond b 0 1) (not-false _ (not_kept _ _ none))

pub one_block : (c : CheckpointFields) (part : ℕ) (b : PointerBlock) → pointers_of c part ≡ Some b → part_blocks c.inode part ≡ 1
unfolding part_blocks
one_block c part b some = ap (λ b. cond b 0 1) (not-true _ (some_kept _ _ b some))
