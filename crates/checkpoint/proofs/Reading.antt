-- What the blocks of a checkpoint tell.
use Rattle.std.proofs.Common.{◌≡◌, ◌⊎◌, inl, inr, ℕ, ◌+◌, ◌≤◌, Bool, true, false, cond, List, [], ◌∷◌, ◌++◌, count_by, Option, Some, None, IsSome, IfSome, refl, sym, ap, subst, ◌∙◌, arith}
use Rattle.std.specs.Prelude.{slice_index, slice_index_or}
use Rattle.std.specs.List.{fold}
use Rattle.std.specs.Option.{option_to_list}
use Rattle.std.proofs.lemmas.Bool.{cases_Bool}
use Rattle.std.proofs.lemmas.Option.{same_Some}
use Rattle.s4_types.specs.Pointer.{Place}
use Rattle.lemmas.proofs.Option.{value_there}
use Rattle.block_log.specs.Log.{Log, Stored, same_place}
use Rattle.codec.specs.Fields.{◌>>=◌, all_of}
use Rattle.codec.specs.Checkpoint.{CheckpointFields}
use Rattle.codec.specs.FirstBlock.{first_at}
use Rattle.codec.specs.PointerBlock.{pointers_at}
use Rattle.codec.specs.Parts.{told_in, whole, joined, TellsPart}
use Rattle.codec.specs.declared.first_blocks.FirstBlock.{FirstBlock}
use Rattle.codec.specs.declared.pointer_blocks.PointerBlock.{PointerBlock}
use Rattle.codec.proofs.Exact.{bind_some}
use Rattle.checkpoint.specs.Held.{checkpoint_in, checkpoint_of, places_in, first_in, part_in, part_place, checkpoint_held, checkpoint_places, of_checkpoints, is_one_of, HasBytes, HasItsBlocks, IsInBoth}
use Rattle.checkpoint.proofs.OwnBlocks.{bytes_begin}
use Rattle.checkpoint.proofs.Places.{OneName, all_places, in_one, in_two, in_three, in_last, among}

-- blocks of checkpoints, by their places
abbrev pub View : Type 0
View = Place → Option (List ℕ)

-- ---- the places

pub first_place : (view : View) (p : Place) → is_one_of (places_in view p) p ≡ true
unfolding places_in
first_place view p = let f = first_in view p in in_last (part_place f 0) (part_place f 1) (part_place f 2) p

-- where the blocks of parts are, by the first block
pub places_are : (view : View) (p : Place) (f : FirstBlock) → first_in view p ≡ Some f
    → places_in view p ≡ all_places (slice_index_or f.parts 0 None) (slice_index_or f.parts 1 None) (slice_index_or f.parts 2 None) p
unfolding places_in
places_are view p f is = ap (λ (o : Option FirstBlock). all_places (part_place o 0) (part_place o 1) (part_place o 2) p) is

-- ---- a checkpoint is a matter of its own blocks

abbrev pub SameAt : View → View → List Place → Type 0
SameAt view later places = (q : Place) → is_one_of places q ≡ true → later q ≡ view q

first_same : (view later : View) (p : Place) → SameAt view later (places_in view p) → first_in later p ≡ first_in view p
first_same view later p same = ap (λ (b : Option (List ℕ)). b >>= all_of first_at) (same p (first_place view p))

pub places_same : (view later : View) (p : Place) → SameAt view later (places_in view p) → places_in later p ≡ places_in view p
unfolding places_in
places_same view later p same = ap (λ (o : Option FirstBlock). all_places (part_place o 0) (part_place o 1) (part_place o 2) p) (first_same view later p same)

part_same : (view later : View) (f : FirstBlock) (part : ℕ) (place : Option Place) → ((q : Place) → place ≡ Some q → later q ≡ view q) → part_in later f part place ≡ part_in view f part place
part_same view later f part None same = refl
part_same view later f part (Some q) same = ap (λ (b : Option (List ℕ)). b >>= told_in f part) (same q refl)

rest_same : (view later : View) (p : Place) (o : Option FirstBlock) → first_in view p ≡ o → SameAt view later (places_in view p) → (o >>= checkpoint_of later) ≡ (o >>= checkpoint_of view)
rest_same view later p None is same = refl
rest_same view later p (Some f) is same =
    let a = slice_index_or f.parts 0 None in
    let b = slice_index_or f.parts 1 None in
    let c = slice_index_or f.parts 2 None in
    let at : SameAt view later (all_places a b c p) = subst (SameAt view later) (places_are view p f is) same in
    let one = part_same view later f 1 a (λ q e. at q (in_one a b c p q e)) in
    let two = part_same view later f 2 b (λ q e. at q (in_two a b c p q e)) in
    let three = part_same view later f 3 c (λ q e. at q (in_three a b c p q e)) in
    λ i. one i >>= λ x. two i >>= λ y. three i >>= λ z. joined f x y z

pub told_same : (view later : View) (p : Place) → SameAt view later (places_in view p) → checkpoint_in later p ≡ checkpoint_in view p
unfolding checkpoint_in
told_same view later p same = ap (λ (o : Option FirstBlock). o >>= checkpoint_of later) (first_same view later p same) ∙ rest_same view later p (first_in view p) refl same

-- ---- what is told

-- the blocks in which a checkpoint is
pub record Tells (view : View) (p : Place) (c : CheckpointFields) : Type 0 where
  pub block : List ℕ
  pub at : view p ≡ Some block
  pub first : FirstBlock
  pub read : all_of first_at block ≡ Some first
  pub one : List (Option Place)
  pub two : List (Option Place)
  pub three : List (Option Place)
  pub has_one : part_in view first 1 (slice_index_or first.parts 0 None) ≡ Some one
  pub has_two : part_in view first 2 (slice_index_or first.parts 1 None) ≡ Some two
  pub has_three : part_in view first 3 (slice_index_or first.parts 2 None) ≡ Some three
  pub joins : joined first one two three ≡ Some c

pub tells : (view : View) (p : Place) (c : CheckpointFields) → checkpoint_in view p ≡ Some c → Tells view p c
unfolding checkpoint_in
tells view p c e =
    let f = bind_some (first_in view p) (checkpoint_of view) c e in
    let b = bind_some (view p) (all_of first_at) f.0 f.1 in
    let one = bind_some (part_in view f.0 1 (slice_index_or f.0.parts 0 None)) (λ x. part_in view f.0 2 (slice_index_or f.0.parts 1 None) >>= λ y. part_in view f.0 3 (slice_index_or f.0.parts 2 None) >>= λ z. joined f.0 x y z) c f.2 in
    let two = bind_some (part_in view f.0 2 (slice_index_or f.0.parts 1 None)) (λ y. part_in view f.0 3 (slice_index_or f.0.parts 2 None) >>= λ z. joined f.0 one.0 y z) c one.2 in
    let three = bind_some (part_in view f.0 3 (slice_index_or f.0.parts 2 None)) (λ z. joined f.0 one.0 two.0 z) c two.2 in
    record {
      block = b.0;
      at = b.1;
      first = f.0;
      read = b.2;
      one = one.0;
      two = two.0;
      three = three.0;
      has_one = one.1;
      has_two = two.1;
      has_three = three.1;
      joins = three.2;
    }

pub first_told : (view : View) (p : Place) (c : CheckpointFields) (t : Tells view p c) → first_in view p ≡ Some t.first
first_told view p c t = ap (λ (b : Option (List ℕ)). b >>= all_of first_at) t.at ∙ t.read

-- a part that is in a block
record InBlock (view : View) (f : FirstBlock) (part : ℕ) (q : Place) (pointers : List (Option Place)) : Type 0 where
  bytes : List ℕ
  at : view q ≡ Some bytes
  told : told_in f part bytes ≡ Some pointers

in_block : (view : View) (f : FirstBlock) (part : ℕ) (place : Option Place) (q : Place) (pointers : List (Option Place)) → part_in view f part place ≡ Some pointers → place ≡ Some q → InBlock view f part q pointers
in_block view f part place q pointers has is =
    let s = bind_some (view q) (told_in f part) pointers (ap (part_in view f part) (sym is) ∙ has) in
    record { bytes = s.0; at = s.1; told = s.2 }

-- Laws of the blocks of checkpoints.
pub record BlockLaws : Type 0 where
  pub first_begins : (block : List ℕ) (f : FirstBlock) → all_of first_at block ≡ Some f → slice_index block 0 ≡ 2
  pub part_begins : (block : List ℕ) (b : PointerBlock) → all_of pointers_at block ≡ Some b → slice_index block 0 ≡ 4
  pub part : (f : FirstBlock) (part : ℕ) (block : List ℕ) (pointers : List (Option Place)) → told_in f part block ≡ Some pointers → TellsPart f part block pointers

part_bytes : BlockLaws → (view : View) (f : FirstBlock) (part : ℕ) (q : Place) (pointers : List (Option Place)) → InBlock view f part q pointers → HasBytes (view q)
part_bytes laws view f part q pointers x =
    let t = laws.part f part x.bytes pointers x.told in
    subst HasBytes (sym x.at) (bytes_begin x.bytes 3 (laws.part_begins x.bytes t.found t.read))

-- each of its places has a block
pub each_there : BlockLaws → OneName → (view : View) (p : Place) (c : CheckpointFields) → Tells view p c → (q : Place) → is_one_of (places_in view p) q ≡ true → HasBytes (view q)
each_there laws one view p c t q is =
    let f = t.first in
    let a = slice_index_or f.parts 0 None in
    let b = slice_index_or f.parts 1 None in
    let d = slice_index_or f.parts 2 None in
    let within : is_one_of (all_places a b d p) q ≡ true = ap (λ (places : List Place). is_one_of places q) (sym (places_are view p f (first_told view p c t))) ∙ is in
    elim (among a b d p one q within) [
      | inl e ↦ part_bytes laws view f 1 q t.one (in_block view f 1 a q t.one t.has_one e)
      | inr rest ↦ (elim rest [
        | inl e ↦ part_bytes laws view f 2 q t.two (in_block view f 2 b q t.two t.has_two e)
        | inr last ↦ (elim last [
          | inl e ↦ part_bytes laws view f 3 q t.three (in_block view f 3 d q t.three t.has_three e)
          | inr e ↦ subst HasBytes (sym (ap view (sym e) ∙ t.at)) (bytes_begin t.block 1 (laws.first_begins t.block f t.read))
        ])
      ])
    ]

pub blocks_there : BlockLaws → OneName → (held : Place → Option Stored) (o : ℕ) (p : Place) → IsSome (checkpoint_held held o p) → HasItsBlocks held o (Some p)
blocks_there laws one held o p told q is =
    let (c, found) = value_there (checkpoint_held held o p) told in
    each_there laws one (of_checkpoints o held) p c (tells (of_checkpoints o held) p c found) q is

-- the blocks of its parts
pub record PartsThere (held : Place → Option Stored) (o : ℕ) (f : FirstBlock) : Type 0 where
  pub one : IfSome (slice_index_or f.parts 0 None) (λ q. HasBytes (of_checkpoints o held q))
  pub two : IfSome (slice_index_or f.parts 1 None) (λ q. HasBytes (of_checkpoints o held q))
  pub three : IfSome (slice_index_or f.parts 2 None) (λ q. HasBytes (of_checkpoints o held q))

part_at : (view : View) (place : Option Place) → ((q : Place) → place ≡ Some q → HasBytes (view q)) → IfSome place (λ q. HasBytes (view q))
part_at view None at = tt
part_at view (Some q) at = at q refl

pub parts_there : (held : Place → Option Stored) (o : ℕ) (p : Place) (f : FirstBlock) → HasItsBlocks held o (Some p) → first_in (of_checkpoints o held) p ≡ Some f → PartsThere held o f
parts_there held o p f has is =
    let view = of_checkpoints o held in
    let a = slice_index_or f.parts 0 None in
    let b = slice_index_or f.parts 1 None in
    let d = slice_index_or f.parts 2 None in
    let at : (q : Place) → is_one_of (all_places a b d p) q ≡ true → HasBytes (view q) = λ q in_all. has q (ap (λ (places : List Place). is_one_of places q) (places_are view p f is) ∙ in_all) in
    record {
      one = part_at view a (λ q e. at q (in_one a b d p q e));
      two = part_at view b (λ q e. at q (in_two a b d p q e));
      three = part_at view d (λ q e. at q (in_three a b d p q e));
    }

-- the same of a log that is as it was
pub still_there : (before later : Log) (o : ℕ) (place slot : Option Place) → later ≡ before → place ≡ slot → IfSome slot (λ q. HasBytes (of_checkpoints o before.held q)) → IfSome place (λ q. HasBytes (of_checkpoints o later.held q))
still_there before later o place slot same is there =
    subst (λ (l : Log). IfSome place (λ q. HasBytes (of_checkpoints o l.held q))) (sym same) (subst (λ (x : Option Place). IfSome x (λ q. HasBytes (of_checkpoints o before.held q))) (sym is) there)

-- ---- no two of its blocks are one

no_kind_of_both : BlockLaws → (block : List ℕ) (f : FirstBlock) (b : PointerBlock) → all_of first_at block ≡ Some f → all_of pointers_at block ≡ Some b → ⊥
no_kind_of_both laws block f b first part = omega (arith, laws.first_begins block f first, laws.part_begins block b part)

-- a block that is part of two is the same part of both
one_part : BlockLaws → (view : View) (f : FirstBlock) (m n : ℕ) (q : Place) (xs ys : List (Option Place)) → InBlock view f m q xs → InBlock view f n q ys → m ≡ n
one_part laws view f m n q xs ys x y =
    let bytes : x.bytes ≡ y.bytes = same_Some _ _ (sym x.at ∙ y.at) in
    let s = laws.part f m x.bytes xs x.told in
    let t = laws.part f n y.bytes ys y.told in
    let found : s.found ≡ t.found = same_Some _ _ (sym s.read ∙ ap (all_of pointers_at) bytes ∙ t.read) in
    sym s.its_part ∙ ap (λ (b : PointerBlock). b.part) found ∙ t.its_part

not_first : BlockLaws → (view : View) (p : Place) (c : CheckpointFields) (t : Tells view p c) (n : ℕ) (q : Place) (xs : List (Option Place)) → InBlock view t.first n q xs → p ≡ q → ⊥
not_first laws view p c t n q xs x is =
    let bytes : t.block ≡ x.bytes = same_Some _ _ (sym t.at ∙ ap view is ∙ x.at) in
    let s = laws.part t.first n x.bytes xs x.told in
    no_kind_of_both laws x.bytes t.first s.found (ap (all_of first_at) (sym bytes) ∙ t.read) s.read

-- how often a place is one that may be there
abbrev counted : Option Place → Place → ℕ
counted None q = 0
counted (Some p) q = cond (same_place p q) 1 0

count_from : (f : Place → ℕ) (n : ℕ) (places : List Place) → fold (λ (a : ℕ) (x : Place). a + f x) n places ≡ n + fold (λ (a : ℕ) (x : Place). a + f x) 0 places
count_from f n [] = omega arith
count_from f n (p ∷ places) =
    let from = count_from f (n + f p) places in
    let none = count_from f (0 + f p) places in
    omega (arith, from, none)

count_more : (a : Option Place) (places : List Place) (q : Place) → count_by (λ (r : Place). same_place r q) (option_to_list a ++ places) ≡ counted a q + count_by (λ (r : Place). same_place r q) places
count_more None places q = omega arith
count_more (Some p) places q =
    let first : ℕ = cond (same_place p q) 1 0 in
    let none : 0 + first ≡ first = omega arith in
    ap (λ (n : ℕ). fold (λ (a : ℕ) (x : Place). a + cond (same_place x q) 1 0) n places) none ∙ count_from (λ (x : Place). cond (same_place x q) 1 0) first places

count_last : (p q : Place) → count_by (λ (r : Place). same_place r q) (p ∷ []) ≡ counted (Some p) q
count_last p q = omega arith

bit_few : (b : Bool) → cond b 1 0 ≤ 1
bit_few true = omega arith
bit_few false = omega arith

at_most_one : (a : Option Place) (q : Place) → counted a q ≤ 1
at_most_one None q = omega arith
at_most_one (Some p) q = bit_few (same_place p q)

here_or_not : OneName → (a : Option Place) (q : Place) → (a ≡ Some q) ⊎ (counted a q ≡ 0)
here_or_not one None q = inr refl
here_or_not one (Some p) q = elim (cases_Bool (same_place p q)) [
  | inl here ↦ inl (ap (λ (x : Place). Some x) (one p q here))
  | inr beside ↦ inr (ap (λ b. cond b 1 0) beside)
]

-- not both are at a place
apart : OneName → (a b : Option Place) (q : Place) → (a ≡ Some q → b ≡ Some q → ⊥) → (counted a q ≡ 0) ⊎ (counted b q ≡ 0)
apart one a b q never = elim (here_or_not one a q) [
  | inl first ↦ (elim (here_or_not one b q) [ inl second ↦ absurd (never first second) | inr none ↦ inr none ])
  | inr none ↦ inl none
]

four_apart : (x y z w : ℕ) → x ≤ 1 → y ≤ 1 → z ≤ 1 → w ≤ 1 → (x ≡ 0) ⊎ (y ≡ 0) → (x ≡ 0) ⊎ (z ≡ 0) → (x ≡ 0) ⊎ (w ≡ 0) → (y ≡ 0) ⊎ (z ≡ 0) → (y ≡ 0) ⊎ (w ≡ 0) → (z ≡ 0) ⊎ (w ≡ 0) → x + (y + (z + w)) ≤ 1
four_apart x y z w lx ly lz lw xy xz xw yz yw zw = elim xy [
  | inl x0 ↦ (elim yz [
    | inl y0 ↦ (elim zw [ inl z0 ↦ omega arith | inr w0 ↦ omega arith ])
    | inr z0 ↦ (elim yw [ inl y0 ↦ omega arith | inr w0 ↦ omega arith ])
  ])
  | inr y0 ↦ (elim xz [
    | inl x0 ↦ (elim zw [ inl z0 ↦ omega arith | inr w0 ↦ omega arith ])
    | inr z0 ↦ (elim xw [ inl x0 ↦ omega arith | inr w0 ↦ omega arith ])
  ])
]

pub places_apart : BlockLaws → OneName → (view : View) (p : Place) (c : CheckpointFields) → Tells view p c → (q : Place) → count_by (λ (r : Place). same_place r q) (places_in view p) ≤ 1
places_apart laws one view p c t q =
    let f = t.first in
    let a = slice_index_or f.parts 0 None in
    let b = slice_index_or f.parts 1 None in
    let d = slice_index_or f.parts 2 None in
    let in_a = λ (e : a ≡ Some q). in_block view f 1 a q t.one t.has_one e in
    let in_b = λ (e : b ≡ Some q). in_block view f 2 b q t.two t.has_two e in
    let in_d = λ (e : d ≡ Some q). in_block view f 3 d q t.three t.has_three e in
    let own = λ (e : Some p ≡ Some q). same_Some p q e in
    let ab = apart one a b q (λ x y. omega (arith, one_part laws view f 1 2 q t.one t.two (in_a x) (in_b y))) in
    let ad = apart one a d q (λ x y. omega (arith, one_part laws view f 1 3 q t.one t.three (in_a x) (in_d y))) in
    let bd = apart one b d q (λ x y. omega (arith, one_part laws view f 2 3 q t.two t.three (in_b x) (in_d y))) in
    let ap_ = apart one a (Some p) q (λ x y. not_first laws view p c t 1 q t.one (in_a x) (own y)) in
    let bp = apart one b (Some p) q (λ x y. not_first laws view p c t 2 q t.two (in_b x) (own y)) in
    let dp = apart one d (Some p) q (λ x y. not_first laws view p c t 3 q t.three (in_d x) (own y)) in
    let four = four_apart (counted a q) (counted b q) (counted d q) (counted (Some p) q) (at_most_one a q) (at_most_one b q) (at_most_one d q) (at_most_one (Some p) q) ab ad ap_ bd bp dp in
    let sum : count_by (λ (r : Place). same_place r q) (all_places a b d p) ≤ 1 =
    omega (arith, count_more a (option_to_list b ++ (option_to_list d ++ p ∷ [])) q, count_more b (option_to_list d ++ p ∷ []) q, count_more d (p ∷ []) q, count_last p q, four) in
    subst (λ (places : List Place). count_by (λ (r : Place). same_place r q) places ≤ 1) (sym (places_are view p f (first_told view p c t))) sum

pub once : BlockLaws → OneName → (held : Place → Option Stored) (o : ℕ) (p q : Place) → IsSome (checkpoint_held held o p) → count_by (λ (r : Place). same_place r q) (checkpoint_places held o p) ≤ 1
once laws one held o p q told =
    let (c, found) = value_there (checkpoint_held held o p) told in
    places_apart laws one (of_checkpoints o held) p c (tells (of_checkpoints o held) p c found) q

-- ---- moments

abbrev FirstSays : List ℕ → ℕ → Type 0
FirstSays bytes m = (f : FirstBlock) × (all_of first_at bytes ≡ Some f) × (f.moment ≡ m)

abbrev PartSays : List ℕ → ℕ → Type 0
PartSays bytes m = (b : PointerBlock) × (all_of pointers_at bytes ≡ Some b) × (b.moment ≡ m)

record SaysMoment (view : View) (q : Place) (m : ℕ) : Type 0 where
  bytes : List ℕ
  at : view q ≡ Some bytes
  says : FirstSays bytes m ⊎ PartSays bytes m

abbrev pub JoinedIs : Type 0
JoinedIs = (f : FirstBlock) (one two three : List (Option Place)) (c : CheckpointFields) → joined f one two three ≡ Some c → whole f (f.pointers ++ (one ++ (two ++ three))) ≡ c

moment_is : JoinedIs → (view : View) (p : Place) (c : CheckpointFields) (t : Tells view p c) → t.first.moment ≡ c.moment
moment_is law view p c t = ap (λ (d : CheckpointFields). d.moment) (law t.first t.one t.two t.three c t.joins)

part_says : BlockLaws → (view : View) (f : FirstBlock) (n m : ℕ) (q : Place) (xs : List (Option Place)) → InBlock view f n q xs → f.moment ≡ m → SaysMoment view q m
part_says laws view f n m q xs x is =
    let s = laws.part f n x.bytes xs x.told in
    record { bytes = x.bytes; at = x.at; says = inr (s.found, s.read, s.moment ∙ is) }

says_moment : BlockLaws → JoinedIs → OneName → (view : View) (p : Place) (c : CheckpointFields) → Tells view p c → (q : Place) → is_one_of (places_in view p) q ≡ true → SaysMoment view q c.moment
says_moment laws law one view p c t q is =
    let f = t.first in
    let m = moment_is law view p c t in
    let a = slice_index_or f.parts 0 None in
    let b = slice_index_or f.parts 1 None in
    let d = slice_index_or f.parts 2 None in
    let within : is_one_of (all_places a b d p) q ≡ true = ap (λ (places : List Place). is_one_of places q) (sym (places_are view p f (first_told view p c t))) ∙ is in
    elim (among a b d p one q within) [
      | inl e ↦ part_says laws view f 1 c.moment q t.one (in_block view f 1 a q t.one t.has_one e) m
      | inr rest ↦ (elim rest [
        | inl e ↦ part_says laws view f 2 c.moment q t.two (in_block view f 2 b q t.two t.has_two e) m
        | inr last ↦ (elim last [
          | inl e ↦ part_says laws view f 3 c.moment q t.three (in_block view f 3 d q t.three t.has_three e) m
          | inr e ↦ record { bytes = t.block; at = ap view (sym e) ∙ t.at; says = inl (f, t.read, m) }
        ])
      ])
    ]

same_moment : BlockLaws → (bytes : List ℕ) (m n : ℕ) → FirstSays bytes m ⊎ PartSays bytes m → FirstSays bytes n ⊎ PartSays bytes n → m ≡ n
same_moment laws bytes m n x y = elim x [
  | inl first ↦ (elim y [
    | inl other ↦ (let same : first.0 ≡ other.0 = same_Some _ _ (sym first.1 ∙ other.1) in sym first.2 ∙ ap (λ (f : FirstBlock). f.moment) same ∙ other.2)
    | inr part ↦ absurd (no_kind_of_both laws bytes first.0 part.0 first.1 part.1)
  ])
  | inr part ↦ (elim y [
    | inl first ↦ absurd (no_kind_of_both laws bytes first.0 part.0 first.1 part.1)
    | inr other ↦ (let same : part.0 ≡ other.0 = same_Some _ _ (sym part.1 ∙ other.1) in sym part.2 ∙ ap (λ (b : PointerBlock). b.moment) same ∙ other.2)
  ])
]

pub one_moment : BlockLaws → JoinedIs → OneName → (held : Place → Option Stored) (o : ℕ) (p r q : Place) (c d : CheckpointFields) → checkpoint_held held o p ≡ Some c → checkpoint_held held o r ≡ Some d → IsInBoth held o p r q → c.moment ≡ d.moment
one_moment laws law one held o p r q c d first second both =
    let view = of_checkpoints o held in
    let x = says_moment laws law one view p c (tells view p c first) q both.0 in
    let y = says_moment laws law one view r d (tells view r d second) q both.1 in
    let bytes : x.bytes ≡ y.bytes = same_Some _ _ (sym x.at ∙ y.at) in
    same_moment laws y.bytes c.moment d.moment (subst (λ (l : List ℕ). FirstSays l c.moment ⊎ PartSays l c.moment) bytes x.says) y.says
