-- A checkpoint without blocks for its parts is what its first block encodes.
use Rattle.std.proofs.Common.{◌≡◌, ℕ, zero, suc, ◌≤◌, true, eqb, leb, ◌&&◌, List, [], ◌∷◌, ◌++◌, length, get_or, Option, Some, None, option_map, refl, sym, ap, ◌∙◌, subst, inl, inr, arith}
use Rattle.std.specs.Prelude.{slice_index, is_none}
use Rattle.std.proofs.lemmas.Bool.{cases_Bool, cond-true, cond-false, and_parts, and_from, leb-true, le-leb, eqb-true, eq-eqb, false≢true}
use Rattle.std.proofs.lemmas.Option.{none-some, same_Some, cond_some}
use Rattle.s4_types.specs.Pointer.{Place}
use Rattle.block_log.specs.Log.{Stored, of_kind}
use Rattle.block_log.specs.declared.kinds.BlockKind.TheVariants.{Checkpoint, Pointers}
use Rattle.codec.specs.Fields.{◌>>=◌, all_of, kept}
use Rattle.codec.specs.Checkpoint.{CheckpointFields, checkpoint_rules, holes}
use Rattle.codec.specs.FirstBlock.{first_at}
use Rattle.codec.specs.PointerBlock.{pointers_at}
use Rattle.codec.specs.Parts.{are_holes, told_in, whole, joined, TellsPart}
use Rattle.codec.specs.SmallCheckpoint.{small_checkpoint_in}
use Rattle.codec.specs.declared.first_blocks.FirstBlock.{FirstBlock}
use Rattle.codec.specs.declared.pointer_blocks.PointerBlock.{PointerBlock}
use Rattle.codec.specs.declared.versions.TheConstants.{FIRST_OBJECT_BYTES}
use Rattle.codec.proofs.Exact.{bind_some}
use Rattle.checkpoint.specs.Held.{checkpoint_held, checkpoint_in, checkpoint_of, of_checkpoints, or_others, begun_by, first_in, part_in}
use Rattle.journal_chain.proofs.Spelled.{bind_is}
use Rattle.image_objects.specs.OldCheckpoints.{AnOldCheckpointIsOneBlock}

-- what the crates below say of blocks of checkpoints
pub record Laws : Type 0 where
  pub first_begins : (block : List ℕ) (f : FirstBlock) → all_of first_at block ≡ Some f → slice_index block 0 ≡ 2
  pub part_begins : (block : List ℕ) (b : PointerBlock) → all_of pointers_at block ≡ Some b → slice_index block 0 ≡ 4
  pub part : (f : FirstBlock) (part : ℕ) (block : List ℕ) (pointers : List (Option Place)) → told_in f part block ≡ Some pointers → TellsPart f part block pointers
  pub parts : (block : List ℕ) (f : FirstBlock) → all_of first_at block ≡ Some f → length f.parts ≡ 3

abbrev View : Type 0
View = Place → Option (List ℕ)

-- ---- the blocks of the object's checkpoints are first blocks alone

no_others : (one other : Option (List ℕ)) → other ≡ None → or_others one other ≡ one
no_others None other none = none
no_others (Some bytes) other none = refl

seen : (used : Place → Option Stored) (o : ℕ) (q : Place) → of_kind Pointers o used q ≡ None → of_checkpoints o used q ≡ option_map (begun_by Checkpoint) (of_kind Checkpoint o used q)
seen used o q none =
    no_others (option_map (begun_by Checkpoint) (of_kind Checkpoint o used q)) (option_map (begun_by Pointers) (of_kind Pointers o used q)) (ap (λ (b : Option (List ℕ)). option_map (begun_by Pointers) b) none)

-- what a block that is seen begins with, if it begins with anything
begun : (bytes : List ℕ) (n : ℕ) → slice_index (begun_by Checkpoint bytes) 0 ≡ n → 0 ≤ n → (n ≡ 0 → ⊥) → (slice_index bytes 0 ≡ 2) × (n ≡ 2)
begun bytes n is low some = elim (cases_Bool (eqb (slice_index bytes 0) 2)) [
  | inl own ↦
      let two : slice_index bytes 0 ≡ 2 = eqb-true (slice_index bytes 0) 2 own in
      (two, sym is ∙ ap (λ (b : List ℕ). slice_index b 0) (cond-true (eqb (slice_index bytes 0) 2) bytes [] own) ∙ two)
  | inr other ↦ absurd (some (sym is ∙ ap (λ (b : List ℕ). slice_index b 0) (cond-false (eqb (slice_index bytes 0) 2) bytes [] other)))
]

begun_whole : (bytes : List ℕ) → slice_index bytes 0 ≡ 2 → begun_by Checkpoint bytes ≡ bytes
begun_whole bytes is = cond-true (eqb (slice_index bytes 0) 2) bytes [] (eq-eqb (slice_index bytes 0) 2 is)

-- a block that is seen at all is one of the kind
mapped_some : (k : Option (List ℕ)) (block : List ℕ) → option_map (begun_by Checkpoint) k ≡ Some block → (bytes : List ℕ) × ((k ≡ Some bytes) × (begun_by Checkpoint bytes ≡ block))
mapped_some None block is = absurd (none-some block is)
mapped_some (Some bytes) block is = (bytes, (refl, same_Some (begun_by Checkpoint bytes) block is))

no_part : Laws → (k : Option (List ℕ)) (f : FirstBlock) (part : ℕ) (pointers : List (Option Place)) → (option_map (begun_by Checkpoint) k >>= told_in f part) ≡ Some pointers → ⊥
no_part laws k f part pointers is =
    let (block, there, tells) = bind_some (option_map (begun_by Checkpoint) k) (told_in f part) pointers is in
    let (bytes, (here, same)) = mapped_some k block there in
    let t : TellsPart f part block pointers = laws.part f part block pointers tells in
    let four : slice_index (begun_by Checkpoint bytes) 0 ≡ 4 = ap (λ (b : List ℕ). slice_index b 0) same ∙ laws.part_begins block t.found t.read in
    let both = begun bytes 4 four (omega arith) (λ e. omega (arith, e)) in
    omega (arith, both.1)

-- a part that is told is no block's
hole_told : Laws → (used : Place → Option Stored) (o : ℕ) → ((q : Place) → of_kind Pointers o used q ≡ None) → (f : FirstBlock) (part : ℕ) (place : Option Place) (pointers : List (Option Place))
    → part_in (of_checkpoints o used) f part place ≡ Some pointers → (place ≡ None) × (pointers ≡ holes 48)
hole_told laws used o none f part None pointers is = (refl, sym (same_Some (holes 48) pointers is))
hole_told laws used o none f part (Some q) pointers is =
    absurd (no_part laws (of_kind Checkpoint o used q) f part pointers (ap (λ (b : Option (List ℕ)). b >>= told_in f part) (sym (seen used o q (none q))) ∙ is))

-- ---- holes

all_holes : (parts : List (Option Place)) → length parts ≡ 3 → get_or parts 0 None ≡ None → get_or parts 1 None ≡ None → get_or parts 2 None ≡ None → are_holes parts ≡ true
all_holes [] count a b c = refl
all_holes (x ∷ []) count a b c = ap (λ (s : Option Place). is_none s && true) a
all_holes (x ∷ y ∷ []) count a b c = ap (λ (s : Option Place). is_none s && (is_none y && true)) a ∙ ap (λ (s : Option Place). is_none s && true) b
all_holes (x ∷ y ∷ z ∷ []) count a b c = ap (λ (s : Option Place). is_none s && (is_none y && (is_none z && true))) a ∙ ap (λ (s : Option Place). is_none s && (is_none z && true)) b ∙ ap (λ (s : Option Place). is_none s && true) c
all_holes (x ∷ y ∷ z ∷ w ∷ rest) count a b c = absurd (omega (arith, count))

is_hole : (s : Option Place) → is_none s ≡ true → s ≡ None
is_hole None h = refl
is_hole (Some q) h = absurd (false≢true h)

each_hole : (parts : List (Option Place)) (n : ℕ) → are_holes parts ≡ true → get_or parts n None ≡ None
each_hole [] n h = refl
each_hole (x ∷ parts) zero h = is_hole x (and_parts (is_none x) (are_holes parts) h).0
each_hole (x ∷ parts) (suc n) h = each_hole parts n (and_parts (is_none x) (are_holes parts) h).1

-- ---- one block

-- the checkpoint of a first block that has holes for parts
abbrev alone : FirstBlock → Option CheckpointFields
alone f = joined f (holes 48) (holes 48) (holes 48)

size_of : (f : FirstBlock) (c : CheckpointFields) → alone f ≡ Some c → c.inode.size ≡ f.size
size_of f c is =
    let w : CheckpointFields = whole f (f.pointers ++ (holes 48 ++ (holes 48 ++ holes 48))) in
    ap (λ (k : CheckpointFields). k.inode.size) (sym (cond_some (checkpoint_rules w) w c is).1)

small_of : (f : FirstBlock) (bytes : List ℕ) (c : CheckpointFields) → all_of first_at bytes ≡ Some f → f.size ≤ FIRST_OBJECT_BYTES → are_holes f.parts ≡ true → alone f ≡ Some c → small_checkpoint_in bytes ≡ Some c
unfolding small_checkpoint_in
small_of f bytes c read small none is =
    ap (λ (o : Option FirstBlock). o >>= λ g. kept (leb g.size FIRST_OBJECT_BYTES && are_holes g.parts) g >>= λ h. alone h) read
    ∙ ap (λ b. kept b f >>= λ h. alone h) (and_from (leb f.size FIRST_OBJECT_BYTES) (are_holes f.parts) (le-leb f.size FIRST_OBJECT_BYTES small) none)
    ∙ is

-- what a small checkpoint's block has
record Small (bytes : List ℕ) (c : CheckpointFields) : Type 0 where
  first : FirstBlock
  read : all_of first_at bytes ≡ Some first
  small : first.size ≤ FIRST_OBJECT_BYTES
  none : are_holes first.parts ≡ true
  is : alone first ≡ Some c

small_is : (bytes : List ℕ) (c : CheckpointFields) → small_checkpoint_in bytes ≡ Some c → Small bytes c
unfolding small_checkpoint_in
small_is bytes c is =
    let (f, read, rest) = bind_some (all_of first_at bytes) (λ g. kept (leb g.size FIRST_OBJECT_BYTES && are_holes g.parts) g >>= λ h. alone h) c is in
    let (g, test, made) = bind_some (kept (leb f.size FIRST_OBJECT_BYTES && are_holes f.parts) f) (λ h. alone h) c rest in
    let t = cond_some (leb f.size FIRST_OBJECT_BYTES && are_holes f.parts) f g test in
    let both = and_parts (leb f.size FIRST_OBJECT_BYTES) (are_holes f.parts) t.0 in
    record {
      first = f;
      read = read;
      small = leb-true f.size FIRST_OBJECT_BYTES both.0;
      none = both.1;
      is = ap alone t.1 ∙ made;
    }

-- ---- both ways

to_small : Laws → (used : Place → Option Stored) (o : ℕ) (p : Place) (c : CheckpointFields) → ((q : Place) → of_kind Pointers o used q ≡ None) → checkpoint_held used o p ≡ Some c → c.inode.size ≤ FIRST_OBJECT_BYTES
    → (of_kind Checkpoint o used p >>= small_checkpoint_in) ≡ Some c
unfolding checkpoint_in
to_small laws used o p c none is small =
    let view : View = of_checkpoints o used in
    let (f, there, rest) = bind_some (first_in view p) (checkpoint_of view) c is in
    let (one, has_one, rest_one) = bind_some (part_in view f 1 (get_or f.parts 0 None)) (λ x. part_in view f 2 (get_or f.parts 1 None) >>= λ y. part_in view f 3 (get_or f.parts 2 None) >>= λ z. joined f x y z) c rest in
    let (two, has_two, rest_two) = bind_some (part_in view f 2 (get_or f.parts 1 None)) (λ y. part_in view f 3 (get_or f.parts 2 None) >>= λ z. joined f one y z) c rest_one in
    let (three, has_three, made) = bind_some (part_in view f 3 (get_or f.parts 2 None)) (λ z. joined f one two z) c rest_two in
    let first = hole_told laws used o none f 1 (get_or f.parts 0 None) one has_one in
    let second = hole_told laws used o none f 2 (get_or f.parts 1 None) two has_two in
    let third = hole_told laws used o none f 3 (get_or f.parts 2 None) three has_three in
    let whole_is : alone f ≡ Some c =
    ap (λ (x : List (Option Place)). joined f x (holes 48) (holes 48)) (sym first.1)
    ∙ ap (λ (y : List (Option Place)). joined f one y (holes 48)) (sym second.1)
    ∙ ap (λ (z : List (Option Place)). joined f one two z) (sym third.1) ∙ made in
    let (block, at, read) = bind_some (view p) (all_of first_at) f there in
    let (bytes, (here, same)) = mapped_some (of_kind Checkpoint o used p) block (sym (seen used o p (none p)) ∙ at) in
    let two_first : slice_index (begun_by Checkpoint bytes) 0 ≡ 2 = ap (λ (b : List ℕ). slice_index b 0) same ∙ laws.first_begins block f read in
    let begins : slice_index bytes 0 ≡ 2 = (begun bytes 2 two_first (omega arith) (λ e. omega (arith, e))).0 in
    let block_is : block ≡ bytes = sym same ∙ begun_whole bytes begins in
    let reads : all_of first_at bytes ≡ Some f = ap (λ (b : List ℕ). all_of first_at b) (sym block_is) ∙ read in
    let parts : are_holes f.parts ≡ true = all_holes f.parts (laws.parts bytes f reads) first.0 second.0 third.0 in
    let few : f.size ≤ FIRST_OBJECT_BYTES = subst (λ n. n ≤ FIRST_OBJECT_BYTES) (size_of f c whole_is) small in
    bind_is (of_kind Checkpoint o used p) small_checkpoint_in bytes here ∙ small_of f bytes c reads few parts whole_is

part_is : (view : View) (f : FirstBlock) (part n : ℕ) → are_holes f.parts ≡ true → part_in view f part (get_or f.parts n None) ≡ Some (holes 48)
part_is view f part n none = ap (part_in view f part) (each_hole f.parts n none)

from_small : Laws → (used : Place → Option Stored) (o : ℕ) (p : Place) (c : CheckpointFields) → ((q : Place) → of_kind Pointers o used q ≡ None) → (of_kind Checkpoint o used p >>= small_checkpoint_in) ≡ Some c
    → (checkpoint_held used o p ≡ Some c) × (c.inode.size ≤ FIRST_OBJECT_BYTES)
unfolding checkpoint_in
from_small laws used o p c none is =
    let view : View = of_checkpoints o used in
    let (bytes, here, encodes) = bind_some (of_kind Checkpoint o used p) small_checkpoint_in c is in
    let s : Small bytes c = small_is bytes c encodes in
    let f = s.first in
    let at : view p ≡ Some bytes = seen used o p (none p) ∙ ap (λ (b : Option (List ℕ)). option_map (begun_by Checkpoint) b) here ∙ ap Some (begun_whole bytes (laws.first_begins bytes f s.read)) in
    let first : first_in view p ≡ Some f = bind_is (view p) (all_of first_at) bytes at ∙ s.read in
    let parts : checkpoint_of view f ≡ alone f =
    bind_is (part_in view f 1 (get_or f.parts 0 None)) (λ x. part_in view f 2 (get_or f.parts 1 None) >>= λ y. part_in view f 3 (get_or f.parts 2 None) >>= λ z. joined f x y z) (holes 48) (part_is view f 1 0 s.none)
    ∙ bind_is (part_in view f 2 (get_or f.parts 1 None)) (λ y. part_in view f 3 (get_or f.parts 2 None) >>= λ z. joined f (holes 48) y z) (holes 48) (part_is view f 2 1 s.none)
    ∙ bind_is (part_in view f 3 (get_or f.parts 2 None)) (λ z. joined f (holes 48) (holes 48) z) (holes 48) (part_is view f 3 2 s.none) in
    (bind_is (first_in view p) (checkpoint_of view) f first ∙ parts ∙ s.is, subst (λ n. n ≤ FIRST_OBJECT_BYTES) (sym (size_of f c s.is)) s.small)

pub one_block : Laws → AnOldCheckpointIsOneBlock
one_block laws used o p c none = (λ h. to_small laws used o p c none h.0 h.1, λ is. from_small laws used o p c none is)
