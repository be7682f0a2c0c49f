-- A checkpoint of an object as small as those of the first version is read exactly where one block encodes it.
use Rattle.std.proofs.Common.{◌≡◌, ℕ, zero, suc, ◌*◌, ◌-◌, ◌≤◌, Bool, true, false, not, ltb, leb, ◌&&◌, ◌||◌, List, [], ◌∷◌, ◌++◌, length, take, drop, Option, Some, None, refl, sym, ap, subst, ◌∙◌, arith}
use Rattle.std.specs.Prelude.{replicate, is_none}
use Rattle.std.specs.Int.{w32, w64}
use Rattle.std.specs.List.{flat_map, AllByRecursion, list_all}
use Rattle.std.proofs.lemmas.Bool.{and_from, and_parts, leb-true, le-leb}
use Rattle.std.proofs.lemmas.List.{take_at, length-take}
use Rattle.s4_types.specs.Pointer.{Place}
use Rattle.s4_types.specs.declared.limits.TheConstants.{CHECKPOINT_POINTERS, CHECKPOINT_PARTS, OBJECT_BLOCKS, OBJECT_BYTES}
use Rattle.lemmas.proofs.Bytes.{IsBytes}
use Rattle.codec.specs.Fields.{◌>>=◌, number, zeros, slot, bit, kept, padded, all_of}
use Rattle.codec.specs.Checkpoint.{CheckpointFields, IsSlot, checkpoint_rules, holes, holes_past}
use Rattle.codec.specs.FirstBlock.{FirstNumbers, SpellsFirst, first_spelling, first_at}
use Rattle.codec.specs.Parts.{part_of, are_holes, first_of, pointers_of, whole, joined}
use Rattle.codec.specs.SmallCheckpoint.{SpellsSmallCheckpoint, small_spelling, small_checkpoint_in}
use Rattle.codec.specs.declared.first_blocks.FirstBlock.{FirstBlock}
use Rattle.codec.specs.declared.pointer_blocks.PointerBlock.{PointerBlock}
use Rattle.codec.specs.declared.versions.TheConstants.{FIRST_OBJECT_BYTES}
use Rattle.codec.proofs.Exact.{Exact, bind_some}
use Rattle.codec.proofs.FirstLaws.{first_field}
use Rattle.codec.proofs.PartLaws.{joins, joined_is, all_holes, holes_of, holes_are, numbers_of}
use Rattle.codec.proofs.Slots.{kept_is}
use Rattle.codec.proofs.Whole.{all_exact}

-- ---- pointers past the size

holes_from : (n size : ℕ) (ps : List (Option Place)) → holes_past size ps ≡ true → size ≤ 512 * n → are_holes (drop n ps) ≡ true
unfolding holes_past
holes_from zero size [] h le = refl
holes_from zero size (p ∷ ps) h le =
    let a = and_parts (ltb 0 size || is_none p) (holes_past (size - 512) ps) h in
    let none : size ≡ 0 = omega (arith, le) in
    let first : is_none p ≡ true = subst (λ (n : ℕ). (ltb 0 n || is_none p) ≡ true) none a.0 in
    and_from (is_none p) (list_all is_none ps) first (holes_from zero (size - 512) ps a.1 (omega (arith, none)))
holes_from (suc n) size [] h le = refl
holes_from (suc n) size (p ∷ ps) h le =
    let a = and_parts (ltb 0 size || is_none p) (holes_past (size - 512) ps) h in
    holes_from n (size - 512) ps a.1 (omega (arith, le))

some_holes : (n : ℕ) (ps : List (Option Place)) → are_holes ps ≡ true → are_holes (take n ps) ≡ true
some_holes zero ps h = refl
some_holes (suc n) [] h = refl
some_holes (suc n) (p ∷ ps) h =
    let a = and_parts (is_none p) (list_all is_none ps) h in
    and_from (is_none p) (list_all is_none (take n ps)) a.0 (some_holes n ps a.1)

rules_past : (c : CheckpointFields) → checkpoint_rules c ≡ true → holes_past c.inode.size c.inode.pointers ≡ true
unfolding checkpoint_rules
rules_past c e =
    let past = holes_past c.inode.size c.inode.pointers in
    let a = and_parts (leb 1 c.object) (leb 1 c.moment && (leb 1 c.inode.created && (leb c.inode.size OBJECT_BYTES && past))) e in
    let b = and_parts (leb 1 c.moment) (leb 1 c.inode.created && (leb c.inode.size OBJECT_BYTES && past)) a.1 in
    let d = and_parts (leb 1 c.inode.created) (leb c.inode.size OBJECT_BYTES && past) b.1 in
    (and_parts (leb c.inode.size OBJECT_BYTES) past d.1).1

-- a part behind the first has holes alone, where its pointers are past the size
part_holes : (c : CheckpointFields) (part : ℕ) → part ≤ CHECKPOINT_PARTS → length c.inode.pointers ≡ OBJECT_BLOCKS → checkpoint_rules c ≡ true → c.inode.size ≤ 512 * (CHECKPOINT_POINTERS * part) → part_of part c.inode.pointers ≡ holes CHECKPOINT_POINTERS
unfolding part_of
part_holes c part le len rules small =
    let ps = take CHECKPOINT_POINTERS (drop (CHECKPOINT_POINTERS * part) c.inode.pointers) in
    let none : are_holes ps ≡ true = some_holes CHECKPOINT_POINTERS (drop (CHECKPOINT_POINTERS * part) c.inode.pointers) (holes_from (CHECKPOINT_POINTERS * part) c.inode.size c.inode.pointers (rules_past c rules) small) in
    let made : PointerBlock = record { part = part; object = c.object; moment = c.moment; pointers = ps } in
    holes_of c part le len (ap (λ (b : Bool). kept (not b) made) none)

-- ---- the block

abbrev H : List (Option Place)
H = holes CHECKPOINT_POINTERS

abbrev no_parts : List (Option Place)
no_parts = replicate CHECKPOINT_PARTS None

no_bytes : flat_map slot no_parts ≡ zeros 24
unfolding slot zeros
no_bytes = refl

-- what comes before the pointers, and other bytes
abbrev before : FirstBlock → List ℕ → List ℕ
before f rest =
    2 ∷ bit f.alive ∷ length f.attribute ∷ 0 ∷ (number w32 f.size ++ (number w64 f.object ++ (number w64 f.moment ++ (number w64 f.created ++ (number w64 f.changed ++ (padded f.attribute ++ rest))))))

first_part : (front rest : List (Option Place)) → length front ≡ CHECKPOINT_POINTERS → part_of 0 (front ++ rest) ≡ front
unfolding part_of
first_part front rest len = take_at front rest CHECKPOINT_POINTERS len

spelled_small : (f : FirstBlock) (rest : List (Option Place)) → FirstNumbers f → are_holes f.parts ≡ true → first_spelling f ≡ small_spelling (whole f (f.pointers ++ rest))
unfolding first_spelling small_spelling
spelled_small f rest n none =
    let parts : flat_map slot f.parts ≡ zeros 24 = ap (flat_map slot) (all_holes f.parts CHECKPOINT_PARTS n.count_parts none) ∙ no_bytes in
    ap (λ (l : List ℕ). before f (flat_map slot f.pointers ++ l)) parts ∙ ap (λ (ps : List (Option Place)). before f (flat_map slot ps ++ zeros 24)) (sym (first_part f.pointers rest n.count))

spelled_first : (c : CheckpointFields) → small_spelling c ≡ first_spelling (first_of c no_parts)
unfolding first_spelling small_spelling
spelled_first c = ap (λ (l : List ℕ). before (first_of c no_parts) (flat_map slot (part_of 0 c.inode.pointers) ++ l)) (sym no_bytes)

some_in : (n : ℕ) (ps : List (Option Place)) → AllByRecursion IsSlot ps → AllByRecursion IsSlot (take n ps)
some_in zero ps h = tt
some_in (suc n) [] h = tt
some_in (suc n) (p ∷ ps) h = (h.0, some_in n ps h.1)

first_numbers : (block : List ℕ) (c : CheckpointFields) → SpellsSmallCheckpoint block c → FirstNumbers (first_of c no_parts)
unfolding part_of
first_numbers block c s =
    let n = s.numbers in
    record {
      object = n.object;
      moment = n.moment;
      size = n.inode.size;
      created = n.inode.created;
      changed = n.inode.changed;
      attribute = n.inode.attribute;
      count = omega (arith, length-take CHECKPOINT_POINTERS c.inode.pointers, n.inode.count);
      pointers = some_in CHECKPOINT_POINTERS c.inode.pointers n.inode.pointers;
      count_parts = refl;
      parts = (tt, (tt, (tt, tt)));
    }

abbrev joined_with : FirstBlock → Option CheckpointFields
joined_with f = joined f H H H

abbrev test_of : FirstBlock → Bool
test_of f = leb f.size FIRST_OBJECT_BYTES && are_holes f.parts

found : (block : List ℕ) (c : CheckpointFields) → IsBytes block → small_checkpoint_in block ≡ Some c → SpellsSmallCheckpoint block c
unfolding small_checkpoint_in
found block c h e =
    let a = bind_some (all_of first_at block) (λ f. kept (test_of f) f >>= joined_with) c e in
    let f = a.0 in
    let b = bind_some (kept (test_of f) f) joined_with c a.2 in
    let k = kept_is (test_of f) f b.0 b.1 in
    let t = and_parts (leb f.size FIRST_OBJECT_BYTES) (are_holes f.parts) k.0 in
    let j : joined_with f ≡ Some c = subst (λ (x : FirstBlock). joined_with x ≡ Some c) (sym k.1) b.2 in
    let s = (all_exact first_field).found block f h a.1 in
    let made = whole f (f.pointers ++ (H ++ (H ++ H))) in
    let rules : checkpoint_rules made ≡ true = (kept_is (checkpoint_rules made) made c j).0 in
    let spells : SpellsSmallCheckpoint block made = record {
      rules = rules;
      small = leb-true f.size FIRST_OBJECT_BYTES t.0;
      numbers = numbers_of f H H H s.0 holes_are holes_are holes_are;
      spelled = s.1 ∙ spelled_small f (H ++ (H ++ H)) s.0 t.1;
    } in
    subst (SpellsSmallCheckpoint block) (joined_is f H H H c j) spells

again : (block : List ℕ) (c : CheckpointFields) → SpellsSmallCheckpoint block c → small_checkpoint_in block ≡ Some c
unfolding small_checkpoint_in
again block c s =
    let f = first_of c no_parts in
    let len = s.numbers.inode.count in
    let read : all_of first_at block ≡ Some f = (all_exact first_field).again block f (first_numbers block c s, s.spelled ∙ spelled_first c) in
    let test : test_of f ≡ true = and_from (leb f.size FIRST_OBJECT_BYTES) true (le-leb f.size FIRST_OBJECT_BYTES s.small) refl in
    let one = part_holes c 1 (omega arith) len s.rules (omega (arith, s.small)) in
    let two = part_holes c 2 (omega arith) len s.rules (omega (arith, s.small)) in
    let three = part_holes c 3 (omega arith) len s.rules (omega (arith, s.small)) in
    ap (λ (o : Option FirstBlock). o >>= λ f. kept (test_of f) f >>= joined_with) read
    ∙ ap (λ (b : Bool). kept b f >>= joined_with) test
    ∙ ap (λ (ps : List (Option Place)). joined f ps H H) (sym one)
    ∙ ap (λ (ps : List (Option Place)). joined f (part_of 1 c.inode.pointers) ps H) (sym two)
    ∙ ap (λ (ps : List (Option Place)). joined f (part_of 1 c.inode.pointers) (part_of 2 c.inode.pointers) ps) (sym three)
    ∙ joins c no_parts s.rules len

pub small_exact : Exact small_checkpoint_in SpellsSmallCheckpoint
small_exact = record { found = found; again = again }
