-- The blocks of a checkpoint are written one after the other.
use Rattle.std.proofs.Common.{◌≡◌, inl, inr, ℕ, ◌+◌, ◌≤◌, ◌<◌, ◌==◌, Bool, true, false, List, [], ◌∷◌, ◌++◌, length, drop, Option, Some, None, is_some, IsSome, IfOk, IfErr, OnErr, MatchResult, Result, Ok, Err, refl, sym, ap, subst, ◌∙◌, append_assoc, arith}
use Rattle.std.specs.Prelude.{slice_index}
use Rattle.std.specs.Option.{option_to_list}
use Rattle.std.proofs.lemmas.Bool.{cases_Bool, false≢true}
use Rattle.std.proofs.lemmas.List.{length-drop}
use Rattle.s4_types.specs.Pointer.{Place}
use Rattle.s4_types.specs.declared.limits.TheConstants.{CHECKPOINT_POINTERS, CHECKPOINT_PARTS, OBJECT_BLOCKS}
use Rattle.s4_types.specs.declared.refusals.Refusal.{Refusal}
use Rattle.s4_types.specs.declared.refusals.Refusal.TheVariants.{NoSpace}
use Rattle.block_log.specs.Growth.{Puts}
use Rattle.block_log.specs.Taken.{TakesPlaces}
use Rattle.block_log.specs.Log.{Log, Stored, appended}
use Rattle.block_log.specs.declared.kinds.BlockKind.TheVariants.{Checkpoint, Pointers}
use Rattle.codec.specs.Fields.{◌>>=◌, all_of}
use Rattle.codec.specs.Checkpoint.{CheckpointFields, checkpoint_rules, holes}
use Rattle.codec.specs.FirstBlock.{SpellsFirst, first_at}
use Rattle.codec.specs.PointerBlock.{SpellsPointers, pointers_at}
use Rattle.codec.specs.Parts.{part_of, first_of, pointers_of, told_in, joined}
use Rattle.codec.specs.declared.first_blocks.FirstBlock.{FirstBlock}
use Rattle.codec.specs.declared.pointer_blocks.PointerBlock.{PointerBlock}
use Rattle.codec.specs.declared.inodes.Inode.{Inode}
use Rattle.checkpoint.specs.Held.{seen_of, is_checkpoint_kind, checkpoint_in, checkpoint_of, first_in, part_in, checkpoint_held, checkpoint_places, checkpoint_blocks, part_blocks, of_checkpoints, is_one_of, OnlyCheckpointChanged, PutsCheckpoint}
use Rattle.checkpoint.specs.private.Steps.{WritesPart}
use Rattle.checkpoint.proofs.OwnBlocks.{first_seen, pointers_seen, kinds_beside}
use Rattle.checkpoint.proofs.Places.{OneName, tested, alone, in_either, in_neither, all_places}
use Rattle.checkpoint.proofs.Reading.{places_are}

abbrev pub Held : Type 0
Held = Place → Option Stored

-- ---- what is put

-- Blocks of an object's checkpoints were put at places where nothing was held; all else is as it was.
pub record Grows (before : Held) (o : ℕ) (places : List Place) (after : Held) : Type 0 where
  pub fresh : (q : Place) → is_one_of places q ≡ true → before q ≡ None
  pub there : (q : Place) → is_one_of places q ≡ true → IsSome (after q)
  pub kept : (q : Place) → is_one_of places q ≡ false → after q ≡ before q
  pub others : OnlyCheckpointChanged o before after

pub put_grows : OneName → (before after : Log) (block : Stored) (p : Place) → is_checkpoint_kind block.kind ≡ true → Puts before block p after → Grows before.held block.object (p ∷ []) after.held
put_grows one before after block p own put = record {
  fresh = λ q is. sym (ap before.held (one p q (tested p q true is))) ∙ put.fresh;
  there = λ q is. ap is_some (sym (ap after.held (one p q (tested p q true is))) ∙ put.here);
  kept = λ q is. put.kept q (tested p q false is);
  others = λ k other beside i q. put.others k other q (kinds_beside k block.kind (block.object == other) own beside) i;
}

pub grows_more : (before between after : Held) (o : ℕ) (ps qs : List Place) → Grows before o ps between → Grows between o qs after → Grows before o (ps ++ qs) after
grows_more before between after o ps qs first second =
    let still : (q : Place) → is_one_of ps q ≡ true → is_one_of qs q ≡ false = λ q is. elim (cases_Bool (is_one_of qs q)) [
      | inl late ↦ absurd (false≢true (sym (ap is_some (second.fresh q late)) ∙ first.there q is))
      | inr beside ↦ beside
    ] in
    record {
      fresh = λ q is. elim (cases_Bool (is_one_of ps q)) [
        | inl early ↦ first.fresh q early
        | inr beside ↦ (elim (in_either ps qs q is) [
          | inl early ↦ first.fresh q early
          | inr late ↦ sym (first.kept q beside) ∙ second.fresh q late
        ])
      ];
      there = λ q is. elim (in_either ps qs q is) [
        | inl early ↦ ap is_some (second.kept q (still q early)) ∙ first.there q early
        | inr late ↦ second.there q late
      ];
      kept = λ q is. let no = in_neither ps qs q is in second.kept q no.1 ∙ first.kept q no.0;
      others = λ k other beside. second.others k other beside ∙ first.others k other beside;
    }

-- what was put before stays
pub stays : (before between after : Held) (o : ℕ) (ps qs : List Place) (q : Place) → Grows before o ps between → Grows between o qs after → is_one_of ps q ≡ true → after q ≡ between q
stays before between after o ps qs q first second is = elim (cases_Bool (is_one_of qs q)) [
  | inl late ↦ absurd (false≢true (sym (ap is_some (second.fresh q late)) ∙ first.there q is))
  | inr beside ↦ second.kept q beside
]

pub part_grows : OneName → (c : CheckpointFields) (part : ℕ) (before after : Log) (place : Option Place) → WritesPart c part before place after → Grows before.held c.object (option_to_list place) after.held
part_grows one c part before after None w =
    let same : after.held ≡ before.held = ap (λ (l : Log). l.held) w.1 in
    subst (Grows before.held c.object []) (sym same) (record { fresh = λ q is. absurd (false≢true is); there = λ q is. absurd (false≢true is); kept = λ q is. refl; others = λ k other beside. refl })
part_grows one c part before after (Some q) w = put_grows one before after (record { kind = Pointers; object = c.object; bytes = w.bytes }) q refl w.puts

pub part_named : (c : CheckpointFields) (part : ℕ) (before after : Log) (place : Option Place) → WritesPart c part before place after → after.named ≡ before.named
part_named c part before after None w = ap (λ (l : Log). l.named) w.1
part_named c part before after (Some q) w = w.puts.named

-- its place was the next one ahead
pub part_ahead : (c : CheckpointFields) (part : ℕ) (before after : Log) (place : Option Place) → WritesPart c part before place after → before.ahead ≡ option_to_list place ++ after.ahead
part_ahead c part before after None w = sym (ap (λ (l : Log). l.ahead) w.1)
part_ahead c part before after (Some q) w = w.puts.ahead

-- ---- what is read

-- Laws of what encodings are read as.
pub record ReadLaws : Type 0 where
  pub first : (block : List ℕ) (f : FirstBlock) → SpellsFirst block f → all_of first_at block ≡ Some f
  pub part : (block : List ℕ) (b : PointerBlock) → SpellsPointers block b → all_of pointers_at block ≡ Some b
  pub first_begins : (block : List ℕ) (f : FirstBlock) → all_of first_at block ≡ Some f → slice_index block 0 ≡ 2
  pub part_begins : (block : List ℕ) (b : PointerBlock) → all_of pointers_at block ≡ Some b → slice_index block 0 ≡ 4

-- Laws of the blocks of a checkpoint.
pub record WholeLaws : Type 0 where
  pub whole : (c : CheckpointFields) (parts : List (Option Place)) → checkpoint_rules c ≡ true → length c.inode.pointers ≡ OBJECT_BLOCKS
      → joined (first_of c parts) (part_of 1 c.inode.pointers) (part_of 2 c.inode.pointers) (part_of 3 c.inode.pointers) ≡ Some c
  pub told : (c : CheckpointFields) (parts : List (Option Place)) (part : ℕ) (b : PointerBlock) (block : List ℕ) → pointers_of c part ≡ Some b → SpellsPointers block b → told_in (first_of c parts) part block ≡ Some (part_of part c.inode.pointers)
  pub holes : (c : CheckpointFields) (part : ℕ) → part ≤ CHECKPOINT_PARTS → length c.inode.pointers ≡ OBJECT_BLOCKS → pointers_of c part ≡ None → part_of part c.inode.pointers ≡ holes CHECKPOINT_POINTERS

-- a part that was written is read
pub part_read : ReadLaws → WholeLaws → OneName → (c : CheckpointFields) (parts : List (Option Place)) (part : ℕ) (before between after : Log) (place : Option Place) (later : List Place)
    → part ≤ CHECKPOINT_PARTS → length c.inode.pointers ≡ OBJECT_BLOCKS → WritesPart c part before place between → Grows between.held c.object later after.held
    → part_in (of_checkpoints c.object after.held) (first_of c parts) part place ≡ Some (part_of part c.inode.pointers)
part_read read whole one c parts part before between after None later few len w grows = ap (λ (ps : List (Option Place)). Some ps) (sym (whole.holes c part few len w.0))
part_read read whole one c parts part before between after (Some q) later few len w grows =
    let own = part_grows one c part before between (Some q) w in
    let here : after.held q ≡ Some (record { kind = Pointers; object = c.object; bytes = w.bytes }) = stays before.held between.held after.held c.object (q ∷ []) later q own grows (alone q) ∙ w.puts.here in
    let begins = read.part_begins w.bytes w.block (read.part w.bytes w.block w.spells) in
    let seen : of_checkpoints c.object after.held q ≡ Some w.bytes = ap (seen_of c.object) here ∙ pointers_seen c.object w.bytes begins in
    ap (λ (b : Option (List ℕ)). b >>= told_in (first_of c parts) part) seen ∙ whole.told c parts part w.block w.bytes w.has w.spells

-- a first block that was written is read
pub first_read : ReadLaws → (c : CheckpointFields) (parts : List (Option Place)) (before after : Log) (bytes : List ℕ) (p : Place) → SpellsFirst bytes (first_of c parts)
    → Puts before (record { kind = Checkpoint; object = c.object; bytes = bytes }) p after → first_in (of_checkpoints c.object after.held) p ≡ Some (first_of c parts)
first_read read c parts before after bytes p spells put =
    let is = read.first bytes (first_of c parts) spells in
    let seen : of_checkpoints c.object after.held p ≡ Some bytes = ap (seen_of c.object) put.here ∙ first_seen c.object bytes (read.first_begins bytes (first_of c parts) is) in
    ap (λ (b : Option (List ℕ)). b >>= all_of first_at) seen ∙ is

-- ---- the whole

-- All blocks of a checkpoint were written.
pub record Written (c : CheckpointFields) (before : Log) (p : Place) (after : Log) : Type 0 where
  pub told : checkpoint_held after.held c.object p ≡ Some c
  pub puts : PutsCheckpoint before.held c.object p after.held
  pub order : before.ahead ≡ checkpoint_places after.held c.object p ++ after.ahead
  pub named : after.named ≡ before.named

module _ (read : ReadLaws) (whole : WholeLaws) (one : OneName) (c : CheckpointFields) (rules : checkpoint_rules c ≡ true) (len : length c.inode.pointers ≡ OBJECT_BLOCKS) (l0 l1 l2 l3 l4 : Log) (x y z : Option Place) (bytes : List ℕ) (p : Place)
    (first : WritesPart c 1 l0 x l1) (second : WritesPart c 2 l1 y l2) (third : WritesPart c 3 l2 z l3) (spells : SpellsFirst bytes (first_of c (x ∷ y ∷ z ∷ []))) (put : Puts l3 (record { kind = Checkpoint; object = c.object; bytes = bytes }) p l4) where
  parts : List (Option Place)
  parts = x ∷ y ∷ z ∷ []

  last_grows : Grows l3.held c.object (p ∷ []) l4.held
  last_grows = put_grows one l3 l4 (record { kind = Checkpoint; object = c.object; bytes = bytes }) p refl put

  from_two : Grows l2.held c.object (option_to_list z ++ p ∷ []) l4.held
  from_two = grows_more l2.held l3.held l4.held c.object (option_to_list z) (p ∷ []) (part_grows one c 3 l2 l3 z third) last_grows

  from_one : Grows l1.held c.object (option_to_list y ++ (option_to_list z ++ p ∷ [])) l4.held
  from_one = grows_more l1.held l2.held l4.held c.object (option_to_list y) (option_to_list z ++ p ∷ []) (part_grows one c 2 l1 l2 y second) from_two

  all_grow : Grows l0.held c.object (all_places x y z p) l4.held
  all_grow = grows_more l0.held l1.held l4.held c.object (option_to_list x) (option_to_list y ++ (option_to_list z ++ p ∷ [])) (part_grows one c 1 l0 l1 x first) from_one

  first_is : first_in (of_checkpoints c.object l4.held) p ≡ Some (first_of c (x ∷ y ∷ z ∷ []))
  first_is = first_read read c (x ∷ y ∷ z ∷ []) l3 l4 bytes p spells put

  tells_all : checkpoint_of (of_checkpoints c.object l4.held) (first_of c (x ∷ y ∷ z ∷ [])) ≡ Some c
  tells_all =
      let f = first_of c (x ∷ y ∷ z ∷ []) in
      let view = of_checkpoints c.object l4.held in
      let a = part_read read whole one c (x ∷ y ∷ z ∷ []) 1 l0 l1 l4 x (option_to_list y ++ (option_to_list z ++ p ∷ [])) (omega arith) len first from_one in
      let b = part_read read whole one c (x ∷ y ∷ z ∷ []) 2 l1 l2 l4 y (option_to_list z ++ p ∷ []) (omega arith) len second from_two in
      let d = part_read read whole one c (x ∷ y ∷ z ∷ []) 3 l2 l3 l4 z (p ∷ []) (omega arith) len third last_grows in
      (λ i. a i >>= λ u. b i >>= λ v. d i >>= λ w. joined f u v w) ∙ whole.whole c (x ∷ y ∷ z ∷ []) rules len

  held_told : checkpoint_held l4.held c.object p ≡ Some c
  unfolding checkpoint_in
  held_told = ap (λ (o : Option FirstBlock). o >>= checkpoint_of (of_checkpoints c.object l4.held)) first_is ∙ tells_all

  puts_all : PutsCheckpoint l0.held c.object p l4.held
  puts_all =
      let at : checkpoint_places l4.held c.object p ≡ all_places x y z p = places_are (of_checkpoints c.object l4.held) p (first_of c (x ∷ y ∷ z ∷ [])) first_is in
      let in_all = λ (q : Place) (b : Bool) (is : is_one_of (checkpoint_places l4.held c.object p) q ≡ b). ap (λ (places : List Place). is_one_of places q) (sym at) ∙ is in
      record {
        fresh = λ q is. all_grow.fresh q (in_all q true is);
        kept = λ q is. all_grow.kept q (in_all q false is);
        others = all_grow.others;
      }

  ahead_all : l0.ahead ≡ checkpoint_places l4.held c.object p ++ l4.ahead
  ahead_all =
      let xs = option_to_list x in
      let ys = option_to_list y in
      let zs = option_to_list z in
      let at : checkpoint_places l4.held c.object p ≡ all_places x y z p = places_are (of_checkpoints c.object l4.held) p (first_of c (x ∷ y ∷ z ∷ [])) first_is in
      part_ahead c 1 l0 l1 x first
      ∙ ap (λ (ps : List Place). xs ++ ps) (part_ahead c 2 l1 l2 y second ∙ ap (λ (ps : List Place). ys ++ ps) (part_ahead c 3 l2 l3 z third ∙ ap (λ (ps : List Place). zs ++ ps) put.ahead ∙ sym (append_assoc zs (p ∷ []) l4.ahead))
      ∙ sym (append_assoc ys (zs ++ p ∷ []) l4.ahead))
      ∙ sym (append_assoc xs (ys ++ (zs ++ p ∷ [])) l4.ahead)
      ∙ ap (λ (ps : List Place). ps ++ l4.ahead) (sym at)

  pub written : Written c l0 p l4
  written = record { told = held_told; puts = puts_all; order = ahead_all; named = put.named ∙ part_named c 3 l2 l3 z third ∙ part_named c 2 l1 l2 y second ∙ part_named c 1 l0 l1 x first }

abbrev pub AppendPuts : Type 0
AppendPuts = (before after : Log) (block : Stored) (p : Place) → appended before block ≡ Some (p, after) → before.held p ≡ None → Puts before block p after

-- the first block of an object, put last
abbrev pub first_stored : ℕ → List ℕ → Stored
first_stored o bytes = record { kind = Checkpoint; object = o; bytes = bytes }

-- the parts of a checkpoint were written, and its first block is encoded
pub record PartsWritten (c : CheckpointFields) (l0 l1 l2 l3 : Log) (x y z : Option Place) (bytes : List ℕ) : Type 0 where
  pub rules : checkpoint_rules c ≡ true
  pub len : length c.inode.pointers ≡ OBJECT_BLOCKS
  pub first : WritesPart c 1 l0 x l1
  pub second : WritesPart c 2 l1 y l2
  pub third : WritesPart c 3 l2 z l3
  pub spells : SpellsFirst bytes (first_of c (x ∷ y ∷ z ∷ []))

pub ok_written : ReadLaws → WholeLaws → OneName → AppendPuts → (c : CheckpointFields) (l0 l1 l2 l3 l4 : Log) (x y z : Option Place) (bytes : List ℕ) (o : ℕ) → o ≡ c.object → PartsWritten c l0 l1 l2 l3 x y z bytes
    → (r : Result Place Refusal) → IfOk r (λ p. appended l3 (first_stored o bytes) ≡ Some (p, l4)) → IfOk r (λ p. l3.held p ≡ None) → IfOk r (λ p. Written c l0 p l4)
ok_written read whole one law c l0 l1 l2 l3 l4 x y z bytes o is w (Ok p) put fresh =
    let puts : Puts l3 (first_stored c.object bytes) p l4 = subst (λ (n : ℕ). Puts l3 (first_stored n bytes) p l4) is (law l3 l4 (first_stored o bytes) p put fresh) in
    written read whole one c w.rules w.len l0 l1 l2 l3 l4 x y z bytes p w.first w.second w.third w.spells puts
ok_written read whole one law c l0 l1 l2 l3 l4 x y z bytes o is w (Err e) put fresh = tt

pub ok_told : (c : CheckpointFields) (l0 l4 : Log) (r : Result Place Refusal) → IfOk r (λ p. Written c l0 p l4) → IfOk r (λ p. checkpoint_held l4.held c.object p ≡ Some c)
ok_told c l0 l4 (Ok p) w = w.told
ok_told c l0 l4 (Err e) w = tt

pub ok_puts : (c : CheckpointFields) (l0 l4 : Log) (r : Result Place Refusal) → IfOk r (λ p. Written c l0 p l4) → IfOk r (λ p. PutsCheckpoint l0.held c.object p l4.held)
ok_puts c l0 l4 (Ok p) w = w.puts
ok_puts c l0 l4 (Err e) w = tt

pub ok_order : (c : CheckpointFields) (l0 l4 : Log) (r : Result Place Refusal) → IfOk r (λ p. Written c l0 p l4) → IfOk r (λ p. l0.ahead ≡ checkpoint_places l4.held c.object p ++ l4.ahead)
ok_order c l0 l4 (Ok p) w = w.order
ok_order c l0 l4 (Err e) w = tt

-- ---- places that are taken

abbrev pub AppendTakes : Type 0
AppendTakes = (before after : Log) (block : Stored) (p : Place) → appended before block ≡ Some (p, after) → TakesPlaces 1 before after

-- there was room for the last block
pub answers : (r : Result Place Refusal) (n m : ℕ) (l3 l4 : Log) → n ≤ m → 1 ≤ length l3.ahead → IfErr r (λ e. (e ≡ NoSpace) × ((length l3.ahead ≡ 0) × (l4 ≡ l3))) → MatchResult r (λ _. n ≤ m) (λ e. (e ≡ NoSpace) × (m < n))
answers (Ok p) n m l3 l4 room one full = room
answers (Err e) n m l3 l4 room one full = absurd (omega (arith, one, full.1.0))

pub no_error : (r : Result Place Refusal) (l0 l3 l4 : Log) → 1 ≤ length l3.ahead → IfErr r (λ e. (e ≡ NoSpace) × ((length l3.ahead ≡ 0) × (l4 ≡ l3))) → OnErr r (l4 ≡ l0)
no_error (Ok p) l0 l3 l4 one full = tt
no_error (Err e) l0 l3 l4 one full = absurd (omega (arith, one, full.1.0))

pub room_one : (i : Inode) (n : ℕ) → checkpoint_blocks i ≤ n → part_blocks i 1 + (part_blocks i 2 + (part_blocks i 3 + 1)) ≤ n
unfolding checkpoint_blocks
room_one i n room = room

abbrev pub AddUp : Type 0
AddUp = (n m : ℕ) (first second third : Log) → TakesPlaces n first second → TakesPlaces m second third → TakesPlaces (n + m) first third

pub takes_all : AddUp → (i : Inode) (l0 l1 l2 l3 l4 : Log) → TakesPlaces (part_blocks i 1) l0 l1 → TakesPlaces (part_blocks i 2) l1 l2 → TakesPlaces (part_blocks i 3) l2 l3 → TakesPlaces 1 l3 l4 → TakesPlaces (checkpoint_blocks i) l0 l4
unfolding checkpoint_blocks
takes_all law i l0 l1 l2 l3 l4 a b d last =
    law (part_blocks i 1) (part_blocks i 2 + (part_blocks i 3 + 1)) l0 l1 l4 a
    (law (part_blocks i 2) (part_blocks i 3 + 1) l1 l2 l4 b (law (part_blocks i 3) 1 l2 l3 l4 d last))

-- how many places are left
pub room_left : (n : ℕ) (before after : Log) → TakesPlaces n before after → (m : ℕ) → n + m ≤ length before.ahead → m ≤ length after.ahead
room_left n before after takes m room = let e : length after.ahead ≡ length (drop n before.ahead) = ap length takes.ahead in omega (arith, e, length-drop n before.ahead)

pub ok_takes : AddUp → AppendTakes → (i : Inode) (l0 l1 l2 l3 l4 : Log) (block : Stored) → TakesPlaces (part_blocks i 1) l0 l1 → TakesPlaces (part_blocks i 2) l1 l2 → TakesPlaces (part_blocks i 3) l2 l3
    → (r : Result Place Refusal) → IfOk r (λ p. appended l3 block ≡ Some (p, l4)) → IfOk r (λ _. TakesPlaces (checkpoint_blocks i) l0 l4)
ok_takes law append i l0 l1 l2 l3 l4 block a b d (Ok p) put = takes_all law i l0 l1 l2 l3 l4 a b d (append l3 l4 block p put)
ok_takes law append i l0 l1 l2 l3 l4 block a b d (Err e) put = tt
