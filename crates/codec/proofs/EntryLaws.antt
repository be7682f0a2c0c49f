-- An entry is read exactly where it is encoded.
use Rattle.std.proofs.Common.{◌≡◌, ℕ, zero, suc, ◌/◌, ◌%◌, ◌^◌, ◌<◌, ◌≤◌, Bool, true, false, eqb, ltb, leb, ◌&&◌, List, [], ◌∷◌, ◌++◌, length, Option, Some, None, refl, sym, ap, subst, ◌∙◌, append_assoc, arith}
use Rattle.std.specs.Prelude.{is_some}
use Rattle.std.specs.Int.{w16, w32, w64}
use Rattle.std.specs.List.{flat_map, list_all, AllByRecursion}
use Rattle.std.proofs.lemmas.Bool.{ltb-false, le-ltb, ltb-true, leb-true, le-leb, and_parts}
use Rattle.std.proofs.lemmas.Option.{same_Some}
use Rattle.s4_types.specs.declared.limits.TheConstants.{ENTRY_TRIPLES}
use Rattle.lemmas.proofs.Bytes.{bytes_rest, IsBytes}
use Rattle.codec.specs.Fields.{◌>>=◌, kept, number, slot, bit, byte_at, bytes_at, number_at, slot_at, many_at}
use Rattle.codec.specs.Entry.{EntryFields, EntryNumbers, IsEntry, IsPair, IsTriple, IsEntryBy, entry_rules, is_small, has_small_index, entry_rules_by, text, pair_spelling, index_spelling_by, triple_spelling_by, flags_byte, flags_of, entry_spelling, entry_spelling_by, flags_at, text_at, pair_at, index_at_by, triple_at_by, triples_at_by, checked_entry_by, entry_at, entry_at_by}
use Rattle.codec.specs.Checkpoint.{IsSlot}
use Rattle.codec.specs.Versions.{index_limit_by}
use Rattle.codec.specs.declared.versions.ImageVersion.{ImageVersion}
use Rattle.codec.specs.declared.versions.ImageVersion.TheVariants.{First, Second}
use Rattle.codec.specs.declared.versions.TheConstants.{FIRST_OBJECT_BLOCKS, FIRST_OBJECT_BYTES}
use Rattle.codec.specs.declared.entries.Triple.{Triple}
use Rattle.codec.specs.declared.entries.Pair.{Pair}
use Rattle.codec.specs.declared.entries.Flags.{Flags}
use Rattle.codec.proofs.Exact.{IsField, Exact, Then, Made, then_exact, made_exact, byte_field, bytes_field, short_field, word_field, long_field, passed, bind_some}
use Rattle.codec.proofs.Many.{AreMany, many_field}
use Rattle.codec.proofs.Slots.{slot_field, kept_is}

-- ---- flags

bit_is : (n : ℕ) → n < 2 → bit (eqb n 1) ≡ n
bit_is zero lt = refl
bit_is (suc zero) lt = refl
bit_is (suc (suc n)) lt = absurd (omega (arith, lt))

abbrev flags_in : ℕ → Flags
flags_in b = record { before = eqb (b % 2) 1; after = eqb (b / 2 % 2) 1; pair = eqb (b / 4) 1 }

flags_told : (b : ℕ) → b ≤ 7 → flags_byte (flags_in b) ≡ b
unfolding flags_byte
flags_told b le = omega (arith, bit_is (b % 2) (omega arith), bit_is (b / 2 % 2) (omega arith), bit_is (b / 4) (omega arith))

flags_whole : (bytes : List ℕ) (x : Flags × List ℕ) → flags_at bytes ≡ Some x → bytes ≡ flags_byte x.0 ∷ x.1
unfolding flags_at
flags_whole [] x e = absurd cc
flags_whole (b ∷ rest) x e =
    let p = passed (ltb 7 b) (Some (flags_in b, rest)) x e in
    let told : b ∷ rest ≡ flags_byte (flags_in b) ∷ rest = ap (λ (n : ℕ). n ∷ rest) (sym (flags_told b (ltb-false _ _ p.0))) in
    subst (λ (y : Flags × List ℕ). b ∷ rest ≡ flags_byte y.0 ∷ y.1) (same_Some _ _ p.1) told

flags_again : (before after pair : Bool) (rest : List ℕ) → flags_at (flags_byte (record { before = before; after = after; pair = pair }) ∷ rest) ≡ Some (record { before = before; after = after; pair = pair }, rest)
unfolding flags_at flags_byte
flags_again true true true rest = refl
flags_again true true false rest = refl
flags_again true false true rest = refl
flags_again true false false rest = refl
flags_again false true true rest = refl
flags_again false true false rest = refl
flags_again false false true rest = refl
flags_again false false false rest = refl

flags_field : IsField flags_at (λ f. flags_byte f ∷ []) (λ _. Unit {0})
flags_field = record { whole = λ bytes x h e. flags_whole bytes x e; fits = λ bytes x h e. tt; again = λ f rest _. flags_again f.before f.after f.pair rest }

-- ---- attributes

text_takes : (bytes : List ℕ) (x : List ℕ × List ℕ) → IsBytes bytes → text_at bytes ≡ Some x → (bytes ≡ text x.0 ++ x.1) × (length x.0 ≤ 64)
unfolding text_at text
text_takes bytes x h e =
    let a = bind_some (byte_at bytes) (λ len. bytes_at len.0 len.1 >>= λ found. kept (leb (length found.0) 64) found.0 >>= λ made. Some (made, found.1)) x e in
    let b = bind_some (bytes_at a.0.0 a.0.1) (λ found. kept (leb (length found.0) 64) found.0 >>= λ made. Some (made, found.1)) x a.2 in
    let c = bind_some (kept (leb (length b.0.0) 64) b.0.0) (λ made. Some (made, b.0.1)) x b.2 in
    let k = kept_is (leb (length b.0.0) 64) b.0.0 c.0 c.1 in
    let front = byte_field.whole bytes a.0 h a.1 in
    let behind = bytes_rest (a.0.0 ∷ []) a.0.1 bytes front h in
    let parts = (bytes_field a.0.0).whole a.0.1 b.0 behind b.1 in
    let size : length b.0.0 ≡ a.0.0 = (bytes_field a.0.0).fits a.0.1 b.0 behind b.1 in
    let told : bytes ≡ a.0.0 ∷ (b.0.0 ++ b.0.1) = front ∙ ap (λ (r : List ℕ). a.0.0 ∷ r) parts in
    let whole : bytes ≡ length b.0.0 ∷ (b.0.0 ++ b.0.1) = subst (λ (n : ℕ). bytes ≡ n ∷ (b.0.0 ++ b.0.1)) (sym size) told in
    let same : (b.0.0, b.0.1) ≡ x = ap (λ (y : List ℕ). (y, b.0.1)) k.1 ∙ same_Some _ _ c.2 in
    subst (λ (y : List ℕ × List ℕ). (bytes ≡ (length y.0 ∷ y.0) ++ y.1) × (length y.0 ≤ 64)) same (whole, leb-true _ _ k.0)

text_again : (a rest : List ℕ) → length a ≤ 64 → text_at (text a ++ rest) ≡ Some (a, rest)
unfolding text_at text
text_again a rest h =
    let low : leb (length a) 64 ≡ true = le-leb _ _ h in
    rw ((bytes_field (length a)).again a rest refl, low) refl

text_field : IsField text_at text (λ a. length a ≤ 64)
text_field = record { whole = λ bytes x h e. (text_takes bytes x h e).0; fits = λ bytes x h e. (text_takes bytes x h e).1; again = text_again }

-- there are two attributes, or none, as it was told
abbrev IsToldPair : Bool → Option Pair → Type 0
IsToldPair there pair = (is_some pair ≡ there) × IsPair pair

pair_takes : (there : Bool) (bytes : List ℕ) (x : Option Pair × List ℕ) → IsBytes bytes → pair_at there bytes ≡ Some x → (bytes ≡ pair_spelling x.0 ++ x.1) × IsToldPair there x.0
unfolding pair_at pair_spelling
pair_takes false bytes x h e = subst (λ (y : Option Pair × List ℕ). (bytes ≡ pair_spelling y.0 ++ y.1) × IsToldPair false y.0) (same_Some _ _ e) (refl, (refl, tt))
pair_takes true bytes x h e =
    let a = bind_some (text_at bytes) (λ before. text_at before.1 >>= λ after. Some (Some (record { before = before.0; after = after.0 }), after.1)) x e in
    let b = bind_some (text_at a.0.1) (λ after. Some (Some (record { before = a.0.0; after = after.0 }), after.1)) x a.2 in
    let front = text_field.whole bytes a.0 h a.1 in
    let behind = bytes_rest (text a.0.0) a.0.1 bytes front h in
    let parts = text_field.whole a.0.1 b.0 behind b.1 in
    let whole : bytes ≡ (text a.0.0 ++ text b.0.0) ++ b.0.1 = front ∙ ap (λ (r : List ℕ). text a.0.0 ++ r) parts ∙ sym (append_assoc (text a.0.0) (text b.0.0) b.0.1) in
    subst (λ (y : Option Pair × List ℕ). (bytes ≡ pair_spelling y.0 ++ y.1) × IsToldPair true y.0) (same_Some _ _ b.2) (whole, (refl, (text_field.fits bytes a.0 h a.1, text_field.fits a.0.1 b.0 behind b.1)))

pair_again : (there : Bool) (p : Option Pair) (rest : List ℕ) → IsToldPair there p → pair_at there (pair_spelling p ++ rest) ≡ Some (p, rest)
unfolding pair_at pair_spelling
pair_again false None rest h = refl
pair_again true None rest h = absurd (let e : false ≡ true = h.0 in cc)
pair_again false (Some p) rest h = absurd (let e : true ≡ false = h.0 in cc)
pair_again true (Some p) rest h = rw (append_assoc (text p.before) (text p.after) rest, text_field.again p.before (text p.after ++ rest) h.1.0, text_field.again p.after rest h.1.1) refl

pair_field : (there : Bool) → IsField (pair_at there) pair_spelling (IsToldPair there)
pair_field there = record { whole = λ bytes x h e. (pair_takes there bytes x h e).0; fits = λ bytes x h e. (pair_takes there bytes x h e).1; again = pair_again there }

-- ---- triples

index_field : (v : ImageVersion) → IsField (index_at_by v) (index_spelling_by v) (λ n. n < index_limit_by v)
index_field First = byte_field
index_field Second = short_field

-- the numbers of a triple are those that it has in an image of a version
record FitsBy (v : ImageVersion) (t : Triple) : Type 0 where
  index : t.index < index_limit_by v
  before : IsSlot t.before
  after : IsSlot t.after

triple_takes : (v : ImageVersion) (bytes : List ℕ) (x : Triple × List ℕ) → IsBytes bytes → triple_at_by v bytes ≡ Some x → (bytes ≡ triple_spelling_by v x.0 ++ x.1) × FitsBy v x.0
unfolding triple_at_by triple_spelling_by
triple_takes v bytes x h e =
    let a = bind_some (index_at_by v bytes) (λ index. slot_at index.1 >>= λ before. slot_at before.1 >>= λ after. Some (record { index = index.0; before = before.0; after = after.0 }, after.1)) x e in
    let b = bind_some (slot_at a.0.1) (λ before. slot_at before.1 >>= λ after. Some (record { index = a.0.0; before = before.0; after = after.0 }, after.1)) x a.2 in
    let c = bind_some (slot_at b.0.1) (λ after. Some (record { index = a.0.0; before = b.0.0; after = after.0 }, after.1)) x b.2 in
    let one = (index_field v).whole bytes a.0 h a.1 in
    let behind = bytes_rest (index_spelling_by v a.0.0) a.0.1 bytes one h in
    let two = slot_field.whole a.0.1 b.0 behind b.1 in
    let behind_two = bytes_rest (slot b.0.0) b.0.1 a.0.1 two behind in
    let three = slot_field.whole b.0.1 c.0 behind_two c.1 in
    let whole : bytes ≡ (index_spelling_by v a.0.0 ++ (slot b.0.0 ++ slot c.0.0)) ++ c.0.1 =
    one ∙ ap (λ (r : List ℕ). index_spelling_by v a.0.0 ++ r) (two ∙ ap (λ (r : List ℕ). slot b.0.0 ++ r) three ∙ sym (append_assoc (slot b.0.0) (slot c.0.0) c.0.1)) ∙ sym (append_assoc (index_spelling_by v a.0.0) (slot b.0.0 ++ slot c.0.0) c.0.1) in
    let numbers : FitsBy v (record { index = a.0.0; before = b.0.0; after = c.0.0 }) = record { index = (index_field v).fits bytes a.0 h a.1; before = slot_field.fits a.0.1 b.0 behind b.1; after = slot_field.fits b.0.1 c.0 behind_two c.1 } in
    subst (λ (y : Triple × List ℕ). (bytes ≡ (index_spelling_by v y.0.index ++ (slot y.0.before ++ slot y.0.after)) ++ y.1) × FitsBy v y.0) (same_Some _ _ c.2) (whole, numbers)

triple_again : (v : ImageVersion) (t : Triple) (rest : List ℕ) → FitsBy v t → triple_at_by v (triple_spelling_by v t ++ rest) ≡ Some (t, rest)
unfolding triple_at_by triple_spelling_by
triple_again v t rest h =
    rw (
      append_assoc (index_spelling_by v t.index) (slot t.before ++ slot t.after) rest,
      append_assoc (slot t.before) (slot t.after) rest,
      (index_field v).again t.index (slot t.before ++ (slot t.after ++ rest)) h.index,
      slot_field.again t.before (slot t.after ++ rest) h.before,
      slot_field.again t.after rest h.after,
    ) refl

triple_field : (v : ImageVersion) → IsField (triple_at_by v) (triple_spelling_by v) (FitsBy v)
triple_field v = record { whole = λ bytes x h e. (triple_takes v bytes x h e).0; fits = λ bytes x h e. (triple_takes v bytes x h e).1; again = triple_again v }

abbrev AreTriples : ImageVersion → ℕ → List Triple → Type 0
AreTriples v count triples = (count ≤ ENTRY_TRIPLES) × AreMany (FitsBy v) count triples

triples_takes : (v : ImageVersion) (count : ℕ) (bytes : List ℕ) (x : List Triple × List ℕ) → triples_at_by v count bytes ≡ Some x → (count ≤ ENTRY_TRIPLES) × (many_at (triple_at_by v) count bytes ≡ Some x)
unfolding triples_at_by
triples_takes v count bytes x e = let p = passed (ltb ENTRY_TRIPLES count) (many_at (triple_at_by v) count bytes) x e in (ltb-false _ _ p.0, p.1)

pub triples_few : (v : ImageVersion) (count : ℕ) (bytes : List ℕ) → count ≤ ENTRY_TRIPLES → triples_at_by v count bytes ≡ many_at (triple_at_by v) count bytes
unfolding triples_at_by
triples_few v count bytes le = let few : ltb ENTRY_TRIPLES count ≡ false = le-ltb _ _ le in rw few refl

triples_again : (v : ImageVersion) (count : ℕ) (triples : List Triple) (rest : List ℕ) → AreTriples v count triples → triples_at_by v count (flat_map (triple_spelling_by v) triples ++ rest) ≡ Some (triples, rest)
triples_again v count triples rest h = triples_few v count (flat_map (triple_spelling_by v) triples ++ rest) h.0 ∙ (many_field (triple_field v) count).again triples rest h.1

triples_field : (v : ImageVersion) (count : ℕ) → IsField (triples_at_by v count) (flat_map (triple_spelling_by v)) (AreTriples v count)
triples_field v count = record {
  whole = λ bytes x h e. (many_field (triple_field v) count).whole bytes x h (triples_takes v count bytes x e).1;
  fits = λ bytes x h e. let t = triples_takes v count bytes x e in (t.0, (many_field (triple_field v) count).fits bytes x h t.1);
  again = triples_again v count;
}

-- an index of one byte is one of two
widened : (v : ImageVersion) (t : Triple) → FitsBy v t → IsTriple t
widened First t h = record { index = omega (arith, h.index); before = h.before; after = h.after }
widened Second t h = record { index = h.index; before = h.before; after = h.after }

all_widened : (v : ImageVersion) (triples : List Triple) → AllByRecursion (FitsBy v) triples → AllByRecursion IsTriple triples
all_widened v [] h = tt
all_widened v (t ∷ triples) h = (widened v t h.0, all_widened v triples h.1)

-- indices that are below those of a small object's blocks are of one byte
all_small : (triples : List Triple) → list_all has_small_index triples ≡ true → AllByRecursion IsTriple triples → AllByRecursion (FitsBy First) triples
all_small [] small h = tt
all_small (t ∷ triples) small h =
    let s = and_parts (ltb t.index FIRST_OBJECT_BLOCKS) (list_all has_small_index triples) small in
    (record { index = omega (arith, ltb-true _ _ s.0); before = h.0.before; after = h.0.after }, all_small triples s.1 h.1)

small_triples : (e : EntryFields) → is_small e ≡ true → list_all has_small_index e.triples ≡ true
unfolding is_small
small_triples e h =
    let a = and_parts (leb e.before.size FIRST_OBJECT_BYTES) (leb e.after.size FIRST_OBJECT_BYTES && list_all has_small_index e.triples) h in
    (and_parts (leb e.after.size FIRST_OBJECT_BYTES) (list_all has_small_index e.triples) a.1).1

second_ones : (triples : List Triple) → AllByRecursion IsTriple triples → AllByRecursion (FitsBy Second) triples
second_ones [] h = tt
second_ones (t ∷ triples) h = (record { index = h.0.index; before = h.0.before; after = h.0.after }, second_ones triples h.1)

narrowed : (v : ImageVersion) (e : EntryFields) → entry_rules_by v e ≡ true → AllByRecursion IsTriple e.triples → AllByRecursion (FitsBy v) e.triples
narrowed First e rules h = all_small e.triples (small_triples e (and_parts (entry_rules e) (is_small e) rules).1) h
narrowed Second e rules h = second_ones e.triples h

-- ---- the entry

abbrev made_of : ℕ → Flags → ℕ → ℕ → ℕ → ℕ → Option Pair → List Triple → EntryFields
made_of moment flags size_before size_after changed_before changed_after pair triples =
    record { moment = moment; before = record { alive = flags.before; size = size_before; changed = changed_before }; after = record { alive = flags.after; size = size_after; changed = changed_after }; pair = pair; triples = triples }

abbrev IsLong : ℕ → Type 0
IsLong n = n < 2 ^ 64

abbrev IsWord : ℕ → Type 0
IsWord n = n < 2 ^ 32

abbrev says : ImageVersion → List ℕ → (EntryFields × List ℕ) → Type 0
says v =
    Then (number w64) IsLong (λ moment. Then (λ f. flags_byte f ∷ []) (λ _. Unit {0}) (λ flags. Then (λ b. b ∷ []) (λ b. b < 256) (λ count.
    Then (number w32) IsWord (λ size_before. Then (number w32) IsWord (λ size_after. Then (number w64) IsLong (λ changed_before. Then (number w64) IsLong (λ changed_after.
    Then pair_spelling (IsToldPair flags.pair) (λ pair. Then (flat_map (triple_spelling_by v)) (AreTriples v count) (λ triples.
    Made (checked_entry_by v (made_of moment flags size_before size_after changed_before changed_after pair triples)))))))))))

exact : (v : ImageVersion) → Exact (entry_at_by v) (says v)
unfolding entry_at_by
exact v =
    then_exact long_field (λ moment. then_exact flags_field (λ flags. then_exact byte_field (λ count.
    then_exact word_field (λ size_before. then_exact word_field (λ size_after. then_exact long_field (λ changed_before. then_exact long_field (λ changed_after.
    then_exact (pair_field flags.pair) (λ pair. then_exact (triples_field v count) (λ triples.
    made_exact (checked_entry_by v (made_of moment flags size_before size_after changed_before changed_after pair triples)))))))))))

-- the fields, with what comes after them
abbrev before : ImageVersion → ℕ → Flags → ℕ → ℕ → ℕ → ℕ → ℕ → Option Pair → List Triple → List ℕ → List ℕ
before v moment flags count size_before size_after changed_before changed_after pair triples rest =
    number w64 moment ++ (flags_byte flags ∷ count ∷ (number w32 size_before ++ (number w32 size_after ++ (number w64 changed_before ++ (number w64 changed_after ++ (pair_spelling pair ++ (flat_map (triple_spelling_by v) triples ++ rest)))))))

spelled_before : (v : ImageVersion) (e : EntryFields) (rest : List ℕ) → entry_spelling_by v e ++ rest ≡ before v e.moment (flags_of e) (length e.triples) e.before.size e.after.size e.before.changed e.after.changed e.pair e.triples rest
unfolding entry_spelling_by
spelled_before v e rest = simp append_assoc

takes : (v : ImageVersion) (bytes : List ℕ) (x : EntryFields × List ℕ) → IsBytes bytes → entry_at_by v bytes ≡ Some x → (bytes ≡ entry_spelling_by v x.0 ++ x.1) × IsEntryBy v x.0
takes v bytes x h e =
    let moment = (exact v).found bytes x h e in
    let flags = moment.after in
    let count = flags.after in
    let size_before = count.after in
    let size_after = size_before.after in
    let changed_before = size_after.after in
    let changed_after = changed_before.after in
    let pair = changed_after.after in
    let triples = pair.after in
    let made = made_of moment.value flags.value size_before.value size_after.value changed_before.value changed_after.value pair.value triples.value in
    let k = kept_is (entry_rules_by v made) made x.0 triples.after.is in
    let numbers : EntryNumbers made = record { moment = moment.fits; size_before = size_before.fits; size_after = size_after.fits; changed_before = changed_before.fits; changed_after = changed_after.fits; pair = pair.fits.1; count = omega (arith, triples.fits.0, triples.fits.1.0); triples = all_widened v triples.value triples.fits.1.1 } in
    let tail : count.rest ≡ number w32 size_before.value ++ (number w32 size_after.value ++ (number w64 changed_before.value ++ (number w64 changed_after.value ++ (pair_spelling pair.value ++ (flat_map (triple_spelling_by v) triples.value ++ x.1))))) =
    rw (size_before.whole, size_after.whole, changed_before.whole, changed_after.whole, pair.whole, triples.whole, triples.after.rest) refl in
    let head : bytes ≡ before v moment.value flags.value count.value size_before.value size_after.value changed_before.value changed_after.value pair.value triples.value x.1 =
    moment.whole ∙ ap (λ (r : List ℕ). number w64 moment.value ++ r) (flags.whole ∙ ap (λ (r : List ℕ). flags_byte flags.value ∷ r) (count.whole ∙ ap (λ (r : List ℕ). count.value ∷ r) tail)) in
    let told : flags_of made ≡ flags.value = ap (λ (b : Bool). record { before = flags.value.before; after = flags.value.after; pair = b }) pair.fits.0 in
    let counted : bytes ≡ before v moment.value flags.value (length triples.value) size_before.value size_after.value changed_before.value changed_after.value pair.value triples.value x.1 =
    head ∙ ap (λ (n : ℕ). before v moment.value flags.value n size_before.value size_after.value changed_before.value changed_after.value pair.value triples.value x.1) (sym triples.fits.1.0) in
    let whole : bytes ≡ entry_spelling_by v made ++ x.1 =
    counted ∙ ap (λ (f : Flags). before v moment.value f (length triples.value) size_before.value size_after.value changed_before.value changed_after.value pair.value triples.value x.1) (sym told) ∙ sym (spelled_before v made x.1) in
    subst (λ (d : EntryFields). (bytes ≡ entry_spelling_by v d ++ x.1) × IsEntryBy v d) k.1 (whole, (k.0, numbers))

made_is : (v : ImageVersion) (e : EntryFields) → entry_rules_by v e ≡ true → checked_entry_by v e ≡ Some e
made_is v e h = rw h refl

again : (v : ImageVersion) (e : EntryFields) (rest : List ℕ) → IsEntryBy v e → entry_at_by v (entry_spelling_by v e ++ rest) ≡ Some (e, rest)
again v e rest h =
    let n = h.1 in
    let r7 = flat_map (triple_spelling_by v) e.triples ++ rest in
    let r6 = pair_spelling e.pair ++ r7 in
    let r5 = number w64 e.after.changed ++ r6 in
    let r4 = number w64 e.before.changed ++ r5 in
    let r3 = number w32 e.after.size ++ r4 in
    let r2 = number w32 e.before.size ++ r3 in
    (exact v).again (entry_spelling_by v e ++ rest) (e, rest) (record {
      value = e.moment;
      rest = flags_byte (flags_of e) ∷ length e.triples ∷ r2;
      fits = n.moment;
      whole = spelled_before v e rest;
      after = record {
        value = flags_of e;
        rest = length e.triples ∷ r2;
        fits = tt;
        whole = refl;
        after = record {
          value = length e.triples;
          rest = r2;
          fits = omega (arith, n.count);
          whole = refl;
          after = record {
            value = e.before.size;
            rest = r3;
            fits = n.size_before;
            whole = refl;
            after = record {
              value = e.after.size;
              rest = r4;
              fits = n.size_after;
              whole = refl;
              after = record {
                value = e.before.changed;
                rest = r5;
                fits = n.changed_before;
                whole = refl;
                after = record {
                  value = e.after.changed;
                  rest = r6;
                  fits = n.changed_after;
                  whole = refl;
                  after = record {
                    value = e.pair;
                    rest = r7;
                    fits = (refl, n.pair);
                    whole = refl;
                    after = record {
                      value = e.triples;
                      rest = rest;
                      fits = (n.count, (refl, narrowed v e h.0 n.triples));
                      whole = refl;
                      after = record { is = made_is v e h.0; rest = refl };
                    };
                  };
                };
              };
            };
          };
        };
      };
    })

pub entry_field_by : (v : ImageVersion) → IsField (entry_at_by v) (entry_spelling_by v) (IsEntryBy v)
entry_field_by v = record { whole = λ bytes x h e. (takes v bytes x h e).0; fits = λ bytes x h e. (takes v bytes x h e).1; again = again v }

pub entry_field : IsField entry_at entry_spelling IsEntry
unfolding entry_at entry_spelling
entry_field = entry_field_by Second
