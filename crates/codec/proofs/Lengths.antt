-- How long the spellings are, and that each is read in one way.
use Rattle.std.proofs.Common.{◌≡◌, ℕ, ◌+◌, ◌*◌, ◌≤◌, List, [], ◌∷◌, ◌++◌, length, Option, Some, None, refl, sym, ap, ◌∙◌, arith, length-append, mul-suc}
use Rattle.std.specs.Int.{w16, w32, w64}
use Rattle.std.specs.List.{flat_map}
use Rattle.std.proofs.lemmas.Option.{same_Some}
use Rattle.s4_types.specs.Pointer.{Place}
use Rattle.s4_types.specs.declared.limits.TheConstants.{TRIPLE_BYTES, SHORTEST_ENTRY_BYTES, ATTRIBUTE_PAIR_BYTES, LONGEST_ENTRY_BYTES, JOURNAL_ENTRY_BYTES, JOURNAL_ENTRIES}
use Rattle.codec.specs.Fields.{number, zeros, slot}
use Rattle.codec.specs.Entry.{EntryFields, IsEntry, IsPair, text, pair_spelling, index_spelling_by, triple_spelling_by, flags_byte, flags_of, entry_spelling, entry_spelling_by, pair_length, entry_length, entry_length_by, entries_length, entries_length_by}
use Rattle.codec.specs.Versions.{triple_bytes_by}
use Rattle.codec.specs.declared.versions.ImageVersion.{ImageVersion}
use Rattle.codec.specs.declared.versions.ImageVersion.TheVariants.{First, Second}
use Rattle.codec.specs.declared.entries.Triple.{Triple}
use Rattle.codec.specs.declared.entries.Pair.{Pair}
use Rattle.codec.proofs.Exact.{IsField}

-- what one text begins with in two ways is one thing
pub one_reading : {A : Type 0} {read : List ℕ → Option (A × List ℕ)} {write : A → List ℕ} {Fits : A → Type 0} → IsField read write Fits → (bytes : List ℕ) (a b : A) (rest behind : List ℕ)
    → Fits a × (bytes ≡ write a ++ rest) → Fits b × (bytes ≡ write b ++ behind) → ◌≡◌ {A = A × List ℕ} (a, rest) (b, behind)
one_reading {read = read} field bytes a b rest behind p q =
    same_Some (a, rest) (b, behind) (sym (ap read p.1 ∙ field.again a rest p.0) ∙ ap read q.1 ∙ field.again b behind q.0)

pub long_length : (n : ℕ) → length (number w64 n) ≡ 8
unfolding number
long_length n = refl

pub short_length : (n : ℕ) → length (number w16 n) ≡ 2
unfolding number
short_length n = refl

word_length : (n : ℕ) → length (number w32 n) ≡ 4
unfolding number
word_length n = refl

pub slot_length : (p : Option Place) → length (slot p) ≡ 8
unfolding slot zeros number
slot_length None = refl
slot_length (Some p) = refl

pair_is : (pair : Option Pair) → length (pair_spelling pair) ≡ pair_length pair
unfolding pair_spelling pair_length text
pair_is None = refl
pair_is (Some p) = omega (arith, length-append (length p.before ∷ p.before) (length p.after ∷ p.after))

-- a triple has two pointers, and an index in the bytes that are left
index_is : (v : ImageVersion) (n : ℕ) → length (index_spelling_by v n) + 16 ≡ triple_bytes_by v
index_is First n = refl
index_is Second n = omega (arith, short_length n)

triple_is : (v : ImageVersion) (t : Triple) → length (triple_spelling_by v t) ≡ triple_bytes_by v
unfolding triple_spelling_by
triple_is v t =
    omega (
      arith,
      length-append (index_spelling_by v t.index) (slot t.before ++ slot t.after),
      length-append (slot t.before) (slot t.after),
      index_is v t.index,
      slot_length t.before,
      slot_length t.after,
    )

-- each has as many bytes
all_are : {A : Type 0} (write : A → List ℕ) (n : ℕ) → ((a : A) → length (write a) ≡ n) → (xs : List A) → length (flat_map write xs) ≡ n * length xs
all_are write n is [] = omega arith
all_are write n is (x ∷ xs) = omega (arith, length-append (write x) (flat_map write xs), is x, all_are write n is xs, mul-suc n (length xs))

pub entry_is_by : (v : ImageVersion) (e : EntryFields) → length (entry_spelling_by v e) ≡ entry_length_by v e
unfolding entry_spelling_by entry_length_by
entry_is_by v e =
    let triples = flat_map (triple_spelling_by v) e.triples in
    let r1 = pair_spelling e.pair ++ triples in
    let r2 = number w64 e.after.changed ++ r1 in
    let r3 = number w64 e.before.changed ++ r2 in
    let r4 = number w32 e.after.size ++ r3 in
    let r5 = number w32 e.before.size ++ r4 in
    omega (
      arith,
      length-append (number w64 e.moment) (flags_byte (flags_of e) ∷ length e.triples ∷ r5),
      length-append (number w32 e.before.size) r4,
      length-append (number w32 e.after.size) r3,
      length-append (number w64 e.before.changed) r2,
      length-append (number w64 e.after.changed) r1,
      length-append (pair_spelling e.pair) triples,
      long_length e.moment,
      word_length e.before.size,
      word_length e.after.size,
      long_length e.before.changed,
      long_length e.after.changed,
      pair_is e.pair,
      all_are (triple_spelling_by v) (triple_bytes_by v) (triple_is v) e.triples,
    )

pub entry_is : (e : EntryFields) → length (entry_spelling e) ≡ entry_length e
unfolding entry_spelling entry_length entry_length_by
entry_is e = entry_is_by Second e

pub entry_least : (e : EntryFields) → SHORTEST_ENTRY_BYTES ≤ entry_length e
unfolding entry_length
entry_least e = omega arith

pair_most : (pair : Option Pair) → IsPair pair → pair_length pair ≤ ATTRIBUTE_PAIR_BYTES
unfolding pair_length
pair_most None h = omega arith
pair_most (Some p) h = omega (arith, h.0, h.1)

pub entry_most : (e : EntryFields) → IsEntry e → entry_length e ≤ LONGEST_ENTRY_BYTES
unfolding entry_length
entry_most e h = omega (arith, pair_most e.pair h.1.pair, h.1.count)

entries_least : (entries : List EntryFields) → SHORTEST_ENTRY_BYTES * length entries ≤ entries_length entries
unfolding entries_length
entries_least [] = omega arith
entries_least (e ∷ entries) = omega (arith, entry_least e, entries_least entries)

pub fourteen : (entries : List EntryFields) → entries_length entries ≤ JOURNAL_ENTRY_BYTES → length entries ≤ JOURNAL_ENTRIES
fourteen entries h = omega (arith, h, entries_least entries)

pub entry_least_by : (v : ImageVersion) (e : EntryFields) → SHORTEST_ENTRY_BYTES ≤ entry_length_by v e
unfolding entry_length_by
entry_least_by v e = omega arith

-- by the version that has the smaller triples
pub length_next : (v : ImageVersion) (e : EntryFields) (entries : List EntryFields) → entries_length_by v (e ∷ entries) ≡ entry_length_by v e + entries_length_by v entries
unfolding entries_length entry_length entry_length_by
length_next First e entries = refl
length_next Second e entries = refl

pub length_end : (v : ImageVersion) → entries_length_by v [] ≡ 0
unfolding entries_length
length_end First = refl
length_end Second = refl

entries_least_by : (v : ImageVersion) (entries : List EntryFields) → SHORTEST_ENTRY_BYTES * length entries ≤ entries_length_by v entries
entries_least_by v [] = omega (arith, length_end v)
entries_least_by v (e ∷ entries) = omega (arith, entry_least_by v e, entries_least_by v entries, length_next v e entries)

pub fourteen_by : (v : ImageVersion) (entries : List EntryFields) → entries_length_by v entries ≤ JOURNAL_ENTRY_BYTES → length entries ≤ JOURNAL_ENTRIES
fourteen_by v entries h = omega (arith, h, entries_least_by v entries)

pub grown : (entries : List EntryFields) → 17 * entries_length entries ≤ 18 * entries_length_by First entries
unfolding entries_length entry_length entry_length_by
grown [] = omega arith
grown (e ∷ entries) = omega (arith, grown entries)
