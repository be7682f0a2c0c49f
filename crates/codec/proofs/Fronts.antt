-- What the first bytes of an entry tell of its length.
use Rattle.std.proofs.Common.{◌≡◌, ℕ, ◌+◌, ◌*◌, ◌<◌, ◌≤◌, Bool, true, false, List, ◌∷◌, ◌++◌, length, get_or, drop, Option, Some, None, IsSome, is_some, refl, sym, ap, subst, ◌∙◌, append_assoc, arith, length-append}
use Rattle.std.specs.List.{flat_map}
use Rattle.std.proofs.lemmas.List.{get_or-drop}
use Rattle.std.proofs.Math.Seq.{get_or-append_seam}
use Rattle.s4_types.specs.declared.limits.TheConstants.{SHORTEST_ENTRY_BYTES}
use Rattle.lemmas.proofs.Bytes.{IsBytes}
use Rattle.codec.specs.Fields.{number, bit}
use Rattle.codec.specs.Entry.{EntryFields, BeginsWithEntryBy, entry_at_by, entry_spelling_by, entry_length_by, pair_length, pair_spelling, triple_spelling_by, text, flags_byte, flags_of}
use Rattle.codec.specs.Versions.{triple_bytes_by}
use Rattle.codec.specs.declared.versions.ImageVersion.{ImageVersion}
use Rattle.codec.specs.declared.entries.Pair.{Pair}
use Rattle.codec.proofs.EntryLaws.{entry_field_by}
use Rattle.codec.proofs.Lengths.{entry_is_by, entry_least_by}

flags_here : (v : ImageVersion) (e : EntryFields) (rest : List ℕ) → get_or (entry_spelling_by v e ++ rest) 8 0 ≡ flags_byte (flags_of e)
unfolding entry_spelling_by number
flags_here v e rest = refl

count_here : (v : ImageVersion) (e : EntryFields) (rest : List ℕ) → get_or (entry_spelling_by v e ++ rest) 9 0 ≡ length e.triples
unfolding entry_spelling_by number
count_here v e rest = refl

first_here : (v : ImageVersion) (e : EntryFields) (rest : List ℕ) (p : Pair) → e.pair ≡ Some p → get_or (entry_spelling_by v e ++ rest) SHORTEST_ENTRY_BYTES 0 ≡ length p.before
unfolding entry_spelling_by number pair_spelling text
first_here v e rest p h = ap (λ (q : Option Pair). get_or ((pair_spelling q ++ flat_map (triple_spelling_by v) e.triples) ++ rest) 0 0) h

second_here : (v : ImageVersion) (e : EntryFields) (rest : List ℕ) (p : Pair) → e.pair ≡ Some p → get_or (entry_spelling_by v e ++ rest) ((SHORTEST_ENTRY_BYTES + 1) + length p.before) 0 ≡ length p.after
unfolding entry_spelling_by number pair_spelling text
second_here v e rest p h =
    let triples = flat_map (triple_spelling_by v) e.triples in
    sym (get_or-drop (SHORTEST_ENTRY_BYTES + 1) (entry_spelling_by v e ++ rest) (length p.before) 0)
    ∙ ap (λ (q : Option Pair). get_or (drop 1 ((pair_spelling q ++ triples) ++ rest)) (length p.before) 0) h
    ∙ ap (λ (l : List ℕ). get_or l (length p.before) 0) (append_assoc (p.before ++ (length p.after ∷ p.after)) triples rest ∙ append_assoc p.before (length p.after ∷ p.after) (triples ++ rest))
    ∙ get_or-append_seam p.before (length p.after) (p.after ++ (triples ++ rest)) 0

pub bit_most : (b : Bool) → bit b ≤ 1
bit_most true = omega arith
bit_most false = omega arith

flags_alone : (e : EntryFields) → e.pair ≡ None → flags_byte (flags_of e) < 4
unfolding flags_byte
flags_alone e h = let no : bit (is_some e.pair) ≡ 0 = ap (λ (q : Option Pair). bit (is_some q)) h in omega (arith, bit_most e.before.alive, bit_most e.after.alive)

flags_paired : (e : EntryFields) (p : Pair) → e.pair ≡ Some p → 4 ≤ flags_byte (flags_of e)
unfolding flags_byte
flags_paired e p h = let yes : bit (is_some e.pair) ≡ 1 = ap (λ (q : Option Pair). bit (is_some q)) h in omega (arith)

length_alone : (v : ImageVersion) (e : EntryFields) → e.pair ≡ None → entry_length_by v e ≡ SHORTEST_ENTRY_BYTES + triple_bytes_by v * length e.triples
unfolding entry_length_by pair_length
length_alone v e h = let none : pair_length e.pair ≡ 0 = ap pair_length h in omega arith

length_paired : (v : ImageVersion) (e : EntryFields) (p : Pair) → e.pair ≡ Some p → entry_length_by v e ≡ SHORTEST_ENTRY_BYTES + triple_bytes_by v * length e.triples + (1 + length p.before) + (1 + length p.after)
unfolding entry_length_by pair_length
length_paired v e p h = let two : pair_length e.pair ≡ (1 + length p.before) + (1 + length p.after) = ap pair_length h in omega arith

-- what the bytes tell that an entry begins with
pub record Front (v : ImageVersion) (bytes : List ℕ) (e : EntryFields) : Type 0 where
  pub least : SHORTEST_ENTRY_BYTES ≤ entry_length_by v e
  pub long : entry_length_by v e ≤ length bytes
  pub alone : get_or bytes 8 0 < 4 → SHORTEST_ENTRY_BYTES + triple_bytes_by v * get_or bytes 9 0 ≡ entry_length_by v e
  pub within : 4 ≤ get_or bytes 8 0 → SHORTEST_ENTRY_BYTES + 2 + get_or bytes SHORTEST_ENTRY_BYTES 0 ≤ entry_length_by v e
  pub paired : 4 ≤ get_or bytes 8 0 → SHORTEST_ENTRY_BYTES + triple_bytes_by v * get_or bytes 9 0 + (1 + get_or bytes SHORTEST_ENTRY_BYTES 0) + (1 + get_or bytes ((SHORTEST_ENTRY_BYTES + 1) + get_or bytes SHORTEST_ENTRY_BYTES 0) 0) ≡ entry_length_by v e

front_by : (v : ImageVersion) (e : EntryFields) (rest : List ℕ) (pair : Option Pair) → e.pair ≡ pair → Front v (entry_spelling_by v e ++ rest) e
front_by v e rest None h =
    let counted : triple_bytes_by v * get_or (entry_spelling_by v e ++ rest) 9 0 ≡ triple_bytes_by v * length e.triples = ap (λ (n : ℕ). triple_bytes_by v * n) (count_here v e rest) in
    let few : get_or (entry_spelling_by v e ++ rest) 8 0 < 4 = subst (λ (n : ℕ). n < 4) (sym (flags_here v e rest)) (flags_alone e h) in
    record {
      least = entry_least_by v e;
      long = omega (arith, length-append (entry_spelling_by v e) rest, entry_is_by v e);
      alone = λ _. omega (arith, counted, length_alone v e h);
      within = λ many. absurd (omega (arith, few, many));
      paired = λ many. absurd (omega (arith, few, many));
    }
front_by v e rest (Some p) h =
    let counted : triple_bytes_by v * get_or (entry_spelling_by v e ++ rest) 9 0 ≡ triple_bytes_by v * length e.triples = ap (λ (n : ℕ). triple_bytes_by v * n) (count_here v e rest) in
    let many : 4 ≤ get_or (entry_spelling_by v e ++ rest) 8 0 = subst (λ (n : ℕ). 4 ≤ n) (sym (flags_here v e rest)) (flags_paired e p h) in
    let first = first_here v e rest p h in
    let second : get_or (entry_spelling_by v e ++ rest) ((SHORTEST_ENTRY_BYTES + 1) + get_or (entry_spelling_by v e ++ rest) SHORTEST_ENTRY_BYTES 0) 0 ≡ length p.after =
    ap (λ (n : ℕ). get_or (entry_spelling_by v e ++ rest) ((SHORTEST_ENTRY_BYTES + 1) + n) 0) first ∙ second_here v e rest p h in
    record {
      least = entry_least_by v e;
      long = omega (arith, length-append (entry_spelling_by v e) rest, entry_is_by v e);
      alone = λ few. absurd (omega (arith, few, many));
      within = λ _. omega (arith, first, length_paired v e p h);
      paired = λ _. omega (arith, count_here v e rest, first, second, length_paired v e p h);
    }

pub front_of : (v : ImageVersion) (bytes : List ℕ) (e : EntryFields) (rest : List ℕ) → BeginsWithEntryBy v bytes e rest → Front v bytes e
front_of v bytes e rest h = subst (λ (l : List ℕ). Front v l e) (sym h.1) (front_by v e rest e.pair refl)

-- the bytes begin with the entry that is read there
pub begins : (v : ImageVersion) (bytes : List ℕ) → IsBytes bytes → (x : EntryFields × List ℕ) → entry_at_by v bytes ≡ Some x → BeginsWithEntryBy v bytes x.0 x.1
begins v bytes h x e = ((entry_field_by v).fits bytes x h e, (entry_field_by v).whole bytes x h e)

some_front : (v : ImageVersion) (bytes : List ℕ) (o : Option (EntryFields × List ℕ)) → IsBytes bytes → entry_at_by v bytes ≡ o → IsSome o → (e : EntryFields) × Front v bytes e
some_front v bytes None h is there = absurd (let e : false ≡ true = there in cc)
some_front v bytes (Some x) h is there = (x.0, front_of v bytes x.0 x.1 (begins v bytes h x is))

-- the front of an entry that is there
pub there_front : (v : ImageVersion) (bytes : List ℕ) → IsBytes bytes → IsSome (entry_at_by v bytes) → (e : EntryFields) × Front v bytes e
there_front v bytes h there = some_front v bytes (entry_at_by v bytes) h refl there
