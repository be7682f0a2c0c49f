-- A journal block is read exactly where it is encoded.
use Rattle.std.proofs.Common.{◌≡◌, ℕ, ◌-◌, ◌^◌, ◌<◌, ◌≤◌, Bool, true, false, eqb, ltb, ◌&&◌, List, [], ◌∷◌, ◌++◌, length, Option, Some, None, refl, sym, ap, subst, ◌∙◌, append_assoc, arith}
use Rattle.std.specs.Prelude.{IfSome}
use Rattle.std.specs.Int.{w16, w64}
use Rattle.std.specs.List.{flat_map}
use Rattle.std.proofs.lemmas.Bool.{ltb-false, le-ltb, eqb-true, eq-eqb, and_parts}
use Rattle.std.proofs.lemmas.Option.{same_Some}
use Rattle.s4_types.specs.Pointer.{Place}
use Rattle.s4_types.specs.declared.limits.TheConstants.{JOURNAL_ENTRIES, JOURNAL_ENTRY_BYTES}
use Rattle.lemmas.proofs.Bytes.{IsBytes}
use Rattle.codec.specs.Fields.{number, zeros, slot, many_at, kept, all_of, ◌>>=◌, Reads}
use Rattle.codec.specs.Checkpoint.{IsSlot}
use Rattle.codec.specs.Entry.{EntryFields, IsEntryBy, entry_spelling, entry_spelling_by, entry_at_by, entries_length_by}
use Rattle.codec.specs.Journal.{JournalFields, JournalNumbersBy, IsJournal, IsJournalBy, journal_rules, journal_rules_by, journal_spelling, journal_spelling_by, entries_at_by, told_journal_by, journal_at, journal_at_by}
use Rattle.codec.specs.declared.versions.ImageVersion.{ImageVersion}
use Rattle.codec.specs.declared.versions.ImageVersion.TheVariants.{Second}
use Rattle.codec.proofs.Exact.{IsField, Exact, Then, Made, then_exact, made_exact, byte_field, short_field, long_field, zeros_field, passed, bind_some}
use Rattle.codec.proofs.Many.{AreMany, many_field}
use Rattle.codec.proofs.Slots.{mark_field, slot_field, kept_is}
use Rattle.codec.proofs.EntryLaws.{entry_field_by}
use Rattle.codec.proofs.Whole.{all_exact}
use Rattle.codec.proofs.JournalEntries.{rules_say_by}
use Rattle.codec.proofs.Lengths.{fourteen_by}

-- ---- entries

abbrev AreEntries : ImageVersion → ℕ → List EntryFields → Type 0
AreEntries v count entries = (count ≤ JOURNAL_ENTRIES) × AreMany (IsEntryBy v) count entries

entries_take : (v : ImageVersion) (count : ℕ) (bytes : List ℕ) (x : List EntryFields × List ℕ) → entries_at_by v count bytes ≡ Some x → (count ≤ JOURNAL_ENTRIES) × (many_at (entry_at_by v) count bytes ≡ Some x)
unfolding entries_at_by
entries_take v count bytes x e = let p = passed (ltb JOURNAL_ENTRIES count) (many_at (entry_at_by v) count bytes) x e in (ltb-false _ _ p.0, p.1)

pub entries_few : (v : ImageVersion) (count : ℕ) (bytes : List ℕ) → count ≤ JOURNAL_ENTRIES → entries_at_by v count bytes ≡ many_at (entry_at_by v) count bytes
unfolding entries_at_by
entries_few v count bytes le = let few : ltb JOURNAL_ENTRIES count ≡ false = le-ltb _ _ le in rw few refl

entries_field : (v : ImageVersion) (count : ℕ) → IsField (entries_at_by v count) (flat_map (entry_spelling_by v)) (AreEntries v count)
entries_field v count = record {
  whole = λ bytes x h e. (many_field (entry_field_by v) count).whole bytes x h (entries_take v count bytes x e).1;
  fits = λ bytes x h e. let t = entries_take v count bytes x e in (t.0, (many_field (entry_field_by v) count).fits bytes x h t.1);
  again = λ entries rest h. entries_few v count (flat_map (entry_spelling_by v) entries ++ rest) h.0 ∙ (many_field (entry_field_by v) count).again entries rest h.1;
}

-- ---- the block

abbrev made_of : ℕ → Option Place → List EntryFields → JournalFields
made_of object previous entries = record { object = object; previous = previous; entries = entries }

-- the bytes are as many as was told, and the rules hold
record Told (v : ImageVersion) (told : ℕ) (made j : JournalFields) : Type 0 where
  same : made ≡ j
  bytes : told ≡ entries_length_by v made.entries
  rules : journal_rules_by v made ≡ true

told_takes : (v : ImageVersion) (told : ℕ) (made j : JournalFields) → told_journal_by v told made ≡ Some j → Told v told made j
unfolding told_journal_by
told_takes v told made j e =
    let k = kept_is (eqb told (entries_length_by v made.entries) && journal_rules_by v made) made j e in
    let b = and_parts (eqb told (entries_length_by v made.entries)) (journal_rules_by v made) k.0 in
    record { same = k.1; bytes = eqb-true _ _ b.0; rules = b.1 }

told_again : (v : ImageVersion) (j : JournalFields) → journal_rules_by v j ≡ true → told_journal_by v (entries_length_by v j.entries) j ≡ Some j
unfolding told_journal_by
told_again v j e =
    let same : eqb (entries_length_by v j.entries) (entries_length_by v j.entries) ≡ true = eq-eqb _ _ refl in
    rw (same, e) refl

abbrev Nothing : Unit {0} → Type 0
Nothing _ = Unit {0}

abbrev says : ImageVersion → List ℕ → (JournalFields × List ℕ) → Type 0
says v =
    Then (λ _. 1 ∷ []) Nothing (λ _. Then (λ b. b ∷ []) (λ b. b < 256) (λ count. Then (number w16) (λ n. n < 2 ^ 16) (λ told. Then (λ _. zeros 4) Nothing (λ _.
    Then (number w64) (λ n. n < 2 ^ 64) (λ object. Then slot IsSlot (λ previous. Then (flat_map (entry_spelling_by v)) (AreEntries v count) (λ entries. Then (λ _. zeros (JOURNAL_ENTRY_BYTES - told)) Nothing (λ _.
    Made (told_journal_by v told (made_of object previous entries))))))))))

exact : (v : ImageVersion) → Exact (journal_at_by v) (says v)
unfolding journal_at_by
exact v =
    then_exact (mark_field 1) (λ _. then_exact byte_field (λ count. then_exact short_field (λ told. then_exact (zeros_field 4) (λ _.
    then_exact long_field (λ object. then_exact slot_field (λ previous. then_exact (entries_field v count) (λ entries. then_exact (zeros_field (JOURNAL_ENTRY_BYTES - told)) (λ _.
    made_exact (told_journal_by v told (made_of object previous entries))))))))))

-- the fields, with what comes after them
abbrev before : ImageVersion → ℕ → ℕ → ℕ → Option Place → List EntryFields → List ℕ → List ℕ
before v count told object previous entries rest =
    1 ∷ count ∷ (number w16 told ++ (zeros 4 ++ (number w64 object ++ (slot previous ++ (flat_map (entry_spelling_by v) entries ++ (zeros (JOURNAL_ENTRY_BYTES - told) ++ rest))))))

spelled_before : (v : ImageVersion) (j : JournalFields) (rest : List ℕ) → journal_spelling_by v j ++ rest ≡ before v (length j.entries) (entries_length_by v j.entries) j.object j.previous j.entries rest
unfolding journal_spelling_by
spelled_before v j rest = simp append_assoc

takes : (v : ImageVersion) (bytes : List ℕ) (x : JournalFields × List ℕ) → IsBytes bytes → journal_at_by v bytes ≡ Some x → (bytes ≡ journal_spelling_by v x.0 ++ x.1) × IsJournalBy v x.0
takes v bytes x h e =
    let count = ((exact v).found bytes x h e).after in
    let told = count.after in
    let gap = told.after in
    let object = gap.after in
    let previous = object.after in
    let entries = previous.after in
    let end = entries.after in
    let j = made_of object.value previous.value entries.value in
    let t = told_takes v told.value j x.0 end.after.is in
    let numbers : JournalNumbersBy v j = record { object = object.fits; previous = previous.fits; entries = entries.fits.1.1 } in
    let tail : told.rest ≡ zeros 4 ++ (number w64 object.value ++ (slot previous.value ++ (flat_map (entry_spelling_by v) entries.value ++ (zeros (JOURNAL_ENTRY_BYTES - told.value) ++ x.1)))) =
    rw (gap.whole, object.whole, previous.whole, entries.whole, end.whole, end.after.rest) refl in
    let head : bytes ≡ before v count.value told.value object.value previous.value entries.value x.1 =
    ((exact v).found bytes x h e).whole ∙ ap (λ (r : List ℕ). 1 ∷ r) (count.whole ∙ ap (λ (r : List ℕ). count.value ∷ r) (told.whole ∙ ap (λ (r : List ℕ). number w16 told.value ++ r) tail)) in
    let counted : bytes ≡ before v (length entries.value) told.value object.value previous.value entries.value x.1 =
    head ∙ ap (λ (n : ℕ). before v n told.value object.value previous.value entries.value x.1) (sym entries.fits.1.0) in
    let whole : bytes ≡ journal_spelling_by v j ++ x.1 =
    counted ∙ ap (λ (n : ℕ). before v (length entries.value) n object.value previous.value entries.value x.1) t.bytes ∙ sym (spelled_before v j x.1) in
    subst (λ (d : JournalFields). (bytes ≡ journal_spelling_by v d ++ x.1) × IsJournalBy v d) t.same (whole, (t.rules, numbers))

again : (v : ImageVersion) (j : JournalFields) (rest : List ℕ) → IsJournalBy v j → journal_at_by v (journal_spelling_by v j ++ rest) ≡ Some (j, rest)
again v j rest h =
    let n = h.1 in
    let few : length j.entries ≤ JOURNAL_ENTRIES = fourteen_by v j.entries (rules_say_by v j h.0).fit in
    let fit : entries_length_by v j.entries ≤ JOURNAL_ENTRY_BYTES = (rules_say_by v j h.0).fit in
    let r6 = zeros (JOURNAL_ENTRY_BYTES - entries_length_by v j.entries) ++ rest in
    let r5 = flat_map (entry_spelling_by v) j.entries ++ r6 in
    let r4 = slot j.previous ++ r5 in
    let r3 = number w64 j.object ++ r4 in
    let r2 = zeros 4 ++ r3 in
    let r1 = number w16 (entries_length_by v j.entries) ++ r2 in
    (exact v).again (journal_spelling_by v j ++ rest) (j, rest) (record {
      value = tt;
      rest = length j.entries ∷ r1;
      fits = tt;
      whole = spelled_before v j rest;
      after = record {
        value = length j.entries;
        rest = r1;
        fits = omega (arith, few);
        whole = refl;
        after = record {
          value = entries_length_by v j.entries;
          rest = r2;
          fits = omega (arith, fit);
          whole = refl;
          after = record {
            value = tt;
            rest = r3;
            fits = tt;
            whole = refl;
            after = record {
              value = j.object;
              rest = r4;
              fits = n.object;
              whole = refl;
              after = record {
                value = j.previous;
                rest = r5;
                fits = n.previous;
                whole = refl;
                after = record {
                  value = j.entries;
                  rest = r6;
                  fits = (few, (refl, n.entries));
                  whole = refl;
                  after = record {
                    value = tt;
                    rest = rest;
                    fits = tt;
                    whole = refl;
                    after = record { is = told_again v j h.0; rest = refl };
                  };
                };
              };
            };
          };
        };
      };
    })

pub journal_field_by : (v : ImageVersion) → IsField (journal_at_by v) (journal_spelling_by v) (IsJournalBy v)
journal_field_by v = record { whole = λ bytes x h e. (takes v bytes x h e).0; fits = λ bytes x h e. (takes v bytes x h e).1; again = again v }

pub journal_field : IsField journal_at journal_spelling IsJournal
unfolding journal_at journal_spelling journal_rules journal_rules_by
journal_field = journal_field_by Second

-- what is read keeps the rules
pub journal_kept : (bytes : List ℕ) (j : JournalFields) → IsBytes bytes → all_of (journal_at_by Second) bytes ≡ Some j → kept (journal_rules j) j ≡ all_of journal_at bytes
unfolding journal_at journal_rules journal_rules_by
journal_kept bytes j h e =
    let rules = ((all_exact (journal_field_by Second)).found bytes j h e).0.0 in
    ap (λ (b : Bool). kept b j) rules ∙ sym e

-- ---- a block of one object

abbrev OfObject : ℕ → JournalFields → Option JournalFields
OfObject n j = kept (eqb j.object n) j

pub of_object : (o : Option JournalFields) (a b : JournalFields) (n : ℕ) → o ≡ Some a → o ≡ Some b → eqb a.object n ≡ true → (o >>= OfObject n) ≡ Some b
of_object o a b n first second is =
    let same : a ≡ b = same_Some a b (sym first ∙ second) in
    ap (λ (p : Option JournalFields). p >>= OfObject n) second ∙ ap (λ (t : Bool). kept t b) (subst (λ (j : JournalFields). eqb j.object n ≡ true) same is)

pub another_object : (o : Option JournalFields) (a : JournalFields) (n : ℕ) → o ≡ Some a → eqb a.object n ≡ false → (o >>= OfObject n) ≡ None
another_object o a n first other = ap (λ (p : Option JournalFields). p >>= OfObject n) first ∙ ap (λ (t : Bool). kept t a) other

pub rules_of_one : (v : ImageVersion) (block : List ℕ) (n : ℕ) (result : Option JournalFields) → IsBytes block → Reads (λ j. j) result (all_of (journal_at_by v) block >>= OfObject n) → IfSome result (λ j. journal_rules_by v j ≡ true)
rules_of_one v block n None h e = tt
rules_of_one v block n (Some j) h e =
    let s = bind_some (all_of (journal_at_by v) block) (OfObject n) j e in
    let k = kept_is (eqb s.0.object n) s.0 j s.2 in
    subst (λ (x : JournalFields). journal_rules_by v x ≡ true) k.1 ((all_exact (journal_field_by v)).found block s.0 h s.1).0.0
