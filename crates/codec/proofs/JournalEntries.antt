-- How many bytes several entries have, and what that leaves room for.
use Rattle.std.proofs.Common.{◌≡◌, ℕ, zero, suc, ◌+◌, ◌-◌, ◌≤◌, ◌<◌, true, leb, ◌&&◌, List, [], ◌∷◌, ◌++◌, length, Option, get_or, take, refl, arith, add-one, length-append}
use Rattle.std.proofs.lemmas.Bool.{leb-true, le-leb, and_parts}
use Rattle.s4_types.specs.Pointer.{Place}
use Rattle.s4_types.specs.declared.limits.TheConstants.{JOURNAL_ENTRY_BYTES, JOURNAL_ENTRIES}
use Rattle.std.specs.Int.{w16, w64}
use Rattle.std.specs.List.{flat_map}
use Rattle.codec.specs.Fields.{number, zeros, slot}
use Rattle.codec.specs.Entry.{EntryFields, entry_spelling, entry_spelling_by, entry_length, entry_length_by, entries_length, entries_length_by}
use Rattle.codec.specs.Journal.{JournalFields, journal_rules, journal_rules_by, journal_spelling, journal_spelling_by}
use Rattle.codec.specs.declared.versions.ImageVersion.{ImageVersion}
use Rattle.codec.specs.declared.versions.ImageVersion.TheVariants.{Second}
use Rattle.codec.proofs.Lengths.{entry_is, entry_is_by, fourteen, length_next, length_end, long_length, slot_length, short_length}
use Rattle.codec.proofs.Zeros.{zeros_length}

pub entries_append : (front back : List EntryFields) → entries_length (front ++ back) ≡ entries_length front + entries_length back
unfolding entries_length
entries_append [] back = omega arith
entries_append (e ∷ front) back = omega (arith, entries_append front back)

pub entries_one : (e : EntryFields) → entries_length (e ∷ []) ≡ entry_length e
unfolding entries_length
entries_one e = omega arith

pub entries_none : entries_length [] ≡ 0
unfolding entries_length
entries_none = refl

pub entries_push : (front : List EntryFields) (e : EntryFields) → entries_length (front ++ e ∷ []) ≡ entries_length front + entry_length e
entries_push front e = omega (arith, entries_append front (e ∷ []), entries_one e)

entries_up_to : (i : ℕ) (entries : List EntryFields) (e : EntryFields) → i < length entries → e ≡ get_or entries i e → entries_length (take (suc i) entries) ≡ entries_length (take i entries) + entry_length e
unfolding entries_length
entries_up_to i [] e lt is = absurd (omega (arith, lt))
entries_up_to zero (x ∷ entries) e lt is = rw is (omega arith)
entries_up_to (suc i) (x ∷ entries) e lt is = omega (arith, entries_up_to i entries e (omega (arith, lt)) is)

-- one entry more of a list
pub entries_next : (i : ℕ) (entries : List EntryFields) (e : EntryFields) → i < length entries → e ≡ get_or entries i e → entries_length (take (i + 1) entries) ≡ entries_length (take i entries) + entry_length e
entries_next i entries e lt is = rw add-one (entries_up_to i entries e lt is)

-- the same by a version
by_up_to : (v : ImageVersion) (i : ℕ) (entries : List EntryFields) (e : EntryFields) → i < length entries → e ≡ get_or entries i e → entries_length_by v (take (suc i) entries) ≡ entries_length_by v (take i entries) + entry_length_by v e
by_up_to v i [] e lt is = absurd (omega (arith, lt))
by_up_to v zero (x ∷ entries) e lt is = rw is (omega (arith, length_next v x [], length_end v))
by_up_to v (suc i) (x ∷ entries) e lt is = omega (arith, length_next v x (take (suc i) entries), length_next v x (take i entries), by_up_to v i entries e (omega (arith, lt)) is)

pub by_next : (v : ImageVersion) (i : ℕ) (entries : List EntryFields) (e : EntryFields) → i < length entries → e ≡ get_or entries i e → entries_length_by v (take (i + 1) entries) ≡ entries_length_by v (take i entries) + entry_length_by v e
by_next v i entries e lt is = rw add-one (by_up_to v i entries e lt is)

pub by_none : (v : ImageVersion) → entries_length_by v [] ≡ 0
by_none v = length_end v

-- where an entry fits, there are fewer than fourteen
pub room : (front : List EntryFields) (e : EntryFields) → entries_length front + entry_length e ≤ JOURNAL_ENTRY_BYTES → length front < JOURNAL_ENTRIES
room front e h = omega (arith, fourteen (front ++ e ∷ []) (omega (arith, entries_push front e, h)), length-append front (e ∷ []))

-- one entry of several, with those before it, has no more bytes than all
pub entries_front : (i : ℕ) (entries : List EntryFields) (e : EntryFields) → i < length entries → e ≡ get_or entries i e → entries_length (take i entries) + entry_length e ≤ entries_length entries
unfolding entries_length
entries_front i [] e lt is = absurd (omega (arith, lt))
entries_front zero (x ∷ entries) e lt is = rw (is) (omega arith)
entries_front (suc i) (x ∷ entries) e lt is = omega (arith, entries_front i entries e (omega (arith, lt)) is)

-- what the rules say
pub record RulesBy (v : ImageVersion) (j : JournalFields) : Type 0 where
  pub object : 1 ≤ j.object
  pub some : 1 ≤ length j.entries
  pub fit : entries_length_by v j.entries ≤ JOURNAL_ENTRY_BYTES

abbrev pub Rules : JournalFields → Type 0
Rules j = RulesBy Second j

pub rules_say_by : (v : ImageVersion) (j : JournalFields) → journal_rules_by v j ≡ true → RulesBy v j
unfolding journal_rules_by
rules_say_by v j e =
    let a = and_parts (leb 1 j.object) (leb 1 (length j.entries) && leb (entries_length_by v j.entries) JOURNAL_ENTRY_BYTES) e in
    let b = and_parts (leb 1 (length j.entries)) (leb (entries_length_by v j.entries) JOURNAL_ENTRY_BYTES) a.1 in
    record { object = leb-true _ _ a.0; some = leb-true _ _ b.0; fit = leb-true _ _ b.1 }

pub rules_say : (j : JournalFields) → journal_rules j ≡ true → Rules j
unfolding journal_rules journal_rules_by
rules_say j e = rules_say_by Second j e

pub rules_object : (j : JournalFields) → journal_rules j ≡ true → 1 ≤ j.object
rules_object j e = (rules_say j e).object

pub rules_some : (j : JournalFields) → journal_rules j ≡ true → 1 ≤ length j.entries
rules_some j e = (rules_say j e).some

pub rules_fit : (j : JournalFields) → journal_rules j ≡ true → entries_length j.entries ≤ JOURNAL_ENTRY_BYTES
rules_fit j e = (rules_say j e).fit

pub rules_hold : (j : JournalFields) → 1 ≤ j.object → 1 ≤ length j.entries → entries_length j.entries ≤ JOURNAL_ENTRY_BYTES → journal_rules j ≡ true
unfolding journal_rules
rules_hold j object some fit =
    let a : leb 1 j.object ≡ true = le-leb _ _ object in
    let b : leb 1 (length j.entries) ≡ true = le-leb _ _ some in
    let c : leb (entries_length j.entries) JOURNAL_ENTRY_BYTES ≡ true = le-leb _ _ fit in
    rw (a, b, c) refl

-- a block with one entry more, where it fits
pub rules_push : (object : ℕ) (previous : Option Place) (front : List EntryFields) (e : EntryFields) → journal_rules (record { object = object; previous = previous; entries = front }) ≡ true
    → entries_length front + entry_length e ≤ JOURNAL_ENTRY_BYTES → journal_rules (record { object = object; previous = previous; entries = front ++ e ∷ [] }) ≡ true
rules_push object previous front e h fit =
    let r = rules_say (record { object = object; previous = previous; entries = front }) h in
    rules_hold (record { object = object; previous = previous; entries = front ++ e ∷ [] }) r.object (omega (arith, length-append front (e ∷ []), r.some)) (omega (arith, entries_push front e, fit))

pub entries_spelled_by : (v : ImageVersion) (entries : List EntryFields) → length (flat_map (entry_spelling_by v) entries) ≡ entries_length_by v entries
entries_spelled_by v [] = omega (arith, length_end v)
entries_spelled_by v (e ∷ entries) = omega (arith, length-append (entry_spelling_by v e) (flat_map (entry_spelling_by v) entries), entry_is_by v e, entries_spelled_by v entries, length_next v e entries)

pub entries_spelled : (entries : List EntryFields) → length (flat_map entry_spelling entries) ≡ entries_length entries
unfolding entries_length
entries_spelled [] = refl
entries_spelled (e ∷ entries) = omega (arith, length-append (entry_spelling e) (flat_map entry_spelling entries), entry_is e, entries_spelled entries)

-- the encoding has 512 bytes
pub spelling_length_by : (v : ImageVersion) (j : JournalFields) → journal_rules_by v j ≡ true → length (journal_spelling_by v j) ≡ 512
unfolding journal_spelling_by
spelling_length_by v j e =
    let told = entries_length_by v j.entries in
    let entries = flat_map (entry_spelling_by v) j.entries in
    let r4 = entries ++ zeros (JOURNAL_ENTRY_BYTES - told) in
    let r3 = slot j.previous ++ r4 in
    let r2 = number w64 j.object ++ r3 in
    let r1 = zeros 4 ++ r2 in
    omega (
      arith,
      (rules_say_by v j e).fit,
      length-append (number w16 told) r1,
      length-append (zeros 4) r2,
      length-append (number w64 j.object) r3,
      length-append (slot j.previous) r4,
      length-append entries (zeros (JOURNAL_ENTRY_BYTES - told)),
      short_length told,
      long_length j.object,
      slot_length j.previous,
      zeros_length 4,
      zeros_length (JOURNAL_ENTRY_BYTES - told),
      entries_spelled_by v j.entries,
    )

pub spelling_length : (j : JournalFields) → journal_rules j ≡ true → length (journal_spelling j) ≡ 512
unfolding journal_spelling journal_rules journal_rules_by
spelling_length j e = spelling_length_by Second j e
