-- Where the entries of a journal block begin, as they are found one after the other, and as they are given from the last.
use Rattle.std.proofs.Common.{◌≡◌, ℕ, ◌-◌, ◌+◌, ◌<◌, ◌≤◌, true, false, List, [], ◌∷◌, ◌++◌, length, get_or, drop, Option, Some, None, IsSome, is_some, refl, sym, ap, subst, ◌∙◌, append_assoc, arith, length-append}
use Rattle.std.specs.List.{flat_map, AllByRecursion}
use Rattle.std.specs.Option.{option_to_list}
use Rattle.std.proofs.lemmas.Grind.{flat_map-append}
use Rattle.std.proofs.lemmas.List.{append-nil, drop_at, drop-drop, drop_more, drop_all}
use Rattle.std.proofs.lemmas.List.Concat.{flat_map-cons}
use Rattle.s4_types.specs.Pointer.{Place}
use Rattle.s4_types.specs.declared.limits.TheConstants.{JOURNAL_ENTRIES, JOURNAL_ENTRY_BYTES, JOURNAL_HEAD_BYTES}
use Rattle.std.specs.Prelude.{unwrap_or}
use Rattle.std.specs.Int.{w16, w64}
use Rattle.lemmas.proofs.Bytes.{IsBytes}
use Rattle.codec.specs.Fields.{◌>>=◌, number, zeros, slot, slot_at, mark_at, all_of}
use Rattle.codec.specs.Entry.{EntryFields, IsEntryBy, BeginsWithEntryBy, entry_at_by, entry_spelling_by, entry_length_by, entries_length_by}
use Rattle.codec.specs.Journal.{JournalFields, SpellsJournalBy, journal_at_by, journal_spelling_by}
use Rattle.codec.specs.Reader.{BeginsAt, entry_in, entries_begun_at, object_decoded}
use Rattle.codec.specs.declared.versions.ImageVersion.{ImageVersion}
use Rattle.codec.proofs.Slots.{slot_field}
use Rattle.codec.proofs.Whole.{all_exact}
use Rattle.codec.proofs.EntryLaws.{entry_field_by}
use Rattle.codec.proofs.Patched.{previous_behind}
use Rattle.codec.proofs.JournalLaws.{journal_field_by}
use Rattle.codec.proofs.JournalEntries.{rules_say_by, spelling_length_by}
use Rattle.codec.proofs.Lengths.{entry_is_by, entry_least_by, slot_length, fourteen_by, length_next}

some_journal : (v : ImageVersion) (block : List ℕ) (o : Option JournalFields) → IsBytes block → all_of (journal_at_by v) block ≡ o → IsSome o → (j : JournalFields) × SpellsJournalBy v block j
some_journal v block None h is there = absurd (let e : false ≡ true = there in cc)
some_journal v block (Some j) h is there = (j, (all_exact (journal_field_by v)).found block j h is)

-- the journal block that is there
pub spelled_there : (v : ImageVersion) (block : List ℕ) → IsBytes block → IsSome (all_of (journal_at_by v) block) → (j : JournalFields) × SpellsJournalBy v block j
spelled_there v block h there = some_journal v block (all_of (journal_at_by v) block) h refl there

pub spells : (v : ImageVersion) (block : List ℕ) (j : JournalFields) → IsBytes block → all_of (journal_at_by v) block ≡ Some j → SpellsJournalBy v block j
spells v block j h is = (all_exact (journal_field_by v)).found block j h is

pub not_both : {A : Type 0} (o : Option A) (x : A) → o ≡ None → o ≡ Some x → ⊥
not_both o x none some = let e : None ≡ Some x = sym none ∙ some in cc

-- a journal block by its fields
pub whole_is : (v : ImageVersion) (block : List ℕ) (j : JournalFields) (object : ℕ) (previous : Option Place) (entries : List EntryFields) → all_of (journal_at_by v) block ≡ Some j
    → object ≡ j.object → previous ≡ j.previous → entries ≡ j.entries → all_of (journal_at_by v) block ≡ Some (record { object = object; previous = previous; entries = entries })
whole_is v block j object previous entries reads a b c = rw (a, b, c) reads

-- ---- in front of the entries

pub count_there : (v : ImageVersion) (block : List ℕ) (j : JournalFields) → SpellsJournalBy v block j → get_or block 1 0 ≡ length j.entries
unfolding journal_spelling_by
count_there v block j h = ap (λ (l : List ℕ). get_or l 1 0) h.1

pub length_there : (v : ImageVersion) (block : List ℕ) (j : JournalFields) → SpellsJournalBy v block j → length block ≡ 512
length_there v block j h = ap length h.1 ∙ spelling_length_by v j h.0.0

pub few_there : (v : ImageVersion) (block : List ℕ) (j : JournalFields) → SpellsJournalBy v block j → get_or block 1 0 ≤ JOURNAL_ENTRIES
few_there v block j h = omega (arith, count_there v block j h, fourteen_by v j.entries (rules_say_by v j h.0.0).fit)

pub previous_there : (v : ImageVersion) (block : List ℕ) (j : JournalFields) → SpellsJournalBy v block j → slot_at (drop 16 block) ≡ Some (j.previous, flat_map (entry_spelling_by v) j.entries ++ zeros (JOURNAL_ENTRY_BYTES - entries_length_by v j.entries))
unfolding journal_spelling_by
previous_there v block j h =
    let rest = flat_map (entry_spelling_by v) j.entries ++ zeros (JOURNAL_ENTRY_BYTES - entries_length_by v j.entries) in
    let d : drop 16 block ≡ slot j.previous ++ rest = ap (λ (b : List ℕ). drop 16 b) h.1 ∙ previous_behind (length j.entries) (entries_length_by v j.entries) j.object (slot j.previous ++ rest) in
    ap slot_at d ∙ slot_field.again j.previous rest h.0.1.previous

-- what is read from a block tells its object
pub object_there : (v : ImageVersion) (block : List ℕ) (j : JournalFields) → all_of (journal_at_by v) block ≡ Some j → object_decoded v block ≡ j.object
unfolding object_decoded
object_there v block j e = ap (λ (o : Option JournalFields). unwrap_or (o >>= λ j. Some j.object) 0) e

-- a block whose first byte is no journal block's
pub object_other : (v : ImageVersion) (rest : List ℕ) → object_decoded v (0 ∷ rest) ≡ 0
unfolding object_decoded journal_at_by mark_at
object_other v rest = refl

unfoldable pub behind : ImageVersion → JournalFields → List ℕ
behind v j = flat_map (entry_spelling_by v) j.entries ++ zeros (JOURNAL_ENTRY_BYTES - entries_length_by v j.entries)

-- ---- the entries, one after the other

-- some entries of a journal block were found, and the others are from a byte on
pub record Scanned (v : ImageVersion) (block : List ℕ) (j : JournalFields) (starts : List ℕ) (at i : ℕ) : Type 0 where
  pub done : entries_begun_at v block starts ++ drop i j.entries ≡ j.entries
  pub behind : drop at block ≡ flat_map (entry_spelling_by v) (drop i j.entries) ++ zeros (JOURNAL_ENTRY_BYTES - entries_length_by v j.entries)
  pub spelled : AllByRecursion (IsEntryBy v) (drop i j.entries)
  pub place : at + entries_length_by v (drop i j.entries) ≤ length block

first_behind : (v : ImageVersion) (j : JournalFields) → drop JOURNAL_HEAD_BYTES (journal_spelling_by v j) ≡ behind v j
unfolding journal_spelling_by number zeros behind
first_behind v j = drop_at (slot j.previous) (behind v j) 8 (slot_length j.previous)

pub scan_begins : (v : ImageVersion) (block : List ℕ) (j : JournalFields) → SpellsJournalBy v block j → Scanned v block j [] JOURNAL_HEAD_BYTES 0
unfolding behind
scan_begins v block j h = record {
  done = refl;
  behind = ap (drop JOURNAL_HEAD_BYTES) h.1 ∙ first_behind v j;
  spelled = h.0.1.entries;
  place = omega (arith, (rules_say_by v j h.0.0).fit, length_there v block j h);
}

-- one entry more was found
pub record Next (v : ImageVersion) (block : List ℕ) (j : JournalFields) (starts : List ℕ) (at i n : ℕ) : Type 0 where
  pub here : BeginsAt v block at
  pub scanned : Scanned v block j (starts ++ at ∷ []) (at + n) (i + 1)

-- the entry that is where not all were found
record Standing (v : ImageVersion) (block : List ℕ) (j : JournalFields) (at i : ℕ) (e : EntryFields) : Type 0 where
  rest : List ℕ
  is : drop i j.entries ≡ e ∷ drop (i + 1) j.entries
  fits : AllByRecursion (IsEntryBy v) (e ∷ drop (i + 1) j.entries)
  rest_is : rest ≡ flat_map (entry_spelling_by v) (drop (i + 1) j.entries) ++ zeros (JOURNAL_ENTRY_BYTES - entries_length_by v j.entries)
  stands : drop at block ≡ entry_spelling_by v e ++ rest
  reads : entry_at_by v (drop at block) ≡ Some (e, rest)
  place : at + (entry_length_by v e + entries_length_by v (drop (i + 1) j.entries)) ≤ length block
  here : BeginsAt v block at

standing : (v : ImageVersion) (block : List ℕ) (j : JournalFields) (starts : List ℕ) (at i : ℕ) (d : EntryFields) → Scanned v block j starts at i → i < length j.entries → Standing v block j at i (get_or j.entries i d)
standing v block j starts at i d s lt =
    let e = get_or j.entries i d in
    let es = drop (i + 1) j.entries in
    let z = zeros (JOURNAL_ENTRY_BYTES - entries_length_by v j.entries) in
    let rest = flat_map (entry_spelling_by v) es ++ z in
    let is : drop i j.entries ≡ e ∷ es = drop_more j.entries i d lt in
    let fits : AllByRecursion (IsEntryBy v) (e ∷ es) = subst (AllByRecursion (IsEntryBy v)) is s.spelled in
    let stands : drop at block ≡ entry_spelling_by v e ++ rest =
    s.behind ∙ ap (λ (l : List EntryFields). flat_map (entry_spelling_by v) l ++ z) is ∙ ap (λ (l : List ℕ). l ++ z) (flat_map-cons (entry_spelling_by v) e es) ∙ append_assoc (entry_spelling_by v e) (flat_map (entry_spelling_by v) es) z in
    let reads : entry_at_by v (drop at block) ≡ Some (e, rest) = ap (entry_at_by v) stands ∙ (entry_field_by v).again e rest fits.0 in
    let place : at + (entry_length_by v e + entries_length_by v es) ≤ length block = subst (λ (n : ℕ). at + n ≤ length block) (ap (entries_length_by v) is ∙ length_next v e es) s.place in
    record { rest = rest; is = is; fits = fits; rest_is = refl; stands = stands; reads = reads; place = place; here = (omega (arith, place, entry_least_by v e), ap is_some reads) }

begins_by : (v : ImageVersion) (block : List ℕ) (j : JournalFields) (starts : List ℕ) (at i : ℕ) (d : EntryFields) → Scanned v block j starts at i → i < length j.entries → BeginsAt v block at
begins_by v block j starts at i d s lt = (standing v block j starts at i d s lt).here

next_by : (v : ImageVersion) (block : List ℕ) (j : JournalFields) (starts : List ℕ) (at i n : ℕ) (d : EntryFields) → Scanned v block j starts at i → i < length j.entries
    → ((e : EntryFields) (rest : List ℕ) → BeginsWithEntryBy v (drop at block) e rest → n ≡ entry_length_by v e) → Next v block j starts at i n
next_by v block j starts at i n d s lt sizes =
    let e = get_or j.entries i d in
    let es = drop (i + 1) j.entries in
    let t : Standing v block j at i e = standing v block j starts at i d s lt in
    let size : n ≡ entry_length_by v e = sizes e t.rest (t.fits.0, t.stands) in
    let place = t.place in
    let here : entry_in v block at ≡ e ∷ [] = ap (λ (o : Option (EntryFields × List ℕ)). option_to_list (o >>= λ x. Some x.0)) t.reads in
    let more : entries_begun_at v block (starts ++ at ∷ []) ≡ entries_begun_at v block starts ++ e ∷ [] =
    flat_map-append (entry_in v block) starts (at ∷ []) ∙ ap (λ (l : List EntryFields). entries_begun_at v block starts ++ l) (flat_map-cons (entry_in v block) at [] ∙ append-nil (entry_in v block at) ∙ here) in
    record {
      here = t.here;
      scanned = record {
        done = ap (λ (l : List EntryFields). l ++ es) more ∙ append_assoc (entries_begun_at v block starts) (e ∷ []) es ∙ ap (λ (l : List EntryFields). entries_begun_at v block starts ++ l) (sym t.is) ∙ s.done;
        behind = sym (drop-drop n at block) ∙ ap (drop n) t.stands ∙ drop_at (entry_spelling_by v e) t.rest n (entry_is_by v e ∙ sym size) ∙ t.rest_is;
        spelled = t.fits.1;
        place = omega (arith, place, size);
      };
    }

some_next : (v : ImageVersion) (block : List ℕ) (j : JournalFields) (starts : List ℕ) (at i n : ℕ) (entries : List EntryFields) → j.entries ≡ entries → Scanned v block j starts at i → i < length entries
    → ((e : EntryFields) (rest : List ℕ) → BeginsWithEntryBy v (drop at block) e rest → n ≡ entry_length_by v e) → Next v block j starts at i n
some_next v block j starts at i n [] is s lt sizes = absurd (omega (arith, lt))
some_next v block j starts at i n (d ∷ entries) is s lt sizes = next_by v block j starts at i n d s (subst (λ (l : List EntryFields). i < length l) (sym is) lt) sizes

pub next_scanned : (v : ImageVersion) (block : List ℕ) (j : JournalFields) (starts : List ℕ) (at i n : ℕ) → Scanned v block j starts at i → i < length j.entries
    → ((e : EntryFields) (rest : List ℕ) → BeginsWithEntryBy v (drop at block) e rest → n ≡ entry_length_by v e) → Next v block j starts at i n
next_scanned v block j starts at i n s lt sizes = some_next v block j starts at i n j.entries refl s lt sizes

there_by : (v : ImageVersion) (block : List ℕ) (j : JournalFields) (starts : List ℕ) (at i : ℕ) (entries : List EntryFields) → j.entries ≡ entries → Scanned v block j starts at i → i < length entries → BeginsAt v block at
there_by v block j starts at i [] is s lt = absurd (omega (arith, lt))
there_by v block j starts at i (d ∷ entries) is s lt = begins_by v block j starts at i d s (subst (λ (l : List EntryFields). i < length l) (sym is) lt)

-- an entry begins where not all were found
pub next_there : (v : ImageVersion) (block : List ℕ) (j : JournalFields) (starts : List ℕ) (at i : ℕ) → Scanned v block j starts at i → i < length j.entries → BeginsAt v block at
next_there v block j starts at i s lt = there_by v block j starts at i j.entries refl s lt

-- where another entry begins
pub record Ready (v : ImageVersion) (block starts : List ℕ) (at i : ℕ) : Type 0 where
  pub here : BeginsAt v block at
  pub few : i < JOURNAL_ENTRIES
  pub long : length block ≡ 512

pub ready : (v : ImageVersion) (block starts : List ℕ) (at i : ℕ) → IsBytes block → IsSome (all_of (journal_at_by v) block) → ((j : JournalFields) → SpellsJournalBy v block j → Scanned v block j starts at i)
    → i < get_or block 1 0 → Ready v block starts at i
ready v block starts at i bytes there scanned lt =
    let (j, h) = spelled_there v block bytes there in
    record { here = next_there v block j starts at i (scanned j h) (omega (arith, lt, count_there v block j h)); few = omega (arith, lt, few_there v block j h); long = length_there v block j h }

pub ready_next : (v : ImageVersion) (block starts rest : List ℕ) (at i n : ℕ) → ((j : JournalFields) → SpellsJournalBy v block j → Scanned v block j starts at i) → i < get_or block 1 0 → rest ≡ drop at block
    → ((e : EntryFields) (behind : List ℕ) → BeginsWithEntryBy v rest e behind → n ≡ entry_length_by v e) → (j : JournalFields) → SpellsJournalBy v block j → Next v block j starts at i n
ready_next v block starts rest at i n scanned lt is sizes j h =
    next_scanned v block j starts at i n (scanned j h) (omega (arith, lt, count_there v block j h)) (λ e behind b. sizes e behind (subst (λ (l : List ℕ). BeginsWithEntryBy v l e behind) (sym is) b))

pub all_scanned : (v : ImageVersion) (block : List ℕ) (j : JournalFields) (starts : List ℕ) (at i : ℕ) → Scanned v block j starts at i → length j.entries ≤ i → entries_begun_at v block starts ≡ j.entries
all_scanned v block j starts at i s le = sym (append-nil (entries_begun_at v block starts)) ∙ ap (λ (l : List EntryFields). entries_begun_at v block starts ++ l) (sym (drop_all i j.entries le)) ∙ s.done

-- ---- the last entry

pub entries_last : (v : ImageVersion) (block starts : List ℕ) (start : ℕ) → entries_begun_at v block (starts ++ start ∷ []) ≡ entries_begun_at v block starts ++ entry_in v block start
entries_last v block starts start = flat_map-append (entry_in v block) starts (start ∷ []) ∙ ap (λ (l : List EntryFields). entries_begun_at v block starts ++ l) (flat_map-cons (entry_in v block) start [] ∙ append-nil (entry_in v block start))

-- what is read where an entry begins
pub entry_is_there : (v : ImageVersion) (block rest : List ℕ) (start : ℕ) (x : EntryFields × List ℕ) → rest ≡ drop start block → entry_at_by v rest ≡ Some x → entry_in v block start ≡ x.0 ∷ []
entry_is_there v block rest start x is e = ap (λ (o : Option (EntryFields × List ℕ)). option_to_list (o >>= λ x. Some x.0)) (ap (entry_at_by v) (sym is) ∙ e)

pub never_none : (v : ImageVersion) (block rest : List ℕ) (start : ℕ) → BeginsAt v block start → rest ≡ drop start block → entry_at_by v rest ≡ None → ⊥
never_none v block rest start here is e =
    let no : is_some (entry_at_by v (drop start block)) ≡ false = ap is_some (ap (entry_at_by v) (sym is) ∙ e) in
    let both : true ≡ false = sym here.1 ∙ no in
    cc

pub starts_push : (v : ImageVersion) (block starts : List ℕ) (start : ℕ) → AllByRecursion (BeginsAt v block) starts → BeginsAt v block start → AllByRecursion (BeginsAt v block) (starts ++ start ∷ [])
starts_push v block [] start all one = (one, tt)
starts_push v block (s ∷ starts) start all one = (all.0, starts_push v block starts start all.1 one)

pub starts_pop : (v : ImageVersion) (block starts : List ℕ) (start : ℕ) → AllByRecursion (BeginsAt v block) (starts ++ start ∷ []) → AllByRecursion (BeginsAt v block) starts × BeginsAt v block start
starts_pop v block [] start all = (tt, all.0)
starts_pop v block (s ∷ starts) start all = let rest = starts_pop v block starts start all.1 in ((all.0, rest.0), rest.1)

one_there : (o : Option (EntryFields × List ℕ)) → IsSome o → length (option_to_list (o >>= λ x. Some x.0)) ≡ 1
one_there (Some x) h = refl
one_there None h = absurd (let e : false ≡ true = h in cc)

-- as many entries as places
pub as_many : (v : ImageVersion) (block starts : List ℕ) → AllByRecursion (BeginsAt v block) starts → length (entries_begun_at v block starts) ≡ length starts
as_many v block [] all = refl
as_many v block (s ∷ starts) all =
    let front : length (entries_begun_at v block (s ∷ starts)) ≡ length (entry_in v block s ++ entries_begun_at v block starts) = ap length (flat_map-cons (entry_in v block) s starts) in
    omega (arith, front, length-append (entry_in v block s) (entries_begun_at v block starts), one_there (entry_at_by v (drop s block)) all.0.1, as_many v block starts all.1)
