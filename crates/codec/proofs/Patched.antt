-- How the encoding of a journal block with one entry more comes from that of the others.
use Rattle.std.proofs.Common.{◌≡◌, ℕ, ◌+◌, ◌-◌, ◌^◌, ◌<◌, ◌≤◌, List, [], ◌∷◌, ◌++◌, length, get_or, take, drop, Option, Some, refl, sym, ap, subst, ◌∙◌, append_assoc, arith, length-append}
use Rattle.std.specs.Prelude.{unwrap_or, None, IsSome}
use Rattle.std.specs.Int.{w16, w64}
use Rattle.byteorder.specs.Endian.{big_number}
use Rattle.byteorder.specs.Numbers.{big_number-reads_back}
use Rattle.std.specs.List.{flat_map}
use Rattle.std.proofs.lemmas.List.{take_at, append-nil}
use Rattle.std.proofs.lemmas.Grind.{common_steps, flat_map-append}
use Rattle.std.proofs.Math.Seq.{drop-append-add}
use Rattle.std.proofs.lemmas.Slice.{between_to_end}
use Rattle.std.specs.List.{between}
use Rattle.std.proofs.lemmas.Option.{same_Some}
use Rattle.s4_types.specs.declared.limits.TheConstants.{JOURNAL_ENTRY_BYTES, JOURNAL_HEAD_BYTES, JOURNAL_ENTRIES}
use Rattle.lemmas.proofs.Bytes.{IsBytes}
use Rattle.codec.specs.Fields.{Reads, number, zeros, slot, mark_at, slot_at, number_at, all_of}
use Rattle.codec.specs.Entry.{EntryFields, IsEntry, entry_spelling, entry_spelling_by, entry_length, entries_length}
use Rattle.codec.specs.Journal.{JournalFields, JournalNumbers, SpellsJournal, journal_spelling, journal_spelling_by, journal_at}
use Rattle.codec.specs.Patching.{decoded, with_entry}
use Rattle.codec.proofs.Exact.{long_field}
use Rattle.codec.proofs.Whole.{all_exact}
use Rattle.codec.proofs.Slots.{slot_field}
use Rattle.codec.proofs.Padded.{drop_zeros}
use Rattle.codec.proofs.Lengths.{entry_is, slot_length}
use Rattle.codec.proofs.JournalEntries.{rules_push, rules_fit, entries_push, entries_one, entries_spelled, room}
use Rattle.codec.proofs.JournalLaws.{journal_field}

-- what is read from a block is what it is seen as
pub decoded_read : (block : List ℕ) (j : JournalFields) → all_of journal_at block ≡ Some j → decoded block ≡ j
unfolding decoded
decoded_read block j e = ap (λ (o : Option JournalFields). unwrap_or o (record { object = 0; previous = None; entries = [] })) e

-- what a block encodes is what it is seen as
pub decoded_is : (block : List ℕ) (j : JournalFields) → SpellsJournal block j → decoded block ≡ j
decoded_is block j h = decoded_read block j ((all_exact journal_field).again block j h)

some_decoded : (block : List ℕ) (o : Option JournalFields) → all_of journal_at block ≡ o → IsSome o → all_of journal_at block ≡ Some (decoded block)
unfolding decoded
some_decoded block (Some j) e there = rw e refl
some_decoded block None e there = cc

-- bytes that can be read encode what is read
pub spells_decoded : (block : List ℕ) → IsBytes block → IsSome (all_of journal_at block) → SpellsJournal block (decoded block)
spells_decoded block h there = (all_exact journal_field).found block (decoded block) h (some_decoded block (all_of journal_at block) refl there)

pub reads_decoded : (block : List ℕ) → IsSome (all_of journal_at block) → all_of journal_at block ≡ Some (decoded block)
reads_decoded block there = some_decoded block (all_of journal_at block) refl there

-- ---- the head

told_at : (n t : ℕ) (rest : List ℕ) → t < 2 ^ 16 → big_number 2 (drop 2 (1 ∷ n ∷ (number w16 t ++ rest))) ≡ t
unfolding number
told_at n t rest lt = big_number-reads_back 2 t rest lt

pub told_is : (block : List ℕ) (j : JournalFields) → SpellsJournal block j → big_number 2 (drop 2 block) ≡ entries_length j.entries
unfolding journal_spelling journal_spelling_by entry_spelling
told_is block j h =
    let fit : entries_length j.entries ≤ JOURNAL_ENTRY_BYTES = rules_fit j h.0.0 in
    ap (λ (b : List ℕ). big_number 2 (drop 2 b)) h.1 ∙ told_at (length j.entries) (entries_length j.entries) _ (omega arith)

pub count_is : (block : List ℕ) (j : JournalFields) → SpellsJournal block j → get_or block 1 0 ≡ length j.entries
unfolding journal_spelling journal_spelling_by entry_spelling
count_is block j h = ap (λ (b : List ℕ). get_or b 1 0) h.1

-- ---- one entry more

-- the bytes before the zeros
abbrev pub front : ℕ → ℕ → JournalFields → List EntryFields → List ℕ
front count told j entries = 1 ∷ count ∷ (number w16 told ++ (zeros 4 ++ (number w64 j.object ++ (slot j.previous ++ flat_map entry_spelling entries))))

front_length : (count told : ℕ) (j : JournalFields) (entries : List EntryFields) → length (front count told j entries) ≡ JOURNAL_HEAD_BYTES + entries_length entries
unfolding zeros number
front_length count told j entries = omega (arith, length-append (slot j.previous) (flat_map entry_spelling entries), slot_length j.previous, entries_spelled entries)

front_spells : (j : JournalFields) → journal_spelling j ≡ front (length j.entries) (entries_length j.entries) j j.entries ++ zeros (JOURNAL_ENTRY_BYTES - entries_length j.entries)
unfolding journal_spelling journal_spelling_by entry_spelling
front_spells j = simp append_assoc

-- the same head, with other counts
head_is : (count told more all : ℕ) (j : JournalFields) (entries : List EntryFields) (rest : List ℕ)
    → take 1 (front count told j entries ++ rest) ++ ((more ∷ number w16 all) ++ drop 4 (front count told j entries ++ rest)) ≡ front more all j entries ++ rest
unfolding number
head_is count told more all j entries rest = refl

front_push : (count told : ℕ) (j : JournalFields) (entries : List EntryFields) (e : EntryFields) → front count told j (entries ++ e ∷ []) ≡ front count told j entries ++ entry_spelling e
front_push count told j entries e =
    let parts : flat_map entry_spelling (entries ++ e ∷ []) ≡ flat_map entry_spelling entries ++ entry_spelling e =
    flat_map-append entry_spelling entries (e ∷ []) ∙ ap (λ (l : List ℕ). flat_map entry_spelling entries ++ l) (append-nil (entry_spelling e)) in
    rw parts (simp append_assoc)

-- with the bytes of the entry in place of zeros
behind : (count told : ℕ) (j : JournalFields) (e : EntryFields) (block : List ℕ) (at size : ℕ) → told ≡ entries_length j.entries → at ≡ JOURNAL_HEAD_BYTES + told → size ≡ length (entry_spelling e)
    → block ≡ front count told j j.entries ++ zeros (JOURNAL_ENTRY_BYTES - told)
    → take at block ++ (entry_spelling e ++ drop (at + size) block) ≡ front count told j (j.entries ++ e ∷ []) ++ zeros (JOURNAL_ENTRY_BYTES - (told + size))
behind count told j e block at size t a s whole =
    let f = front count told j j.entries in
    let len : length f ≡ at = omega (arith, front_length count told j j.entries) in
    let first : take at (f ++ zeros (JOURNAL_ENTRY_BYTES - told)) ≡ f = take_at f (zeros (JOURNAL_ENTRY_BYTES - told)) at len in
    let less : (JOURNAL_ENTRY_BYTES - told) - size ≡ JOURNAL_ENTRY_BYTES - (told + size) = omega arith in
    let rest : drop (at + size) (f ++ zeros (JOURNAL_ENTRY_BYTES - told)) ≡ zeros (JOURNAL_ENTRY_BYTES - (told + size)) =
    subst (λ (n : ℕ). drop (n + size) (f ++ zeros (JOURNAL_ENTRY_BYTES - told)) ≡ zeros (JOURNAL_ENTRY_BYTES - (told + size))) len (drop-append-add f (zeros (JOURNAL_ENTRY_BYTES - told)) size ∙ drop_zeros size (JOURNAL_ENTRY_BYTES - told) ∙ ap zeros less) in
    ap (λ (b : List ℕ). take at b ++ (entry_spelling e ++ drop (at + size) b)) whole
    ∙ ap (λ (l : List ℕ). l ++ (entry_spelling e ++ drop (at + size) (f ++ zeros (JOURNAL_ENTRY_BYTES - told)))) first
    ∙ ap (λ (l : List ℕ). f ++ (entry_spelling e ++ l)) rest
    ∙ sym (append_assoc f (entry_spelling e) (zeros (JOURNAL_ENTRY_BYTES - (told + size))))
    ∙ ap (λ (l : List ℕ). l ++ zeros (JOURNAL_ENTRY_BYTES - (told + size))) (sym (front_push count told j j.entries e))

pub count_low : (block : List ℕ) (j : JournalFields) (e : EntryFields) → SpellsJournal block j → entries_length j.entries + entry_length e ≤ JOURNAL_ENTRY_BYTES → length j.entries < JOURNAL_ENTRIES
count_low block j e h fit = room j.entries e fit

numbers_push : (j : JournalFields) (e : EntryFields) → JournalNumbers j → IsEntry e → JournalNumbers (with_entry j e)
numbers_push j e n h = record { object = n.object; previous = n.previous; entries = grind (arith, common_steps, n.entries, h) }

-- the block with the entry after the others and the counts raised
pub patched : (block : List ℕ) (j : JournalFields) (e : EntryFields) (at size told count : ℕ) (mid spelled later counts : List ℕ) → SpellsJournal block j → IsEntry e → entries_length j.entries + entry_length e ≤ JOURNAL_ENTRY_BYTES
    → told ≡ entries_length j.entries → count ≡ length j.entries → at ≡ JOURNAL_HEAD_BYTES + told → spelled ≡ entry_spelling e → size ≡ length spelled
    → mid ≡ take at block ++ (spelled ++ drop (at + size) block)
    → counts ≡ (count + 1) ∷ number w16 (told + size)
    → later ≡ take 1 mid ++ (counts ++ drop 4 mid)
    → SpellsJournal later (with_entry j e)
patched block j e at size told count mid spelled later counts h is fit t n a sp s m c l =
    let j2 = with_entry j e in
    let len : size ≡ length (entry_spelling e) = s ∙ ap length sp in
    let whole : block ≡ front count told j j.entries ++ zeros (JOURNAL_ENTRY_BYTES - told) = h.1 ∙ front_spells j ∙ ap (λ (k : ℕ). front k (entries_length j.entries) j j.entries ++ zeros (JOURNAL_ENTRY_BYTES - entries_length j.entries)) (sym n) ∙ ap (λ (k : ℕ). front count k j j.entries ++ zeros (JOURNAL_ENTRY_BYTES - k)) (sym t) in
    let tail = zeros (JOURNAL_ENTRY_BYTES - (told + size)) in
    let one : mid ≡ front count told j j2.entries ++ tail = m ∙ ap (λ (x : List ℕ). take at block ++ (x ++ drop (at + size) block)) sp ∙ behind count told j e block at size t a len whole in
    let two : later ≡ front (count + 1) (told + size) j j2.entries ++ tail =
    l ∙ ap (λ (x : List ℕ). take 1 x ++ (counts ++ drop 4 x)) one
    ∙ ap (λ (x : List ℕ). take 1 (front count told j j2.entries ++ tail) ++ (x ++ drop 4 (front count told j j2.entries ++ tail))) c
    ∙ head_is count told (count + 1) (told + size) j j2.entries tail in
    let all : told + size ≡ entries_length j2.entries = omega (arith, entries_push j.entries e, entry_is e) in
    let more : count + 1 ≡ length j2.entries = omega (arith, length-append j.entries (e ∷ [])) in
    let three : later ≡ front (length j2.entries) (entries_length j2.entries) j j2.entries ++ zeros (JOURNAL_ENTRY_BYTES - entries_length j2.entries) =
    two ∙ ap (λ (k : ℕ). front k (told + size) j j2.entries ++ tail) more ∙ ap (λ (k : ℕ). front (length j2.entries) k j j2.entries ++ zeros (JOURNAL_ENTRY_BYTES - k)) all in
    ((rules_push j.object j.previous j.entries e h.0.0 fit, numbers_push j e h.0.1 is), three ∙ sym (front_spells j2))

-- ---- what else the head tells

object_behind : (n told object : ℕ) (rest : List ℕ) → drop 8 (1 ∷ n ∷ (number w16 told ++ (zeros 4 ++ (number w64 object ++ rest)))) ≡ number w64 object ++ rest
unfolding number zeros
object_behind n told object rest = refl

pub previous_behind : (n told object : ℕ) (rest : List ℕ) → drop 16 (1 ∷ n ∷ (number w16 told ++ (zeros 4 ++ (number w64 object ++ rest)))) ≡ rest
unfolding number zeros
previous_behind n told object rest = refl

pub object_is : (block : List ℕ) (j : JournalFields) → SpellsJournal block j → number_at w64 (drop 8 block) ≡ Some (j.object, drop 16 block)
unfolding journal_spelling journal_spelling_by entry_spelling
object_is block j h =
    let rest = slot j.previous ++ (flat_map entry_spelling j.entries ++ zeros (JOURNAL_ENTRY_BYTES - entries_length j.entries)) in
    let e : drop 8 block ≡ number w64 j.object ++ rest = ap (λ (b : List ℕ). drop 8 b) h.1 ∙ object_behind (length j.entries) (entries_length j.entries) j.object rest in
    let d : drop 16 block ≡ rest = ap (λ (b : List ℕ). drop 16 b) h.1 ∙ previous_behind (length j.entries) (entries_length j.entries) j.object rest in
    ap (number_at w64) e ∙ long_field.again j.object rest h.0.1.object ∙ ap (λ (r : List ℕ). Some (j.object, r)) (sym d)

-- a single entry fits
pub alone_fits : (entries : List EntryFields) (e : EntryFields) → entries ≡ e ∷ [] → entry_length e ≤ JOURNAL_ENTRY_BYTES → entries_length entries ≤ JOURNAL_ENTRY_BYTES
alone_fits entries e is h = rw is (omega (arith, entries_one e))

-- ---- a field that is read from the bytes

pub rest_is : (block : List ℕ) (a : ℕ) → length block ≡ 512 → between a 512 block ≡ drop a block
rest_is block a len = between_to_end block a 512 (omega arith)

pub read_some : {X Y : Type 0} (view : X → Y) (result : Option X) (read : Option Y) (y : Y) → Reads view result read → read ≡ Some y → IsSome result
read_some view (Some x) read y h e = refl
read_some view None read y h e = absurd (let n : None ≡ Some y = sym h ∙ e in cc)

pub read_is : {X Y : Type 0} (view : X → Y) (result : Option X) (read : Option Y) (x : X) (y : Y) → Reads view result read → read ≡ Some y → result ≡ Some x → view x ≡ y
read_is {X = X} view result read x y h e is = same_Some _ _ (sym (subst (λ (r : Option X). Reads view r read) is h) ∙ e)
