-- Entries one after another: what is taken already, and what is left.
use Rattle.std.proofs.Common.{◌≡◌, ℕ, ◌+◌, ◌-◌, ◌≤◌, ◌<◌, cond, List, [], ◌∷◌, ◌++◌, map, length, get_or, take, drop, sym, ap, ◌∙◌, subst, arith, length-drop}
use Rattle.std.proofs.lemmas.List.{drop_all}
use Rattle.std.proofs.lemmas.Grind.{take_at_read}
use Rattle.s4_types.specs.Pointer.{Place}
use Rattle.s4_types.specs.declared.limits.TheConstants.{JOURNAL_ENTRY_BYTES, LONGEST_ENTRY_BYTES}
use Rattle.lemmas.proofs.List.{drop_next}
use Rattle.block_log.specs.Log.{Log}
use Rattle.block_log.specs.Taken.{TakesPlaces}
use Rattle.codec.specs.Entry.{EntryFields, entry_length}
use Rattle.journal_chain.specs.Sizes.{fits, filled_with, breaks}
use Rattle.journal_chain.specs.Packing.{AllFit}

pub next_taken : (xs : List EntryFields) (i : ℕ) (e : EntryFields) → i < length xs → e ≡ get_or xs i e → take (i + 1) xs ≡ take i xs ++ e ∷ []
next_taken xs i e lt is = (take_at_read xs i e lt).1 ∙ ap (λ x. take i xs ++ x ∷ []) (sym is)

-- ---- bytes

all_fit-last : (xs : List EntryFields) (e : EntryFields) → AllFit xs → entry_length e ≤ JOURNAL_ENTRY_BYTES → AllFit (xs ++ e ∷ [])
all_fit-last [] e a h = (h, tt)
all_fit-last (x ∷ xs) e a h = (a.0, all_fit-last xs e a.1 h)

pub fit_more : (xs : List EntryFields) (i : ℕ) (e : EntryFields) → i < length xs → e ≡ get_or xs i e → AllFit (take i xs) → entry_length e ≤ LONGEST_ENTRY_BYTES → AllFit (take (i + 1) xs)
fit_more xs i e lt is a h = subst AllFit (sym (next_taken xs i e lt is)) (all_fit-last (take i xs) e a (omega arith))

pub all_fit-append : (xs ys : List EntryFields) → AllFit xs → AllFit ys → AllFit (xs ++ ys)
all_fit-append [] ys a b = b
all_fit-append (x ∷ xs) ys a b = (a.0, all_fit-append xs ys a.1 b)

-- ---- blocks begun

pub breaks_one : (filled size : ℕ) (rest : List ℕ) → breaks filled (size ∷ rest) ≡ breaks filled (size ∷ []) + breaks (filled_with filled size) rest
breaks_one filled size rest = let b = cond (fits filled size) 0 1 in let goal : b + breaks (filled_with filled size) rest ≡ (b + 0) + breaks (filled_with filled size) rest = omega arith in goal

-- two changes in turn take as many places as both together
abbrev pub AddUp : Type 0
AddUp = (n m : ℕ) (first second third : Log) → TakesPlaces n first second → TakesPlaces m second third → TakesPlaces (n + m) first third

-- the places that one entry more and the others after it take
pub takes_next : (filled later : ℕ) (left rest : List EntryFields) (e : EntryFields) (log between after : Log)
    → AddUp → left ≡ e ∷ rest → later ≡ filled_with filled (entry_length e) → TakesPlaces (breaks filled (entry_length e ∷ [])) log between
    → TakesPlaces (breaks later (map entry_length rest)) between after → TakesPlaces (breaks filled (map entry_length left)) log after
takes_next filled later left rest e log between after adds is filled_is one others =
    let sizes = map entry_length rest in
    let sum : breaks filled (entry_length e ∷ []) + breaks later sizes ≡ breaks filled (map entry_length left) =
    ap (λ f. breaks filled (entry_length e ∷ []) + breaks f sizes) filled_is
    ∙ sym (breaks_one filled (entry_length e) sizes)
    ∙ ap (λ l. breaks filled (map entry_length l)) (sym is) in
    subst (λ n. TakesPlaces n log after) sum (adds (breaks filled (entry_length e ∷ [])) (breaks later sizes) log between after one others)

pub takes_more : (filled later : ℕ) (xs : List EntryFields) (i : ℕ) (e : EntryFields) (log between after : Log)
    → AddUp → i < length xs → e ≡ get_or xs i e → later ≡ filled_with filled (entry_length e) → TakesPlaces (breaks filled (entry_length e ∷ [])) log between
    → TakesPlaces (breaks later (map entry_length (drop (i + 1) xs))) between after → TakesPlaces (breaks filled (map entry_length (drop i xs))) log after
takes_more filled later xs i e log between after adds lt is filled_is one others =
    takes_next filled later (drop i xs) (drop (i + 1) xs) e log between after adds (drop_next xs i e lt is) filled_is one others

pub room_next : (filled later : ℕ) (left rest : List EntryFields) (e : EntryFields) (ahead after : List Place)
    → left ≡ e ∷ rest → later ≡ filled_with filled (entry_length e) → after ≡ drop (breaks filled (entry_length e ∷ [])) ahead
    → breaks filled (map entry_length left) ≤ length ahead → breaks later (map entry_length rest) ≤ length after
room_next filled later left rest e ahead after is filled_is after_is le =
    let sizes = map entry_length rest in
    let whole : breaks filled (map entry_length left) ≡ breaks filled (entry_length e ∷ []) + breaks (filled_with filled (entry_length e)) sizes =
    ap (λ l. breaks filled (map entry_length l)) is ∙ breaks_one filled (entry_length e) sizes in
    let same : breaks later sizes ≡ breaks (filled_with filled (entry_length e)) sizes = ap (λ f. breaks f sizes) filled_is in
    let short : length after ≡ length ahead - breaks filled (entry_length e ∷ []) = ap length after_is ∙ length-drop (breaks filled (entry_length e ∷ [])) ahead in
    omega (arith, whole, same, short, le)

-- the places ahead have room for the block that one entry begins, if it does
pub room_one : (filled : ℕ) (left rest : List EntryFields) (e : EntryFields) (ahead : List Place)
    → left ≡ e ∷ rest → breaks filled (map entry_length left) ≤ length ahead → breaks filled (entry_length e ∷ []) ≤ length ahead
room_one filled left rest e ahead is le =
    let whole : breaks filled (map entry_length left) ≡ breaks filled (entry_length e ∷ []) + breaks (filled_with filled (entry_length e)) (map entry_length rest) =
    ap (λ l. breaks filled (map entry_length l)) is ∙ breaks_one filled (entry_length e) (map entry_length rest) in
    omega (arith, whole, le)

pub room_more : (filled later : ℕ) (xs : List EntryFields) (i : ℕ) (e : EntryFields) (ahead after : List Place)
    → i < length xs → e ≡ get_or xs i e → later ≡ filled_with filled (entry_length e) → after ≡ drop (breaks filled (entry_length e ∷ [])) ahead
    → breaks filled (map entry_length (drop i xs)) ≤ length ahead → breaks later (map entry_length (drop (i + 1) xs)) ≤ length after
room_more filled later xs i e ahead after lt is filled_is after_is le = room_next filled later (drop i xs) (drop (i + 1) xs) e ahead after (drop_next xs i e lt is) filled_is after_is le

-- no entry is left, so none takes a place
pub takes_none : (filled : ℕ) (left : List EntryFields) (log : Log) → left ≡ [] → TakesPlaces 0 log log → TakesPlaces (breaks filled (map entry_length left)) log log
takes_none filled left log is none = subst (λ l. TakesPlaces (breaks filled (map entry_length l)) log log) (sym is) none

pub takes_end : (filled : ℕ) (xs : List EntryFields) (i : ℕ) (log : Log) → length xs ≤ i → TakesPlaces 0 log log → TakesPlaces (breaks filled (map entry_length (drop i xs))) log log
takes_end filled xs i log le none = takes_none filled (drop i xs) log (drop_all i xs le) none
