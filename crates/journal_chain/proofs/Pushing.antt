-- What a push leaves: the blocks that it keeps, under as many new ones as it needs.
use Rattle.std.proofs.Common.{◌≡◌, ℕ, ◌+◌, ◌-◌, ◌≤◌, ◌<◌, true, false, ltb, cond, inl, inr, List, [], ◌∷◌, ◌++◌, length, drop, map, refl, sym, ap, subst, ◌∙◌, arith, length-append}
use Rattle.std.proofs.lemmas.Bool.{cases_Bool, lt-ltb, le-ltb}
use Rattle.std.proofs.lemmas.List.{drop-drop}
use Rattle.std.proofs.lemmas.List.Sums.{fold-append}
use Rattle.codec.specs.Entry.{EntryFields, entry_length, entries_length}
use Rattle.codec.proofs.JournalEntries.{entries_one, entries_push}
use Rattle.journal_chain.specs.Sizes.{fits, filled_with, breaks, blocks_needed}
use Rattle.journal_chain.specs.Packing.{packed_with, added, packed, joined, filled_bytes, blocks_past, blocks_kept}
use Rattle.journal_chain.proofs.Adding.{entry_fits, entry_begins, first_entry, filled-fits, filled-begins, filled-none, joined-packed}

breaks_fits : (filled size : ℕ) (sizes : List ℕ) → fits filled size ≡ true → breaks filled (size ∷ sizes) ≡ breaks (filled + size) sizes
breaks_fits filled size sizes h =
    let here : cond {A = ℕ} (fits filled size) 0 1 ≡ 0 = ap (λ b. cond {A = ℕ} b 0 1) h in
    let there : breaks (filled_with filled size) sizes ≡ breaks (filled + size) sizes = ap (λ n. breaks n sizes) (filled-fits filled size h) in
    omega arith

breaks_begins : (filled size : ℕ) (sizes : List ℕ) → fits filled size ≡ false → breaks filled (size ∷ sizes) ≡ 1 + breaks size sizes
breaks_begins filled size sizes h =
    let here : cond {A = ℕ} (fits filled size) 0 1 ≡ 1 = ap (λ b. cond {A = ℕ} b 0 1) h in
    let there : breaks (filled_with filled size) sizes ≡ breaks size sizes = ap (λ n. breaks n sizes) (filled-begins filled size h) in
    omega arith

-- as many blocks as are needed are on those that are kept, and hold all entries past a count
pub record Pushed (count needed : ℕ) (kept_blocks after : List (List EntryFields)) : Type 0 where
  pub length_is : length after ≡ needed + length kept_blocks
  pub kept_are : drop needed after ≡ kept_blocks
  pub past_is : blocks_past count after ≡ needed + blocks_past count kept_blocks

-- a block in which entries past the count stand
holds : (count : ℕ) (newest : List EntryFields) (older : List (List EntryFields)) → count - length (joined older) < length newest → blocks_past count (newest ∷ older) ≡ 1 + blocks_past count older
unfolding blocks_past
holds count newest older lt = ap (λ b. cond {A = ℕ} b 1 0 + blocks_past count older) (lt-ltb _ _ lt)

none_before : (count : ℕ) (newest : List EntryFields) (older : List (List EntryFields)) → count - length (joined older) < length newest → count - length (joined (newest ∷ older)) < 1
unfolding joined
none_before count newest older lt = let both = length-append (joined older) newest in omega arith

-- a block that the push appended, kept by what came after it
one_block_more : (count needed : ℕ) (newest : List EntryFields) (older after : List (List EntryFields)) → count - length (joined older) < length newest
    → Pushed count needed (newest ∷ older) after → Pushed count (1 + needed) older after
one_block_more count needed newest older after lt p = record {
  length_is = omega (arith, p.length_is);
  kept_are = ap (λ n. drop n after) (let e : 1 + needed ≡ needed + 1 = omega arith in e) ∙ sym (drop-drop 1 needed after) ∙ ap (drop 1) p.kept_are;
  past_is = omega (arith, p.past_is, holds count newest older lt);
}

-- from a block that the push appends
from_block : (count : ℕ) (newest : List EntryFields) (older : List (List EntryFields)) (entries : List EntryFields) → count - length (joined older) < length newest
    → Pushed count (1 + breaks (entries_length newest) (map entry_length entries)) older (added (newest ∷ older) entries)
from_block count newest older [] lt = record { length_is = omega arith; kept_are = refl; past_is = omega (arith, holds count newest older lt) }
from_block count newest older (e ∷ entries) lt =
    let sizes = map entry_length entries in
    elim (cases_Bool (fits (entries_length newest) (entry_length e))) [
      | inl h ↦ (let rest = from_block count (newest ++ e ∷ []) older entries (omega (arith, length-append newest (e ∷ []))) in
          let same : breaks (entries_length (newest ++ e ∷ [])) sizes ≡ breaks (entries_length newest) (entry_length e ∷ sizes) =
          ap (λ n. breaks n sizes) (entries_push newest e) ∙ sym (breaks_fits (entries_length newest) (entry_length e) sizes h) in
          subst (λ blocks. Pushed count (1 + breaks (entries_length newest) (entry_length e ∷ sizes)) older (added blocks entries)) (sym (entry_fits newest older e h)) (
          subst (λ n. Pushed count (1 + n) older (added ((newest ++ e ∷ []) ∷ older) entries)) same rest
          ))
      | inr h ↦ (let rest = from_block count (e ∷ []) (newest ∷ older) entries (none_before count newest older lt) in
          let same : breaks (entries_length (e ∷ [])) sizes ≡ breaks (entry_length e) sizes = ap (λ n. breaks n sizes) (entries_one e) in
          let more : breaks (entries_length newest) (entry_length e ∷ sizes) ≡ 1 + breaks (entry_length e) sizes = breaks_begins (entries_length newest) (entry_length e) sizes h in
          subst (λ blocks. Pushed count (1 + breaks (entries_length newest) (entry_length e ∷ sizes)) older (added blocks entries)) (sym (entry_begins newest older e h)) (
          subst (λ n. Pushed count (1 + n) older (added ((e ∷ []) ∷ newest ∷ older) entries)) (ap (λ n. 1 + n) same ∙ sym more) (
          one_block_more count (1 + breaks (entries_length (e ∷ [])) sizes) newest older (added ((e ∷ []) ∷ newest ∷ older) entries) lt rest
          )
          ))
    ]

-- where the kept blocks hold no entry past the count
none_past : (count : ℕ) (blocks : List (List EntryFields)) → length (joined blocks) ≤ count → blocks_past count blocks ≡ 0
unfolding blocks_past joined
none_past count [] le = refl
none_past count (newest ∷ older) le =
    let both = length-append (joined older) newest in
    let rest = none_past count older (omega arith) in
    let out : cond {A = ℕ} (ltb (count - length (joined older)) (length newest)) 1 0 ≡ 0 = ap (λ b. cond {A = ℕ} b 1 0) (le-ltb _ _ (omega arith)) in
    omega arith

abbrev pub needed_for : List (List EntryFields) → List EntryFields → ℕ
needed_for blocks entries = blocks_needed (filled_bytes blocks) (map entry_length entries)

-- a push onto any blocks
pub pushed : (blocks : List (List EntryFields)) (entries : List EntryFields) → Pushed (length (joined blocks)) (needed_for blocks entries) (blocks_kept blocks entries) (added blocks entries)
unfolding blocks_kept joined filled_bytes
pushed blocks [] = record { length_is = omega arith; kept_are = refl; past_is = omega arith }
pushed [] (e ∷ entries) =
    let after = added ((e ∷ []) ∷ []) entries in
    let same : breaks (entries_length (e ∷ [])) (map entry_length entries) ≡ breaks (filled_with 0 (entry_length e)) (map entry_length entries) =
    ap (λ n. breaks n (map entry_length entries)) (entries_one e ∙ sym (filled-none (entry_length e))) in
    subst (λ blocks. Pushed 0 (needed_for [] (e ∷ entries)) [] (added blocks entries)) (sym (first_entry e)) (
    subst (λ n. Pushed 0 (1 + n) [] after) same (from_block 0 (e ∷ []) [] entries (omega arith))
    )
pushed (newest ∷ older) (e ∷ entries) =
    let sizes = map entry_length entries in
    let count = length (joined older ++ newest) in
    let both = length-append (joined older) newest in
    elim (cases_Bool (fits (entries_length newest) (entry_length e))) [
      | inl h ↦ (let same : breaks (entries_length (newest ++ e ∷ [])) sizes ≡ breaks (filled_with (entries_length newest) (entry_length e)) sizes =
          ap (λ n. breaks n sizes) (entries_push newest e ∙ sym (filled-fits (entries_length newest) (entry_length e) h)) in
          let old : older ≡ blocks_kept (newest ∷ older) (e ∷ entries) = sym (ap (λ b. cond b older (newest ∷ older)) h) in
          subst (λ blocks. Pushed count (needed_for (newest ∷ older) (e ∷ entries)) (blocks_kept (newest ∷ older) (e ∷ entries)) (added blocks entries)) (sym (entry_fits newest older e h)) (
          subst (λ left. Pushed count (needed_for (newest ∷ older) (e ∷ entries)) left (added ((newest ++ e ∷ []) ∷ older) entries)) old (
          subst (λ n. Pushed count (1 + n) older (added ((newest ++ e ∷ []) ∷ older) entries)) same (
          from_block count (newest ++ e ∷ []) older entries (omega (arith, length-append newest (e ∷ [])))
          )
          )
          ))
      | inr h ↦ (let same : breaks (entries_length (e ∷ [])) sizes ≡ breaks (filled_with (entries_length newest) (entry_length e)) sizes =
          ap (λ n. breaks n sizes) (entries_one e ∙ sym (filled-begins (entries_length newest) (entry_length e) h)) in
          let old : newest ∷ older ≡ blocks_kept (newest ∷ older) (e ∷ entries) = sym (ap (λ b. cond b older (newest ∷ older)) h) in
          subst (λ blocks. Pushed count (needed_for (newest ∷ older) (e ∷ entries)) (blocks_kept (newest ∷ older) (e ∷ entries)) (added blocks entries)) (sym (entry_begins newest older e h)) (
          subst (λ left. Pushed count (needed_for (newest ∷ older) (e ∷ entries)) left (added ((e ∷ []) ∷ newest ∷ older) entries)) old (
          subst (λ n. Pushed count (1 + n) (newest ∷ older) (added ((e ∷ []) ∷ newest ∷ older) entries)) same (
          from_block count (e ∷ []) (newest ∷ older) entries (omega arith)
          )
          )
          ))
    ]

-- what is kept of blocks holds only entries that were in them
kept_hold : (blocks : List (List EntryFields)) (entries : List EntryFields) → blocks_past (length (joined blocks)) (blocks_kept blocks entries) ≡ 0
unfolding blocks_kept joined
kept_hold blocks [] = none_past (length (joined blocks)) blocks (omega arith)
kept_hold [] (e ∷ entries) = none_past 0 [] (omega arith)
kept_hold (newest ∷ older) (e ∷ entries) =
    let count = length (joined older ++ newest) in
    let both = length-append (joined older) newest in
    elim (cases_Bool (fits (entries_length newest) (entry_length e))) [
      | inl h ↦ ap (λ b. blocks_past count (cond b older (newest ∷ older))) h ∙ none_past count older (omega arith)
      | inr h ↦ ap (λ b. blocks_past count (cond b older (newest ∷ older))) h ∙ none_past count (newest ∷ older) (omega arith)
    ]

pub push_held : (xs ys : List EntryFields) → needed_for (packed xs) ys ≡ blocks_past (length xs) (packed (xs ++ ys))
push_held xs ys =
    let count : length (joined (packed xs)) ≡ length xs = ap length (joined-packed xs) in
    let held = (pushed (packed xs) ys).past_is in
    let none = kept_hold (packed xs) ys in
    let all : needed_for (packed xs) ys ≡ blocks_past (length (joined (packed xs))) (added (packed xs) ys) = omega arith in
    all ∙ ap (λ n. blocks_past n (added (packed xs) ys)) count ∙ ap (blocks_past (length xs)) (sym (fold-append packed_with [] xs ys))

pub whole_counted : (entries : List EntryFields) → blocks_needed 0 (map entry_length entries) ≡ length (packed entries)
unfolding blocks_kept filled_bytes
whole_counted [] = refl
whole_counted (e ∷ entries) = let is = (pushed [] (e ∷ entries)).length_is in omega arith

-- ---- which blocks are kept

pub kept_none : (blocks : List (List EntryFields)) → blocks_kept blocks [] ≡ blocks
unfolding blocks_kept
kept_none [] = refl
kept_none (newest ∷ older) = refl

pub kept_fits : (newest : List EntryFields) (older : List (List EntryFields)) (e : EntryFields) (entries : List EntryFields) → fits (entries_length newest) (entry_length e) ≡ true
    → blocks_kept (newest ∷ older) (e ∷ entries) ≡ older
unfolding blocks_kept
kept_fits newest older e entries h = ap (λ b. cond b older (newest ∷ older)) h

pub kept_begins : (newest : List EntryFields) (older : List (List EntryFields)) (e : EntryFields) (entries : List EntryFields) → fits (entries_length newest) (entry_length e) ≡ false
    → blocks_kept (newest ∷ older) (e ∷ entries) ≡ newest ∷ older
unfolding blocks_kept
kept_begins newest older e entries h = ap (λ b. cond b older (newest ∷ older)) h

-- ---- how many are needed at most

few_breaks : (filled : ℕ) (sizes : List ℕ) → breaks filled sizes ≤ length sizes
few_breaks filled [] = omega arith
few_breaks filled (size ∷ sizes) = let others = few_breaks (filled_with filled size) sizes in
    elim (cases_Bool (fits filled size)) [
      | inl h ↦ (let here : cond {A = ℕ} (fits filled size) 0 1 ≡ 0 = ap (λ b. cond {A = ℕ} b 0 1) h in omega arith)
      | inr h ↦ (let here : cond {A = ℕ} (fits filled size) 0 1 ≡ 1 = ap (λ b. cond {A = ℕ} b 0 1) h in omega arith)
    ]

pub few_needed : (filled : ℕ) (sizes : List ℕ) → blocks_needed filled sizes ≤ length sizes
few_needed filled [] = omega arith
few_needed filled (size ∷ sizes) = let others = few_breaks (filled_with filled size) sizes in omega arith
