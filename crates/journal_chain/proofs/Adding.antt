-- One more entry, by whether it fits; and what the blocks then hold.
use Rattle.std.proofs.Common.{◌≡◌, ℕ, ◌+◌, true, false, cond, inl, inr, List, [], ◌∷◌, ◌++◌, map, refl, sym, ap, ◌∙◌, append_assoc, arith}
use Rattle.std.specs.List.{sum}
use Rattle.std.proofs.lemmas.Bool.{cases_Bool}
use Rattle.std.proofs.lemmas.List.Sums.{sum_by-cons}
use Rattle.std.proofs.lemmas.Grind.{common_steps}
use Rattle.codec.specs.Entry.{EntryFields, entry_length, entries_length}
use Rattle.codec.proofs.JournalEntries.{entries_one, entries_push}
use Rattle.journal_chain.specs.Sizes.{fits, filled_with, filled_after}
use Rattle.journal_chain.specs.Packing.{packed_with, added, joined, filled_bytes}

pub bytes-sum : (entries : List EntryFields) → sum (map entry_length entries) ≡ entries_length entries
unfolding entries_length
bytes-sum [] = refl
bytes-sum (e ∷ entries) = sum_by-cons (λ n. n) (entry_length e) (map entry_length entries) ∙ ap (λ n. entry_length e + n) (bytes-sum entries)

-- an entry that fits
pub entry_fits : (newest : List EntryFields) (older : List (List EntryFields)) (e : EntryFields) → fits (entries_length newest) (entry_length e) ≡ true
    → packed_with (newest ∷ older) e ≡ (newest ++ e ∷ []) ∷ older
unfolding packed_with
entry_fits newest older e h = ap (λ b. cond b ((newest ++ e ∷ []) ∷ older) ((e ∷ []) ∷ newest ∷ older)) h

-- an entry that doesn't
pub entry_begins : (newest : List EntryFields) (older : List (List EntryFields)) (e : EntryFields) → fits (entries_length newest) (entry_length e) ≡ false
    → packed_with (newest ∷ older) e ≡ (e ∷ []) ∷ newest ∷ older
unfolding packed_with
entry_begins newest older e h = ap (λ b. cond b ((newest ++ e ∷ []) ∷ older) ((e ∷ []) ∷ newest ∷ older)) h

pub first_entry : (e : EntryFields) → packed_with [] e ≡ (e ∷ []) ∷ []
unfolding packed_with
first_entry e = refl

pub filled-fits : (filled size : ℕ) → fits filled size ≡ true → filled_with filled size ≡ filled + size
filled-fits filled size h = ap (λ b. cond b (filled + size) size) h

pub filled-begins : (filled size : ℕ) → fits filled size ≡ false → filled_with filled size ≡ size
filled-begins filled size h = ap (λ b. cond b (filled + size) size) h

pub filled-none : (size : ℕ) → filled_with 0 size ≡ size
filled-none size = elim (cases_Bool (fits 0 size)) [
  | inl h ↦ (let e = filled-fits 0 size h in omega arith)
  | inr h ↦ filled-begins 0 size h
]

-- ---- the entries

one_more : (blocks : List (List EntryFields)) (e : EntryFields) → joined (packed_with blocks e) ≡ joined blocks ++ e ∷ []
unfolding joined
one_more [] e = ap joined (first_entry e)
one_more (newest ∷ older) e = elim (cases_Bool (fits (entries_length newest) (entry_length e))) [
  | inl h ↦ ap joined (entry_fits newest older e h) ∙ sym (append_assoc (joined older) newest (e ∷ []))
  | inr h ↦ ap joined (entry_begins newest older e h)
]

pub joined-added : (blocks : List (List EntryFields)) (entries : List EntryFields) → joined (added blocks entries) ≡ joined blocks ++ entries
joined-added blocks [] = grind (arith, common_steps)
joined-added blocks (e ∷ entries) = joined-added (packed_with blocks e) entries ∙ ap (λ xs. xs ++ entries) (one_more blocks e) ∙ append_assoc (joined blocks) (e ∷ []) entries

pub joined-packed : (entries : List EntryFields) → joined (added [] entries) ≡ entries
unfolding joined
joined-packed entries = joined-added [] entries

-- ---- the bytes in the newest block

filled_step : (blocks : List (List EntryFields)) (e : EntryFields) → filled_bytes (packed_with blocks e) ≡ filled_with (filled_bytes blocks) (entry_length e)
unfolding filled_bytes
filled_step [] e = ap filled_bytes (first_entry e) ∙ entries_one e ∙ sym (filled-none (entry_length e))
filled_step (newest ∷ older) e = elim (cases_Bool (fits (entries_length newest) (entry_length e))) [
  | inl h ↦ ap filled_bytes (entry_fits newest older e h) ∙ entries_push newest e ∙ sym (filled-fits (entries_length newest) (entry_length e) h)
  | inr h ↦ ap filled_bytes (entry_begins newest older e h) ∙ entries_one e ∙ sym (filled-begins (entries_length newest) (entry_length e) h)
]

pub filled-added : (blocks : List (List EntryFields)) (entries : List EntryFields) → filled_bytes (added blocks entries) ≡ filled_after (filled_bytes blocks) (map entry_length entries)
filled-added blocks [] = refl
filled-added blocks (e ∷ entries) = filled-added (packed_with blocks e) entries ∙ ap (λ n. filled_after n (map entry_length entries)) (filled_step blocks e)
