-- The moments at which versions begin, one after the other.
use Rattle.std.proofs.Common.{◌≡◌, ◌∙◌, ◌+◌, ◌<◌, ◌≤◌, ◌++◌, ℕ, true, false, cond, List, [], ◌∷◌, length, drop, get_or, Bool, inl, inr, refl, sym, ap, ap₂, append_assoc}
use Rattle.std.proofs.lemmas.Bool.{cond-true, cond-false, cases_Bool}
use Rattle.std.proofs.lemmas.List.{append-nil, drop_more, drop_all}
use Rattle.s4_model.specs.State.{State}
use Rattle.codec.specs.Entry.{EntryFields}
use Rattle.version_store.specs.Store.{StoreFields}
use Rattle.version_store.specs.Versions.{entries_of_object}
use Rattle.history_view.specs.Listing.{seen_from}
use Rattle.history_export.specs.Versions.{begins, begun_behind, beginnings_of}

module _ (s : State) (o last : ℕ) (entries : List EntryFields) (i : ℕ) (e : EntryFields) (done : List ℕ) where
  abbrev m : ℕ
  m = seen_from s o e.moment

  abbrev rest : List EntryFields
  rest = drop (i + 1) entries

  -- what is left, where an entry is next
  left : i < length entries → e ≡ get_or entries i e → begun_behind s o last (drop i entries) ≡ cond (begins s o last e) (m ∷ begun_behind s o m rest) (begun_behind s o last rest)
  left lt here = ap (begun_behind s o last) (drop_more entries i e lt ∙ ap (λ (x : EntryFields). x ∷ rest) (sym here))

  -- the next entry's moment is added, where it is later than the last
  pub begun_on : i < length entries → e ≡ get_or entries i e
      → done ++ begun_behind s o last (drop i entries) ≡ (done ++ cond (begins s o last e) (m ∷ []) []) ++ begun_behind s o (cond (begins s o last e) m last) rest
  begun_on lt here = ap (λ ts. done ++ ts) (left lt here) ∙ elim (cases_Bool (begins s o last e)) [
    | inl is ↦
        ap (λ ts. done ++ ts) (cond-true (begins s o last e) (m ∷ begun_behind s o m rest) (begun_behind s o last rest) is)
        ∙ sym (append_assoc done (m ∷ []) (begun_behind s o m rest))
        ∙ sym (ap₂ (λ (ts : List ℕ) (t : ℕ). (done ++ ts) ++ begun_behind s o t rest) (cond-true (begins s o last e) (m ∷ []) [] is) (cond-true (begins s o last e) m last is))
    | inr fails ↦
        ap (λ ts. done ++ ts) (cond-false (begins s o last e) (m ∷ begun_behind s o m rest) (begun_behind s o last rest) fails)
        ∙ ap (λ ts. ts ++ begun_behind s o last rest) (sym (append-nil done))
        ∙ sym (ap₂ (λ (ts : List ℕ) (t : ℕ). (done ++ ts) ++ begun_behind s o t rest) (cond-false (begins s o last e) (m ∷ []) [] fails) (cond-false (begins s o last e) m last fails))
  ]

-- where no entry is left, nothing is
pub all_begun : (s : State) (o last : ℕ) (entries : List EntryFields) (i : ℕ) (done : List ℕ) → length entries ≤ i → done ++ begun_behind s o last (drop i entries) ≡ done
all_begun s o last entries i done over = ap (λ es. done ++ begun_behind s o last es) (drop_all i entries over) ∙ append-nil done
