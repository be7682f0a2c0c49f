-- Which objects have a name.
use Rattle.std.proofs.Common.{◌≡◌, ◌≢◌, ◌∙◌, ◌<◌, ◌≤◌, ℕ, Bool, false, List, Option, Some, None, inl, inr, sym, ap, subst, arith}
use Rattle.std.proofs.lemmas.Bool.{cases_lt, cases_eq}
use Rattle.s4_model.specs.State.{State, state_of}
use Rattle.segment_word.specs.AcceptViews.{Ledger}
use Rattle.version_store.specs.Store.{StoreFields}
use Rattle.drive.specs.Fields.{DriveFields, state_in, store_of}
use Rattle.history_view.specs.declared.listing.Listed.{Listed}
use Rattle.history_view.specs.Listing.{listed_at, IsPassed, IsListedAt, IsListedNext}
use Rattle.history_view.specs.Names.{IsNamed, IsNextNamed, IsOnlyNamed}

-- no object above one, up to another, has the name
abbrev pub NoneNamed : State → StoreFields → List ℕ → ℕ → ℕ → ℕ → Type 0
NoneNamed s store name t after last = (o : ℕ) → after < o → o ≤ last → IsNamed s store name t o → ⊥

-- one that is passed hasn't
pub passed_is_not : (s : State) (store : StoreFields) (name : List ℕ) (t o : ℕ) → IsPassed s store false t o → IsNamed s store name t o → ⊥
passed_is_not s store name t o passed named = absurd (differ (sym named.found ∙ passed.none))
  where
    differ : Some named.listed ≡ None → ⊥
    differ e = cc

-- nor one of which something else is listed
other_is_not : (s : State) (store : StoreFields) (name : List ℕ) (t o : ℕ) (row : Listed) → listed_at s store false o t ≡ Some row → row.attribute ≢ name → IsNamed s store name t o → ⊥
other_is_not s store name t o row found other named = other (ap (λ (l : Listed). l.attribute) (inside (sym found ∙ named.found)) ∙ named.named)
  where
    inside : Some row ≡ Some named.listed → row ≡ named.listed
    inside e = cc

-- none below the next that is listed has
before_next : (s : State) (store : StoreFields) (name : List ℕ) (t after last : ℕ) (row : Listed) → NoneNamed s store name t after last → IsListedNext s store false t last row
    → (o : ℕ) → after < o → o < row.object → IsNamed s store name t o → ⊥
before_next s store name t after last row none next o above below =
    elim (cases_lt last o) [
      | inl beyond ↦ passed_is_not s store name t o (next.least o beyond below)
      | inr up ↦ none o above up
    ]

-- the next that is listed is the next that has the name, where its attribute is that
pub next_named : (s : State) (store : StoreFields) (name : List ℕ) (t after last : ℕ) (row : Listed) → after ≤ last → NoneNamed s store name t after last → IsListedNext s store false t last row → row.attribute ≡ name
    → IsNextNamed s store name t after row.object
next_named s store name t after last row from none next is = record {
  above = omega (arith, next.above);
  here = record { listed = row; found = next.here.found; named = is };
  least = before_next s store name t after last row none next;
}

-- and else none up to it has
pub none_on : (s : State) (store : StoreFields) (name : List ℕ) (t after last : ℕ) (row : Listed) → NoneNamed s store name t after last → IsListedNext s store false t last row → row.attribute ≢ name
    → NoneNamed s store name t after row.object
none_on s store name t after last row none next other o above up =
    elim (cases_eq o row.object) [
      | inl same ↦ subst (λ n. IsNamed s store name t n → ⊥) (sym same) (other_is_not s store name t row.object row next.here.found other)
      | inr apart ↦ before_next s store name t after last row none next o above (omega (arith, apart))
    ]

-- where nothing is listed above, none has
pub none_above : (s : State) (store : StoreFields) (name : List ℕ) (t after last : ℕ) → NoneNamed s store name t after last → ((o : ℕ) → last < o → IsPassed s store false t o) → (o : ℕ) → after < o → IsNamed s store name t o → ⊥
none_above s store name t after last none passed o above =
    elim (cases_lt last o) [
      | inl beyond ↦ passed_is_not s store name t o (passed o beyond)
      | inr up ↦ none o above up
    ]

-- one above which none is, and below which none is, is the only one
pub only_named : (s : State) (store : StoreFields) (name : List ℕ) (t o : ℕ) → IsNextNamed s store name t 0 o → ((p : ℕ) → o < p → IsNamed s store name t p → ⊥) → IsOnlyNamed s store name t o
only_named s store name t o next none = record {
  here = next.here;
  only = λ p above named.
      elim (cases_eq p o) [
        | inl same ↦ same
        | inr apart ↦ elim (cases_lt o p) [
          | inl beyond ↦ absurd (none p beyond named)
          | inr up ↦ absurd (next.least p above (omega (arith, apart)) named)
        ]
      ];
}

-- ---- drives that stay

-- what is listed next of a drive that stayed was before
pub next_as_before : (d e : DriveFields) (deleted : Bool) (t after : ℕ) (row : Listed) → d.ledger ≡ e.ledger → store_of d ≡ store_of e → IsListedNext (state_in d) (store_of d) deleted t after row → IsListedNext (state_in e) (store_of e) deleted t after row
next_as_before d e deleted t after row ledger store next =
    subst (λ (x : StoreFields). IsListedNext (state_in e) x deleted t after row) store
    (subst (λ (s : State). IsListedNext s (store_of d) deleted t after row) (ap (λ (l : Ledger). state_of l.history) ledger) next)

-- so is what is passed
pub passed_as_before : (d e : DriveFields) (deleted : Bool) (t o : ℕ) → d.ledger ≡ e.ledger → store_of d ≡ store_of e → IsPassed (state_in d) (store_of d) deleted t o → IsPassed (state_in e) (store_of e) deleted t o
passed_as_before d e deleted t o ledger store passed =
    subst (λ (x : StoreFields). IsPassed (state_in e) x deleted t o) store
    (subst (λ (s : State). IsPassed s (store_of d) deleted t o) (ap (λ (l : Ledger). state_of l.history) ledger) passed)
