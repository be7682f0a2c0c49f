-- Drives that stay as they were.
use Rattle.std.proofs.Common.{◌≡◌, ℕ, true, ap, subst}
use Rattle.s4_model.specs.State.{State, state_of}
use Rattle.segment_word.specs.AcceptViews.{Ledger}
use Rattle.version_store.specs.Store.{StoreFields}
use Rattle.drive.specs.Fields.{DriveFields, state_in, store_of}
use Rattle.history_view.specs.declared.listing.Listed.{Listed}
use Rattle.history_view.specs.Listing.{IsListedNext, IsPassed}

-- the state is that of the history
pub state_stays : (d e : DriveFields) → d.ledger ≡ e.ledger → state_in d ≡ state_in e
state_stays d e ledger = ap (λ (l : Ledger). state_of l.history) ledger

-- what is listed next of a drive that stayed was before
pub next_as_before : (d e : DriveFields) (t after : ℕ) (row : Listed) → d.ledger ≡ e.ledger → store_of d ≡ store_of e → IsListedNext (state_in d) (store_of d) true t after row → IsListedNext (state_in e) (store_of e) true t after row
next_as_before d e t after row ledger store next =
    subst (λ (x : StoreFields). IsListedNext (state_in e) x true t after row) store
    (subst (λ (s : State). IsListedNext s (store_of d) true t after row) (state_stays d e ledger) next)

-- so is what is passed
pub passed_as_before : (d e : DriveFields) (t o : ℕ) → d.ledger ≡ e.ledger → store_of d ≡ store_of e → IsPassed (state_in d) (store_of d) true t o → IsPassed (state_in e) (store_of e) true t o
passed_as_before d e t o ledger store passed =
    subst (λ (x : StoreFields). IsPassed (state_in e) x true t o) store
    (subst (λ (s : State). IsPassed s (store_of d) true t o) (state_stays d e ledger) passed)
