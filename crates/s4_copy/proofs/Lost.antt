-- What a copy lacks is counted object by object.
use Rattle.std.proofs.Common.{◌≡◌, ◌∙◌, ◌+◌, ◌<◌, ℕ, List, length, get_or, take, ap, sym, arith}
use Rattle.std.specs.List.{sum_by}
use Rattle.std.proofs.lemmas.List.Sums.{sum_by_more}
use Rattle.segment_word.specs.AcceptViews.{Ledger}
use Rattle.s4_model.specs.State.{state_of}
use Rattle.version_store.specs.Store.{StoreFields}
use Rattle.drive.specs.Fields.{DriveFields, state_in, store_of}
use Rattle.history_export.specs.Checks.{capped}
use Rattle.migration.specs.declared.copying.CopyAsked.{CopyAsked as Wanted}
use Rattle.s4_copy.specs.Counting.{versions_lost}

capped_more : (a b : ℕ) → capped (capped a + b) ≡ capped (a + b)
capped_more a b = omega arith

-- that of one more is added
counted_on : (f : ℕ → ℕ) (objects : List ℕ) (i o count more grown : ℕ) → i < length objects → o ≡ get_or objects i o → more ≡ f o → count ≡ capped (sum_by f (take i objects)) → grown ≡ capped (count + more)
    → grown ≡ capped (sum_by f (take (i + 1) objects))
counted_on f objects i o count more grown lt here are so_far is =
    is ∙ ap (λ (n : ℕ). capped (n + more)) so_far ∙ capped_more (sum_by f (take i objects)) more ∙ ap (λ (n : ℕ). capped (sum_by f (take i objects) + n)) (are ∙ ap f here)
    ∙ ap capped (sym (sum_by_more f objects i o lt))

-- of a drive that stayed as many are lost as before
lost_as_before : (wanted : Wanted) (d e : DriveFields) (o : ℕ) → d.ledger ≡ e.ledger → store_of d ≡ store_of e → versions_lost wanted (state_in d) (store_of d) o ≡ versions_lost wanted (state_in e) (store_of e) o
lost_as_before wanted d e o ledger store =
    ap (λ (l : Ledger). versions_lost wanted (state_of l.history) (store_of d) o) ledger ∙ ap (λ (x : StoreFields). versions_lost wanted (state_in e) x o) store

-- those of one object more are counted
pub lost_on : (wanted : Wanted) (d e : DriveFields) (objects : List ℕ) (i o count more grown : ℕ) → d.ledger ≡ e.ledger → store_of d ≡ store_of e → i < length objects → o ≡ get_or objects i o
    → more ≡ versions_lost wanted (state_in d) (store_of d) o → count ≡ capped (sum_by (versions_lost wanted (state_in e) (store_of e)) (take i objects)) → grown ≡ capped (count + more)
    → grown ≡ capped (sum_by (versions_lost wanted (state_in e) (store_of e)) (take (i + 1) objects))
lost_on wanted d e objects i o count more grown ledger store lt here are so_far is =
    counted_on (versions_lost wanted (state_in e) (store_of e)) objects i o count more grown lt here (are ∙ lost_as_before wanted d e o ledger store) so_far is
