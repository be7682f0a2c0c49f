-- What a full pass leaves, in the words of the model.
use Rattle.std.proofs.Common.{◌≡◌, ◌∙◌, ◌↔◌, ℕ, IsSome, ap, subst, inl}
use Rattle.s4_types.specs.Pointer.{Place}
use Rattle.s4_model.specs.State.{State}
use Rattle.s4_model.specs.Visible.{IsVisible}
use Rattle.s4_model.specs.Promise.{IsCleanedUp}
use Rattle.block_log.specs.declared.kinds.BlockKind.TheVariants.{Data}
use Rattle.block_log.specs.Log.{of_kind}
use Rattle.segment_word.specs.AcceptViews.{Ledger}
use Rattle.version_store.specs.Store.{StoreFields}
use Rattle.version_store.specs.Versions.{version_in}
use Rattle.drive.specs.Fields.{DriveFields, history_of, state_in, store_of}
use Rattle.drive.specs.Keeping.{DecodesWhereVisible, KeepsVersions}
use Rattle.history_cleaner.specs.Passing.{IsCleaned}
use Rattle.history_cleaner.specs.Reaching.{HoldsWhatIsReached, PointsTo}

-- what is reached is pointed to at some moment that can be read
reached_so : (s : StoreFields) (state : State) (o : ℕ) (p : Place) → HoldsWhatIsReached s state o
    → IsSome (of_kind Data o s.log.held p) ↔ ((t : ℕ) × IsVisible state o t × PointsTo s o t p)
reached_so s state o p held = (
  (λ some. (let is = (held p).0 some in
      (is.moment, is.visible, record { inode = is.inode; current = is.current; alive = is.alive; index = is.index; at = is.at }))),
  (λ is. (held p).1 (record { moment = is.0; visible = is.1; inode = is.2.inode; current = is.2.current; alive = is.2.alive; index = is.2.index; at = is.2.at })),
)

pub cleaned_up : (d noted emptied after : DriveFields) → noted ≡ d → emptied.ledger ≡ noted.ledger → KeepsVersions (state_in noted) (store_of noted) (store_of emptied) → after ≡ emptied
    → DecodesWhereVisible (store_of d) (state_in d) → ((o : ℕ) → IsCleaned (store_of d) (store_of after) (state_in d) o)
    → IsCleanedUp (history_of d) (history_of after) (version_in (store_of after)) (λ o p. IsSome (of_kind Data o (store_of after).log.held p)) (PointsTo (store_of after))
cleaned_up d noted emptied after same ledger needed counted decodes cleaned =
    let kept : KeepsVersions (state_in d) (store_of d) (store_of emptied) = subst (λ (x : DriveFields). KeepsVersions (state_in x) (store_of x) (store_of emptied)) same needed in
    record {
      history = ap history_of counted ∙ ap (λ (l : Ledger). l.history) ledger ∙ ap history_of same;
      versions = λ o t visible. ap (λ (x : DriveFields). version_in (store_of x) o t) counted ∙ kept o t (inl visible) ∙ decodes o t visible;
      places = λ o p. reached_so (store_of after) (state_in d) o p (cleaned o).held;
    }
