-- What a status says where nothing may have been read to the end.
use Rattle.std.proofs.Common.{◌≡◌, ◌⊎◌, ℕ, Bool, true, List, Option, Result, Ok, IfOk, inl, inr, subst}
use Rattle.s4_images.proofs.Kept.{untouched}
use Rattle.s4.specs.Performing.{IsUnread}

module _ {A E : Type 0} where
  -- what was found holds, or the reader of the output has gone
  pub found_or_unread : (r : Result A E) (Holds : A → Type 0) (fine : A) (gone : Bool) (files : List ℕ → Option (List ℕ)) → IfOk r Holds → (r ≡ Ok fine) ⊎ (gone ≡ true)
      → Holds fine ⊎ IsUnread gone files files
  found_or_unread r Holds fine gone files holds (inl is) = inl (subst (λ (x : Result A E). IfOk x Holds) is holds)
  found_or_unread r Holds fine gone files holds (inr is) = inr (is, λ path. untouched (files path))
