-- Objects by their attribute.
use Rattle.std.specs.Prelude.{◌≡◌, ◌≢◌, ℕ, ◌<◌, false, List, Option, Some}
use Rattle.s4_model.specs.State.{State}
use Rattle.version_store.specs.Store.{StoreFields}
use Rattle.history_view.specs.declared.listing.Listed.{Listed}
use Rattle.history_view.specs.declared.names.NameRefusal.{NameRefusal}
use Rattle.history_view.specs.declared.names.NameRefusal.TheVariants.{NotNamed, NamedTwice}
use Rattle.history_view.specs.Listing.{listed_at}

-- An object is live at a moment that can be read, and its attribute is then the name.
pub record IsNamed (s : State) (store : StoreFields) (name : List ℕ) (t o : ℕ) : Type 0 where
  pub listed : Listed
  pub found : listed_at s store false o t ≡ Some listed
  pub named : listed.attribute ≡ name

-- It is the least above another one that has the name.
pub record IsNextNamed (s : State) (store : StoreFields) (name : List ℕ) (t after o : ℕ) : Type 0 where
  pub above : after < o
  pub here : IsNamed s store name t o
  pub least : (p : ℕ) → after < p → p < o → IsNamed s store name t p → ⊥

-- It is the one that has the name.
pub record IsOnlyNamed (s : State) (store : StoreFields) (name : List ℕ) (t o : ℕ) : Type 0 where
  pub here : IsNamed s store name t o
  pub only : (p : ℕ) → 0 < p → IsNamed s store name t p → p ≡ o

-- why a name is none of one object: none has it, or these two do and none below them
abbrev pub IsNameRefusal : State → StoreFields → List ℕ → ℕ → NameRefusal → Type 0
IsNameRefusal s store name t NotNamed = (p : ℕ) → 0 < p → IsNamed s store name t p → ⊥
IsNameRefusal s store name t (NamedTwice first second) = IsNextNamed s store name t 0 first × IsNextNamed s store name t first second
