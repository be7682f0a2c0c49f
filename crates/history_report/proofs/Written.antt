-- What is written of the elements of a list, one after the other.
use Rattle.std.proofs.Common.{◌++◌, ℕ, List, [], ◌∷◌, Option}
use Rattle.std.specs.List.{flat_map}
use Rattle.std.specs.Io.KnownBytes.{Appends}
use Rattle.std.proofs.KnownBytes.{Appends-nil}
use Rattle.history_view.proofs.Fronts.{IsFront, front_begun, front_more}
use Rattle.history_report.specs.Page.{Part, page_text}
use Rattle.history_report.proofs.Pages.{appends_more}

module _ {X : Type 0} (From : ℕ → List X → Type 0) (parts : X → List Part) where
  -- the elements up to a number have their parts
  pub record WrittenTo (last : ℕ) (output output' : Option (List ℕ)) : Type 0 where
    pub elements : List X
    pub front : IsFront From elements last
    pub wrote : Appends output output' (page_text (flat_map parts elements))

  -- none has at first
  abbrev pub none_written : (output : Option (List ℕ)) → WrittenTo 0 output output
  none_written output = record { elements = []; front = front_begun From; wrote = Appends-nil output }

  -- the next one has
  abbrev pub written_on : (last next : ℕ) (x : X) (a b c : Option (List ℕ)) → WrittenTo last a b → ((rest : List X) → From next rest → From last (x ∷ rest)) → Appends b c (page_text (parts x)) → WrittenTo next a c
  written_on last next x a b c before here wrote = record {
    elements = before.elements ++ x ∷ [];
    front = front_more From before.elements x last next before.front here;
    wrote = appends_more parts a b c before.elements x before.wrote wrote;
  }
