-- What is written of the objects that differ, one after the other.
use Rattle.std.proofs.Common.{◌≡◌, ◌<◌, ◌++◌, ℕ, Bool, true, false, List, [], ◌∷◌, Option, refl, sym}
use Rattle.s4_model.specs.State.{State}
use Rattle.history_view.proofs.Fronts.{front_whole}
use Rattle.history_diff.specs.Diffing.{ObjectDifference, IsDifferenceNext, IsPassed, has_any}
use Rattle.history_report.specs.Differences.{AreShownFrom, IsShownBy, ShownDifference, difference_of}
use Rattle.history_report.specs.private.Sections.{WritesDifferences}
use Rattle.history_report.specs.private.Writing.{WritesShown, shown_by}
use Rattle.history_report.proofs.Written.{WrittenTo, none_written, written_on}

module _ (s : State) (from until : ℕ) where
  -- the objects up to one have what differs of them
  pub record DiffersTo (last : ℕ) (differs : Bool) (output output' : Option (List ℕ)) : Type 0 where
    pub written : WrittenTo (AreShownFrom s from until) difference_of last output output'
    pub answer : differs ≡ has_any written.elements

  -- none has at first
  pub none_differs : (output : Option (List ℕ)) → DiffersTo 0 false output output
  none_differs output = record { written = none_written (AreShownFrom s from until) difference_of output; answer = refl }

  -- a difference more
  has_more : (rows : List ShownDifference) (d : ShownDifference) → has_any (rows ++ d ∷ []) ≡ true
  has_more [] d = refl
  has_more (row ∷ rows) d = refl

  shown_more : (last : ℕ) (d : ObjectDifference) (detail : List ℕ) → IsDifferenceNext s from until last d → IsShownBy d detail → (rest : List ShownDifference) → AreShownFrom s from until d.object rest
      → AreShownFrom s from until last (shown_by d detail ∷ rest)
  shown_more last d detail next shown rest more = record { differing = (next, more.differing); shown = (shown, more.shown) }

  -- the next that differs has it
  pub differs_on : (last : ℕ) (differs : Bool) (d : ObjectDifference) (a b c : Option (List ℕ)) → DiffersTo last differs a b → IsDifferenceNext s from until last d → WritesShown d b c → DiffersTo d.object true a c
  differs_on last differs d a b c before next wrote = record {
    written = written_on (AreShownFrom s from until) difference_of last d.object (shown_by d wrote.detail) a b c before.written (shown_more last d wrote.detail next wrote.shown) wrote.wrote;
    answer = sym (has_more before.written.elements (shown_by d wrote.detail));
  }

  -- all have, where none differs after the last
  pub all_differ : (last : ℕ) (differs : Bool) (a b : Option (List ℕ)) → DiffersTo last differs a b → ((o : ℕ) → last < o → IsPassed s from until o) → WritesDifferences s from until differs a b
  all_differ last differs a b before none = record {
    differences = before.written.elements;
    are = front_whole (AreShownFrom s from until) before.written.elements last before.written.front (record { differing = none; shown = tt });
    wrote = before.written.wrote;
    answer = before.answer;
  }
