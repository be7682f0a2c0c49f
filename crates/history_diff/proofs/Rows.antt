-- Which objects differ, and what is written of them.
use Rattle.std.proofs.Common.{◌≡◌, ◌∙◌, ◌<◌, ◌≤◌, ◌++◌, ℕ, Bool, true, false, List, [], ◌∷◌, Option, Some, None, inl, inr, refl, sym, ap, subst, append_assoc, arith}
use Rattle.std.specs.Io.KnownBytes.{Appends}
use Rattle.std.proofs.KnownBytes.{Appends-trans, Appends-nil}
use Rattle.std.proofs.lemmas.Bool.{cases_lt}
use Rattle.std.proofs.lemmas.List.{append-nil}
use Rattle.s4_types.specs.declared.versions.Version.{Version}
use Rattle.s4_types.specs.declared.versions.Version.TheVariants.{Absent}
use Rattle.s4_model.specs.State.{State}
use Rattle.s4_model.specs.VersionAt.{version_of}
use Rattle.s4_model.specs.Visible.{IsVisible}
use Rattle.object_map.specs.Objects.{IsNextAbove}
use Rattle.object_map.specs.Rows.{row_of}
use Rattle.version_store.specs.Store.{StoreFields}
use Rattle.version_store.specs.Versions.{inode_by, version_by}
use Rattle.drive.specs.Keeping.{DecodesWhereVisible}
use Rattle.history_diff.specs.declared.diffing.Comparison.{Comparison}
use Rattle.history_diff.specs.Differences.{AreAlike}
use Rattle.history_diff.specs.Diffing.{ObjectDifference, IsPassed, AreLinesOf, AreAllLinesOf, IsDifferenceAt, IsDifferenceNext, AreDifferencesFrom, IsUnreadable, WritesAsked, has_any}
use Rattle.history_diff.specs.private.Writing.{WritesLines}
use Rattle.history_diff.proofs.Alike.{same_are_alike}
use Rattle.history_view.proofs.Fronts.{IsFront, front_begun, front_more, front_whole}

module _ (s : State) (t u : ℕ) where
  -- ---- which objects are passed

  -- one of which a moment can't be read is
  pub unreadable_is_passed : (o moment : ℕ) → IsUnreadable s o t u moment → IsPassed s t u o
  unreadable_is_passed o moment unreadable before after =
      elim unreadable.among [
        | inl is ↦ absurd (unreadable.hidden (subst (IsVisible s o) (sym is) before))
        | inr is ↦ absurd (unreadable.hidden (subst (IsVisible s o) (sym is) after))
      ]

  -- one whose versions are alike is
  pub alike_is_passed : (o : ℕ) (v w : Version) → v ≡ version_of s o t → w ≡ version_of s o u → AreAlike v w → IsPassed s t u o
  alike_is_passed o v w is was alike before after = subst (λ x. AreAlike x (version_of s o u)) is (subst (AreAlike v) was alike)

  -- one without a row is absent
  rowless_is_absent : (store : StoreFields) (o at : ℕ) → DecodesWhereVisible store s → row_of store.rows o ≡ None → IsVisible s o at → version_of s o at ≡ Absent
  rowless_is_absent store o at decodes none visible = sym (decodes o at visible) ∙ ap (λ row. version_by store.log.held (inode_by store.log.held o at row)) none

  -- so it is passed
  rowless_is_passed : (store : StoreFields) (o : ℕ) → DecodesWhereVisible store s → row_of store.rows o ≡ None → IsPassed s t u o
  rowless_is_passed store o decodes none before after =
      same_are_alike (version_of s o t) (version_of s o u) (rowless_is_absent store o t decodes none before ∙ sym (rowless_is_absent store o u decodes none after))

  -- ---- which object differs next

  -- all objects above one, up to another, are passed
  abbrev pub ArePassed : ℕ → ℕ → Type 0
  ArePassed above last = (o : ℕ) → above < o → o ≤ last → IsPassed s t u o

  -- so are all in front of the next one that has a row
  passed_before : (store : StoreFields) (above last next : ℕ) → DecodesWhereVisible store s → ArePassed above last → IsNextAbove store.rows last next → (o : ℕ) → above < o → o < next → IsPassed s t u o
  passed_before store above last next decodes passed is o beyond before =
      elim (cases_lt last o) [
        | inl later ↦ rowless_is_passed store o decodes (is.least o later before)
        | inr up ↦ passed o beyond up
      ]

  -- and up to that one, where it is passed
  pub passed_on : (store : StoreFields) (above last next : ℕ) → DecodesWhereVisible store s → ArePassed above last → IsNextAbove store.rows last next → IsPassed s t u next → ArePassed above next
  passed_on store above last next decodes passed is here o beyond up =
      elim (cases_lt o next) [
        | inl before ↦ passed_before store above last next decodes passed is o beyond before
        | inr from ↦ let same : next ≡ o = omega (arith, up, from) in subst (IsPassed s t u) same here
      ]

  -- where it isn't, it differs next
  pub differs_next : (store : StoreFields) (above last next : ℕ) (d : ObjectDifference) → DecodesWhereVisible store s → above ≤ last → ArePassed above last → IsNextAbove store.rows last next → d.object ≡ next → IsDifferenceAt s t u d
      → IsDifferenceNext s t u above d
  differs_next store above last next d decodes from passed is object here = record {
    beyond = omega (arith, from, is.above, object);
    here = here;
    least = subst (λ n. (o : ℕ) → above < o → o < n → IsPassed s t u o) (sym object) (passed_before store above last next decodes passed is);
  }

  -- where no object is next, all above are passed
  pub all_passed : (store : StoreFields) (above last : ℕ) → DecodesWhereVisible store s → ArePassed above last → ((o : ℕ) → last < o → row_of store.rows o ≡ None) → (o : ℕ) → above < o → IsPassed s t u o
  all_passed store above last decodes passed none o beyond =
      elim (cases_lt last o) [
        | inl later ↦ rowless_is_passed store o decodes (none o later)
        | inr up ↦ passed o beyond up
      ]

module _ (s : State) (c : Comparison) where
  -- ---- the one object that is asked for

  pub one_passed : (o : ℕ) (output : Option (List ℕ)) → IsPassed s c.before c.after o → WritesAsked s c (Some o) false output output
  one_passed o output passed = record { differences = []; asked = passed; text = []; lines = refl; wrote = Appends-nil output; answer = refl }

  pub one_written : (o : ℕ) (d : ObjectDifference) (a b : Option (List ℕ)) → d.object ≡ o → IsDifferenceAt s c.before c.after d → WritesLines c d a b → WritesAsked s c (Some o) true a b
  one_written o d a b object here wrote = record {
    differences = d ∷ [];
    asked = (object, here);
    text = wrote.text;
    lines = (wrote.text, [], sym (append-nil wrote.text), wrote.lines, refl);
    wrote = wrote.wrote;
    answer = refl;
  }

  -- ---- all objects

  -- the objects up to one have their lines
  pub record WrittenTo (last : ℕ) (differs : Bool) (output output' : Option (List ℕ)) : Type 0 where
    pub rows : List ObjectDifference
    pub front : IsFront (AreDifferencesFrom s c.before c.after) rows last
    pub text : List ℕ
    pub lines : AreAllLinesOf c rows text
    pub wrote : Appends output output' text
    pub answer : differs ≡ has_any rows

  -- none has at first
  pub none_written : (output : Option (List ℕ)) → WrittenTo 0 false output output
  none_written output = record { rows = []; front = front_begun (AreDifferencesFrom s c.before c.after); text = []; lines = refl; wrote = Appends-nil output; answer = refl }

  -- the lines of a difference more are after the others
  lines_more : (rows : List ObjectDifference) (d : ObjectDifference) (text more : List ℕ) → AreAllLinesOf c rows text → AreLinesOf c d more → AreAllLinesOf c (rows ++ d ∷ []) (text ++ more)
  lines_more [] d text more before one = (more, [], ap (λ (l : List ℕ). l ++ more) before ∙ sym (append-nil more), one, refl)
  lines_more (row ∷ rows) d text more before one = (before.0, before.1 ++ more, ap (λ (l : List ℕ). l ++ more) before.2 ∙ append_assoc before.0 before.1 more, before.3, lines_more rows d before.1 more before.4 one)

  -- a difference more
  has_more : (rows : List ObjectDifference) (d : ObjectDifference) → has_any (rows ++ d ∷ []) ≡ true
  has_more [] d = refl
  has_more (row ∷ rows) d = refl

  -- the next that differs has its lines
  pub written_on : (last : ℕ) (differs : Bool) (d : ObjectDifference) (x y z : Option (List ℕ)) → WrittenTo last differs x y → IsDifferenceNext s c.before c.after last d → WritesLines c d y z → WrittenTo d.object true x z
  written_on last differs d x y z before next wrote = record {
    rows = before.rows ++ d ∷ [];
    front = front_more (AreDifferencesFrom s c.before c.after) before.rows d last d.object before.front (λ rest more. (next, more));
    text = before.text ++ wrote.text;
    lines = lines_more before.rows d before.text wrote.text before.lines wrote.lines;
    wrote = Appends-trans x y z before.text wrote.text before.wrote wrote.wrote;
    answer = sym (has_more before.rows d);
  }

  -- all have, where none differs after the last
  pub all_written : (last : ℕ) (differs : Bool) (a b : Option (List ℕ)) → WrittenTo last differs a b → ((o : ℕ) → last < o → IsPassed s c.before c.after o) → WritesAsked s c None differs a b
  all_written last differs a b before none = record {
    differences = before.rows;
    asked = front_whole (AreDifferencesFrom s c.before c.after) before.rows last before.front none;
    text = before.text;
    lines = before.lines;
    wrote = before.wrote;
    answer = before.answer;
  }
