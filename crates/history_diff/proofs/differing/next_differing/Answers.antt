use Rattle.std.proofs.Common.{◌≡◌, ◌∙◌, ◌<◌, ◌≤◌, ℕ, false, Option, None, Some, sym, subst, arith}
use Rattle.std.specs.Prelude.{is_some, IfNone, IfSome}
use Rattle.std.proofs.lemmas.Bool.{true≢false}
use Rattle.object_map.specs.Objects.{IsNextAbove}
use Rattle.s4_model.specs.State.{State}
use Rattle.version_store.specs.Store.{StoreFields}
use Rattle.drive.specs.Fields.{state_in, store_of}
use Rattle.drive.specs.Keeping.{DecodesWhereVisible}
use Rattle.history_diff.specs.declared.differing.DifferingObject.{DifferingObject}
use Rattle.history_diff.specs.Diffing.{IsDifferenceAt, IsDifferenceNext, IsPassed, row_of}
use Rattle.history_diff.proofs.Rows.{ArePassed, differs_next, passed_on}
use Rattle.history_diff.proofs.differing.next_differing.Goals as goal

-- the next object that has a row in a store has it in the same store
next_here : (a b : StoreFields) (last o : ℕ) → a ≡ b → IsNextAbove a.rows last o → IsNextAbove b.rows last o
next_here a b last o same next = subst (λ (x : StoreFields). IsNextAbove x.rows last o) same next

module _ (s : State) (t u : ℕ) (store : StoreFields) (above last next : ℕ) (decodes : DecodesWhereVisible store s) (passed : ArePassed s t u above last) (is : IsNextAbove store.rows last next) where
  -- what differs at the next object that has a row is what differs next
  found_next : (found : Option DifferingObject) → above ≤ last → IfSome found (λ d. (d.object ≡ next) × IsDifferenceAt s t u (row_of d)) → IfSome found (λ d. IsDifferenceNext s t u above (row_of d))
  found_next None from here = tt
  found_next (Some d) from here = differs_next s t u store above last next (row_of d) decodes from passed is here.0 here.1

  -- where nothing differs there, that object is passed too
  none_found : (found : Option DifferingObject) → is_some found ≡ false → IfNone found (IsPassed s t u next) → ArePassed s t u above next
  none_found None none here = passed_on s t u store above last next decodes passed is here
  none_found (Some d) none here = absurd (true≢false none)

pub returns-then-is_some-clause-some : goal.returns-then-is_some-clause-some
returns-then-is_some-clause-some g c =
    let before = c.loop-object.invariant in
    let found = c.in_ok-found.found in
    found_next (state_in c.args.drive.now) c.args.before c.args.after (store_of c.args.drive.now) c.args.above c.loop-object.last c.in-Some.object c.rules.ensures.decodes before.passed
    (next_here _ _ c.loop-object.last c.in-Some.object before.store c.in-Some.ensures.some) found before.beyond
    (subst (λ (x : State). IfSome found (λ d. (d.object ≡ c.in-Some.object) × IsDifferenceAt x c.args.before c.args.after (row_of d))) before.state c.in_ok-found.ensures.some)

pub loop-object-preserved : goal.loop-object-preserved
loop-object-preserved g c =
    let before = c.loop-object.invariant in
    let o = c.in-Some.object in
    let next = next_here _ _ c.loop-object.last o before.store c.in-Some.ensures.some in
    record {
      beyond = omega (arith, before.beyond, next.above);
      state = c.differing_at.ensures.state ∙ before.state;
      store = c.differing_at.ensures.store ∙ before.store;
      passed = none_found (state_in c.args.drive.now) c.args.before c.args.after (store_of c.args.drive.now) c.args.above c.loop-object.last o c.rules.ensures.decodes before.passed next c.in_ok-found.found
          (sym c.is_some.ensures ∙ c.if-is_some.false)
          (subst (λ (x : State). IfNone c.in_ok-found.found (IsPassed x c.args.before c.args.after o)) before.state c.in_ok-found.ensures.none);
    }
