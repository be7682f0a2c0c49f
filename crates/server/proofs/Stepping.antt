-- Steps of the copier that were taken so far.
use Rattle.std.proofs.Common.{◌≡◌, ℕ, ◌+◌, ◌++◌, List, [], ◌∷◌, length, Bool, cond, refl, ap, subst, ◌∙◌, arith}
use Rattle.std.proofs.lemmas.List.{length-append}
use Rattle.std.proofs.lemmas.List.Sums.{sum_by-append}
use Rattle.std.specs.List.{count_by}
use Rattle.s4_types.specs.History.{Base}
use Rattle.s4_types.specs.declared.requests.Role.TheVariants.{Client}
use Rattle.drive.specs.Fields.{SessionFields}
use Rattle.server.specs.Sharing.{IsFresh}
use Rattle.server.specs.Moving.{SharedMove, TakesSteps, IsMoving, is_planned, is_moved}
use Rattle.server.specs.declared.moving.MoveStep.{MoveStep}
use Rattle.server.specs.declared.moving.Moves.{Moves}

-- Steps were taken, of which this many planned a move, and this many put one in place.
pub record HasMoved (base : Base) (session : SessionFields) (planned moved : ℕ) : Type 0 where
  pub first : SessionFields
  pub fresh : IsFresh base Client first
  pub steps : List MoveStep
  pub taken : TakesSteps base first steps session
  pub planned_is : planned ≡ count_by is_planned steps
  pub moved_is : moved ≡ count_by is_moved steps

-- before the first step
pub moved_first : (base : Base) (session : SessionFields) → IsFresh base Client session → HasMoved base session 0 0
moved_first base session fresh = record { first = session; fresh = fresh; steps = []; taken = refl; planned_is = refl; moved_is = refl }

-- one step more
taken_more : (base : Base) (first : SessionFields) (steps : List MoveStep) (step : MoveStep) (old new : SessionFields) → TakesSteps base first steps old → SharedMove base old step new → TakesSteps base first (steps ++ step ∷ []) new
taken_more base first [] step old new same taken = (new, subst (λ (s : SessionFields). SharedMove base s step new) same taken, refl)
taken_more base first (s ∷ ss) step old new (between, one, rest) taken = (between, one, taken_more base between ss step old new rest taken)

-- how a count grows with it
counted_more : (p : MoveStep → Bool) (steps : List MoveStep) (step : MoveStep) (n : ℕ) → n ≡ count_by p steps → n + cond (p step) 1 0 ≡ count_by p (steps ++ step ∷ [])
counted_more p steps step n is =
    let more : count_by p (steps ++ step ∷ []) ≡ count_by p steps + (0 + cond (p step) 1 0) = sum_by-append (λ x. cond (p x) 1 0) steps (step ∷ []) in
    omega (arith, is, more)

pub moved_more : (base : Base) (old new : SessionFields) (planned moved : ℕ) (step : MoveStep) → HasMoved base old planned moved → SharedMove base old step new
    → HasMoved base new (planned + cond (is_planned step) 1 0) (moved + cond (is_moved step) 1 0)
moved_more base old new planned moved step has taken = record {
  first = has.first;
  fresh = has.fresh;
  steps = has.steps ++ step ∷ [];
  taken = taken_more base has.first has.steps step old new has.taken taken;
  planned_is = counted_more is_planned has.steps step planned has.planned_is;
  moved_is = counted_more is_moved has.steps step moved has.moved_is;
}

-- a list with one more isn't empty
one_more : (steps : List MoveStep) (step : MoveStep) → steps ++ step ∷ [] ≡ [] → ⊥
one_more steps step same = omega (arith, length-append steps (step ∷ []), ap length same)

-- with a step more the copier may end
pub moved_ends : (base : Base) (old new : SessionFields) (planned moved : ℕ) (step : MoveStep) (moves : Moves) → HasMoved base old planned moved → SharedMove base old step new
    → moves.planned ≡ planned + cond (is_planned step) 1 0 → moves.moved ≡ moved + cond (is_moved step) 1 0 → IsMoving base moves
moved_ends base old new planned moved step moves has taken planned_is moved_is = record {
  first = has.first;
  fresh = has.fresh;
  steps = has.steps ++ step ∷ [];
  last = new;
  taken = taken_more base has.first has.steps step old new has.taken taken;
  some = one_more has.steps step;
  planned = planned_is ∙ counted_more is_planned has.steps step planned has.planned_is;
  moved = moved_is ∙ counted_more is_moved has.steps step moved has.moved_is;
}
