-- A run goes on by one step.
use Rattle.std.proofs.Common.{◌≡◌, ℕ, List, [], ◌∷◌, ◌++◌, Result, refl, sym, subst}
use Rattle.atomic_table.specs.Seated.{TableId}
use Rattle.s4_types.specs.History.{Base}
use Rattle.s4_types.specs.declared.refusals.Refusal.{Refusal}
use Rattle.drive.specs.Fields.{DriveFields}
use Rattle.interleaving.specs.Moving.{Move}
use Rattle.interleaving.specs.Actors.{ActorFields}
use Rattle.interleaving.specs.Running.{Stands, Goes, Run}
use Rattle.interleaving.specs.declared.answers.Answer.{Answer}
use Rattle.interleaving.specs.declared.steps.Step.{Step}

module _ (cleans : ℕ → DriveFields → Result (Unit {0}) Refusal → DriveFields → Type 0) (commits : Move → DriveFields → Result (Unit {0}) Refusal → DriveFields → Type 0) (begins : Base) (frames : TableId) where
  run_more : (steps : List Step) (answers : List Answer) (d mid later : DriveFields) (actors between after : List ActorFields) (s : Step) (x : Answer)
      → Run cleans commits begins frames d actors steps answers mid between
      → Goes cleans commits s mid between x later after → Stands begins frames later
      → Run cleans commits begins frames d actors (steps ++ s ∷ []) (answers ++ x ∷ []) later after
  run_more [] [] d mid later actors between after s x run goes stands =
      let at_drive = subst (λ (e : DriveFields). Goes cleans commits s e between x later after) run.0 goes in
      let at_both = subst (λ (who : List ActorFields). Goes cleans commits s d who x later after) run.1 at_drive in
      (later, after, at_both, stands, (refl, refl))
  run_more (first ∷ steps) (y ∷ answers) d mid later actors between after s x run goes stands =
      (run.0, run.1, run.2, run.3, run_more steps answers run.0 mid later run.1 between after s x run.4 goes stands)
  run_more [] (y ∷ answers) d mid later actors between after s x run goes stands = absurd run
  run_more (first ∷ steps) [] d mid later actors between after s x run goes stands = absurd run

  -- a run goes on by one step, whose answer is after the others
  pub run_on : (steps : List Step) (answers given : List Answer) (d mid later : DriveFields) (actors between after : List ActorFields) (s : Step) (x : Answer)
      → given ≡ answers ++ x ∷ []
      → Run cleans commits begins frames d actors steps answers mid between
      → Goes cleans commits s mid between x later after → Stands begins frames later
      → Run cleans commits begins frames d actors (steps ++ s ∷ []) given later after
  run_on steps answers given d mid later actors between after s x same run goes stands =
      subst (λ (all : List Answer). Run cleans commits begins frames d actors (steps ++ s ∷ []) all later after) (sym same)
      (run_more steps answers d mid later actors between after s x run goes stands)
