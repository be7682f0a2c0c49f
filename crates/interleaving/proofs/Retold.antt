-- What a run leaves of drive and actors, told by the history alone.
use Rattle.std.proofs.Common.{◌≡◌, ◌⊎◌, ℕ, List, [], ◌∷◌, zero, suc, Option, None, Some, Result, Ok, Err, inl, inr, refl, sym, ap, ◌∙◌, subst, map}
use Rattle.std.specs.Prelude.{slice_get, option_map}
use Rattle.std.proofs.lemmas.List.{map-id, map-set}
use Rattle.atomic_table.specs.Seated.{TableId}
use Rattle.s4_types.specs.History.{Base, History}
use Rattle.s4_types.specs.declared.refusals.Refusal.{Refusal}
use Rattle.s4_types.specs.declared.requests.Request.TheVariants.{Query}
use Rattle.s4_types.specs.declared.requests.Question.TheVariants.{Read}
use Rattle.s4_model.specs.Step.{Step as ModelStep}
use Rattle.segment_word.specs.AcceptViews.{Ledger}
use Rattle.time_read.specs.Plans.{PlanFields, bytes_planned}
use Rattle.drive.specs.Fields.{DriveFields, history_of}
use Rattle.drive.specs.Answering.{reply_planned}
use Rattle.interleaving.specs.Moving.{Move, Moving, Still, Planned, Copied}
use Rattle.interleaving.specs.Actors.{ActorFields}
use Rattle.interleaving.specs.Acting.{Acts, CopiesBy, FetchesBy, PutsBy, answer_to, plan_after}
use Rattle.interleaving.specs.Running.{Goes, GoesAt, GoesBy, Run}
use Rattle.interleaving.specs.Telling.{Reader, named_by, reader_of, Names, NamesNothing, GivesBy, ActTells, TellsBy, TellsAt, Tells, Replays}
use Rattle.interleaving.specs.declared.answers.Answer.{Answer}
use Rattle.interleaving.specs.declared.acts.Act.{Act}
use Rattle.interleaving.specs.declared.acts.Act.TheVariants as act
use Rattle.interleaving.specs.declared.steps.Step.{Step}
use Rattle.interleaving.specs.declared.steps.Step.TheVariants as step

-- the same ledger has the same history
same_history : (d later : DriveFields) → later.ledger ≡ d.ledger → history_of later ≡ history_of d
same_history d later same = ap (λ (l : Ledger). l.history) same

-- what the model keeps of the actor of a place
reader_at : (actors : List ActorFields) (n : ℕ) → slice_get (map reader_of actors) n ≡ option_map reader_of (slice_get actors n)
reader_at [] n = refl
reader_at (a ∷ actors) zero = refl
reader_at (a ∷ actors) (suc n) = reader_at actors n

-- a read that was resolved, or refused
resolved_so : (object offset len : ℕ) (at : Option ℕ) (now : ℕ) (planned : Result PlanFields Refusal) (h after : History) (r s : Reader) (x : Answer) (older : Option PlanFields)
    → x ≡ answer_to planned → ModelStep h r.role (Query (Read object offset len at)) now (reply_planned planned) after
    → r.named ≡ named_by older → s ≡ record { role = r.role; named = named_by (plan_after planned older) }
    → Names (Query (Read object offset len at)) now h r x after s ⊎ NamesNothing (Query (Read object offset len at)) now h r x after s
resolved_so object offset len at now (Ok plan) h after r s x older is moves named same = inl (record { bytes = bytes_planned plan; answer = is; step = moves; reader = same })
resolved_so object offset len at now (Err refusal) h after r s x older is moves named same =
    inr (record { refusal = refusal; answer = is; step = moves; same = same ∙ ap (λ (n : Option (List ℕ)). record { role = r.role; named = n }) (sym named) })

-- a plan that was fetched
fetched_so : (plan : Option PlanFields) (a b : ActorFields) (x : Answer) → a.plan ≡ plan → FetchesBy plan a x b → GivesBy (named_by plan) (reader_of a) x (reader_of b)
fetched_so None a b x is h = (h.answer, ap reader_of h.actor)
fetched_so (Some plan) a b x is h = (h.answer, ap reader_of h.actor)

-- a move that was copied, or not
copied_so : (moving : Moving) (a b : ActorFields) (x : Answer) → CopiesBy moving a x b → reader_of b ≡ reader_of a
copied_so Still a b x h = ap reader_of h.actor
copied_so (Planned move) a b x (inl h) = ap reader_of h.1
copied_so (Planned move) a b x (inr h) = ap reader_of h.1
copied_so (Copied move) a b x h = ap reader_of h.actor

module _ (commits : Move → DriveFields → Result (Unit {0}) Refusal → DriveFields → Type 0) where
  -- a move that was put in place, or not
  put_so : (moving : Moving) (d later : DriveFields) (a b : ActorFields) (x : Answer) → PutsBy commits moving d a x later b → (history_of later ≡ history_of d) × (reader_of b ≡ reader_of a)
  put_so Still d later a b x h = (ap history_of h.0, ap reader_of h.1.actor)
  put_so (Planned move) d later a b x h = (ap history_of h.0, ap reader_of h.1.actor)
  put_so (Copied move) d later a b x h = (same_history d later h.puts.ledger, ap reader_of h.actor)

  -- what an act tells
  act_tells : (c : Act) (d later : DriveFields) (a b : ActorFields) (x : Answer) → Acts commits c d a x later b → ActTells c (history_of d) (reader_of a) x (history_of later) (reader_of b)
  act_tells (act.Request request now) d later a b x h = record { reply = h.reply; answer = h.answer; step = h.step; same = ap reader_of h.actor }
  act_tells (act.Resolve of) d later a b x h =
      resolved_so of.object of.offset of.length of.at of.now h.planned (history_of d) (history_of later) (reader_of a) (reader_of b) x a.plan h.answer h.step refl (ap reader_of h.actor)
  act_tells act.Fetch d later a b x h = (ap history_of h.0, fetched_so a.plan a b x refl h.1)
  act_tells act.Meet d later a b x h = (ap history_of h.drive, ap reader_of h.actor)
  act_tells (act.Plan frame object) d later a b x h = (same_history d later h.ledger, ap reader_of h.actor)
  act_tells act.Copy d later a b x h = (ap history_of h.0, copied_so a.moving a b x h.1)
  act_tells act.Commit d later a b x h = put_so a.moving d later a b x h

  -- what an act of the actor of a place tells, where this is that actor
  by_tells : (who : Option ActorFields) (n : ℕ) (c : Act) (d after : DriveFields) (actors later : List ActorFields) (x : Answer) → GoesBy commits who n c d actors x after later
      → TellsBy (option_map reader_of who) n c (history_of d) (map reader_of actors) x (history_of after) (map reader_of later)
  by_tells None n c d after actors later x h = (h.answer, ap history_of h.drive, ap (map reader_of) h.same)
  by_tells (Some a) n c d after actors later x h =
      (reader_of h.actor, act_tells c d after a h.actor x h.act, ap (map reader_of) h.set ∙ map-set reader_of actors n h.actor)

  at_tells : (n : ℕ) (c : Act) (d after : DriveFields) (actors later : List ActorFields) (x : Answer) → GoesAt commits n c d actors x after later
      → TellsAt n c (history_of d) (map reader_of actors) x (history_of after) (map reader_of later)
  at_tells n c d after actors later x h =
      subst (λ (who : Option Reader). TellsBy who n c (history_of d) (map reader_of actors) x (history_of after) (map reader_of later)) (sym (reader_at actors n))
      (by_tells (slice_get actors n) n c d after actors later x h)

module _ (cleans : ℕ → DriveFields → Result (Unit {0}) Refusal → DriveFields → Type 0) (commits : Move → DriveFields → Result (Unit {0}) Refusal → DriveFields → Type 0) where
  -- what a step tells
  step_tells : (s : Step) (d after : DriveFields) (actors later : List ActorFields) (x : Answer) → Goes cleans commits s d actors x after later
      → Tells s (history_of d) (map reader_of actors) x (history_of after) (map reader_of later)
  step_tells (step.By actor act) d after actors later x h = at_tells commits actor act d after actors later x h
  step_tells step.Seal d after actors later x h = (same_history d after h.seals.ledger, ap (map reader_of) h.same)
  step_tells (step.Checkpoint object) d after actors later x h = (same_history d after h.call.ledger, ap (map reader_of) h.same)
  step_tells (step.Clean object) d after actors later x h = (same_history d after h.call.ledger, ap (map reader_of) h.same)
  step_tells (step.Mark frame) d after actors later x h = (same_history d after h.call.ledger, ap (map reader_of) h.same)
  step_tells (step.Release frame) d after actors later x h = (same_history d after h.call.ledger, ap (map reader_of) h.same)

  -- what a run tells
  pub run_tells : (begins : Base) (frames : TableId) (steps : List Step) (answers : List Answer) (d after : DriveFields) (actors later : List ActorFields)
      → Run cleans commits begins frames d actors steps answers after later → Replays (history_of d) (map reader_of actors) steps answers (history_of after) (map reader_of later)
  run_tells begins frames [] [] d after actors later h = (ap history_of h.0, ap (map reader_of) h.1)
  run_tells begins frames (s ∷ steps) (x ∷ answers) d after actors later h =
      (history_of h.0, map reader_of h.1, step_tells s d h.0 actors h.1 x h.2, run_tells begins frames steps answers h.0 after h.1 later h.4)
  run_tells begins frames [] (x ∷ answers) d after actors later h = absurd h
  run_tells begins frames (s ∷ steps) [] d after actors later h = absurd h

  -- what a run tells that took all steps of a list
  pub told_whole : (begins : Base) (frames : TableId) (taken copies steps : List Step) (answers : List Answer) (d after : DriveFields) (actors later : List ActorFields)
      → map (λ (s : Step). s) taken ≡ copies → copies ≡ steps
      → Run cleans commits begins frames d actors taken answers after later → Replays (history_of d) (map reader_of actors) steps answers (history_of after) (map reader_of later)
  told_whole begins frames taken copies steps answers d after actors later all same run =
      subst (λ (x : List Step). Replays (history_of d) (map reader_of actors) x answers (history_of after) (map reader_of later)) (sym (map-id taken) ∙ all ∙ same)
      (run_tells begins frames taken answers d after actors later run)
