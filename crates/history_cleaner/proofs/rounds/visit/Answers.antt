use Rattle.std.proofs.Common.{Bool, subst, rules}
use Rattle.drive.specs.Fields.{state_in, store_of}
use Rattle.history_cleaner.specs.Rounds.{IsTidied}
use Rattle.history_cleaner.proofs.Passing.{cleaned_kept}
use Rattle.history_cleaner.proofs.rounds.visit.Goals as goal

-- the object was cleaned, and it stays so while frames are emptied
pub returns-clause-visits : goal.returns-clause-visits
returns-clause-visits g c = record {
  between = c.clean_object.new.drive;
  put = c.in_ok-clean_object.ensures.cleaned;
  cleaned = cleaned_kept (store_of c.args.drive.now) (store_of c.clean_object.new.drive) (store_of c.tidy.new.drive) (state_in c.args.drive.now) c.args.object
      (record { clean = c.in_ok-clean_object.ensures.clean; gone = c.in_ok-clean_object.ensures.gone; held = c.in_ok-clean_object.ensures.held })
      c.tidy.ensures.objects;
  tidied = subst (λ (b : Bool). IsTidied b c.clean_object.new.drive c.tidy.new.drive) (search rules) c.tidy.ensures.tidied;
  objects = c.tidy.ensures.objects;
}
