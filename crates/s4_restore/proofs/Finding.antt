-- What was found to be needed.
use Rattle.std.proofs.Common.{◌≡◌, ℕ, false, List, [], ◌∷◌, Option, Some, inr, ap, sym, refl, subst}
use Rattle.std.specs.List.{AllByRecursion}
use Rattle.drive.specs.Fields.{DriveFields}
use Rattle.history_restore.specs.declared.aims.StandIn.{StandIn}
use Rattle.s4_command.specs.declared.restoring.RestoreAsked.{RestoreAsked}
use Rattle.s4_images.specs.Commands.{OverImage}
use Rattle.restore_search.specs.Searching.{numbers_of}
use Rattle.restore_search.specs.declared.rooms.Room.{Room}
use Rattle.restore_search.specs.declared.surveys.Lacking.{Lacking}
use Rattle.restore_search.specs.declared.surveys.Survey.{Survey}
use Rattle.restore_search.proofs.Each.{all_of}
use Rattle.restore_orders.specs.declared.means.Means.{Means}
use Rattle.restore_orders.specs.declared.orders.Order.{Order}
use Rattle.restore_trials.specs.Surveys.{Finds, IsLackingBy}
use Rattle.s4_restore.specs.Images.{IsPrepared}
use Rattle.s4_restore.specs.Searching.{DoesNotServe, IsAskedBy, IsFound, IsLeft, LacksNothing}
use Rattle.s4_restore.specs.declared.searching.Findings.{Findings}

-- one of these lacks something, as not both lists are empty
one_lacks : (P : Lacking → Type 0) (hidden refused : List Lacking) → AllByRecursion P hidden → AllByRecursion P refused → ((hidden ≡ []) × (refused ≡ []) → ⊥) → (one : Lacking) × P one
one_lacks P [] [] all more some = absurd (some (refl, refl))
one_lacks P [] (one ∷ refused) all more some = (one, more.0)
one_lacks P (one ∷ hidden) refused all more some = (one, all.0)

-- means don't serve alone where a trial by them found something lacking
pub fails_by_survey : (known : Option (List ℕ)) (restore : RestoreAsked) (stand_ins : List StandIn) (means : Means) (order : Order) (survey : Survey) → IsAskedBy restore stand_ins order → order.means ≡ means → order.full.now ≡ [] → order.skipped.now ≡ []
    → OverImage known (λ (d : DriveFields). Finds d order (Some survey)) → (LacksNothing survey → ⊥) → DoesNotServe known restore stand_ins means
fails_by_survey known restore stand_ins means order survey asks by_means full skipped over some = record {
  order = order;
  asks = asks;
  by_means = by_means;
  full = full;
  skipped = skipped;
  over = record { drive = over.drive; told = over.told; holds = inr (one_lacks (IsLackingBy over.drive order) survey.hidden.items survey.refused.items over.holds.0 over.holds.1 some) };
}

-- what was found prepares a restore, where what is lacking may be left out
pub prepares : (known : Option (List ℕ)) (restore : RestoreAsked) (stand_ins : List StandIn) (found : Findings) → IsFound known restore stand_ins found → (restore.skip ≡ false → found.lacking.items ≡ [])
    → IsPrepared known restore stand_ins found.means found.full.items (numbers_of found.lacking.items)
prepares known restore stand_ins found is allowed = record {
  served = is.by_search.served;
  before = is.before;
  fewest = is.by_search.fewest;
  hidden = is.by_search.flushed;
  left = all_of (IsLeft known restore stand_ins found.means) (λ (one : Lacking). one.object) found.lacking.items is.by_search.lacking;
  all = λ unasked. ap numbers_of (allowed unasked);
}

-- by the parts of a preparation
pub prepared_by : (known : Option (List ℕ)) (restore : RestoreAsked) (stand_ins : List StandIn) (means means' : Means) (full full' : List Room) (skipped skipped' : List ℕ) → means' ≡ means → full' ≡ full → skipped' ≡ skipped
    → IsPrepared known restore stand_ins means full skipped → IsPrepared known restore stand_ins means' full' skipped'
prepared_by known restore stand_ins means means' full full' skipped skipped' by_means by_full by_skipped is =
    subst (λ (m : Means). IsPrepared known restore stand_ins m full' skipped') (sym by_means)
    (subst (λ (rooms : List Room). IsPrepared known restore stand_ins means rooms skipped') (sym by_full)
    (subst (IsPrepared known restore stand_ins means full) (sym by_skipped) is))
