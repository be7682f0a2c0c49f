-- How a drive is restored by an order, step by step.
use Rattle.std.proofs.Common.{◌≡◌, ◌∙◌, ℕ, Bool, true, false, List, Option, inl, inr, refl, sym, subst}
use Rattle.std.specs.Prelude.{MatchBool}
use Rattle.std.specs.List.{flat_map}
use Rattle.std.specs.Io.KnownBytes.{Appends}
use Rattle.s4_model.specs.State.{State}
use Rattle.s4_model.specs.Visible.{IsVisible}
use Rattle.version_store.specs.Store.{StoreFields}
use Rattle.drive.specs.Fields.{DriveFields, state_in, store_of}
use Rattle.history_restore.specs.declared.planning.ObjectPlan.{ObjectPlan}
use Rattle.history_restore.specs.Planning.{aims_planned}
use Rattle.history_restore.specs.Presence.{HasNone, HasObject}
use Rattle.s4_images.specs.Moments.{moment_said}
use Rattle.service_time.specs.Starts.{IsTooFar}
use Rattle.restore_orders.specs.Choosing.{AreChosen}
use Rattle.restore_orders.specs.Dating.{LeavesObject, asked_at}
use Rattle.restore_orders.specs.Lines.{skipped_text}
use Rattle.restore_orders.specs.Means.{IsCompactedBy, IsSameDrive}
use Rattle.restore_orders.specs.Orders.{RestoresAt, RestoresBy}
use Rattle.restore_orders.specs.Reaching.{RestoresInReach}
use Rattle.restore_orders.specs.Restoring.{RestoresDrive}
use Rattle.restore_orders.specs.declared.orders.Order.{Order}

-- the moment and what is chosen are passed on as other values
pub restores_at : (d seen cleared later : DriveFields) (order : Order) (now at : ℕ) (chosen passed : List ObjectPlan) (output between output' : Option (List ℕ)) → at ≡ moment_said (state_in d) order.at → passed ≡ chosen
    → IsVisible (state_in d) 0 (moment_said (state_in d) order.at) → AreChosen (state_in d) (store_of d) order at chosen → IsSameDrive d seen → IsCompactedBy order.means seen cleared → RestoresInReach cleared later order now at passed output between
    → Appends between output' (flat_map (skipped_text order.json) order.skipped.now) → RestoresAt d later order now output output'
restores_at d seen cleared later order now at chosen passed output between output' said passes readable choice keeps compacted restores skips = record {
  readable = readable;
  chosen = chosen;
  choice = subst (λ (t : ℕ). AreChosen (state_in d) (store_of d) order t chosen) said choice;
  seen = seen;
  same = keeps;
  cleared = cleared;
  compacted = compacted;
  between = between;
  restores = subst (λ (t : ℕ). RestoresInReach cleared later order now t chosen output between) said
      (subst (λ (plans : List ObjectPlan). RestoresInReach cleared later order now at plans output between) passes restores);
  skips = skips;
}

-- what is restored is so over a drive of the same state and store, and leaves one of the same state and store
reached_on : (cleared middle later : DriveFields) (order : Order) (now at : ℕ) (chosen : List ObjectPlan) (output output' : Option (List ℕ)) → state_in later ≡ state_in middle → store_of later ≡ store_of middle
    → RestoresInReach cleared middle order now at chosen output output' → RestoresInReach cleared later order now at chosen output output'
reached_on cleared middle later order now at chosen output output' same kept r = record {
  wide = r.wide;
  between = r.between;
  reaches = r.reaches;
  restores = record {
    middle = r.restores.middle;
    between = r.restores.between;
    hides = r.restores.hides;
    restores = subst (λ (k : StoreFields). RestoresDrive (state_in r.restores.middle) (store_of r.restores.middle) (state_in later) k now at order.json (aims_planned chosen) r.restores.between output') (sym kept)
        (subst (λ (s : State). RestoresDrive (state_in r.restores.middle) (store_of r.restores.middle) s (store_of middle) now at order.json (aims_planned chosen) r.restores.between output') (sym same) r.restores.restores);
  };
}

restored_on : (d begun middle later : DriveFields) (order : Order) (now : ℕ) (output output' : Option (List ℕ)) → state_in begun ≡ state_in d → store_of begun ≡ store_of d → state_in later ≡ state_in middle → store_of later ≡ store_of middle
    → RestoresAt begun middle order now output output' → RestoresAt d later order now output output'
restored_on d begun middle later order now output output' state store same kept r = record {
  readable = subst (λ (s : State). IsVisible s 0 (moment_said s order.at)) state r.readable;
  chosen = r.chosen;
  choice = subst (λ (s : State). AreChosen s (store_of d) order (moment_said s order.at) r.chosen) state
      (subst (λ (k : StoreFields). AreChosen (state_in begun) k order (moment_said (state_in begun) order.at) r.chosen) store r.choice);
  seen = r.seen;
  same = record { state = r.same.state ∙ state; store = r.same.store ∙ store };
  cleared = r.cleared;
  compacted = r.compacted;
  between = r.between;
  restores = reached_on r.cleared middle later order now (moment_said (state_in d) order.at) r.chosen output r.between same kept
      (subst (λ (s : State). RestoresInReach r.cleared middle order now (moment_said s order.at) r.chosen output r.between) state r.restores);
  skips = r.skips;
}

-- where there was an object one is left, unless none has to be
leaves_one : (had : Bool) (s middle later : State) (to_nothing : Bool) → MatchBool had (HasObject s) (HasNone s) → (had ≡ true → to_nothing ≡ false → HasObject middle) → later ≡ middle → to_nothing ≡ false → LeavesObject s later
leaves_one true s middle later to_nothing before after same unasked = inl (subst HasObject (sym same) (after refl unasked))
leaves_one false s middle later to_nothing before after same unasked = inr before

pub restores_by : (d begun middle later : DriveFields) (order : Order) (now : ℕ) (had : Bool) (output output' : Option (List ℕ)) → state_in begun ≡ state_in d → store_of begun ≡ store_of d → state_in later ≡ state_in middle → store_of later ≡ store_of middle
    → now ≡ asked_at (state_in d) order.time → (IsTooFar (state_in d).clock (state_in d).window order.time order.leap → ⊥) → MatchBool had (HasObject (state_in d)) (HasNone (state_in d))
    → (had ≡ true → order.to_nothing ≡ false → HasObject (state_in middle)) → RestoresAt begun middle order now output output' → RestoresBy d later order output output'
restores_by d begun middle later order now had output output' state store same kept is near before after restores = record {
  near = near;
  restores = subst (λ (n : ℕ). RestoresAt d later order n output output') is (restored_on d begun middle later order now output output' state store same kept restores);
  left = leaves_one had (state_in d) (state_in middle) (state_in later) order.to_nothing before after same;
}
