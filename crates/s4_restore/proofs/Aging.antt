-- A restore, and how many versions age by it.
use Rattle.std.proofs.Common.{◌≡◌, ◌∙◌, ℕ, List, [], Option, Some, ap, subst}
use Rattle.std.specs.Io.KnownBytes.{Appends}
use Rattle.std.proofs.KnownBytes.{Appends-trans}
use Rattle.s4_model.specs.State.{State, state_of}
use Rattle.s4_model.specs.Visible.{IsVisible}
use Rattle.segment_word.specs.AcceptViews.{Ledger}
use Rattle.version_store.specs.Store.{StoreFields}
use Rattle.drive.specs.Fields.{DriveFields, state_in, store_of}
use Rattle.service_time.specs.Starts.{IsTooFar}
use Rattle.s4_images.specs.Moments.{moment_said}
use Rattle.history_aging.specs.Ends.{AreEnds, aged_count}
use Rattle.restore_orders.specs.Choosing.{AreChosen}
use Rattle.restore_orders.specs.Dating.{LeavesObject, asked_at}
use Rattle.restore_orders.specs.Orders.{RestoresBy}
use Rattle.restore_orders.specs.Reaching.{RestoresInReach}
use Rattle.restore_orders.specs.declared.orders.Order.{Order}
use Rattle.s4_restore.specs.Counting.{RestoresCounted, aged_text}

-- a restore is one of each drive that has the state and the objects
restores_on : (d begun later : DriveFields) (order : Order) (output output' : Option (List ℕ)) → state_in begun ≡ state_in d → store_of begun ≡ store_of d → RestoresBy begun later order output output' → RestoresBy d later order output output'
restores_on d begun later order output output' state store r =
    let restores = r.restores in
    record {
      near = subst (λ (s : State). IsTooFar s.clock s.window order.time order.leap → ⊥) state r.near;
      restores = record {
        readable = subst (λ (s : State). IsVisible s 0 (moment_said s order.at)) state restores.readable;
        chosen = restores.chosen;
        choice = subst (λ (s : State). AreChosen s (store_of d) order (moment_said s order.at) restores.chosen) state
            (subst (λ (k : StoreFields). AreChosen (state_in begun) k order (moment_said (state_in begun) order.at) restores.chosen) store restores.choice);
        seen = restores.seen;
        same = record { state = restores.same.state ∙ state; store = restores.same.store ∙ store };
        cleared = restores.cleared;
        compacted = restores.compacted;
        between = restores.between;
        restores = subst (λ (s : State). RestoresInReach restores.cleared later order (asked_at s order.time) (moment_said s order.at) restores.chosen output restores.between) state restores.restores;
        skips = restores.skips;
      };
      left = λ unasked. subst (λ (s : State). LeavesObject s (state_in later)) state (r.left unasked);
    }

-- its lines are written, and then the line of how many versions age
pub counted : (d begun later : DriveFields) (order : Order) (ends passed lines written line : List ℕ) (output between output' : Option (List ℕ)) → begun.ledger ≡ d.ledger → store_of begun ≡ store_of d → AreEnds (state_in d) (store_of d) ends
    → RestoresBy begun later order (Some []) (Some lines) → passed ≡ ends → written ≡ lines → line ≡ aged_text order.json (aged_count passed (state_in later).floor) → Appends output between written → Appends between output' line
    → RestoresCounted d later order output output'
counted d begun later order ends passed lines written line output between output' ledger store ended restores passes writes is first second =
    let said : line ≡ aged_text order.json (aged_count ends (state_in later).floor) = is ∙ ap (λ (es : List ℕ). aged_text order.json (aged_count es (state_in later).floor)) passes in
    record {
      lines = lines;
      restores = restores_on d begun later order (Some []) (Some lines) (ap (λ (l : Ledger). state_of l.history) ledger) store restores;
      ends = ends;
      ended = ended;
      wrote = Appends-trans output between output' lines (aged_text order.json (aged_count ends (state_in later).floor)) (subst (Appends output between) writes first) (subst (Appends between output') said second);
    }
