use Rattle.std.proofs.Common.{◌≡◌, ◌∙◌, ℕ, None, refl, sym, subst}
use Rattle.s4_model.specs.State.{State}
use Rattle.object_map.specs.Objects.{IsNextAbove}
use Rattle.object_map.specs.Rows.{row_of}
use Rattle.version_store.specs.Store.{StoreFields}
use Rattle.drive.specs.Fields.{state_in, store_of}
use Rattle.history_export.specs.declared.checking.Reading.{Reading}
use Rattle.history_export.specs.Checks.{HasRead, none_read}
use Rattle.history_export.specs.Versions.{pairs_of}
use Rattle.history_export.proofs.Counts.{CheckedTo, none_checked, checked_on, all_checked}
use Rattle.history_export.proofs.checking.check_all.Goals as goal

pub loop-object-init : goal.loop-object-init
loop-object-init g c =
    let told = g.P.Progress.told in
    let s = state_in c.args.drive.now in
    let store = store_of c.args.drive.now in
    let begun : Reading = record { checked = none_read; hasher = c.new-hasher.result } in
    record {
      state = refl;
      store = refl;
      checked = subst (λ (o : ℕ). CheckedTo s store o begun (told c.args.progress.now) (told c.args.progress.now)) (sym c.new-last.ensures)
          (none_checked s store begun (told c.args.progress.now) refl c.new-hasher.ensures);
    }

pub loop-object-preserved : goal.loop-object-preserved
loop-object-preserved g c =
    let told = g.P.Progress.told in
    let s = state_in c.args.drive.now in
    let store = store_of c.args.drive.now in
    let before = c.loop-object.invariant in
    let o = c.in-Some.object in
    let d = c.loop-object.reading in
    let later = c.check_object.new.reading in
    let read : HasRead s (pairs_of s store o) d later =
    subst (λ (x : StoreFields). HasRead s (pairs_of s x o) d later) before.store
    (subst (λ (x : State). HasRead x (pairs_of x (store_of c.loop-object.drive) o) d later) before.state c.in_ok-check_object.ensures.read) in
    record {
      state = c.check_object.ensures.state ∙ before.state;
      store = c.check_object.ensures.store ∙ before.store;
      checked = checked_on s store c.loop-object.last o d later (told c.args.progress.now) (told c.loop-object.progress) (told c.tell.new.self) before.checked
          (subst (λ (x : StoreFields). IsNextAbove x.rows c.loop-object.last o) before.store c.in-Some.ensures.some) read c.tell.ensures.told;
    }

pub returns-clause-checked : goal.returns-clause-checked
returns-clause-checked g c =
    let told = g.P.Progress.told in
    let before = c.loop-object.invariant in
    all_checked (state_in c.args.drive.now) (store_of c.args.drive.now) c.loop-object.last c.loop-object.reading _ (told c.args.progress.now) (told c.loop-object.progress) before.checked
    (λ o above. subst (λ (x : StoreFields). row_of x.rows o ≡ None) before.store (c.in_default.ensures.none o above)) refl c.finalize-digest.ensures
