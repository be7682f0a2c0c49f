use Rattle.std.proofs.Common.{ℕ, ap, sym, ◌∙◌}
use Rattle.s4_model.specs.Audit.{audit_of}
use Rattle.drive.specs.Fields.{DriveFields, state_in, store_of}
use Rattle.history_cleaner.specs.Passing.{IsCleaned, has_other_row, has_lost_row}
use Rattle.history_cleaner.proofs.Rising.{counted_since}
use Rattle.history_cleaner.proofs.Passing.{all_same, count_same, kept_same}
use Rattle.history_cleaner.proofs.Promised.{cleaned_up}
use Rattle.history_cleaner.proofs.passes.full_pass.Goals as goal

-- the rows of the audit aside, the drive is as it was before the frames were counted
pub returns-clause-cleaned : goal.returns-clause-cleaned
returns-clause-cleaned g c =
    rw c.clean_audit.ensures (all_same c.args.drive.now c.note_generations-before.new.drive c.clean_and_empty.new.drive c.count_risen-released.new.drive c.note_generations-before.ensures.same c.count_risen-released.ensures.same c.in_ok-cleanings.ensures.cleaned)

pub returns-clause-promise : goal.returns-clause-promise
returns-clause-promise g c =
    let d = c.args.drive.now in
    let begun = c.note_generations-before in
    let done = c.clean_and_empty in
    let later = c.count_risen-released in
    let all : (o : ℕ) → IsCleaned (store_of d) (store_of later.new.drive) (state_in d) o = all_same d begun.new.drive done.new.drive later.new.drive begun.ensures.same later.ensures.same c.in_ok-cleanings.ensures.cleaned in
    rw c.clean_audit.ensures (cleaned_up d begun.new.drive done.new.drive later.new.drive begun.ensures.same done.ensures.ledger done.ensures.needed later.ensures.same c.rules.ensures.decodes all)

pub returns-clause-vacated : goal.returns-clause-vacated
returns-clause-vacated g c = rw (c.clean_audit.ensures, c.count_risen-released.ensures.same) c.in_ok-cleanings.ensures.vacated

pub returns-clause-rewritten : goal.returns-clause-rewritten
returns-clause-rewritten g c =
    rw c.clean_audit.ensures (count_same has_other_row c.args.drive.now c.note_generations-before.new.drive c.clean_and_empty.new.drive c.count_risen-released.new.drive _ c.note_generations-before.ensures.same c.count_risen-released.ensures.same c.in_ok-cleanings.ensures.rewritten)

pub returns-clause-removed : goal.returns-clause-removed
returns-clause-removed g c =
    rw c.clean_audit.ensures (count_same has_lost_row c.args.drive.now c.note_generations-before.new.drive c.clean_and_empty.new.drive c.count_risen-released.new.drive _ c.note_generations-before.ensures.same c.count_risen-released.ensures.same c.in_ok-cleanings.ensures.removed)

pub returns-clause-released : goal.returns-clause-released
returns-clause-released g c =
    rw c.clean_audit.ensures (counted_since c.args.drive.now.store.table.seat c.clean_and_empty.new.drive.store.table.seat c.count_risen-released.new.drive.store.table.seat c.as_slice.result.now c.count_risen-released.result
    (c.as_slice.ensures.value ∙ c.note_generations-before.ensures.noted) c.count_risen-released.ensures.risen (ap (λ (d : DriveFields). d.store.table.seat) c.count_risen-released.ensures.same))

pub returns-clause-ledger : goal.returns-clause-ledger
returns-clause-ledger g c =
    ap (λ (d : DriveFields). d.ledger) c.clean_audit.ensures ∙ ap (λ (d : DriveFields). d.ledger) c.count_risen-released.ensures.same ∙ c.clean_and_empty.ensures.ledger ∙ ap (λ (d : DriveFields). d.ledger) c.note_generations-before.ensures.same

pub returns-clause-needed : goal.returns-clause-needed
returns-clause-needed g c =
    rw c.clean_audit.ensures (kept_same c.args.drive.now c.note_generations-before.new.drive c.clean_and_empty.new.drive c.count_risen-released.new.drive c.note_generations-before.ensures.same c.count_risen-released.ensures.same c.clean_and_empty.ensures.needed)

-- the state is that of the history, which the cut leaves
pub returns-clause-audit : goal.returns-clause-audit
returns-clause-audit g c = ap (λ (d : DriveFields). d.audit) c.clean_audit.ensures ∙ sym (ap (λ (d : DriveFields). audit_of (state_in d)) c.clean_audit.ensures)
