use Rattle.std.proofs.Common.{◌≡◌, ◌∙◌, ℕ, List, [], ◌∷◌, Result, Ok, Err, sym, ap, subst}
use Rattle.std.proofs.lemmas.Result.{err_from_is_err_and}
use Rattle.s4_types.specs.declared.changes.Change.{Change}
use Rattle.s4_types.specs.declared.changes.Change.TheVariants as change
use Rattle.s4_types.specs.declared.refusals.Refusal.{Refusal}
use Rattle.s4_types.specs.declared.versions.Version.{Version}
use Rattle.s4_model.specs.Refusals.{present}
use Rattle.drive.specs.Fields.{DriveFields, state_in}
use Rattle.history_view.specs.Contents.{attribute_of}
use Rattle.block_runs.specs.declared.running.Run.{Run}
use Rattle.history_restore.specs.declared.plans.Changes.{Changes}
use Rattle.history_restore.specs.Asking.{AsksFor}
use Rattle.history_restore.specs.Content.{content_of, holding}
use Rattle.history_restore.specs.Plans.{changes_of}
use Rattle.history_restore.proofs.There.{there_with}
use Rattle.history_restore.proofs.Planned.{asked_err, asked_front, asked_ok, asked_then}
use Rattle.history_restore.proofs.Contents.{remade_whole}
use Rattle.history_restore.proofs.changing.remake.Goals as goal

pub returns-clause-content : goal.returns-clause-content
returns-clause-content g c =
    let first = state_in c.create.new.drive in
    let second = state_in c.change.new.drive in
    let n = c.in_ok-number.number in
    let is : n ≡ (state_in c.args.drive.now).next = c.in_ok-number.ensures.number in
    let made : content_of (present first n) ≡ holding [] (attribute_of c.args.before.now) =
    ap (λ (k : ℕ). content_of (present first k)) is ∙ c.in_ok-number.ensures.content ∙ ap (holding []) c.attribute_of.ensures in
    ap (λ (k : ℕ). content_of (present second k)) (sym is)
    ∙ remade_whole c.args.before.now c.args.runs.now c.args.changes n (present first n) (present second n) made c.in_ok-change.ensures.content

pub returns-in_err-number-clause-asked : goal.returns-in_err-number-clause-asked
returns-in_err-number-clause-asked g c =
    let p = err_from_is_err_and c.from_residual.result c.from_residual.ensures.1 in
    let next = (state_in c.args.drive.now).next in
    let before = c.args.before.now in
    let d' = c.create.new.drive in
    let e = c.in_err-number.field-0.0 in
    rw (p.1, p.2) (asked_front (change.Create next (attribute_of before) ∷ []) (changes_of before c.args.runs.now c.args.changes next) c.args.drive.now d' c.args.now e
    (subst (λ (a : List ℕ). AsksFor {T = ℕ} c.args.drive.now c.args.now (change.Create next a ∷ []) (Err e) d') c.attribute_of.ensures c.in_err-number.ensures.asked))

-- creation and changes, one after the other
remade : {T : Type 0} (r : Result T Refusal) (d middle later : DriveFields) (now next n : ℕ) (before : Version) (runs : List Run) (changes : Changes) (attribute : List ℕ) → n ≡ next → attribute ≡ attribute_of before
    → AsksFor d now (change.Create next attribute ∷ []) (Ok n) middle → AsksFor middle now (changes_of before runs changes n) r later → AsksFor d now (change.Create next (attribute_of before) ∷ changes_of before runs changes next) r later
remade r d middle later now next n before runs changes attribute n_is attribute_is first second =
    let all : change.Create next attribute ∷ changes_of before runs changes n ≡ change.Create next (attribute_of before) ∷ changes_of before runs changes next =
    ap (λ (k : ℕ). change.Create next attribute ∷ changes_of before runs changes k) n_is ∙ ap (λ (a : List ℕ). change.Create next a ∷ changes_of before runs changes next) attribute_is in
    subst (λ (cs : List Change). AsksFor d now cs r later) all (asked_then r (change.Create next attribute ∷ []) (changes_of before runs changes n) d middle later now n first second)

pub returns-in_err-change-clause-asked : goal.returns-in_err-change-clause-asked
returns-in_err-change-clause-asked g c =
    let p = err_from_is_err_and c.from_residual-in_err-change.result c.from_residual-in_err-change.ensures.1 in
    rw (p.1, p.2) (asked_err _ _ _ _ _ (remade (Err c.in_err-change.field-0.0) c.args.drive.now c.create.new.drive c.change.new.drive c.args.now (state_in c.args.drive.now).next c.in_ok-number.number c.args.before.now c.args.runs.now c.args.changes
    c.attribute_of.result.now c.in_ok-number.ensures.number c.attribute_of.ensures c.in_ok-number.ensures.asked c.in_err-change.ensures.asked))

pub returns-clause-asked : goal.returns-clause-asked
returns-clause-asked g c =
    asked_ok _ _ _ _ c.in_ok-change.field-0 c.in_ok-number.number (remade (Ok c.in_ok-change.field-0) c.args.drive.now c.create.new.drive c.change.new.drive c.args.now (state_in c.args.drive.now).next c.in_ok-number.number c.args.before.now c.args.runs.now c.args.changes
    c.attribute_of.result.now c.in_ok-number.ensures.number c.attribute_of.ensures c.in_ok-number.ensures.asked c.in_ok-change.ensures.asked)

pub returns-in_err-change-clause-refused : goal.returns-in_err-change-clause-refused
returns-in_err-change-clause-refused g c =
    let p = err_from_is_err_and c.from_residual-in_err-change.result c.from_residual-in_err-change.ensures.1 in
    let n = c.in_ok-number.number in
    let middle = state_in c.create.new.drive in
    let attribute = c.attribute_of.result.now in
    let made : content_of (present middle n) ≡ holding [] attribute = ap (λ (k : ℕ). content_of (present middle k)) c.in_ok-number.ensures.number ∙ c.in_ok-number.ensures.content in
    rw (p.1, p.2) (λ fits. c.in_err-change.ensures.refused fits (there_with (present middle n) [] attribute made))
