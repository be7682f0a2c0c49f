use Rattle.std.proofs.Common.{◌∙◌, [], ◌∷◌, inl, inr, refl, sym, subst}
use Rattle.std.proofs.lemmas.List.Elements.{All-get_or}
use Rattle.s4_model.specs.State.{State}
use Rattle.s4_model.specs.Visible.{IsVisible}
use Rattle.drive.specs.Fields.{state_in}
use Rattle.history_export.specs.Checks.{HasRead}
use Rattle.history_export.proofs.Counts.{read_next, all_read}
use Rattle.history_export.proofs.checking.read_versions.Goals as goal

pub loop-moment-init : goal.loop-moment-init
loop-moment-init g c = record { state = refl; store = refl; read = inl (refl, refl) }

pub read_version-requires : goal.read_version-requires
read_version-requires g c =
    let s = state_in c.args.drive.now in
    let o = c.args.object in
    let t = c.moment-item.result in
    let seen : IsVisible s o t =
    subst (IsVisible s o) (sym c.moment-item.is) (All-get_or (IsVisible s o) c.args.moments.now c.loop-moment.moment-index t c.loop-moment-test.true c.requires.visible) in
    record { visible = subst (λ (x : State). IsVisible x o t) (sym c.loop-moment.invariant.state) seen }

pub loop-moment-preserved : goal.loop-moment-preserved
loop-moment-preserved g c =
    let s = state_in c.args.drive.now in
    let o = c.args.object in
    let t = c.moment-item.result in
    let before = c.loop-moment.invariant in
    let d = c.loop-moment.reading in
    let later = c.read_version.new.reading in
    let read : HasRead s ((o, t) ∷ []) d later = subst (λ (x : State). HasRead x ((o, t) ∷ []) d later) before.state c.in_ok-read_version.ensures.read in
    record {
      state = c.read_version.ensures.state ∙ before.state;
      store = c.read_version.ensures.store ∙ before.store;
      read = inr (read_next s o c.args.moments.now c.loop-moment.moment-index t c.args.reading.now d later c.loop-moment-test.true c.moment-item.is before.read read);
    }

pub returns-clause-read : goal.returns-clause-read
returns-clause-read g c =
    all_read (state_in c.args.drive.now) c.args.object c.args.moments.now c.loop-moment.moment-index c.args.reading.now c.loop-moment.reading c.requires.some c.loop-moment-test.false c.loop-moment.invariant.read
