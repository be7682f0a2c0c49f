use Rattle.std.proofs.Common.{◌≡◌, ◌∙◌, sym, subst}
use Rattle.drive.specs.Fields.{state_in, store_of}
use Rattle.history_view.specs.Contents.{content_of as bytes_of}
use Rattle.history_restore.specs.Plans.{AreWithin, runs_between}
use Rattle.history_restore.proofs.Joined.{full_is}
use Rattle.history_restore.proofs.Turning.{runs_within}
use Rattle.history_restore.proofs.choosing.too_full.Goals as goal

pub is_too_long-requires : goal.is_too_long-requires
is_too_long-requires g c =
    let earlier = c.args.compared.now.earlier in
    let latest = c.args.compared.now.latest in
    subst (AreWithin (bytes_of earlier)) (sym (c.as_slice-runs.ensures.value ∙ c.requires)) (runs_within 0 earlier latest)

pub returns-then-is_too_long-clause-full : goal.returns-then-is_too_long-clause-full
returns-then-is_too_long-clause-full g c =
    let earlier = c.args.compared.now.earlier in
    let latest = c.args.compared.now.latest in
    let found : c.as_slice-runs.result.now ≡ runs_between 0 earlier latest = c.as_slice-runs.ensures.value ∙ c.requires in (
      c.in-Change.is,
      full_is (store_of c.args.drive.now) (state_in c.args.drive.now).clock c.args.object earlier latest c.as_slice-runs.result.now c.in-Change.changes c.args.plan c.is_too_long.result c.in-Change.is found c.is_too_long.ensures.long
          ∙ c.if-is_too_long.true,
    )

pub returns-else-is_too_long-clause-full : goal.returns-else-is_too_long-clause-full
returns-else-is_too_long-clause-full g c =
    let earlier = c.args.compared.now.earlier in
    let latest = c.args.compared.now.latest in
    let found : c.as_slice-runs.result.now ≡ runs_between 0 earlier latest = c.as_slice-runs.ensures.value ∙ c.requires in
    full_is (store_of c.args.drive.now) (state_in c.args.drive.now).clock c.args.object earlier latest c.as_slice-runs.result.now c.in-Change.changes c.args.plan c.is_too_long.result c.in-Change.is found c.is_too_long.ensures.long
    ∙ c.if-is_too_long.false
