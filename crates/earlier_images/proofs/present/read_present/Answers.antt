use Rattle.std.proofs.Common.{ℕ, List, Option, IfSome, sym, ap, subst}
use Rattle.std.specs.Prelude.{IfNone}
use Rattle.codec.specs.declared.versions.ImageVersion.TheVariants.{Second}
use Rattle.image_parts.specs.declared.headers.Header.{Header}
use Rattle.image_objects.specs.declared.rows.ImageRow.{ImageRow}
use Rattle.image_objects.specs.Versions.{RowsStandBy}
use Rattle.verifier.specs.Rows.{SpellRows}
use Rattle.earlier_images.specs.Used.{AreFramesOf, used_in}
use Rattle.earlier_images.proofs.PresentRows.{chains_again}
use Rattle.earlier_images.proofs.present.read_present.Goals as goal

pub unreachable-requires-in_default-2 : goal.unreachable-requires-in_default-2
unreachable-requires-in_default-2 c =
    let parts = c.args.parts.now in
    let chains = c.requires.chains in
    let frames = c.in-Some.frames in
    let are = subst (λ (o : Option _). IfSome o (λ fs. AreFramesOf parts.frames fs)) c.in-Some.is c.in_ok-frames.ensures.frames in
    let never = subst (λ (o : Option _). IfNone o ((rows : List ImageRow) → SpellRows parts.rows rows → RowsStandBy Second (used_in frames) rows c.header.result.clock → ⊥)) c.in_default-2.is c.in_ok-rows.ensures.none in
    let stand = chains_again c.a_table_names_the_same.ensures parts frames are chains in
    never chains.rows chains.spelled (subst (λ (k : ℕ). RowsStandBy Second (used_in frames) chains.rows k) (sym (ap (λ (h : Header). h.clock) c.header.ensures)) stand)
