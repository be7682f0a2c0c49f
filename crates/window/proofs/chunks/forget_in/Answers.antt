use Rattle.std.proofs.Common.{◌≡◌, refl, sym, ap, subst, ◌∙◌, arith}
use Rattle.window.specs.Runs.{AllEndFrom, earliest}
use Rattle.window.proofs.Live.{from_earliest}
use Rattle.window.proofs.Forgetting.{none_falls}
use Rattle.window.proofs.chunks.forget_in.Goals as goal

pub returns-then-number : goal.returns-then-number
returns-then-number c =
    let end : c.earliest-chunk.result ≡ earliest c.sift.new.runs.items = c.earliest-chunk.ensures ∙ ap earliest c.as_slice.ensures.value in
    (refl, c.sift.ensures, subst (λ n. AllEndFrom n c.sift.new.runs.items) (sym end) (from_earliest c.sift.new.runs.items))

pub returns-else-number : goal.returns-else-number
returns-else-number c = none_falls c.args.floor c.args.chunk.now c.requires (omega arith)
