use Rattle.std.proofs.Common.{◌≡◌, ℕ, List, Some, length, get_or, sym, ap, ◌∙◌, rules, arith}
use Rattle.std.proofs.lemmas.Grind.{common_steps}
use Rattle.image_objects.proofs.Sizes.{slot_byte}
use Rattle.image_objects.proofs.tidiness.has_zeros_from.Goals as goal

pub returns-clause-only : goal.returns-clause-only
returns-clause-only g c = λ h.
    let there : g.U.UsedBlocks.used c.args.used.now c.in-Some.place ≡ Some c.in-Some-block.block = search rules in
    let same : c.block-2.inside.bytes ≡ c.in-Some-block.block.bytes = search rules in
    let count : length c.block-2.inside.bytes ≡ 512 = grind (arith, common_steps) in
    c.ends_in_zeros.ensures.only (λ n from lt.
    ap (λ (bytes : List ℕ). get_or bytes n 0) same ∙ sym (slot_byte (g.U.UsedBlocks.used c.args.used.now) c.args.slot c.in-Some.place c.in-Some-block.block n c.in-Some.is there) ∙ h n from (omega (arith, lt, count)))
