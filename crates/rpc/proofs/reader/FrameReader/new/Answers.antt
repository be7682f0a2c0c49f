use Rattle.std.proofs.Common.{◌≡◌, List, ℕ, Some, length, ap, arith}
use Rattle.rpc.proofs.reader.FrameReader.new.Goals as goal

pub invariant_of-result : goal.invariant_of-result
invariant_of-result c =
    let none : length c.in_ok-held.held.items ≡ 0 = ap length c.in_ok-held.ensures.items in
    ((λ le. absurd (omega (arith, le, none))), omega (arith, c.in_ok-held.ensures.capacity))

pub returns-clause-start : goal.returns-clause-start
returns-clause-start c = ap (λ (x : List ℕ). Some x) c.in_ok-held.ensures.items
