use mathlib.Core.Path.{refl, subst}
use Prim.Native.Nat.{◌+◌}
use native.Mathlib.Omega.{arith}
use Rattle.std.specs.Prelude.{slice_index_or}
use Rattle.std.specs.Fork.{ChangesAt}
use Rattle.own_stacks.proofs.each.for_each_mut_with_stack.Goals as goal

pub returns-then-not-is_empty : goal.returns-then-not-is_empty
returns-then-not-is_empty g c i d inside =
    let xs = c.args.s.now in let ys = c.calls_from.new.s in (
      refl,
      subst (λ place. ChangesAt g.F.Fn c.args.f.now place (slice_index_or xs i d) (slice_index_or ys i d)) {x = 0 + i} (omega arith)
          (c.calls_from.ensures.across i d inside),
    )
