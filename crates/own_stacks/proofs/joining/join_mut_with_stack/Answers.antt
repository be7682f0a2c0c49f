use mathlib.Core.Path.{◌≡◌, subst}
use denote.Param.Members.{Called}
use borrow.Author.Rules.{rules}
use Rattle.own_stacks.proofs.joining.join_mut_with_stack.Goals as goal

pub returns : goal.returns
returns g c =
    let r = c.run_both-f.result in
    let f_back : r.0.0.now ≡ c.f-1.given.0 = search rules in
    let g_back : r.1.0.now ≡ c.g-1.given.0 = search rules in (
      subst (Called g.F.FnMut c.args.f.now tt r.0.1) f_back c.run_both-f.ensures.0.1,
      subst (Called g.G.FnMut c.args.g.now tt r.1.1) g_back c.run_both-f.ensures.1.1,
    )
