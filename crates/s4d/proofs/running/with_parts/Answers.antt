use Rattle.std.proofs.Common.{◌≡◌, ◌-◌, ◌<◌, ◌∙◌, ℕ, List, ap, get_or, length, sym, subst}
use Rattle.server.specs.Attending.{with_part}
use Rattle.server.specs.declared.running.Client.{Client}
use Rattle.s4d.proofs.Given.{written_over}
use Rattle.s4d.proofs.running.with_parts.Goals as goal

-- what the slice of them got is all that they have
pub returns-clause-given : goal.returns-clause-given
returns-clause-given g c =
    let A : Type 0 = Client g.row.J.Denot g.row.S.Denot g.row.W.Denot in
    let clients : List A = c.args.clients.items in
    let given : List A = c.give_parts.new.clients in
    let value = c.as_mut_slice.ensures.value in
    let all = written_over c.args.clients.len given clients (c.give_parts.auto.clients ∙ c.as_mut_slice.ensures.len) in
    let each = subst (λ (xs : List A). (i : ℕ) (d : A) → i < length xs → get_or given i d ≡ with_part (get_or xs i d)) value c.give_parts.ensures.given in
    subst (λ (xs : List A). (i : ℕ) (d : A) → i < length clients → get_or xs i d ≡ with_part (get_or clients i d)) (sym all) each

-- the rest has as many parts less
pub returns-clause-rest : goal.returns-clause-rest
returns-clause-rest g c = c.give_parts.ensures.rest ∙ ap (λ (n : ℕ). record c.args.rest.now { parts = c.args.rest.now.parts - n }) c.as_mut_slice.ensures.len
