use Rattle.std.proofs.Common.{◌≡◌, ◌++◌, ◌∙◌, List, ℕ, Some, arith, subst, sym, ap}
use Rattle.rpc.specs.Stream.{IsPartial, AddsItems}
use Rattle.rpc.proofs.StreamLaws.{partial_bound}
use Rattle.rpc.proofs.reader.read_rest.Goals as goal

pub put-requires : goal.put-requires
put-requires g c =
    let partial : IsPartial c.in-Some.rest.now = rw c.in-Some.is at c.in_ok-read_frames.ensures.partial in
    let bound = partial_bound c.in-Some.rest.now partial in
    omega (arith, bound, c.clear.ensures.len, c.clear.ensures.capacity, c.requires)

pub returns-in-Some-clause-partial : goal.returns-in-Some-clause-partial
returns-in-Some-clause-partial g c = λ goes_on.
    let partial : IsPartial c.in-Some.rest.now = rw c.in-Some.is at c.in_ok-read_frames.ensures.partial in
    let is : c.put.new.out.items ≡ c.in-Some.rest.now = c.put.ensures.items ∙ ap (λ (x : List ℕ). x ++ c.in-Some.rest.now) c.clear.ensures.items in
    subst IsPartial (sym is) partial

pub returns-in-None-clause-read : goal.returns-in-None-clause-read
returns-in-None-clause-read g c = rw c.in-None.is at c.in_ok-read_frames.ensures.read

pub returns-in-Some-clause-read : goal.returns-in-Some-clause-read
returns-in-Some-clause-read g c =
    let is : c.put.new.out.items ≡ c.in-Some.rest.now = c.put.ensures.items ∙ ap (λ (x : List ℕ). x ++ c.in-Some.rest.now) c.clear.ensures.items in
    subst (λ (x : List ℕ). AddsItems g.T.Message.spells c.args.piece.now c.args.items.now.items c.read_frames.new.items.items (Some x)) (sym is) (rw c.in-Some.is at c.in_ok-read_frames.ensures.read)

pub returns-in-Some-clause-room : goal.returns-in-Some-clause-room
returns-in-Some-clause-room g c = omega (arith, c.requires, c.clear.ensures.capacity, c.put.ensures.capacity)
