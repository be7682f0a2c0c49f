use Rattle.std.proofs.Common.{◌≡◌, ◌+◌, ℕ, ◌<◌, ◌≤◌, get_or, take}
use Rattle.std.specs.List.{sum_by}
use Rattle.server.specs.Attending.{without_part}
use Rattle.server.specs.Accounts.{parts_in, requests_in, changes_in}
use Rattle.server.proofs.settling.take_parts.Given as goal

-- the parts of those that came are back, and the others are as they were
abbrev pub invariant-loop-client : goal.invariant-loop-client
invariant-loop-client g l =
    let came = take l.client-index l.initial.clients in record {
      parts : l.all.parts ≡ l.initial.all.parts + sum_by (λ c. parts_in c.part) came;
      requests : l.all.requests ≡ l.initial.all.requests + sum_by (λ c. requests_in c.part) came;
      changes : l.all.changes ≡ l.initial.all.changes + sum_by (λ c. changes_in c.part) came;
      taken : (i : ℕ) (d : _) → i < l.client-index → get_or l.clients i d ≡ without_part (get_or l.initial.clients i d);
      others : (i : ℕ) (d : _) → l.client-index ≤ i → get_or l.clients i d ≡ get_or l.initial.clients i d;
    }
