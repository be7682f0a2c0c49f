-- Clients that have got their parts of a run's books, and what became of them.
use Rattle.std.proofs.Common.{◌≡◌, ◌<◌, ◌+◌, ◌∙◌, ℕ, All, Bool, List, ◌++◌, Option, Some, ap, arith, drop, get_or, length, sym, subst, take}
use Rattle.std.specs.List.{sum_by}
use Rattle.std.proofs.lemmas.List.{take_all, take-append-le}
use Rattle.s4_types.specs.History.{Base}
use Rattle.drive.specs.Fields.{DriveFields}
use Rattle.server.specs.Accounts.{PartFields, one_part, requests_in, changes_in}
use Rattle.server.specs.Attending.{AreServed, HasSettled, IsAttendedClient, with_part, without_part}
use Rattle.server.specs.Sequence.{HasCome}
use Rattle.server.specs.declared.running.Client.{Client}

-- what is written over the whole of a vector is all that it has
pub written_over : {A : Type 0} (n : ℕ) (after old : List A) → length after ≡ n → take n (after ++ drop (length after) old) ≡ after
written_over n after old len = take-append-le n after (drop (length after) old) (omega (arith, len)) ∙ take_all n after (omega (arith, len))

module _ {J S W : Type 0} where
  -- each client has got its part
  abbrev pub AreGiven : List (Client J S W) → List (Client J S W) → Type 0
  AreGiven clients given = (i : ℕ) (d : Client J S W) → i < length clients → get_or given i d ≡ with_part (get_or clients i d)

  pub given_parts : (clients given : List (Client J S W)) → length given ≡ length clients → AreGiven clients given → All (λ (c : Client J S W). c.part ≡ Some one_part) given
  given_parts clients given count each i d lt = ap (λ (c : Client J S W). c.part) (each i d (omega (arith, lt, count)))

  -- what holds of each, whatever its part is, holds of it still
  pub given_all : (P : Client J S W → Type 0) → ((c : Client J S W) → P c → P (with_part c)) → (clients given : List (Client J S W)) → length given ≡ length clients → AreGiven clients given → All P clients → All P given
  given_all P keeps clients given count each all i d lt =
      let at : i < length clients = omega (arith, lt, count) in
      subst P (sym (each i d at)) (keeps (get_or clients i d) (all i d at))

  module _ (remaining : S → Option (List ℕ)) (passed : W → Option (List ℕ)) (reader_failures : S → ℕ) (writer_failures : W → ℕ) (base : Base) (reserve : ℕ) (begins : DriveFields → Type 0) (moments : List ℕ → Type 0) (has_upkeep : Bool) where
    -- what became of a client doesn't rest on the part that it got
    given_attended : (before after : Client J S W) → IsAttendedClient remaining passed reader_failures writer_failures base reserve moments (with_part before) after → IsAttendedClient remaining passed reader_failures writer_failures base reserve moments before after
    given_attended before after is = record { role = is.role; attended = is.attended; reading = is.reading; writing = is.writing }

    -- so of all of them
    pub are_served : (clients given served after : List (Client J S W)) (rest : PartFields) (drive : DriveFields) → rest.requests ≡ 0 → rest.changes ≡ 0 → length served ≡ length clients → AreGiven clients given
        → ((i : ℕ) (d : Client J S W) → i < length clients → IsAttendedClient remaining passed reader_failures writer_failures base reserve moments (get_or given i d) (get_or served i d))
        → ((i : ℕ) (d : Client J S W) → i < length clients → HasSettled drive.ledger (without_part (get_or served i d)) (get_or after i d))
        → HasCome begins moments has_upkeep (rest.requests + sum_by (λ (c : Client J S W). requests_in c.part) served) (rest.changes + sum_by (λ (c : Client J S W). changes_in c.part) served) drive
        → AreServed remaining passed reader_failures writer_failures base reserve begins moments has_upkeep clients after drive
    are_served clients given served after rest drive no_requests no_changes count each attended settled come = record {
      served = served;
      count = count;
      each = λ i d lt. given_attended (get_or clients i d) (get_or served i d)
          (subst (λ (c : Client J S W). IsAttendedClient remaining passed reader_failures writer_failures base reserve moments c (get_or served i d)) (each i d lt) (attended i d lt));
      settled = settled;
      come =
          let requests : rest.requests + sum_by (λ (c : Client J S W). requests_in c.part) served ≡ sum_by (λ (c : Client J S W). requests_in c.part) served = omega (arith, no_requests) in
          let changes : rest.changes + sum_by (λ (c : Client J S W). changes_in c.part) served ≡ sum_by (λ (c : Client J S W). changes_in c.part) served = omega (arith, no_changes) in
          subst (λ n. HasCome begins moments has_upkeep n (sum_by (λ (c : Client J S W). changes_in c.part) served) drive) requests
          (subst (λ n. HasCome begins moments has_upkeep (rest.requests + sum_by (λ (c : Client J S W). requests_in c.part) served) n drive) changes come);
    }
