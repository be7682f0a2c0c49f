-- What is known of a client whose session has met the drive that all sessions leave, and of the sessions of a line by their clients.
use Rattle.std.proofs.Common.{◌≡◌, ◌≢◌, ◌↔◌, ◌<◌, ◌≤◌, ◌+◌, ◌*◌, ◌∙◌, ◌&&◌, ℕ, zero, suc, All, Bool, IfOk, IfSome, IsTrue, MatchResult, List, [], ◌∷◌, Option, Some, None, Result, Ok, Err, ap, arith, get_or, length, map, refl, sym, subst}
use Rattle.std.specs.Io.KnownBytes.{Keeps}
use Rattle.std.specs.List.{AllZip, count_by, sum_by}
use Rattle.std.proofs.lemmas.List.Elements.{All-map}
use Rattle.std.proofs.lemmas.List.Sums.{sum_by-cons}
use Rattle.s4_types.specs.History.{Base, accepted}
use Rattle.s4_types.specs.declared.requests.Role.{Role}
use Rattle.s4_model.specs.State.{state_of}
use Rattle.segment_word.specs.AcceptRule.{FitsLedger}
use Rattle.segment_word.specs.AcceptViews.{Ledger, begun}
use Rattle.drive.specs.Fields.{DriveFields, SessionFields, history_of, state_in}
use Rattle.serving.specs.declared.ends.ServeEnd.TheVariants.{Ended}
use Rattle.server.specs.Accounts.{PartFields, parts_in, requests_in, changes_in}
use Rattle.server.specs.Attending.{AreServed, IsAttended, IsAttendedClient, Settles}
use Rattle.server.specs.Drawing.{AreTicks, ClockFields}
use Rattle.server.specs.Laws.{ARunAddsItsChangesAlone, ARunsClockGoesByItsRequests}
use Rattle.server.specs.Sequence.{HasCome, is_answer, moments_of}
use Rattle.server.specs.declared.running.Client.{Client}
use Rattle.server.specs.declared.running.Outcome.{Outcome}
use Rattle.server.specs.declared.running.Outcome.TheVariants.{Waiting, Served, Refused}
use Rattle.s4d_command.specs.declared.sessions.RunSession.{RunSession}
use Rattle.verifier.specs.Saved.{SpellsSaved}
use Rattle.image_commands.specs.Files.{AreKnown}
use Rattle.s4d.specs.Running.{Came, HasFiles, IsSavedIn, IsUnasked, LeavesDrive, RunsSession, RunsSessions}
use Rattle.s4d.proofs.Ends.{ended_there, there_ended}
use Rattle.s4d.proofs.Zips.{zip_moved, zip_on}

-- what a session was told fits the drive that it has met
fits_ledger : (ledger : Ledger) (left session : Option SessionFields) → Settles ledger left session → IfSome left (λ last. FitsLedger ledger last.told)
fits_ledger ledger None session settled = tt
fits_ledger ledger (Some last) session settled = settled.0

-- what holds of each image of a list's elements holds of their images
unmapped : {X Y : Type 0} (P : Y → Type 0) (f : X → Y) (xs : List X) → All P (map f xs) → All (λ x. P (f x)) xs
unmapped P f [] all k d lt = absurd (omega (arith, lt))
unmapped P f (x ∷ xs) all zero d lt = all 0 (f x) (omega arith)
unmapped P f (x ∷ xs) all (suc k) d lt = unmapped P f xs (λ i e below. all (suc i) e (omega (arith, below))) k d (omega (arith, lt))

-- a sum of ones is a count
ones : {X : Type 0} (f : X → ℕ) (xs : List X) → ((i : ℕ) (d : X) → i < length xs → f (get_or xs i d) ≡ 1) → sum_by f xs ≡ length xs
ones f [] each = refl
ones f (x ∷ xs) each =
    let one : f x ≡ 1 = each 0 x (omega arith) in
    let others : sum_by f xs ≡ length xs = ones f xs (λ i d lt. each (suc i) d (omega (arith, lt))) in
    let cons = sum_by-cons f x xs in
    omega (arith, one, others, cons)

-- a session that was attended has its part of the books
part_of : (base : Base) (reserve : ℕ) (moments : List ℕ → Type 0) (role : Role) (outcome : Outcome) (session : Option SessionFields) (part : Option PartFields) (input output input' output' : Option (List ℕ))
    → IsAttended base reserve moments role outcome session part input output input' output' → parts_in part ≡ 1
part_of base reserve moments role Waiting session part input output input' output' is = absurd is
part_of base reserve moments role (Served end) None part input output input' output' is = absurd is
part_of base reserve moments role (Served end) (Some last) None input output input' output' is = absurd is
part_of base reserve moments role (Served end) (Some last) (Some part) input output input' output' is = is.one
part_of base reserve moments role (Refused refusal) session part input output input' output' is = ap parts_in is.2

-- what became of a client, with what is counted on its part of the books
abbrev pub came_of : {J S W : Type 0} → Client J S W → Came
came_of client = record { outcome = client.outcome; requests = requests_in client.part; changes = changes_in client.part }

module _ {J S W : Type 0} (remaining : S → Option (List ℕ)) (passed : W → Option (List ℕ)) (reader_failures : S → ℕ) (writer_failures : W → ℕ) (base : Base) (reserve : ℕ) (begins : DriveFields → Type 0) (moments : List ℕ → Type 0) (has_upkeep : Bool) where
  -- a client that was attended was begun
  attended_begun : (before after : Client J S W) → IsAttendedClient remaining passed reader_failures writer_failures base reserve moments before after → after.outcome ≢ Waiting
  attended_begun before after is waits =
      subst (λ (x : Outcome). IsAttended base reserve moments before.role x after.session after.part (remaining before.reader) (passed before.writer) (remaining after.reader) (passed after.writer)) waits is.attended

  -- where each of several was attended, there are as many parts
  pub parts_served : (before served : List (Client J S W)) → length served ≡ length before
      → ((i : ℕ) (d : Client J S W) → i < length before → IsAttendedClient remaining passed reader_failures writer_failures base reserve moments (get_or before i d) (get_or served i d)) → sum_by (λ (x : Client J S W). parts_in x.part) served ≡ length before
  parts_served before served count each =
      ones (λ (x : Client J S W). parts_in x.part) served (λ i d lt.
      let at : i < length before = omega (arith, lt, count) in
      let is = each i d at in
      part_of base reserve moments (get_or before i d).role (get_or served i d).outcome (get_or served i d).session (get_or served i d).part _ _ _ _ is.attended)
      ∙ count

  -- so was each
  pub served_begun : (before after : List (Client J S W)) (drive : DriveFields) → AreServed remaining passed reader_failures writer_failures base reserve begins moments has_upkeep before after drive
      → (i : ℕ) (d : Client J S W) → i < length before → (get_or after i d).outcome ≢ Waiting
  served_begun before after drive are i d lt waits =
      let settled = are.settled i d lt in
      attended_begun (get_or before i d) (get_or are.served i d) (are.each i d lt) (sym (ap (λ (x : Client J S W). x.outcome) settled.rest) ∙ waits)

  module _ (opens : List ℕ → Option (List ℕ) → Type 0) (files final : List ℕ → Option (List ℕ)) (there : Bool) (drive : DriveFields) where
    -- what a client has at first of the session that the line asks for
    abbrev pub IsAsked : RunSession → Client J S W → Type 0
    IsAsked asked before = (before.role ≡ asked.role) × HasFiles opens files asked (remaining before.reader) (passed before.writer)

    -- what the file of its output has at last
    abbrev pub IsLeft : RunSession → Client J S W → Type 0
    IsLeft asked after = IsTrue there → Keeps (passed after.writer) (final asked.output.now)

    -- it was attended, and what it was told fits the drive that is left
    abbrev IsTold : Client J S W → Client J S W → Type 0
    IsTold before served = IsAttendedClient remaining passed reader_failures writer_failures base reserve moments before served × IfSome served.session (λ last. FitsLedger drive.ledger last.told)

    ran : (asked : RunSession) (before served : Client J S W) → IsAsked asked before → IsTold before served → IsLeft asked served
        → RunsSession base reserve moments opens files final there drive asked (came_of served)
    ran asked before served first is last =
        let Attends : Role → Type 0 = λ role. IsAttended base reserve moments role served.outcome served.session served.part (remaining before.reader) (passed before.writer) (remaining served.reader) (passed served.writer) in
        record {
          input = remaining before.reader;
          output = passed before.writer;
          first = first.1;
          unread = remaining served.reader;
          written = passed served.writer;
          session = served.session;
          part = served.part;
          attended = subst Attends first.0 is.0.attended;
          requests = refl;
          changes = refl;
          told = is.1;
          left = last;
        }

    -- each ended well where each is so in the end
    ends_served : (before after : List (Client J S W)) (are : AreServed remaining passed reader_failures writer_failures base reserve begins moments has_upkeep before after drive) → length after ≡ length before
        → All (λ (x : Client J S W). x.outcome ≡ Served Ended) after ↔ All (λ (c : Came). c.outcome ≡ Served Ended) (map came_of are.served)
    ends_served before after are count = (
      (λ all. All-map (λ (c : Came). c.outcome ≡ Served Ended) came_of are.served (λ i d lt.
          let settled = are.settled i d (omega (arith, lt, are.count)) in
          sym (ap (λ (x : Client J S W). x.outcome) settled.rest) ∙ all i d (omega (arith, lt, are.count, count)))),
      (λ all i d lt.
          let settled = are.settled i d (omega (arith, lt, count)) in
          ap (λ (x : Client J S W). x.outcome) settled.rest ∙ unmapped (λ (c : Came). c.outcome ≡ Served Ended) came_of are.served all i d (omega (arith, lt, are.count, count))),
    )

    -- sums over what became of them
    summed : (f : Came → ℕ) (xs : List (Client J S W)) → sum_by f (map came_of xs) ≡ sum_by (λ x. f (came_of x)) xs
    summed f [] = refl
    summed f (x ∷ xs) = sum_by-cons f (came_of x) (map came_of xs) ∙ (ap (λ n. f (came_of x) + n) (summed f xs) ∙ sym (sum_by-cons (λ y. f (came_of y)) x xs))

    -- the sessions of a line, from what became of their clients
    pub sessions_ran : (clock : ClockFields) → ((drawn : List ℕ) → moments drawn → AreTicks clock drawn) → (sessions : List RunSession) (clients after : List (Client J S W)) (are_ended : Bool) → AllZip IsAsked sessions clients → length after ≡ length clients
        → AreServed remaining passed reader_failures writer_failures base reserve begins moments has_upkeep clients after drive → AllZip IsLeft sessions after
        → (IsTrue are_ended ↔ All (λ x. x.outcome ≡ Served Ended) after) → ((d : DriveFields) → begins d → IsUnasked base d)
        → ARunAddsItsChangesAlone → ARunsClockGoesByItsRequests → base.clock ≤ clock.start
        → RunsSessions base reserve moments clock has_upkeep opens files final sessions (are_ended && there) drive
    sessions_ran clock ticks sessions clients after are_ended asked count are left ends unasked adds goes within =
        let so = ends_served clients after are count in
        let left_so = zip_moved IsLeft (λ (x y : Client J S W). passed x.writer ≡ passed y.writer) (λ s x y kept same is_there. subst (λ (bytes : Option (List ℕ)). Keeps bytes (final s.output.now)) same (kept is_there))
        sessions after are.served left (omega (arith, count, are.count))
        (λ i d lt. let settled = are.settled i d (omega (arith, lt, count)) in ap (λ (x : Client J S W). passed x.writer) settled.rest) in
        let requests = summed (λ c. c.requests) are.served in
        let changes = summed (λ c. c.changes) are.served in
        let n = sum_by (λ (x : Client J S W). requests_in x.part) are.served in
        let m = sum_by (λ (x : Client J S W). changes_in x.part) are.served in
        let come = are.come in
        let first : come.first.ledger ≡ begun base = unasked come.first come.began in
        let none : length (accepted (history_of come.first)) ≡ 0 = ap (λ l. length (accepted l.history)) first in
        let opened : (state_in come.first).clock ≡ base.clock = ap (λ l. (state_of l.history).clock) first in
        let added = adds come.first drive come.events come.made in
        let gone = goes clock come.first drive come.events come.made (ticks (moments_of come.events) come.drawn) (omega (arith, opened, within)) in
        let accepted_are = come.accepted in
        let Within : ℕ → ℕ → Type 0 = λ a b. (state_in drive).clock ≤ clock.start + a * clock.tick + b in
        let here : Within n m = subst (λ a. Within a m) come.answered (subst (λ b. Within (count_by is_answer come.events) b) come.accepted gone) in
        let Comes : ℕ → ℕ → Type 0 = λ a b. HasCome (IsUnasked base) moments has_upkeep a b drive in
        record {
          came = map came_of are.served;
          there = there;
          each = zip_on IsAsked IsTold IsLeft (RunsSession base reserve moments opens files final there drive) came_of ran sessions clients are.served asked are.count
              (λ i d lt. (are.each i d lt, fits_ledger drive.ledger (get_or are.served i d).session (get_or after i d).session (are.settled i d lt).session)) left_so;
          ends = (
            (λ t. let both = ended_there are_ended there t in (both.1, so.0 (ends.0 both.0))),
            (λ both. there_ended are_ended there (ends.1 (so.1 both.1)) both.0),
          );
          come = subst (λ a. Comes a (sum_by (λ c. c.changes) (map came_of are.served))) (sym requests) (subst (λ b. Comes n b) (sym changes)
              (record { first = come.first; began = first; events = come.events; made = come.made; drawn = come.drawn; answered = come.answered; accepted = come.accepted; untended = come.untended }));
          changes = omega (arith, added, none, changes, accepted_are);
          latest = subst (λ a. Within a (sum_by (λ c. c.changes) (map came_of are.served))) (sym requests) (subst (λ b. Within n b) (sym changes) here);
        }

-- what is saved is in a file that has its bytes
pub saved_in : {B E : Type 0} (items : B → List ℕ) (saved : Result B E) (known : Option (List ℕ)) (drive : DriveFields) → MatchResult saved (λ bytes. AreKnown known (items bytes)) (λ _. ⊥)
    → IfOk saved (λ bytes. SpellsSaved drive (items bytes)) → IsSavedIn known drive
saved_in items (Ok bytes) known drive kept spelled = record { bytes = items bytes; spelled = spelled; kept = kept }
saved_in items (Err e) known drive kept spelled = absurd kept

-- what is left for clients is left for the sessions of the line, and saved in a file
pub left_for : (base : Base) (clients sessions spelled spelled' : DriveFields → Type 0) → (left : LeavesDrive base clients spelled)
    → (clients left.drive → sessions left.drive) → (spelled left.drive → spelled' left.drive) → LeavesDrive base sessions spelled'
left_for base clients sessions spelled spelled' left on told = record {
  drive = left.drive;
  there = left.there;
  settled = on left.settled;
  spelled = told left.spelled;
}
