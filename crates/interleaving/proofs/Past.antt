-- What a run of clients keeps: its requests and resolved reads are exchanges of clients, in order.
use Rattle.std.proofs.Common.{◌≡◌, ◌∙◌, ℕ, zero, suc, All, List, [], ◌∷◌, Option, Some, None, inl, inr, refl, sym, ap, subst, map, arith, slice_get, slice_set}
use Rattle.s4_types.specs.History.{History}
use Rattle.s4_types.specs.declared.requests.Request.{Request}
use Rattle.s4_types.specs.declared.requests.Request.TheVariants.{Query}
use Rattle.s4_types.specs.declared.requests.Question.TheVariants.{Read}
use Rattle.s4_types.specs.declared.requests.Role.{Role}
use Rattle.s4_types.specs.declared.requests.Role.TheVariants.{Client}
use Rattle.s4_types.specs.declared.replies.Reply.{Reply}
use Rattle.s4_types.specs.declared.replies.Reply.TheVariants as reply
use Rattle.s4_model.specs.Exchanges.{Exchange, Leads, AreOfClients}
use Rattle.s4_model.specs.Step.{Step as ModelStep}
use Rattle.s4_model.specs.Promise.{KeepsThePast, ClientsKeepThePast}
use Rattle.drive.specs.Fields.{DriveFields, history_of}
use Rattle.interleaving.specs.Actors.{ActorFields}
use Rattle.interleaving.specs.Telling.{Reader, reader_of, GivesBy, ActTells, TellsBy, Tells, Replays}
use Rattle.interleaving.specs.declared.answers.Answer.{Answer}
use Rattle.interleaving.specs.declared.acts.Act.{Act}
use Rattle.interleaving.specs.declared.acts.Act.TheVariants as act
use Rattle.interleaving.specs.declared.steps.Step.{Step}
use Rattle.interleaving.specs.declared.steps.Step.TheVariants as step

-- the role of the reader of a place; nobody counts as a client
abbrev role_at : Option Reader → Role
role_at None = Client
role_at (Some r) = r.role

abbrev AreClients : List Reader → Type 0
AreClients readers = (n : ℕ) → role_at (slice_get readers n) ≡ Client

first_clients : (actors : List ActorFields) → All (λ (actor : ActorFields). actor.session.role ≡ Client) actors → AreClients (map reader_of actors)
first_clients [] all n = refl
first_clients (a ∷ actors) all zero = all 0 a (omega arith)
first_clients (a ∷ actors) all (suc n) = first_clients actors (λ k d lt. all (suc k) d (omega (arith, lt))) n

set_clients : (readers : List Reader) (n : ℕ) (s : Reader) → s.role ≡ Client → AreClients readers → AreClients (slice_set readers n s)
set_clients [] n s client all k = all k
set_clients (r ∷ readers) zero s client all zero = client
set_clients (r ∷ readers) zero s client all (suc k) = all (suc k)
set_clients (r ∷ readers) (suc n) s client all zero = all zero
set_clients (r ∷ readers) (suc n) s client all (suc k) = set_clients readers n s client (λ j. all (suc j)) k

-- All that clients did from one history to another, as exchanges.
record AreExchanges (h after : History) : Type 0 where
  exchanges : List Exchange
  clients : AreOfClients exchanges
  leads : Leads h exchanges after

-- Nothing happened from one history to the next, or one exchange of a client: so exchanges of clients that go on from there begin before.
abbrev IsMoved : History → History → Type 0
IsMoved h after = (others : List Exchange) (last : History) → AreOfClients others → Leads after others last → AreExchanges h last

stayed : (h after : History) → after ≡ h → IsMoved h after
stayed h after same others last clients leads = record { exchanges = others; clients = clients; leads = subst (λ (x : History). Leads x others last) same leads }

moved : (h after : History) (r : Reader) (request : Request) (now : ℕ) (reply : Reply) → r.role ≡ Client → ModelStep h r.role request now reply after → IsMoved h after
moved h after r request now reply client is others last clients leads =
    record { exchanges = record { role = r.role; request = request; now = now; reply = reply } ∷ others; clients = (client, clients); leads = (after, is, leads) }

fetched : (named : Option (List ℕ)) (r s : Reader) (x : Answer) → GivesBy named r x s → s.role ≡ r.role
fetched None r s x h = ap (λ (q : Reader). q.role) h.1
fetched (Some bytes) r s x h = ap (λ (q : Reader). q.role) h.1

-- what an act of a client comes to
acted : (c : Act) (h after : History) (r s : Reader) (x : Answer) → r.role ≡ Client → ActTells c h r x after s → IsMoved h after × (s.role ≡ Client)
acted (act.Request request now) h after r s x client is = (moved h after r request now is.reply client is.step, ap (λ (q : Reader). q.role) is.same ∙ client)
acted (act.Resolve of) h after r s x client (inl is) =
    (moved h after r (Query (Read of.object of.offset of.length of.at)) of.now (reply.Data is.bytes) client is.step, ap (λ (q : Reader). q.role) is.reader ∙ client)
acted (act.Resolve of) h after r s x client (inr is) =
    (moved h after r (Query (Read of.object of.offset of.length of.at)) of.now (reply.Refused is.refusal) client is.step, ap (λ (q : Reader). q.role) is.same ∙ client)
acted act.Fetch h after r s x client is = (stayed h after is.0, fetched r.named r s x is.1 ∙ client)
acted act.Meet h after r s x client is = (stayed h after is.0, ap (λ (q : Reader). q.role) is.1 ∙ client)
acted (act.Plan frame object) h after r s x client is = (stayed h after is.0, ap (λ (q : Reader). q.role) is.1 ∙ client)
acted act.Copy h after r s x client is = (stayed h after is.0, ap (λ (q : Reader). q.role) is.1 ∙ client)
acted act.Commit h after r s x client is = (stayed h after is.0, ap (λ (q : Reader). q.role) is.1 ∙ client)

by_clients : (who : Option Reader) (n : ℕ) (c : Act) (h after : History) (readers later : List Reader) (x : Answer) → role_at who ≡ Client → AreClients readers → TellsBy who n c h readers x after later
    → IsMoved h after × AreClients later
by_clients None n c h after readers later x client all is = (stayed h after is.1, subst AreClients (sym is.2) all)
by_clients (Some r) n c h after readers later x client all is =
    let acts = acted c h after r is.0 x client is.1 in
    (acts.0, subst AreClients (sym is.2) (set_clients readers n is.0 acts.1 all))

stepped : (s : Step) (h after : History) (readers later : List Reader) (x : Answer) → AreClients readers → Tells s h readers x after later → IsMoved h after × AreClients later
stepped (step.By actor act) h after readers later x all is = by_clients (slice_get readers actor) actor act h after readers later x (all actor) all is
stepped step.Seal h after readers later x all is = (stayed h after is.0, subst AreClients (sym is.1) all)
stepped (step.Checkpoint object) h after readers later x all is = (stayed h after is.0, subst AreClients (sym is.1) all)
stepped (step.Clean object) h after readers later x all is = (stayed h after is.0, subst AreClients (sym is.1) all)
stepped (step.Mark frame) h after readers later x all is = (stayed h after is.0, subst AreClients (sym is.1) all)
stepped (step.Release frame) h after readers later x all is = (stayed h after is.0, subst AreClients (sym is.1) all)

replayed : (steps : List Step) (answers : List Answer) (h after : History) (readers later : List Reader) → AreClients readers → Replays h readers steps answers after later → AreExchanges h after
replayed [] [] h after readers later all is = record { exchanges = []; clients = tt; leads = is.0 }
replayed (s ∷ steps) (x ∷ answers) h after readers later all is =
    let first = stepped s h is.0 readers is.1 x all is.2 in
    let rest = replayed steps answers is.0 after is.1 later first.1 is.3 in
    first.0 rest.exchanges after rest.clients rest.leads
replayed [] (x ∷ answers) h after readers later all is = absurd is
replayed (s ∷ steps) [] h after readers later all is = absurd is

pub kept_by_clients : ClientsKeepThePast → (steps : List Step) (answers : List Answer) (d after : DriveFields) (actors later : List ActorFields)
    → Replays (history_of d) (map reader_of actors) steps answers (history_of after) (map reader_of later)
    → All (λ (actor : ActorFields). actor.session.role ≡ Client) actors → KeepsThePast (history_of d) (history_of after)
kept_by_clients law steps answers d after actors later replays clients =
    let told = replayed steps answers (history_of d) (history_of after) (map reader_of actors) (map reader_of later) (first_clients actors clients) replays in
    law (history_of d) (history_of after) told.exchanges told.clients told.leads
