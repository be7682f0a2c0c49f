-- Nobody with a client's rights can erase.
use Rattle.std.proofs.Common.{◌≡◌, ℕ, ◌<◌, ◌≤◌, List, [], ◌∷◌, ◌++◌, ◌-◌, max, map, fold, refl, ap, sym, ◌∙◌, subst, append-nil, arith}
use Rattle.std.specs.List.{list_any, cons_option}
use Rattle.std.proofs.lemmas.Simd.{map-map}
use Rattle.s4_types.specs.History.{History, Record}
use Rattle.s4_types.specs.declared.changes.Accepted.{Accepted}
use Rattle.s4_types.specs.declared.replies.Reply.{Reply}
use Rattle.s4_types.specs.declared.requests.Role.TheVariants.{Client}
use Rattle.s4_types.specs.declared.requests.Request.{Request}
use Rattle.s4_model.specs.Numbers.{floor_of, clock_of, window_of, window_by, reach_of, beginnings}
use Rattle.s4_model.specs.State.{State, state_of, seen, took}
use Rattle.s4_model.specs.VersionAt.{version_of}
use Rattle.s4_model.specs.Visible.{is_hidden, hides, spans_of, IsVisible}
use Rattle.s4_model.specs.Step.{Step}
use Rattle.s4_model.specs.Exchanges.{Exchange, Leads, AreOfClients}
use Rattle.s4_model.proofs.StateLemmas.{state_of-seen, state_of-took}
use Rattle.s4_model.proofs.OutcomeLemmas.{IsTaken, Outcome, OnlySaw, TookIt, outcome_of}
use Rattle.s4_model.proofs.GrantedLemmas.{client_hides_nothing, client_leaves_window}
use Rattle.s4_model.proofs.SoundLemmas.{spans_of-took, moment_is_later}
use Rattle.s4_model.proofs.VersionLemmas.{version_of-earlier}

-- the later state shows an object's moment as the earlier one does
record Keeps (s k : State) (o t : ℕ) : Type 0 where
  reached : s.clock ≤ k.clock
  hidden : is_hidden k o t ≡ is_hidden s o t
  same : version_of k o t ≡ version_of s o t

Keeps-seen : (s : State) (now o t : ℕ) → Keeps s (seen s now) o t
Keeps-seen s now o t = record { reached = omega arith; hidden = refl; same = refl }

Keeps-took : (s : State) (request : Request) (now : ℕ) (reply : Reply) (a : Accepted) (o t : ℕ) → t ≤ s.clock → IsTaken s Client request now reply a → Keeps s (took s a) o t
Keeps-took s request now reply a o t le taken =
    let later : s.clock < a.moment = moment_is_later s Client request now reply a taken in
    record {
      reached = omega arith;
      hidden = ap (list_any (hides o t)) (spans_of-took s a ∙ ap (λ more. spans_of s ++ cons_option more []) (client_hides_nothing s request a.change taken.granted taken.asked_for) ∙ append-nil (spans_of s));
      same = version_of-earlier s a o t (omega arith);
    }

Keeps-outcome : (h : History) (request : Request) (now : ℕ) (reply : Reply) (after : History) (o t : ℕ) → t ≤ clock_of h → Outcome h Client request now reply after → Keeps (state_of h) (state_of after) o t
Keeps-outcome h request now reply after o t le (OnlySaw is answers) = subst (λ k. Keeps (state_of h) k o t) (sym (ap state_of is ∙ state_of-seen h now)) (Keeps-seen (state_of h) now o t)
Keeps-outcome h request now reply after o t le (TookIt a is taken) = subst (λ k. Keeps (state_of h) k o t) (sym (ap state_of is ∙ state_of-took h a)) (Keeps-took (state_of h) request now reply a o t le taken)

Keeps-both : (s m k : State) (o t : ℕ) → Keeps s m o t → Keeps m k o t → Keeps s k o t
Keeps-both s m k o t first second =
    let lower : s.clock ≤ m.clock = first.reached in
    let upper : m.clock ≤ k.clock = second.reached in
    record { reached = omega arith; hidden = second.hidden ∙ first.hidden; same = second.same ∙ first.same }

Keeps-leads : (h : History) (exchanges : List Exchange) (after : History) (o t : ℕ) → AreOfClients exchanges → Leads h exchanges after → t ≤ clock_of h → Keeps (state_of h) (state_of after) o t
Keeps-leads h [] after o t clients is le = subst (λ k. Keeps (state_of h) (state_of k) o t) (sym is) (record { reached = omega arith; hidden = refl; same = refl })
Keeps-leads h (e ∷ exchanges) after o t clients leads le =
    let first : Keeps (state_of h) (state_of leads.0) o t = Keeps-outcome h e.request e.now e.reply leads.0 o t le (outcome_of (subst (λ role. Step h role e.request e.now e.reply leads.0) clients.0 leads.1)) in
    let lower : clock_of h ≤ clock_of leads.0 = first.reached in
    Keeps-both (state_of h) (state_of leads.0) (state_of after) o t first (Keeps-leads leads.0 exchanges after o t clients.1 leads.2 (omega arith))

pub client_cannot_erase : (h after : History) (exchanges : List Exchange) (o t : ℕ) → AreOfClients exchanges → Leads h exchanges after → IsVisible (state_of h) o t → floor_of after ≤ t → IsVisible (state_of after) o t × (version_of (state_of after) o t ≡ version_of (state_of h) o t)
client_cannot_erase h after exchanges o t clients leads visible kept =
    let keeps : Keeps (state_of h) (state_of after) o t = Keeps-leads h exchanges after o t clients leads visible.reached in
    let was : t ≤ clock_of h = visible.reached in
    let upper : clock_of h ≤ clock_of after = keeps.reached in
    (record { kept = kept; reached = omega arith; shown = keeps.hidden ∙ visible.shown }, keeps.same)

pub clients_leave_the_past : (h after : History) (exchanges : List Exchange) (o t : ℕ) → AreOfClients exchanges → Leads h exchanges after → t ≤ clock_of h → (is_hidden (state_of after) o t ≡ is_hidden (state_of h) o t) × (version_of (state_of after) o t ≡ version_of (state_of h) o t)
clients_leave_the_past h after exchanges o t clients leads le =
    let keeps : Keeps (state_of h) (state_of after) o t = Keeps-leads h exchanges after o t clients leads le in
    (keeps.hidden, keeps.same)

-- the window's reach is one of those that the floor is the greatest of
reach_is_counted : (f : List Record → ℕ) (low : ℕ) (records : List Record) → f records ≤ fold max low (map f (beginnings records))
reach_is_counted f low [] = omega arith
reach_is_counted f low (r ∷ records) =
    let counted : f (r ∷ records) ≤ fold max (max low (f [])) (map (λ begun. f (r ∷ begun)) (beginnings records)) = reach_is_counted (λ begun. f (r ∷ begun)) (max low (f [])) records in
    let same : fold max (max low (f [])) (map f (map (λ begun. r ∷ begun) (beginnings records))) ≡ fold max (max low (f [])) (map (λ begun. f (r ∷ begun)) (beginnings records)) = ap (λ all. fold max (max low (f [])) all) (map-map f (λ begun. r ∷ begun) (beginnings records)) in
    omega arith

pub floor_is_reached : (h : History) → clock_of h - window_of h ≤ floor_of h
floor_is_reached h = reach_is_counted (λ records. reach_of (record { base = h.base; records = records })) (max 0 h.base.floor) h.records

-- the window stays, and the floor follows the clock by it
record Follows (s k : State) : Type 0 where
  window : k.window ≡ s.window
  floor : k.floor ≡ max s.floor (k.clock - s.window)
  rises : s.clock ≤ k.clock

Follows-outcome : (h : History) (request : Request) (now : ℕ) (reply : Reply) (after : History) → Outcome h Client request now reply after → Follows (state_of h) (state_of after)
Follows-outcome h request now reply after (OnlySaw is answers) = subst (λ k. Follows (state_of h) k) (sym (ap state_of is ∙ state_of-seen h now)) (record { window = refl; floor = refl; rises = omega arith })
Follows-outcome h request now reply after (TookIt a is taken) =
    let s : State = state_of h in
    let later : s.clock < a.moment = moment_is_later s Client request now reply a taken in
    let kept : window_by a.change s.window ≡ s.window = client_leaves_window s request a.change s.window taken.granted taken.asked_for in
    subst (λ k. Follows (state_of h) k) (sym (ap state_of is ∙ state_of-took h a))
    (record { window = kept; floor = ap (λ w. max s.floor (a.moment - w)) kept; rises = omega arith })

Follows-both : (s m k : State) → Follows s m → Follows m k → Follows s k
Follows-both s m k first second =
    let a : m.window ≡ s.window = first.window in
    let b : m.floor ≡ max s.floor (m.clock - s.window) = first.floor in
    let d : k.floor ≡ max m.floor (k.clock - m.window) = second.floor in
    let e : m.clock ≤ k.clock = second.rises in
    let f : s.clock ≤ m.clock = first.rises in
    record { window = second.window ∙ first.window; floor = omega arith; rises = omega arith }

Follows-leads : (h : History) (exchanges : List Exchange) (after : History) → AreOfClients exchanges → Leads h exchanges after → Follows (state_of h) (state_of after)
Follows-leads h [] after clients is =
    let reached : clock_of h - window_of h ≤ floor_of h = floor_is_reached h in
    subst (λ k. Follows (state_of h) (state_of k)) (sym is) (record { window = refl; floor = omega arith; rises = omega arith })
Follows-leads h (e ∷ exchanges) after clients leads =
    Follows-both (state_of h) (state_of leads.0) (state_of after)
    (Follows-outcome h e.request e.now e.reply leads.0 (outcome_of (subst (λ role. Step h role e.request e.now e.reply leads.0) clients.0 leads.1)))
    (Follows-leads leads.0 exchanges after clients.1 leads.2)

pub clients_move_the_floor_by_the_window : (h after : History) (exchanges : List Exchange) → AreOfClients exchanges → Leads h exchanges after → (window_of after ≡ window_of h) × (floor_of after ≡ max (floor_of h) (clock_of after - window_of h))
clients_move_the_floor_by_the_window h after exchanges clients leads =
    let follows : Follows (state_of h) (state_of after) = Follows-leads h exchanges after clients leads in
    (follows.window, follows.floor)
