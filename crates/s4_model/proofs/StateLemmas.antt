-- How a history's state goes on by one record.
use Rattle.std.proofs.Common.{◌≡◌, ℕ, ◌-◌, max, List, [], ◌∷◌, ◌++◌, map, fold, refl, ap, ◌∙◌, append-nil}
use Rattle.std.proofs.lemmas.List.Sums.{fold-append}
use Rattle.std.proofs.lemmas.List.{map-append}
use Rattle.s4_types.specs.History.{History, Base, Record, Took, Seen, taken, accepted}
use Rattle.s4_types.specs.declared.audit_rows.AuditRow.{AuditRow}
use Rattle.s4_types.specs.declared.changes.Accepted.{Accepted}
use Rattle.s4_types.specs.declared.spans.Span.{Span}
use Rattle.s4_types.specs.declared.versions.Version.{Version}
use Rattle.s4_model.specs.Numbers.{clock_after, clock_of, window_after, window_of, next_after, next_of, beginnings, greatest, reach_of, floor_of, window_by, next_by}
use Rattle.s4_model.specs.State.{State, state_of, grown, seen, took}

pub taken-append : (records more : List Record) → taken (records ++ more) ≡ taken records ++ taken more
taken-append [] more = refl
taken-append (Took a ∷ records) more = ap (λ all. a ∷ all) (taken-append records more)
taken-append (Seen now ∷ records) more = taken-append records more

pub clock_of-grown : (h : History) (r : Record) → clock_of (grown h r) ≡ clock_after (clock_of h) r
clock_of-grown h r = fold-append clock_after h.base.clock h.records (r ∷ [])

pub window_of-grown : (h : History) (r : Record) → window_of (grown h r) ≡ window_after (window_of h) r
window_of-grown h r = fold-append window_after h.base.window h.records (r ∷ [])

pub next_of-grown : (h : History) (r : Record) → next_of (grown h r) ≡ next_after (next_of h) r
next_of-grown h r = fold-append next_after h.base.next h.records (r ∷ [])

pub beginnings-push : {A : Type 0} → (xs : List A) (x : A) → beginnings (xs ++ x ∷ []) ≡ beginnings xs ++ (xs ++ x ∷ []) ∷ []
beginnings-push [] x = refl
beginnings-push (y ∷ ys) x =
    ap (λ all. [] ∷ map (λ begun. y ∷ begun) all) (beginnings-push ys x) ∙ ap (λ all. [] ∷ all) (map-append (λ begun. y ∷ begun) (beginnings ys) ((ys ++ x ∷ []) ∷ []))

-- how far back the window reaches, for a beginning of a history
reach_from : Base → List Record → ℕ
reach_from base records = reach_of (record { base = base; records = records })

floor_of_records : (base : Base) (records : List Record) → ℕ
floor_of_records base records = greatest (base.floor ∷ map (reach_from base) (beginnings records))

floor_of_records-push : (base : Base) (records : List Record) (r : Record) → floor_of_records base (records ++ r ∷ []) ≡ max (floor_of_records base records) (reach_from base (records ++ r ∷ []))
unfolding floor_of_records
floor_of_records-push base records r =
    ap (λ all. fold max (max 0 base.floor) (map (reach_from base) all)) (beginnings-push records r)
    ∙ ap (λ all. fold max (max 0 base.floor) all) (map-append (reach_from base) (beginnings records) ((records ++ r ∷ []) ∷ []))
    ∙ fold-append max (max 0 base.floor) (map (reach_from base) (beginnings records)) (reach_from base (records ++ r ∷ []) ∷ [])

pub floor_of-grown : (h : History) (r : Record) → floor_of (grown h r) ≡ max (floor_of h) (reach_of (grown h r))
unfolding floor_of_records reach_from
floor_of-grown h r = floor_of_records-push h.base h.records r

-- a state by its parts
make_state : List (ℕ × List (ℕ × Version)) → List Span → List AuditRow → ℕ → List Accepted → ℕ → ℕ → ℕ → ℕ → State
make_state versions spans audit opened changes clock window floor next = record {
  versions = versions;
  spans = spans;
  audit = audit;
  opened = opened;
  changes = changes;
  clock = clock;
  window = window;
  floor = floor;
  next = next;
}

same_state : (h : History) (changes : List Accepted) (clock window floor next : ℕ) (r : Record) → accepted (grown h r) ≡ changes → clock_of (grown h r) ≡ clock → window_of (grown h r) ≡ window → floor_of (grown h r) ≡ floor → next_of (grown h r) ≡ next → state_of (grown h r) ≡ make_state h.base.versions h.base.spans h.base.audit h.base.clock changes clock window floor next
unfolding make_state
same_state h changes clock window floor next r c k w f n =
    ap (λ x. make_state h.base.versions h.base.spans h.base.audit h.base.clock x (clock_of (grown h r)) (window_of (grown h r)) (floor_of (grown h r)) (next_of (grown h r))) c
    ∙ ap (λ x. make_state h.base.versions h.base.spans h.base.audit h.base.clock changes x (window_of (grown h r)) (floor_of (grown h r)) (next_of (grown h r))) k
    ∙ ap (λ x. make_state h.base.versions h.base.spans h.base.audit h.base.clock changes clock x (floor_of (grown h r)) (next_of (grown h r))) w
    ∙ ap (λ x. make_state h.base.versions h.base.spans h.base.audit h.base.clock changes clock window x (next_of (grown h r))) f
    ∙ ap (λ x. make_state h.base.versions h.base.spans h.base.audit h.base.clock changes clock window floor x) n

-- a moment seen moves clock and floor
pub state_of-seen : (h : History) (now : ℕ) → state_of (grown h (Seen now)) ≡ seen (state_of h) now
unfolding make_state
state_of-seen h now =
    let r : Record = Seen now in
    let c : clock_of (grown h r) ≡ max (clock_of h) now = clock_of-grown h r in
    let w : window_of (grown h r) ≡ window_of h = window_of-grown h r in
    same_state h (accepted h) (max (clock_of h) now) (window_of h) (max (floor_of h) (max (clock_of h) now - window_of h)) (next_of h) r
    (taken-append h.records (r ∷ []) ∙ append-nil (accepted h))
    c w
    (floor_of-grown h r ∙ ap (λ x. max (floor_of h) (x - window_of (grown h r))) c ∙ ap (λ x. max (floor_of h) (max (clock_of h) now - x)) w)
    (next_of-grown h r)

-- an accepted change moves all but what the drive began with
pub state_of-took : (h : History) (a : Accepted) → state_of (grown h (Took a)) ≡ took (state_of h) a
unfolding make_state
state_of-took h a =
    let r : Record = Took a in
    let c : clock_of (grown h r) ≡ a.moment = clock_of-grown h r in
    let w : window_of (grown h r) ≡ window_by a.change (window_of h) = window_of-grown h r in
    same_state h (accepted h ++ a ∷ []) a.moment (window_by a.change (window_of h)) (max (floor_of h) (a.moment - window_by a.change (window_of h))) (next_by a.change (next_of h)) r
    (taken-append h.records (r ∷ []))
    c w
    (floor_of-grown h r ∙ ap (λ x. max (floor_of h) (x - window_of (grown h r))) c ∙ ap (λ x. max (floor_of h) (a.moment - x)) w)
    (next_of-grown h r)
