-- A kept chain that is cleaned again stays as it is.
use Rattle.std.proofs.Common.{◌≡◌, ℕ, ◌-◌, ◌<◌, ◌≤◌, Bool, true, false, ltb, cond, inl, inr, List, [], ◌∷◌, ◌++◌, length, Some, None, refl, sym, ap, subst, ◌∙◌, arith}
use Rattle.std.specs.Prelude.{◌||◌, ⊤, IfSome}
use Rattle.std.proofs.lemmas.Bool.{cases_Bool, and_parts, and_from, and_left, or_cases, or_left, or_right, leb-true, ltb-true, lt-ltb, le-ltb, cond-true}
use Rattle.lemmas.proofs.Bool.{or_false}
use Rattle.codec.specs.declared.inodes.Inode.{Inode}
use Rattle.codec.specs.Entry.{EntryFields}
use Rattle.undo_redo.specs.Redone.{redone}
use Rattle.undo_redo.specs.Runs.{redone_all, AllAt, moments_ascend_from}
use Rattle.undo_redo.specs.Between.{entries_between}
use Rattle.chain_rewriting.specs.Cleaned.{Span, KeptChain, span_of, stays, kept, any_live, led, step, entries_over, end_over, chain_of, cleaned}
use Rattle.chain_rewriting.specs.CleaningLaws.{FitsSight, CleaningAgainChangesNothing}
use Rattle.chain_rewriting.specs.private.Leading.{AllLead, LeadsOn}
use Rattle.chain_rewriting.proofs.Leading.{led_live, led_dead, kept_stays, kept_goes, chain_leads}
use Rattle.chain_rewriting.proofs.Grouped.{of_cleaned}
use Rattle.chain_rewriting.proofs.Ordered.{BetweenSome, LiveOver, LiveSpans, BeginSpans, led_alive, live_same, start_begins}
use Rattle.chain_rewriting.specs.private.Resting.{AllOfOne, BetweenRuns, Ends, GroupsAscend, Redoes}

-- the laws of the layer below
pub record Facts : Type 0 where
  pub redoes : Redoes
  pub ends : Ends
  pub one : AllOfOne
  pub run : BetweenRuns
  pub some : BetweenSome
  pub ascend : GroupsAscend

-- ---- sight

-- what is seen between two moments is seen between moments that lie further apart
stays_wider : (sees : ℕ → ℕ → Bool) (visible : ℕ → Bool) (a b c d : ℕ) → FitsSight sees visible → a ≤ b → c ≤ d → stays sees b c ≡ true → stays sees a d ≡ true
stays_wider sees visible a b c d fits low high is =
    let parts = and_parts (ltb b c) (sees b (c - 1)) is in
    let lt : b < c = ltb-true b c parts.0 in
    let there = (fits b (c - 1)).0 parts.1 in
    let from : b ≤ there.0 = there.1.0 in
    let last : there.0 ≤ c - 1 = there.1.1.0 in
    and_from (ltb a d) (sees a (d - 1)) (lt-ltb a d (omega (arith, low, lt, high))) ((fits a (d - 1)).1 (there.0, (omega (arith, low, from), (omega (arith, last, high), there.1.1.1))))

-- from a moment on: something is seen before the first span, and from each span on before the next one
abbrev SeenOn : (ℕ → ℕ → Bool) → ℕ → List Span → Type 0
SeenOn sees from [] = ⊤
SeenOn sees from (s ∷ spans) = (stays sees from s.from ≡ true) × SeenOn sees s.from spans

-- so from moment 0 on, once the first span is a chain's first
abbrev SeenBehind : (ℕ → ℕ → Bool) → List Span → Type 0
SeenBehind sees [] = ⊤
SeenBehind sees (s ∷ spans) = SeenOn sees 0 spans

kept_seen_on : (sees : ℕ → ℕ → Bool) (visible : ℕ → Bool) (clock : ℕ) → FitsSight sees visible → (w : ℕ) (i : Inode) (from : ℕ) (entries : List EntryFields) → stays sees w from ≡ true → moments_ascend_from from entries ≡ true → SeenOn sees w (kept sees clock i from entries)
kept_seen_on sees visible clock fits w i from [] seen up = (seen, tt)
kept_seen_on sees visible clock fits w i from (e ∷ entries) seen up =
    let parts = and_parts _ (moments_ascend_from e.moment entries) up in
    let le : from ≤ e.moment = leb-true from e.moment parts.0 in
    elim (cases_Bool (stays sees from e.moment)) [
      | inl is ↦ subst (λ (spans : List Span). SeenOn sees w spans) (sym (kept_stays sees clock i from e entries is)) (seen, kept_seen_on sees visible clock fits from (redone e i) e.moment entries is parts.1)
      | inr gone ↦ subst (λ (spans : List Span). SeenOn sees w spans) (sym (kept_goes sees clock i from e entries gone)) (kept_seen_on sees visible clock fits w (redone e i) e.moment entries (stays_wider sees visible w w from e.moment fits (omega arith) le seen) parts.1)
    ]

kept_seen_behind : (sees : ℕ → ℕ → Bool) (visible : ℕ → Bool) (clock : ℕ) → FitsSight sees visible → (i : Inode) (from : ℕ) (entries : List EntryFields) → moments_ascend_from from entries ≡ true → SeenBehind sees (kept sees clock i from entries)
kept_seen_behind sees visible clock fits i from [] up = tt
kept_seen_behind sees visible clock fits i from (e ∷ entries) up =
    let parts = and_parts _ (moments_ascend_from e.moment entries) up in
    elim (cases_Bool (stays sees from e.moment)) [
      | inl is ↦ subst (λ (spans : List Span). SeenBehind sees spans) (sym (kept_stays sees clock i from e entries is)) (kept_seen_on sees visible clock fits 0 (redone e i) e.moment entries (stays_wider sees visible 0 from e.moment e.moment fits (omega arith) (omega arith) is) parts.1)
      | inr gone ↦ subst (λ (spans : List Span). SeenBehind sees spans) (sym (kept_goes sees clock i from e entries gone)) (kept_seen_behind sees visible clock fits (redone e i) e.moment entries parts.1)
    ]

-- ---- neighbours

-- of each two neighbours one is live
abbrev OneLive : Inode → List Span → Type 0
OneLive p [] = ⊤
OneLive p (s ∷ spans) = ((p.alive || s.inode.alive) ≡ true) × OneLive (led p s.inode) spans

over_one_live : (p : Inode) (spans : List Span) → LiveOver p spans → OneLive p spans
over_one_live p [] h = tt
over_one_live p (s ∷ spans) h = (or_left p.alive s.inode.alive h.0, over_one_live (led p s.inode) spans (live_same s.inode (led p s.inode) spans (led_alive p s.inode) h.1))

-- the first of them is live where more are after it, or where it is the only one
first_live : (i : Inode) (spans : List Span) → LiveOver i spans → (i.alive || any_live spans) ≡ true → i.alive ≡ true
first_live i [] h any = sym (or_false i.alive) ∙ any
first_live i (s ∷ spans) h any = h.0

begin_one_live : (p : Inode) (spans : List Span) → LiveSpans spans → (p.alive || any_live spans) ≡ true → OneLive p spans
begin_one_live p [] h any = tt
begin_one_live p (s ∷ spans) h any =
    let behind : OneLive (led p s.inode) spans = over_one_live (led p s.inode) spans (live_same s.inode (led p s.inode) spans (led_alive p s.inode) h) in
    elim (or_cases p.alive (s.inode.alive || any_live spans) any) [
      | inl live ↦ (or_left p.alive s.inode.alive live, behind)
      | inr later ↦ (or_right p.alive s.inode.alive (first_live s.inode spans h later), behind)
    ]

-- ---- the walk over a kept chain

not_stays : (sees : ℕ → ℕ → Bool) (m n : ℕ) → n ≡ m → stays sees m n ≡ false
not_stays sees m n is = and_left (ltb m n) (sees m (n - 1)) (le-ltb m n (omega arith))

-- entries of one moment: after the first of them no inode stays before the last
rest_of_group : (sees : ℕ → ℕ → Bool) (clock m : ℕ) (i : Inode) (group rest : List EntryFields) → AllAt m group → kept sees clock i m (group ++ rest) ≡ kept sees clock (redone_all group i) m rest
rest_of_group sees clock m i [] rest at = refl
rest_of_group sees clock m i (e ∷ group) rest at =
    kept_goes sees clock i m e (group ++ rest) (not_stays sees m e.moment at.0) ∙ ap (λ (n : ℕ). kept sees clock (redone e i) n (group ++ rest)) at.0 ∙ rest_of_group sees clock m (redone e i) group rest at.1

over_group : (sees : ℕ → ℕ → Bool) (clock from m : ℕ) (i : Inode) (group rest : List EntryFields) → 1 ≤ length group → AllAt m group → stays sees from m ≡ true → kept sees clock i from (group ++ rest) ≡ span_of i from (m - 1) ∷ kept sees clock (redone_all group i) m rest
over_group sees clock from m i [] rest some at seen = absurd (omega arith)
over_group sees clock from m i (e ∷ group) rest some at seen =
    kept_stays sees clock i from e (group ++ rest) (ap (λ (n : ℕ). stays sees from n) at.0 ∙ seen)
    ∙ ap (λ (n : ℕ). span_of i from (n - 1) ∷ kept sees clock (redone e i) n (group ++ rest)) at.0
    ∙ ap (λ (spans : List Span). span_of i from (m - 1) ∷ spans) (rest_of_group sees clock m (redone e i) group rest at.1)

-- the last moment before the next span; the clock where there is none
abbrev until : ℕ → List Span → ℕ
until clock [] = clock
until clock (s ∷ spans) = s.from - 1

-- spans as they are in the kept chain, each after the one before it
abbrev standing : ℕ → Inode → List Span → List Span
standing clock p [] = []
standing clock p (s ∷ spans) = span_of (led p s.inode) s.from (until clock spans) ∷ standing clock (led p s.inode) spans

kept_again : Facts → (sees : ℕ → ℕ → Bool) (clock : ℕ) (p : Inode) (from : ℕ) (spans : List Span) → AllLead p spans → OneLive p spans → SeenOn sees from spans → kept sees clock p from (entries_over p spans) ≡ span_of p from (until clock spans) ∷ standing clock p spans
kept_again f sees clock p from [] lead live seen = refl
kept_again f sees clock p from (s ∷ spans) lead live seen =
    let j : Inode = led p s.inode in
    let group : List EntryFields = entries_between p j s.from in
    let rest : List EntryFields = entries_over j spans in
    let is : step p s ≡ group = cond-true (p.alive || s.inode.alive) group [] live.0 in
    let end : j ≡ redone_all group p = f.ends p j group (f.run p j s.from (lead.0 live.0)) in
    ap (λ (es : List EntryFields). kept sees clock p from (es ++ rest)) is
    ∙ over_group sees clock from s.from p group rest (f.some p j s.from) (f.one p j s.from) seen.0
    ∙ ap (λ (k : Inode). span_of p from (s.from - 1) ∷ kept sees clock k s.from rest) (sym end)
    ∙ ap (λ (ss : List Span). span_of p from (s.from - 1) ∷ ss) (kept_again f sees clock j s.from spans lead.1 live.1 seen.1)

-- ---- the chain of what stands

led_led : (p i : Inode) → led p (led p i) ≡ led p i
led_led p i = elim (cases_Bool i.alive) [
  | inl live ↦ ap (led p) (led_live p i live)
  | inr dead ↦ ap (led p) (led_dead p i dead) ∙ sym (led_dead p i dead)
]

standing_live : (clock : ℕ) (p : Inode) (spans : List Span) → any_live (standing clock p spans) ≡ any_live spans
standing_live clock p [] = refl
standing_live clock p (s ∷ spans) =
    ap (λ (b : Bool). b || any_live (standing clock (led p s.inode) spans)) (led_alive p s.inode) ∙ ap (λ (b : Bool). s.inode.alive || b) (standing_live clock (led p s.inode) spans)

standing_step : (p : Inode) (s : Span) (last : ℕ) → step p (span_of (led p s.inode) s.from last) ≡ step p s
standing_step p s last =
    ap (λ (b : Bool). cond (p.alive || b) (entries_between p (led p (led p s.inode)) s.from) []) (led_alive p s.inode)
    ∙ ap (λ (j : Inode). cond (p.alive || s.inode.alive) (entries_between p j s.from) []) (led_led p s.inode)

standing_entries : (clock : ℕ) (p : Inode) (spans : List Span) → entries_over p (standing clock p spans) ≡ entries_over p spans
standing_entries clock p [] = refl
standing_entries clock p (s ∷ spans) =
    let j : Inode = led p s.inode in
    ap (λ (es : List EntryFields). es ++ entries_over (led p j) (standing clock j spans)) (standing_step p s (until clock spans))
    ∙ ap (λ (k : Inode). step p s ++ entries_over k (standing clock j spans)) (led_led p s.inode)
    ∙ ap (λ (es : List EntryFields). step p s ++ es) (standing_entries clock j spans)

standing_end : (clock : ℕ) (p : Inode) (spans : List Span) → end_over p (standing clock p spans) ≡ end_over p spans
standing_end clock p [] = refl
standing_end clock p (s ∷ spans) =
    let j : Inode = led p s.inode in
    ap (λ (k : Inode). end_over k (standing clock j spans)) (led_led p s.inode) ∙ standing_end clock j spans

-- ---- the kept chain

abbrev IsCleanedAgain : (ℕ → ℕ → Bool) → ℕ → KeptChain → Type 0
IsCleanedAgain sees clock chain = cleaned sees clock chain.first chain.entries ≡ Some chain

chain_again : Facts → (c latest : ℕ) (sees : ℕ → ℕ → Bool) (clock : ℕ) (spans : List Span) → LeadsOn None spans → BeginSpans c latest spans → SeenBehind sees spans → any_live spans ≡ true → IfSome (chain_of spans) (IsCleanedAgain sees clock)
chain_again f c latest sees clock [] lead begins seen any = tt
chain_again f c latest sees clock (s ∷ spans) lead begins seen any =
    let p : Inode = s.inode in
    let found : List Span = span_of p 0 (until clock spans) ∷ standing clock p spans in
    let some : any_live found ≡ true = ap (λ (b : Bool). p.alive || b) (standing_live clock p spans) ∙ any in
    ap (λ (ss : List Span). cond (any_live ss) (chain_of ss) None) (kept_again f sees clock p 0 spans lead (begin_one_live p spans begins.live any) seen)
    ∙ cond-true (any_live found) (chain_of found) None some
    ∙ ap (λ (es : List EntryFields). Some (record { first = p; entries = es; last = end_over p (standing clock p spans) })) (standing_entries clock p spans)
    ∙ ap (λ (k : Inode). Some (record { first = p; entries = entries_over p spans; last = k })) (standing_end clock p spans)

pub cleaned_again : Facts → CleaningAgainChangesNothing
cleaned_again f sees visible created latest clock first entries h fits =
    of_cleaned (IsCleanedAgain sees clock) sees clock first entries (λ some.
    chain_again f created latest sees clock (kept sees clock first 0 entries) (chain_leads f.redoes created latest clock sees first entries h) (start_begins f.redoes created latest clock sees first entries h) (kept_seen_behind sees visible clock fits first 0 entries (f.ascend entries h.groups)) some)
