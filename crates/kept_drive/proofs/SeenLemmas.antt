-- A history and the one that an image of it begins go on alike when a moment is seen.
use Rattle.std.proofs.Common.{◌≡◌, ◌≤◌, ◌==◌, ◌&&◌, ◌||◌, ℕ, Bool, true, false, max, ◌-◌, inl, inr, List, ap, sym, ◌∙◌, subst, arith}
use Rattle.std.specs.List.{list_any}
use Rattle.std.specs.Prelude.{nat_le}
use Rattle.std.proofs.lemmas.Bool.{le-leb, lt-leb, cases_lt}
use Rattle.s4_types.specs.History.{Base, History, Seen}
use Rattle.s4_types.specs.declared.spans.Span.{Span}
use Rattle.s4_model.specs.Audit.{audit_of, rows_from}
use Rattle.s4_model.specs.Numbers.{clock_of, floor_of, next_of, window_of}
use Rattle.s4_model.specs.Promise.{GoesOn, beginning}
use Rattle.s4_model.specs.Runs.{is_covered}
use Rattle.s4_model.specs.Sound.{IsSound}
use Rattle.s4_model.specs.State.{State, grown, seen, state_of}
use Rattle.s4_model.specs.VersionAt.{version_of}
use Rattle.s4_model.specs.Visible.{IsVisible, hides, is_hidden, is_within, spans_of}
use Rattle.s4_model.proofs.AuditLaws.{moment_cuts}
use Rattle.s4_model.proofs.ClockLaws.{clock_is_visible}
use Rattle.s4_model.proofs.ListLaws.{lists_hide_alike}
use Rattle.s4_model.proofs.StateLemmas.{state_of-seen}
use Rattle.s4_model.proofs.VersionLemmas.{version_of-settled}

-- ---- numbers after a moment was seen

clock_seen : (h : History) (m : ℕ) → clock_of (grown h (Seen m)) ≡ max (clock_of h) m
clock_seen h m = ap (λ (s : State). s.clock) (state_of-seen h m)

window_seen : (h : History) (m : ℕ) → window_of (grown h (Seen m)) ≡ window_of h
window_seen h m = ap (λ (s : State). s.window) (state_of-seen h m)

next_seen : (h : History) (m : ℕ) → next_of (grown h (Seen m)) ≡ next_of h
next_seen h m = ap (λ (s : State). s.next) (state_of-seen h m)

floor_seen : (h : History) (m : ℕ) → floor_of (grown h (Seen m)) ≡ max (floor_of h) (max (clock_of h) m - window_of h)
floor_seen h m = ap (λ (s : State). s.floor) (state_of-seen h m)

spans_seen : (h : History) (m : ℕ) → spans_of (state_of (grown h (Seen m))) ≡ spans_of (state_of h)
spans_seen h m = ap spans_of (state_of-seen h m)

versions_seen : (h : History) (m o t : ℕ) → version_of (state_of (grown h (Seen m))) o t ≡ version_of (state_of h) o t
versions_seen h m o t = ap (λ (s : State). version_of s o t) (state_of-seen h m)

-- ---- spans

-- lists that cover alike from a floor on do so from a higher one
higher : (low high list t : ℕ) (xs ys : List Span) → low ≤ high → is_covered low xs list t ≡ is_covered low ys list t → is_covered high xs list t ≡ is_covered high ys list t
higher low high list t xs ys le alike =
    let in_any : List Span → Bool = λ spans. list_any (λ (span : Span). span.object == list && is_within span t) spans in
    elim (cases_lt t high) as (λ _. is_covered high xs list t ≡ is_covered high ys list t) [
      | inl lt ↦ ap (λ b. b && in_any xs) (lt-leb high t lt) ∙ sym (ap (λ b. b && in_any ys) (lt-leb high t lt))
      | inr ge ↦
          let begun : nat_le low t ≡ true = le-leb low t (omega (arith, le, ge)) in
          let in_both : in_any xs ≡ in_any ys = sym (ap (λ b. b && in_any xs) begun) ∙ alike ∙ ap (λ b. b && in_any ys) begun in
          ap (λ b. nat_le high t && b) in_both
    ]

-- histories that hide alike from a floor on hide each moment from there on alike
hidden_alike : (h k : History) (o t : ℕ) → floor_of k ≡ floor_of h → floor_of h ≤ t
    → ((list u : ℕ) → is_covered (floor_of h) (spans_of (state_of k)) list u ≡ is_covered (floor_of h) (spans_of (state_of h)) list u)
    → is_hidden (state_of k) o t ≡ is_hidden (state_of h) o t
hidden_alike h k o t same le alike =
    lists_hide_alike k o t (subst (λ (n : ℕ). n ≤ t) (sym same) le)
    ∙ ap (λ (n : ℕ). is_covered n (spans_of (state_of k)) 0 t || is_covered n (spans_of (state_of k)) o t) same
    ∙ ap (λ b. b || is_covered (floor_of h) (spans_of (state_of k)) o t) (alike 0 t)
    ∙ ap (λ b. is_covered (floor_of h) (spans_of (state_of h)) 0 t || b) (alike o t)
    ∙ sym (lists_hide_alike h o t le)

-- ---- versions

-- what goes on where a history ended has each of its versions from the floor on that isn't hidden, also after its clock
version_on : (h : History) (b : Base) (o t : ℕ) → IsSound (state_of h) → GoesOn h (beginning b) → floor_of h ≤ t → is_hidden (state_of h) o t ≡ false → version_of (state_of (beginning b)) o t ≡ version_of (state_of h) o t
version_on h b o t sound on le shown =
    elim (cases_lt (clock_of h) t) as (λ _. version_of (state_of (beginning b)) o t ≡ version_of (state_of h) o t) [
      | inl lt ↦
          let same : b.clock ≡ clock_of h = on.clock in
          let settled : version_of (state_of (beginning b)) o t ≡ version_of (state_of (beginning b)) o b.clock = version_of-settled (state_of (beginning b)) o t (omega arith) (omega (arith, lt, same)) in
          settled
          ∙ ap (λ (u : ℕ). version_of (state_of (beginning b)) o u) same
          ∙ on.versions o (clock_of h) (clock_is_visible h o sound)
          ∙ sym (version_of-settled (state_of h) o t sound.stamped (omega (arith, lt)))
      | inr ge ↦ on.versions o t (record { kept = le; reached = ge; shown = shown })
    ]

-- ---- all of it

module _ (h : History) (b c : Base) (m : ℕ) (sound : IsSound (state_of h)) (on : GoesOn h (beginning b)) (later : GoesOn (grown (beginning b) (Seen m)) (beginning c)) where
  clock_alike : clock_of (grown (beginning b) (Seen m)) ≡ clock_of (grown h (Seen m))
  clock_alike = clock_seen (beginning b) m ∙ ap (λ (n : ℕ). max n m) on.clock ∙ sym (clock_seen h m)

  window_alike : window_of (grown (beginning b) (Seen m)) ≡ window_of (grown h (Seen m))
  window_alike = window_seen (beginning b) m ∙ on.window ∙ sym (window_seen h m)

  next_alike : next_of (grown (beginning b) (Seen m)) ≡ next_of (grown h (Seen m))
  next_alike = next_seen (beginning b) m ∙ on.next ∙ sym (next_seen h m)

  floor_alike : floor_of (grown (beginning b) (Seen m)) ≡ floor_of (grown h (Seen m))
  floor_alike =
      floor_seen (beginning b) m
      ∙ ap (λ (n : ℕ). max n (max (clock_of (beginning b)) m - window_of (beginning b))) on.floor
      ∙ ap (λ (n : ℕ). max (floor_of h) (max n m - window_of (beginning b))) on.clock
      ∙ ap (λ (n : ℕ). max (floor_of h) (max (clock_of h) m - n)) on.window
      ∙ sym (floor_seen h m)

  floor_rises : floor_of h ≤ floor_of (grown h (Seen m))
  floor_rises = let is = floor_seen h m in omega (arith, is)

  spans_alike : (list t : ℕ) → is_covered (floor_of (grown h (Seen m))) (spans_of (state_of (grown (beginning b) (Seen m)))) list t ≡ is_covered (floor_of (grown h (Seen m))) (spans_of (state_of (grown h (Seen m)))) list t
  spans_alike list t =
      let floor : ℕ = floor_of (grown h (Seen m)) in
      ap (λ (spans : List Span). is_covered floor spans list t) (spans_seen (beginning b) m)
      ∙ higher (floor_of h) floor list t (spans_of (state_of (beginning b))) (spans_of (state_of h)) floor_rises (on.hidden list t)
      ∙ sym (ap (λ (spans : List Span). is_covered floor spans list t) (spans_seen h m))

  versions_alike : (o t : ℕ) → IsVisible (state_of (grown h (Seen m))) o t → version_of (state_of (beginning c)) o t ≡ version_of (state_of (grown h (Seen m))) o t
  versions_alike o t visible =
      let beside : IsVisible (state_of (grown (beginning b) (Seen m))) o t = record {
        kept = subst (λ (n : ℕ). n ≤ t) (sym floor_alike) visible.kept;
        reached = subst (λ (n : ℕ). t ≤ n) (sym clock_alike) visible.reached;
        shown = hidden_alike (grown h (Seen m)) (grown (beginning b) (Seen m)) o t floor_alike visible.kept spans_alike ∙ visible.shown;
      } in
      let shown : is_hidden (state_of h) o t ≡ false = sym (ap (λ (spans : List Span). list_any (hides o t) spans) (spans_seen h m)) ∙ visible.shown in
      let low = floor_rises in
      let above = visible.kept in
      later.versions o t beside
      ∙ versions_seen (beginning b) m o t
      ∙ version_on h b o t sound on (omega (arith, low, above)) shown
      ∙ sym (versions_seen h m o t)

  audit_alike : audit_of (state_of (grown (beginning b) (Seen m))) ≡ audit_of (state_of (grown h (Seen m)))
  audit_alike =
      ap audit_of (state_of-seen (beginning b) m)
      ∙ moment_cuts (state_of (beginning b)) m
      ∙ ap (rows_from (seen (state_of (beginning b)) m).floor) on.audit
      ∙ ap (λ (n : ℕ). rows_from n (audit_of (state_of h))) (sym (floor_seen (beginning b) m) ∙ floor_alike ∙ floor_seen h m)
      ∙ sym (moment_cuts (state_of h) m)
      ∙ sym (ap audit_of (state_of-seen h m))

  -- What begins with the image of a drive goes on where its history ended. After both have seen a moment, an image of the one is an image
  -- of the other.
  pub seen_goes_on : GoesOn (grown h (Seen m)) (beginning c)
  seen_goes_on = record {
    clock = later.clock ∙ clock_alike;
    window = later.window ∙ window_alike;
    floor = later.floor ∙ floor_alike;
    next = later.next ∙ next_alike;
    hidden = λ list t.
        subst (λ (n : ℕ). is_covered n (spans_of (state_of (beginning c))) list t ≡ is_covered n (spans_of (state_of (grown (beginning b) (Seen m)))) list t) floor_alike (later.hidden list t)
        ∙ spans_alike list t;
    versions = versions_alike;
    audit = later.audit ∙ audit_alike;
  }
