-- What a drive shows of itself once it has seen a moment.
use Rattle.std.proofs.Common.{◌≡◌, inl, inr, ℕ, ◌-◌, ◌<◌, ◌≤◌, ◌^◌, max, List, map, length, sym, ap, subst, ◌∙◌, arith}
use Rattle.std.specs.List.{AllByRecursion}
use Rattle.std.proofs.lemmas.Bool.{cases_lt}
use Rattle.s4_types.specs.declared.audit_rows.AuditRow.{AuditRow}
use Rattle.s4_types.specs.declared.spans.Span.{Span}
use Rattle.s4_model.specs.Audit.{AreAuditRows, audit_of}
use Rattle.s4_model.specs.Sound.{IsSound, IsOfGiven}
use Rattle.s4_model.specs.State.{State, seen}
use Rattle.s4_model.specs.VersionAt.{version_of}
use Rattle.s4_model.specs.Visible.{IsVisible, spans_of}
use Rattle.s4_model.proofs.ClockLaws.{clock_is_visible}
use Rattle.s4_model.proofs.SoundLemmas.{IsSound-seen}
use Rattle.s4_model.proofs.StateLemmas.{state_of-seen}
use Rattle.s4_model.proofs.VersionLemmas.{version_of-settled}
use Rattle.version_store.specs.Laws.{ThePresentStays}
use Rattle.version_store.specs.Versions.{version_in}
use Rattle.window.specs.Runs.{AllBeginFrom, AllEndBefore}
use Rattle.window.specs.Timeline.{CoverAlike}
use Rattle.drive.specs.Fields.{DriveFields, history_of, state_in, store_of}
use Rattle.drive.specs.Keeping.{DecodesWhereVisible}
use Rattle.drive.specs.Opened.{NoneFrom}
use Rattle.image_parts.specs.Audit.{IsAuditPart}
use Rattle.image_parts.specs.declared.headers.Header.{Header}
use Rattle.verifier.specs.Audit.{audit_part}
use Rattle.verifier.specs.Saved.{AreSpansOf, IsSavedOf, SpellsSaved, as_seen}
use Rattle.verifier.proofs.SavedWhole.{Shown, SpansShown, AuditShown, HeaderShown}

-- ---- its state

pub state_seen : (d : DriveFields) (m : ℕ) → state_in (as_seen d m) ≡ seen (state_in d) m
state_seen d m = state_of-seen (history_of d) m

pub shown_seen : (d : DriveFields) (m : ℕ) → Shown d → Shown (as_seen d m)
shown_seen d m shown =
    let s : State = state_in d in
    let is : seen s m ≡ state_in (as_seen d m) = sym (state_seen d m) in
    let past = shown.past in
    record {
      sound = subst IsSound is (IsSound-seen s m shown.sound);
      store = shown.store;
      past = subst (λ (t : State). (store_of d).latest ≤ t.clock) is (omega (arith, past));
      unborn = subst (λ (t : State). NoneFrom t.next (store_of d)) is shown.unborn;
      used = shown.used;
      count = shown.count;
    }

pub spans_seen : (d : DriveFields) (m : ℕ) (spans : List Span) → AreSpansOf (seen (state_in d) m) spans → SpansShown (as_seen d m) spans
spans_seen d m spans of =
    let is : seen (state_in d) m ≡ state_in (as_seen d m) = sym (state_seen d m) in
    record {
      alike = subst (λ (t : State). CoverAlike t.floor spans (spans_of t)) is of.alike;
      ordered = of.ordered;
      from_floor = subst (λ (t : State). AllBeginFrom t.floor spans) is of.from_floor;
      past = subst (λ (t : State). AllEndBefore t.clock spans) is of.past;
      given = subst (λ (t : State). AllByRecursion (IsOfGiven t.next) spans) is of.given;
      few = of.few;
      few_in_each_list = of.few_in_each_list;
    }

pub audit_seen : (d : DriveFields) (m : ℕ) (audit : List AuditRow) → audit ≡ audit_of (seen (state_in d) m) → AreAuditRows (seen (state_in d) m).floor (seen (state_in d) m).clock (state_in d).next audit
    → AllByRecursion (λ row. IsAuditPart (audit_part row)) audit → AuditShown (as_seen d m) audit
audit_seen d m audit of kept fit =
    let is : seen (state_in d) m ≡ state_in (as_seen d m) = sym (state_seen d m) in
    record {
      is = of ∙ ap audit_of is;
      kept = subst (λ (t : State). AreAuditRows t.floor t.clock t.next audit) is kept;
      fit = fit;
    }

-- the header that is written
pub record HeaderSeen (d : DriveFields) (m rows spans audit : ℕ) (h : Header) : Type 0 where
  pub frames : h.frames ≡ length d.store.table.seat.frames
  pub clock : h.clock ≡ (seen (state_in d) m).clock
  pub window : h.window ≡ (state_in d).window
  pub floor : h.floor ≡ (seen (state_in d) m).floor
  pub next : h.next ≡ (state_in d).next
  pub row_count : h.rows ≡ rows
  pub span_count : h.spans ≡ spans
  pub audit_count : h.audit ≡ audit
  pub clock_fits : (seen (state_in d) m).clock < 2 ^ 64
  pub window_fits : (state_in d).window < 2 ^ 64
  pub next_fits : (state_in d).next < 2 ^ 64
  pub audit_fits : audit < 2 ^ 64

pub header_seen : (d : DriveFields) (m rows spans audit : ℕ) (h : Header) → HeaderSeen d m rows spans audit h → HeaderShown (as_seen d m) rows spans audit h
header_seen d m rows spans audit h head =
    let is : seen (state_in d) m ≡ state_in (as_seen d m) = sym (state_seen d m) in
    record {
      frames = head.frames;
      clock = head.clock ∙ ap (λ (t : State). t.clock) is;
      window = head.window ∙ ap (λ (t : State). t.window) is;
      floor = head.floor ∙ ap (λ (t : State). t.floor) is;
      next = head.next ∙ ap (λ (t : State). t.next) is;
      row_count = head.row_count;
      span_count = head.span_count;
      audit_count = head.audit_count;
      clock_fits = subst (λ (t : State). t.clock < 2 ^ 64) is head.clock_fits;
      window_fits = subst (λ (t : State). t.window < 2 ^ 64) is head.window_fits;
      next_fits = subst (λ (t : State). t.next < 2 ^ 64) is head.next_fits;
      audit_fits = head.audit_fits;
    }

-- ---- its versions

-- what can be read once the moment was seen could be read before, or is later than the clock, where nothing was changed since
version_seen : ThePresentStays → (d : DriveFields) (m o t : ℕ) → Shown d → DecodesWhereVisible (store_of d) (state_in d) → IsVisible (seen (state_in d) m) o t → version_in (store_of d) o t ≡ version_of (state_in d) o t
version_seen stays d m o t shown decodes visible =
    let s : State = state_in d in
    let low : (seen s m).floor ≤ t = visible.kept in
    let past : (store_of d).latest ≤ s.clock = shown.past in
    elim (cases_lt s.clock t) as (λ _. version_in (store_of d) o t ≡ version_of s o t) [
      | inl late ↦ (stays (store_of d) o t shown.store (omega (arith, past, late))).1
          ∙ sym (stays (store_of d) o s.clock shown.store past).1
          ∙ decodes o s.clock (clock_is_visible (history_of d) o shown.sound)
          ∙ sym (version_of-settled s o t shown.sound.stamped (omega (arith, late)))
      | inr by ↦ decodes o t (record { kept = omega (arith, low); reached = by; shown = visible.shown })
    ]

pub decodes_seen : ThePresentStays → (d : DriveFields) (m : ℕ) → Shown d → DecodesWhereVisible (store_of d) (state_in d) → DecodesWhereVisible (store_of d) (state_in (as_seen d m))
decodes_seen stays d m shown decodes =
    subst (DecodesWhereVisible (store_of d)) (sym (state_seen d m))
    (λ o t visible. version_seen stays d m o t shown decodes visible)

-- ---- at its own clock

-- a state that sees its clock stays as it is
pub same_state : (s : State) → IsSound s → seen s s.clock ≡ s
same_state s sound =
    let clock : max s.clock s.clock ≡ s.clock = omega arith in
    let reached : s.clock - s.window ≤ s.floor = sound.reached in
    let floor : max s.floor (max s.clock s.clock - s.window) ≡ s.floor = omega (arith, reached) in
    let with : ℕ → ℕ → State = λ c f. record s { clock = c; floor = f } in
    ap (λ (c : ℕ). with c (max s.floor (max s.clock s.clock - s.window))) clock ∙ ap (with s.clock) floor

-- so what it is saved as then is what it is saved as
pub saved_now : (d : DriveFields) (m : ℕ) (bytes : List ℕ) → IsSound (state_in d) → m ≡ (state_in d).clock → SpellsSaved (as_seen d m) bytes → SpellsSaved d bytes
saved_now d m bytes sound at spells =
    let is : state_in (as_seen d m) ≡ state_in d = state_seen d m ∙ ap (seen (state_in d)) at ∙ same_state (state_in d) sound in
    let saved : IsSavedOf (as_seen d m) spells.image = spells.saved in
    record {
      image = spells.image;
      spelled = spells.spelled;
      saved = record {
        clock = saved.clock ∙ ap (λ (t : State). t.clock) is;
        window = saved.window ∙ ap (λ (t : State). t.window) is;
        floor = saved.floor ∙ ap (λ (t : State). t.floor) is;
        next = saved.next ∙ ap (λ (t : State). t.next) is;
        frames = saved.frames;
        rows = saved.rows;
        ascending = saved.ascending;
        listed = saved.listed;
        spelled = saved.spelled;
        spans = subst (λ (t : State). CoverAlike t.floor spells.image.spans (spans_of t)) is saved.spans;
        audit = saved.audit ∙ ap (λ (t : State). map audit_part (audit_of t)) is;
      };
    }
