-- What begins with the parts of an image once a moment was seen goes on where what begins with the parts before has seen it.
use Rattle.std.proofs.Common.{◌≡◌, inl, inr, ℕ, ◌-◌, ◌≤◌, ◌&&◌, max, nat_le, Bool, List, map, filter, append-nil, refl, sym, ap, subst, ◌∙◌, arith}
use Rattle.std.proofs.lemmas.Bool.{and_left, cases_lt, cond-true, le-leb, lt-leb}
use Rattle.s4_types.specs.History.{Base, Seen}
use Rattle.s4_types.specs.declared.spans.Span.{Span}
use Rattle.s4_model.specs.Audit.{audit_of, rows_from}
use Rattle.s4_model.specs.Numbers.{floor_of}
use Rattle.s4_model.specs.Promise.{GoesOn, beginning}
use Rattle.s4_model.specs.Runs.{is_covered}
use Rattle.s4_model.specs.State.{State, grown, seen, state_of}
use Rattle.s4_model.specs.VersionAt.{current_of, opening_version, versions_of, version_after, version_of}
use Rattle.s4_model.specs.Visible.{spans_of}
use Rattle.s4_model.proofs.AuditLaws.{moment_cuts}
use Rattle.s4_model.proofs.StateLemmas.{state_of-seen}
use Rattle.s4_model.proofs.VersionLemmas.{version_of-settled}
use Rattle.segment_table.specs.Used.{used_at}
use Rattle.window.specs.Runs.{cut, is_live}
use Rattle.window.specs.Timeline.{CoverAlike}
use Rattle.window.proofs.Covering.{covers_live}
use Rattle.window.proofs.Cutting.{cut_alike}
use Rattle.image_parts.specs.Image.{Image, image_bytes}
use Rattle.image_objects.specs.Rows.{RowsStand}
use Rattle.verifier.specs.Audit.{AuditStands}
use Rattle.verifier.specs.Grammar.{SpellsDrive}
use Rattle.verifier.specs.Opened.{IsToldBy}
use Rattle.verifier.specs.Seen.{GoesOnSeen, floor_seen, is_part_from, parts_seen}
use Rattle.verifier.proofs.AuditRows.{begun_audit, one_audit}
use Rattle.verifier.proofs.Frames.{OneSummaryASpelling}
use Rattle.verifier.proofs.OpenedBase.{rows_stand}
use Rattle.verifier.proofs.OpenedRows.{OnePointerASpelling}
use Rattle.verifier.proofs.SeenImage.{audit_seen, parts_from, versions_later}

covered : (floor : ℕ) (spans others : List Span) → CoverAlike floor spans others → (list t : ℕ) → is_covered floor spans list t ≡ is_covered floor others list t
covered floor spans others alike list t =
    elim (cases_lt t floor) [
      | inl below ↦ and_left (nat_le floor t) _ (lt-leb floor t below) ∙ sym (and_left (nat_le floor t) _ (lt-leb floor t below))
      | inr from ↦ ap (λ (b : Bool). nat_le floor t && b) (alike list t from)
    ]

floor_begun : (base : Base) → base.clock - base.window ≤ base.floor → floor_of (beginning base) ≡ base.floor
floor_begun base reach = omega arith

begun_at : (base : Base) (o t : ℕ) → t ≤ base.clock → version_of (state_of (beginning base)) o t ≡ current_of (versions_of base.versions o) t
begun_at base o t le =
    let s : State = state_of (beginning base) in
    cond-true (nat_le t base.clock) (opening_version s o t) (version_after (opening_version s o s.opened) s.changes o t) (le-leb t base.clock le)

module _ (summary : OneSummaryASpelling) (pointer : OnePointerASpelling) (parts : Image) (m : ℕ) (is : SpellsDrive (image_bytes parts) parts) (base : Base) (told : IsToldBy (parts_seen parts m) base) where
  abbrev before : Base
  before = record {
    versions = base.versions;
    clock = parts.clock;
    window = parts.window;
    floor = parts.floor;
    next = parts.next;
    spans = parts.spans;
    audit = is.audit.rows;
  }

  before_told : IsToldBy parts before
  before_told = record {
    clock = refl;
    window = refl;
    floor = refl;
    next = refl;
    spans = refl;
    audit = is.audit.spelled;
    table = told.table;
    frames = told.frames;
    rows = told.rows;
    spelled = told.spelled;
    versions = told.versions;
    listed = told.listed;
  }

  saw : state_of (grown (beginning before) (Seen m)) ≡ seen (state_of (beginning before)) m
  saw = state_of-seen (beginning before) m

  reached : parts.clock - parts.window ≤ parts.floor
  reached = is.parts.rules.header.window

  floor_is : (seen (state_of (beginning before)) m).floor ≡ floor_seen parts m
  floor_is = ap (λ (n : ℕ). max n (max parts.clock m - parts.window)) (floor_begun before reached)

  reach_later : base.clock - base.window ≤ base.floor
  reach_later = omega (arith, told.clock, told.window, told.floor)

  begun_spans : spans_of (state_of (beginning base)) ≡ map (cut (floor_seen parts m)) (filter (is_live (floor_seen parts m)) parts.spans)
  begun_spans = append-nil base.spans ∙ told.spans

  cut_covers : CoverAlike (floor_seen parts m) (map (cut (floor_seen parts m)) (filter (is_live (floor_seen parts m)) parts.spans)) parts.spans
  cut_covers = λ list t le. cut_alike (floor_seen parts m) (filter (is_live (floor_seen parts m)) parts.spans) list t le ∙ covers_live (floor_seen parts m) list t parts.spans le

  hides : (list t : ℕ) → is_covered (floor_seen parts m) (spans_of (state_of (beginning base))) list t ≡ is_covered (floor_seen parts m) (spans_of (seen (state_of (beginning before)) m)) list t
  hides list t =
      ap (λ (l : List Span). is_covered (floor_seen parts m) l list t) begun_spans
      ∙ covered (floor_seen parts m) _ parts.spans cut_covers list t
      ∙ sym (ap (λ (l : List Span). is_covered (floor_seen parts m) l list t) (append-nil parts.spans))

  stand : RowsStand (used_at told.table) told.rows parts.clock
  stand = rows_stand summary pointer parts told.table told.rows told.frames told.spelled is.chains

  version_later : (o t : ℕ) → parts.clock ≤ t → current_of (versions_of base.versions o) t ≡ current_of (versions_of base.versions o) parts.clock
  version_later o t le = told.versions o t ∙ versions_later (used_at told.table) parts.clock t le told.rows o stand ∙ sym (told.versions o parts.clock)

  version_before : (o t : ℕ) → version_of (state_of (beginning before)) o t ≡ current_of (versions_of base.versions o) t
  version_before o t =
      elim (cases_lt parts.clock t) as (λ _. version_of (state_of (beginning before)) o t ≡ current_of (versions_of base.versions o) t) [
        | inl late ↦ version_of-settled (state_of (beginning before)) o t (omega arith) (omega (arith, late)) ∙ begun_at before o parts.clock (omega arith) ∙ sym (version_later o t (omega (arith, late)))
        | inr by ↦ begun_at before o t by
      ]

  begun_rows : audit_of (state_of (beginning base)) ≡ rows_from (floor_seen parts m) is.audit.rows
  begun_rows =
      let stands : AuditStands (parts_seen parts m) = audit_seen parts m is.audit in
      begun_audit (parts_seen parts m) base stands told.audit told.floor reach_later ∙ one_audit base.audit (rows_from (floor_seen parts m) is.audit.rows) (sym told.audit ∙ ap (filter (is_part_from (floor_seen parts m))) is.audit.spelled ∙ parts_from (floor_seen parts m) is.audit.rows)

  seen_rows : audit_of (seen (state_of (beginning before)) m) ≡ rows_from (floor_seen parts m) is.audit.rows
  seen_rows =
      moment_cuts (state_of (beginning before)) m
      ∙ ap (λ (n : ℕ). rows_from n (audit_of (state_of (beginning before)))) floor_is
      ∙ ap (rows_from (floor_seen parts m)) (begun_audit parts before is.audit is.audit.spelled refl reached)

  goes_on : GoesOn (grown (beginning before) (Seen m)) (beginning base)
  goes_on = record {
    clock = told.clock ∙ sym (ap (λ (s : State). s.clock) saw);
    window = told.window ∙ sym (ap (λ (s : State). s.window) saw);
    floor = floor_begun base reach_later ∙ told.floor ∙ sym floor_is ∙ sym (ap (λ (s : State). s.floor) saw);
    next = told.next ∙ sym (ap (λ (s : State). s.next) saw);
    hidden = λ list t. subst (λ (s : State). is_covered s.floor (spans_of (state_of (beginning base))) list t ≡ is_covered s.floor (spans_of s) list t) (sym saw)
        (subst (λ (n : ℕ). is_covered n (spans_of (state_of (beginning base))) list t ≡ is_covered n (spans_of (seen (state_of (beginning before)) m)) list t) (sym floor_is) (hides list t));
    versions = λ o t visible.
        (let by : t ≤ (seen (state_of (beginning before)) m).clock = subst (λ (s : State). t ≤ s.clock) saw visible.reached in
        begun_at base o t (omega (arith, by, told.clock)) ∙ sym (version_before o t) ∙ sym (ap (λ (s : State). version_of s o t) saw));
    audit = begun_rows ∙ sym seen_rows ∙ sym (ap audit_of saw);
  }

  pub goes_on_seen : GoesOnSeen parts m base
  goes_on_seen = record { before = before; told = before_told; goes_on = goes_on }
