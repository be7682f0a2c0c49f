-- The parts of an image once a moment was seen are an image, too.
use Rattle.std.proofs.Common.{◌≡◌, ℕ, ◌<◌, ◌≤◌, ◌^◌, ◌==◌, cond, true, false, List, [], ◌∷◌, length, map, filter, count_by, Option, Some, None, refl, sym, ap, subst, ◌∙◌, arith}
use Rattle.std.specs.Prelude.{MatchOption, nat_le}
use Rattle.std.specs.List.{AllByRecursion}
use Rattle.std.proofs.lemmas.Bool.{le-leb}
use Rattle.std.proofs.lemmas.List.Sums.{length-filter, count_by-le-length}
use Rattle.lemmas.proofs.List.{all_weaker}
use Rattle.s4_types.specs.Pointer.{Place}
use Rattle.s4_types.specs.declared.audit_rows.AuditRow.{AuditRow}
use Rattle.s4_types.specs.declared.limits.TheConstants.{RUNS_IN_ALL}
use Rattle.s4_types.specs.declared.spans.Span.{Span}
use Rattle.s4_model.specs.Audit.{rows_from}
use Rattle.s4_model.specs.Sound.{EndsBefore, IsOfGiven}
use Rattle.block_log.specs.Log.{Stored}
use Rattle.codec.specs.Entry.{EntryFields}
use Rattle.codec.specs.declared.inodes.Inode.{Inode}
use Rattle.undo_redo.specs.Runs.{AllBy, entry_is_by, redone_all}
use Rattle.undo_redo.proofs.RunLaws.{by_all}
use Rattle.time_read.specs.Orderly.{IsFromTo, IsOrderlyChain}
use Rattle.version_store.specs.Versions.{version_by}
use Rattle.audit_log.proofs.Rows.{from_ascends}
use Rattle.segment_table.specs.Used.{used_at}
use Rattle.window.specs.Runs.{AllEndBefore, Ascend, cut, is_live}
use Rattle.window.proofs.Cutting.{cut_all, cut_from, cut_ascend, cut_length, cut_few}
use Rattle.window.proofs.Live.{ends_later, live_from}
use Rattle.window.proofs.Ordering.{Ascend-filter, all_filter}
use Rattle.window.proofs.OwnCounts.{few_in_some}
use Rattle.image_parts.specs.Audit.{IsAuditPart}
use Rattle.image_parts.specs.Header.{KeepsHeaderRules}
use Rattle.image_parts.specs.Image.{Image, header_of, image_bytes}
use Rattle.image_parts.specs.Rows.{RowsFollow}
use Rattle.image_parts.specs.Spans.{KeepSpanRules}
use Rattle.image_parts.specs.declared.audit.AuditPart.{AuditPart}
use Rattle.image_parts.specs.declared.headers.Header.{Header}
use Rattle.image_parts.specs.declared.rows.RowPart.{RowPart}
use Rattle.image_parts.proofs.SpanCounts.{few_in_a_list}
use Rattle.image_objects.specs.declared.rows.ImageRow.{ImageRow}
use Rattle.image_objects.specs.Chains.{ChainStands, entries_used}
use Rattle.image_objects.specs.Inodes.{CheckpointStands, first_used}
use Rattle.image_objects.specs.Objects.{ObjectStands, inode_used}
use Rattle.image_objects.specs.Rows.{RowsStand}
use Rattle.image_objects.specs.VersionChain.{VersionChainStands}
use Rattle.verifier.specs.Audit.{audit_part, AuditStands}
use Rattle.verifier.specs.Grammar.{SpellsDrive}
use Rattle.verifier.specs.Opened.{inode_of_rows, version_of_rows}
use Rattle.verifier.specs.Seen.{floor_seen, is_part_from, parts_seen}
use Rattle.verifier.proofs.SavedSpans.{are_spans, spans_keep_rules}
use Rattle.verifier.proofs.SeenParts.{each_from}
use Rattle.verifier.proofs.SpanOrder.{spans_ascend, spans_past, spans_given}

-- ---- rows up to a later clock

match_weaker : {A : Type 0} (q : Option A) (N : Type 0) (F G : A → Type 0) → ((x : A) → F x → G x) → MatchOption q N F → MatchOption q N G
match_weaker None N F G f h = h
match_weaker (Some x) N F G f h = f x h

module _ (used : Place → Option Stored) (c d : ℕ) (le : c ≤ d) where
  moments_later : (low : ℕ) (entries : List EntryFields) → AllByRecursion (λ e. IsFromTo low c e.moment) entries → AllByRecursion (λ e. IsFromTo low d e.moment) entries
  moments_later low entries = all_weaker (λ (e : EntryFields). IsFromTo low c e.moment) (λ (e : EntryFields). IsFromTo low d e.moment) entries (λ e is. (is.0, omega (arith, is.1, le)))

  order_later : (created : ℕ) (first : Inode) (entries : List EntryFields) → IsOrderlyChain created c first entries → IsOrderlyChain created d first entries
  order_later created first entries is = record {
    moments = moments_later created entries is.moments;
    changed = λ n alive. (let at = is.changed n alive in (at.0, omega (arith, at.1, le)));
    between = is.between;
    beginning = is.beginning;
    live = is.live;
  }

  checkpoint_later : (row : ImageRow) (entries : List EntryFields) (p : Place) → CheckpointStands used row c entries p → CheckpointStands used row d entries p
  checkpoint_later row entries p is = record {
    found = is.found;
    decodes = is.decodes;
    tells = record {
      object = is.tells.object;
      moment = is.tells.moment;
      within = (is.tells.within.0, omega (arith, is.tells.within.1, le));
      created = is.tells.created;
    };
    place = is.place;
  }

  object_later : (row : ImageRow) → ObjectStands used row c → ObjectStands used row d
  object_later row is =
      let v : VersionChainStands used row c = is.versions in
      let chain : ChainStands used row c = v.chain in
      record {
        versions = record {
          chain = record {
            walk = chain.walk;
            packing = chain.packing;
            limit = chain.limit;
            moments = moments_later row.created (entries_used used row) chain.moments;
            groups = chain.groups;
          };
          beginning = match_weaker row.checkpoint _ (λ p. CheckpointStands used row c (entries_used used row) p) (λ p. CheckpointStands used row d (entries_used used row) p) (checkpoint_later row (entries_used used row)) v.beginning;
          run = v.run;
          order = order_later row.created (first_used used row) (entries_used used row) v.order;
        };
        led = is.led;
        tidy = is.tidy;
      }

  rows_later : (rows : List ImageRow) → RowsStand used rows c → RowsStand used rows d
  rows_later rows is = record {
    objects = all_weaker (λ (row : ImageRow). ObjectStands used row c) (λ (row : ImageRow). ObjectStands used row d) rows object_later is.objects;
    apart = is.apart;
  }

  -- and no version is different after the clock
  inode_later : (row : ImageRow) → ObjectStands used row c → inode_used used row d ≡ inode_used used row c
  inode_later row is =
      let entries : List EntryFields = entries_used used row in
      let at : (t : ℕ) → c ≤ t → AllBy t entries = λ t by. all_weaker (λ (e : EntryFields). IsFromTo row.created c e.moment) (λ (e : EntryFields). entry_is_by t e ≡ true) entries (λ e from. le-leb e.moment t (omega (arith, from.1, by))) is.versions.chain.moments in
      ap (λ (es : List EntryFields). redone_all es (first_used used row)) (by_all d entries (at d le) ∙ sym (by_all c entries (at c (omega arith))))

  inodes_later : (rows : List ImageRow) (o : ℕ) → AllByRecursion (λ (row : ImageRow). ObjectStands used row c) rows → inode_of_rows used rows o d ≡ inode_of_rows used rows o c
  inodes_later [] o all = refl
  inodes_later (row ∷ rows) o all =
      ap (λ (i : Inode). cond (row.object == o) (Some i) (inode_of_rows used rows o d)) (inode_later row all.0)
      ∙ ap (λ (rest : Option Inode). cond (row.object == o) (Some (inode_used used row c)) rest) (inodes_later rows o all.1)

  pub versions_later : (rows : List ImageRow) (o : ℕ) → RowsStand used rows c → version_of_rows used rows o d ≡ version_of_rows used rows o c
  versions_later rows o is = ap (version_by used) (inodes_later rows o is.objects)

-- ---- rules of rows

follow_later : (h k : Header) (object created : ℕ) (rows : List RowPart) → k.next ≡ h.next → h.clock ≤ k.clock → RowsFollow h object created rows → RowsFollow k object created rows
follow_later h k object created [] next le follow = tt
follow_later h k object created (r ∷ rows) next le follow = (
  record {
    ascends = follow.0.ascends;
    later = follow.0.later;
    given = subst (λ (n : ℕ). r.object < n) (sym next) follow.0.given;
    made = (let made = follow.0.made in omega (arith, made, le));
    hole = follow.0.hole;
  },
  follow_later h k r.object r.created rows next le follow.1,
)

-- ---- audit rows

parts_kept : (P : AuditPart → Type 0) (t : ℕ) (parts : List AuditPart) → AllByRecursion P parts → AllByRecursion P (filter (is_part_from t) parts)
parts_kept P t [] h = tt
parts_kept P t (part ∷ parts) h =
    elim (nat_le t part.moment) as (λ b. AllByRecursion P (cond b (part ∷ filter (is_part_from t) parts) (filter (is_part_from t) parts))) [
      | true ↦ (h.0, parts_kept P t parts h.1)
      | false ↦ parts_kept P t parts h.1
    ]

pub parts_from : (t : ℕ) (rows : List AuditRow) → filter (is_part_from t) (map audit_part rows) ≡ map audit_part (rows_from t rows)
parts_from t [] = refl
parts_from t (row ∷ rows) =
    ap (λ (rest : List AuditPart). cond (nat_le t row.moment) (audit_part row ∷ rest) rest) (parts_from t rows)
    ∙ (elim (nat_le t row.moment) as (λ b. cond b (audit_part row ∷ map audit_part (rows_from t rows)) (map audit_part (rows_from t rows)) ≡ map audit_part (cond b (row ∷ rows_from t rows) (rows_from t rows))) [
      | true ↦ refl
      | false ↦ refl
    ])

-- ---- the whole

module _ (parts : Image) (m : ℕ) where
  later : parts.clock ≤ (parts_seen parts m).clock
  later = omega arith

  abbrev live : List Span
  live = filter (is_live (floor_seen parts m)) parts.spans

  header_rules : KeepsHeaderRules (header_of parts) → KeepsHeaderRules (header_of (parts_seen parts m))
  header_rules old =
      let low = old.floor in
      let given = old.given in
      record {
        frames = old.frames;
        window = omega arith;
        floor = omega (arith, low);
        next = old.next;
        given = omega (arith, given);
        audit = tt;
      }

  module _ (old : KeepSpanRules (header_of parts) parts.spans) where
    spans_order : Ascend (parts_seen parts m).spans
    spans_order = cut_ascend (floor_seen parts m) live (live_from (floor_seen parts m) parts.spans) (Ascend-filter (is_live (floor_seen parts m)) parts.spans (spans_ascend (header_of parts) parts.spans old.each))

    spans_end : AllEndBefore (parts_seen parts m).clock (parts_seen parts m).spans
    spans_end =
        let clock : ℕ = (parts_seen parts m).clock in
        cut_all (EndsBefore clock) (floor_seen parts m) live (λ run h. h) (all_filter (EndsBefore clock) (is_live (floor_seen parts m)) parts.spans (ends_later parts.clock clock parts.spans later (spans_past (header_of parts) parts.spans old.each)))

    spans_owned : AllByRecursion (IsOfGiven parts.next) (parts_seen parts m).spans
    spans_owned = cut_all (IsOfGiven parts.next) (floor_seen parts m) live (λ run h. h) (all_filter (IsOfGiven parts.next) (is_live (floor_seen parts m)) parts.spans (spans_given (header_of parts) parts.spans old.each))

    span_rules : KeepSpanRules (header_of (parts_seen parts m)) (parts_seen parts m).spans
    span_rules =
        let size : length (map (cut (floor_seen parts m)) live) ≡ length live = cut_length (floor_seen parts m) live in
        let counted : length live ≡ count_by (is_live (floor_seen parts m)) parts.spans = length-filter (is_live (floor_seen parts m)) parts.spans in
        let fewer : count_by (is_live (floor_seen parts m)) parts.spans ≤ length parts.spans = count_by-le-length (is_live (floor_seen parts m)) parts.spans in
        let few : length parts.spans ≤ RUNS_IN_ALL = old.few in
        spans_keep_rules (header_of (parts_seen parts m)) (parts_seen parts m).spans spans_order (cut_from (floor_seen parts m) live) spans_end spans_owned (omega (arith, size, counted, fewer, few))
        (cut_few (floor_seen parts m) live (few_in_some (is_live (floor_seen parts m)) parts.spans (λ list. few_in_a_list (header_of parts) parts.spans list old.each)))

  pub audit_seen : AuditStands parts → AuditStands (parts_seen parts m)
  audit_seen stands = record {
    rows = rows_from (floor_seen parts m) stands.rows;
    spelled = ap (filter (is_part_from (floor_seen parts m))) stands.spelled ∙ parts_from (floor_seen parts m) stands.rows;
    kept = record {
      each = each_from parts.floor (floor_seen parts m) parts.clock (parts_seen parts m).clock parts.next stands.rows later stands.kept.each;
      ascend = from_ascends (floor_seen parts m) stands.rows stands.kept.ascend;
    };
  }

  pub spells_seen : m < 2 ^ 64 → SpellsDrive (image_bytes parts) parts → SpellsDrive (image_bytes (parts_seen parts m)) (parts_seen parts m)
  unfolding image_bytes
  spells_seen fits is =
      let old = is.parts.is in
      let rules = is.parts.rules in
      let before : parts.clock < 2 ^ 64 = old.clock in
      let clock : (parts_seen parts m).clock < 2 ^ 64 = omega (arith, fits, before) in
      let counted : length (parts_seen parts m).audit ≡ count_by (is_part_from (floor_seen parts m)) parts.audit = length-filter (is_part_from (floor_seen parts m)) parts.audit in
      let fewer : count_by (is_part_from (floor_seen parts m)) parts.audit ≤ length parts.audit = count_by-le-length (is_part_from (floor_seen parts m)) parts.audit in
      let few : length parts.audit < 2 ^ 64 = old.audit_count in
      record {
        parts = record {
          is = record {
            clock = clock;
            window = old.window;
            next = old.next;
            frames = old.frames;
            rows = old.rows;
            spans = are_spans (parts_seen parts m).clock parts.next (parts_seen parts m).spans clock old.next (spans_order rules.spans) (spans_end rules.spans) (spans_owned rules.spans);
            row_count = old.row_count;
            audit = parts_kept IsAuditPart (floor_seen parts m) parts.audit old.audit;
            audit_count = omega (arith, counted, fewer, few);
          };
          rules = record {
            header = header_rules rules.header;
            frames = rules.frames;
            spans = span_rules rules.spans;
            rows = follow_later (header_of parts) (header_of (parts_seen parts m)) 0 0 parts.rows refl later rules.rows;
          };
          spelled = refl;
        };
        chains = record {
          table = is.chains.table;
          frames = is.chains.frames;
          rows = is.chains.rows;
          spelled = is.chains.spelled;
          stand = rows_later (used_at is.chains.table) parts.clock (parts_seen parts m).clock later is.chains.rows is.chains.stand;
        };
        audit = audit_seen is.audit;
      }
