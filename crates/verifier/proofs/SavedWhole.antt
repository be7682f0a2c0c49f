-- The image that a drive is saved as, put together of its parts.
use Rattle.std.proofs.Common.{◌≡◌, inl, inr, ℕ, suc, ◌<◌, ◌≤◌, ◌^◌, List, [], ◌∷◌, ◌++◌, map, length, get_or, append_assoc, Option, Some, None, refl, sym, ap, ◌∙◌, subst, arith}
use Rattle.std.proofs.lemmas.List.{length-map}
use Rattle.std.specs.Prelude.{IfSome, MatchOption}
use Rattle.std.specs.Int.{w64}
use Rattle.std.specs.List.{AllByRecursion, flat_map}
use Rattle.std.proofs.lemmas.Bool.{cases_lt}
use Rattle.std.proofs.lemmas.Option.{none-some}
use Rattle.sha2.specs.Sha256.{sha256}
use Rattle.s4_types.specs.Pointer.{Place, IsPlace}
use Rattle.s4_types.specs.Sizes.{IsFrameCount}
use Rattle.s4_types.specs.declared.limits.TheConstants.{RUNS_IN_ALL}
use Rattle.s4_types.specs.declared.audit_rows.AuditRow.{AuditRow}
use Rattle.s4_types.specs.declared.spans.Span.{Span}
use Rattle.lemmas.proofs.List.{all_weaker}
use Rattle.s4_model.specs.Audit.{audit_of, AreAuditRows}
use Rattle.s4_model.specs.State.{State}
use Rattle.s4_model.specs.Sound.{IsSound, IsOfGiven}
use Rattle.s4_model.specs.Visible.{spans_of}
use Rattle.block_log.specs.Log.{Stored}
use Rattle.codec.specs.Fields.{number, SpellsSlot, slot}
use Rattle.object_map.specs.declared.map.Row.{Row}
use Rattle.object_map.specs.Rows.{row_of}
use Rattle.time_read.specs.Orderly.{IsOrderly}
use Rattle.version_store.specs.Store.{StoreFields, IsStore, IsObject}
use Rattle.segment_table.specs.Table.{Table, held_at}
use Rattle.segment_table.specs.Used.{used_at, HoldsUsedBlocks}
use Rattle.segment_table.specs.Room.{log_of}
use Rattle.window.specs.Runs.{Ascend, AllBeginFrom, AllEndBefore, AreFewInEachList}
use Rattle.window.specs.Timeline.{CoverAlike}
use Rattle.drive.specs.Fields.{DriveFields, state_in, store_of}
use Rattle.drive.specs.Opened.{NoneFrom}
use Rattle.image_parts.specs.declared.headers.Header.{Header}
use Rattle.image_parts.specs.declared.rows.RowPart.{RowPart}
use Rattle.image_parts.specs.Header.{header_bytes, KeepsHeaderRules}
use Rattle.image_parts.specs.Frames.{frame_bytes}
use Rattle.image_parts.specs.Rows.{row_bytes, RowsFollow}
use Rattle.image_parts.specs.Spans.{span_bytes}
use Rattle.image_parts.specs.Audit.{IsAuditPart, audit_bytes}
use Rattle.image_parts.specs.Image.{Image, header_of, front_bytes, front_bytes_by, image_bytes, image_bytes_by}
use Rattle.image_objects.specs.Rows.{RowsAscend, RowsStand}
use Rattle.image_objects.specs.Saved.{HoldsUsed, ObjectsAscend, saved_rows}
use Rattle.drive.proofs.Opening.{no_row_of_0}
use Rattle.verifier.specs.Rows.{SpellRows}
use Rattle.verifier.specs.Audit.{audit_part}
use Rattle.verifier.specs.Saved.{AddsFrames, SpellsSaved}
use Rattle.verifier.specs.SavedRows.{AreSaved}
use Rattle.verifier.proofs.AuditRows.{all_mapped}
use Rattle.verifier.proofs.Lists.{all_both}
use Rattle.verifier.proofs.ListedRows.{each_found}
use Rattle.verifier.proofs.FewRows.{CheckpointLaws, Owns, row_owns, few_rows}
use Rattle.verifier.proofs.SavedSpans.{spans_keep_rules, are_spans}

-- ---- what is told of each row

pub record IsOfStore (s : StoreFields) (e : ℕ × Row) : Type 0 where
  pub object : IsObject s.log.held e.0 e.1 s.latest
  pub orderly : IsOrderly s.log.held e.0 e.1 s.latest
  pub found : row_of s.rows e.0 ≡ Some e.1

of_store : (s : StoreFields) (rows : List (ℕ × Row)) → IsStore s → ObjectsAscend 1 rows → ((o : ℕ) → row_of rows o ≡ row_of s.rows o) → AllByRecursion (IsOfStore s) rows
of_store s rows store ascend listed = all_weaker (λ (e : ℕ × Row). row_of rows e.0 ≡ Some e.1) (IsOfStore s) rows (λ e there. (let found : row_of s.rows e.0 ≡ Some e.1 = sym (listed e.0) ∙ there in
    record { object = store.objects e.0 e.1 found; orderly = store.orderly e.0 e.1 found; found = found })) (each_found rows 1 ascend)

-- a store is one whatever its rows' list is, where the same is found in it
listed_store : (s : StoreFields) (rows : List (ℕ × Row)) → IsStore s → ((o : ℕ) → row_of rows o ≡ row_of s.rows o) → IsStore (record { rows = rows; log = s.log; latest = s.latest })
listed_store s rows store listed = record {
  objects = λ o row there. store.objects o row (sym (listed o) ∙ there);
  orderly = λ o row there. store.orderly o row (sym (listed o) ∙ there);
  names = store.names;
  counted = λ o row there. store.counted o row (sym (listed o) ∙ there);
  few = λ o row there. store.few o row (sym (listed o) ∙ there);
  nothing = λ o none. store.nothing o (sym (listed o) ∙ none);
  stamps = λ o row there. store.stamps o row (sym (listed o) ∙ there);
  bounded = store.bounded;
  ascending = λ o q first second lt a b. store.ascending o q first second lt (sym (listed o) ∙ a) (sym (listed q) ∙ b);
  apart = λ o q first second lt a b. store.apart o q first second lt (sym (listed o) ∙ a) (sym (listed q) ∙ b);
}

-- ---- the rules of rows

pub block_byte : (frame block generation : ℕ) → get_or (slot (Some (record { frame = frame; block = block; generation = generation }))) 2 0 ≡ block
unfolding slot number
block_byte frame block generation = refl

-- eight zeros are no pointer
pub no_pointer : (p : Place) → IsPlace p → number w64 0 ≡ slot (Some p) → ⊥
unfolding number
no_pointer p is h =
    let zero_there : 0 ≡ p.block = ap (λ (l : List ℕ). get_or l 2 0) h ∙ block_byte p.frame p.block p.generation in
    omega (arith, is.lowest_block)

hole : (n m : ℕ) (kept : Place → Type 0) (q : Option Place) → SpellsSlot (number w64 n) q → MatchOption q (m ≡ 0) kept → n ≡ 0 → m ≡ 0
hole n m kept None spells known is = known
hole n m kept (Some p) spells known is = absurd (no_pointer p spells.0 (ap (number w64) (sym is) ∙ spells.1))

follow : (h : Header) (s : StoreFields) (o made object created : ℕ) (parts : List RowPart) (rows : List (ℕ × Row)) → o ≡ object → made ≡ created → NoneFrom h.next s
    → RowsAscend h.clock o made (saved_rows rows) → SpellRows parts (saved_rows rows) → AllByRecursion (IsOfStore s) rows → RowsFollow h object created parts
follow h s o made object created [] [] same_o same_made none ascend spelled each = tt
follow h s o made object created [] (e ∷ rows) same_o same_made none ascend spelled each = absurd spelled
follow h s o made object created (part ∷ parts) [] same_o same_made none ascend spelled each = absurd spelled
follow h s o made object created (part ∷ parts) (e ∷ rows) same_o same_made none ascend spelled each =
    let is_object : e.0 ≡ part.object = spelled.0.object in
    let is_created : e.1.created ≡ part.created = spelled.0.created in
    let is_moment : e.1.checkpoint_moment ≡ part.checkpoint_moment = spelled.0.checkpoint_moment in
    let given : e.0 < h.next = elim (cases_lt e.0 h.next) [
      | inl lt ↦ lt
      | inr past ↦ absurd (none-some e.1 (sym (none e.0 past) ∙ each.0.found))
    ] in (
      record {
        ascends = omega (arith, ascend.0);
        later = omega (arith, ascend.1);
        given = omega arith;
        made = omega (arith, ascend.2);
        hole = λ zeros. sym is_moment ∙ hole part.checkpoint e.1.checkpoint_moment (λ p. _) e.1.checkpoint spelled.0.checkpoint each.0.object.stands.checkpoint zeros;
      },
      follow h s e.0 e.1.created part.object part.created parts rows is_object is_created none ascend.3 spelled.1 each.1,
    )

-- ---- how many rows there are

spelled_places : (parts : List RowPart) (rows : List (ℕ × Row)) → SpellRows parts (saved_rows rows) → AllByRecursion (λ (e : ℕ × Row). IfSome e.1.checkpoint IsPlace × IfSome e.1.head IsPlace) rows
spelled_places [] [] spelled = tt
spelled_places [] (e ∷ rows) spelled = absurd spelled
spelled_places (part ∷ parts) [] spelled = absurd spelled
spelled_places (part ∷ parts) (e ∷ rows) spelled = ((spelled.0.checkpoint.0, spelled.0.head.0), spelled_places parts rows spelled.1)

as_many : (parts : List RowPart) (rows : List (ℕ × Row)) → SpellRows parts (saved_rows rows) → length parts ≡ length rows
as_many [] [] spelled = refl
as_many [] (e ∷ rows) spelled = absurd spelled
as_many (part ∷ parts) [] spelled = absurd spelled
as_many (part ∷ parts) (e ∷ rows) spelled = ap suc (as_many parts rows spelled.1)

pub few_parts : CheckpointLaws → (d : DriveFields) (parts : List RowPart) → IsStore (store_of d) → AreSaved d.store.rows parts → length parts ≤ 2 ^ 20
few_parts laws d parts store saved =
    let s : StoreFields = store_of d in
    let each : AllByRecursion (λ (e : ℕ × Row). Owns (held_at d.store.table) e.0) saved.rows =
    all_both (λ (e : ℕ × Row). IfSome e.1.checkpoint IsPlace × IfSome e.1.head IsPlace) (IsOfStore s) (λ (e : ℕ × Row). Owns (held_at d.store.table) e.0)
    (λ e places of. row_owns laws s.log.held e.0 s.latest e.1 places.0 places.1 of.object.stands of.orderly)
    saved.rows (spelled_places parts saved.rows saved.spelled) (of_store s saved.rows store saved.ascending saved.listed) in
    omega (arith, as_many parts saved.rows saved.spelled, few_rows d.store.table 1 saved.rows saved.ascending each)

-- ---- the whole

-- what a drive shows of itself
pub record Shown (d : DriveFields) : Type 0 where
  pub sound : IsSound (state_in d)
  pub store : IsStore (store_of d)
  pub past : (store_of d).latest ≤ (state_in d).clock
  pub unborn : NoneFrom (state_in d).next (store_of d)
  pub used : HoldsUsedBlocks d.store.table
  pub count : IsFrameCount (length d.store.table.seat.frames)

-- what its spans are
pub record SpansShown (d : DriveFields) (spans : List Span) : Type 0 where
  pub alike : CoverAlike (state_in d).floor spans (spans_of (state_in d))
  pub ordered : Ascend spans
  pub from_floor : AllBeginFrom (state_in d).floor spans
  pub past : AllEndBefore (state_in d).clock spans
  pub given : AllByRecursion (IsOfGiven (state_in d).next) spans
  pub few : length spans ≤ RUNS_IN_ALL
  pub few_in_each_list : AreFewInEachList spans

-- what its audit is
pub record AuditShown (d : DriveFields) (audit : List AuditRow) : Type 0 where
  pub is : audit ≡ audit_of (state_in d)
  pub kept : AreAuditRows (state_in d).floor (state_in d).clock (state_in d).next audit
  pub fit : AllByRecursion (λ row. IsAuditPart (audit_part row)) audit

-- the header that is written, by the numbers of rows, of spans and of audit rows
pub record HeaderShown (d : DriveFields) (rows spans audit : ℕ) (h : Header) : Type 0 where
  pub frames : h.frames ≡ length d.store.table.seat.frames
  pub clock : h.clock ≡ (state_in d).clock
  pub window : h.window ≡ (state_in d).window
  pub floor : h.floor ≡ (state_in d).floor
  pub next : h.next ≡ (state_in d).next
  pub row_count : h.rows ≡ rows
  pub span_count : h.spans ≡ spans
  pub audit_count : h.audit ≡ audit
  pub clock_fits : (state_in d).clock < 2 ^ 64
  pub window_fits : (state_in d).window < 2 ^ 64
  pub next_fits : (state_in d).next < 2 ^ 64
  pub audit_fits : audit < 2 ^ 64

same_header : (h k : Header) → h.frames ≡ k.frames → h.clock ≡ k.clock → h.window ≡ k.window → h.floor ≡ k.floor → h.next ≡ k.next → h.rows ≡ k.rows → h.spans ≡ k.spans → h.audit ≡ k.audit → h ≡ k
same_header h k frames clock window floor next rows spans audit =
    ap (λ n. record { frames = n; clock = h.clock; window = h.window; floor = h.floor; next = h.next; rows = h.rows; spans = h.spans; audit = h.audit }) frames
    ∙ ap (λ n. record { frames = k.frames; clock = n; window = h.window; floor = h.floor; next = h.next; rows = h.rows; spans = h.spans; audit = h.audit }) clock
    ∙ ap (λ n. record { frames = k.frames; clock = k.clock; window = n; floor = h.floor; next = h.next; rows = h.rows; spans = h.spans; audit = h.audit }) window
    ∙ ap (λ n. record { frames = k.frames; clock = k.clock; window = k.window; floor = n; next = h.next; rows = h.rows; spans = h.spans; audit = h.audit }) floor
    ∙ ap (λ n. record { frames = k.frames; clock = k.clock; window = k.window; floor = k.floor; next = n; rows = h.rows; spans = h.spans; audit = h.audit }) next
    ∙ ap (λ n. record { frames = k.frames; clock = k.clock; window = k.window; floor = k.floor; next = k.next; rows = n; spans = h.spans; audit = h.audit }) rows
    ∙ ap (λ n. record { frames = k.frames; clock = k.clock; window = k.window; floor = k.floor; next = k.next; rows = k.rows; spans = n; audit = h.audit }) spans
    ∙ ap (λ n. record { frames = k.frames; clock = k.clock; window = k.window; floor = k.floor; next = k.next; rows = k.rows; spans = k.spans; audit = n }) audit

-- a store's rows ascend and are as an image's
abbrev pub Stand : Type 0
Stand = (used : Place → Option Stored) (s : StoreFields) (low clock : ℕ) → IsStore s → s.latest ≤ clock → HoldsUsed used s.log.held → ObjectsAscend low s.rows → RowsStand used (saved_rows s.rows) clock

abbrev pub Ascending : Type 0
Ascending = (used : Place → Option Stored) (s : StoreFields) (low clock : ℕ) → IsStore s → s.latest ≤ clock → HoldsUsed used s.log.held → ObjectsAscend low s.rows → RowsAscend clock 0 0 (saved_rows s.rows)

-- the parts, one after the other, are the front of an image
pub front_written : (image : Image) (h : Header) (out : List ℕ) → h ≡ header_of image
    → out ≡ (((([] ++ header_bytes h) ++ flat_map frame_bytes image.frames) ++ flat_map row_bytes image.rows) ++ flat_map span_bytes image.spans) ++ flat_map audit_bytes image.audit → out ≡ front_bytes image
unfolding front_bytes front_bytes_by header_bytes
front_written image h out same is =
    let header = header_bytes h in
    let frames = flat_map frame_bytes image.frames in
    let rows = flat_map row_bytes image.rows in
    let spans = flat_map span_bytes image.spans in
    let audit = flat_map audit_bytes image.audit in
    is ∙ append_assoc ((header ++ frames) ++ rows) spans audit ∙ append_assoc (header ++ frames) rows (spans ++ audit) ∙ append_assoc header frames (rows ++ (spans ++ audit))
    ∙ ap (λ (x : Header). header_bytes x ++ (frames ++ (rows ++ (spans ++ audit)))) same

pub saves : (d : DriveFields) (rows : List RowPart) (spans : List Span) (audit : List AuditRow) (h : Header) (after out : List ℕ) → CheckpointLaws → Stand → Ascending → Shown d → AreSaved d.store.rows rows → SpansShown d spans → AuditShown d audit → HeaderShown d (length rows) (length spans) (length audit) h
    → AddsFrames d.store.table ([] ++ header_bytes h) after → out ≡ ((after ++ flat_map row_bytes rows) ++ flat_map span_bytes spans) ++ flat_map audit_bytes (map audit_part audit) → SpellsSaved d (out ++ sha256 out)
unfolding image_bytes image_bytes_by front_bytes
saves d rows spans audit h after out checkpoints stand ascending shown saved seen audited head adds parts =
    let s : State = state_in d in
    let t : Table = d.store.table in
    let image : Image = record { clock = s.clock; window = s.window; floor = s.floor; next = s.next; frames = adds.frames; rows = rows; spans = spans; audit = map audit_part audit } in
    let frames : length t.seat.frames ≡ length adds.frames = adds.table.frame_count in
    let counted : length (map audit_part audit) ≡ length audit = length-map audit audit_part in
    let same : h ≡ header_of image = same_header h (header_of image) (head.frames ∙ frames) head.clock head.window head.floor head.next head.row_count head.span_count (head.audit_count ∙ sym counted) in
    let listed : StoreFields = record { rows = saved.rows; log = log_of t; latest = d.store.latest } in
    let store : IsStore listed = listed_store (store_of d) saved.rows shown.store saved.listed in
    let few : length rows ≤ 2 ^ 20 = few_parts checkpoints d rows shown.store saved in
    let fronted : out ≡ front_bytes image = front_written image h out same (parts ∙ ap (λ l. ((l ++ flat_map row_bytes rows) ++ flat_map span_bytes spans) ++ flat_map audit_bytes (map audit_part audit)) adds.bytes) in
    let header : KeepsHeaderRules (header_of image) = record {
      frames = subst IsFrameCount frames shown.count;
      window = shown.sound.reached;
      floor = shown.sound.floor_reached;
      next = shown.sound.numbered;
      given = omega (arith, shown.sound.given);
      audit = tt;
    } in
    record {
      image = image;
      spelled = record {
        parts = record {
          is = record {
            clock = head.clock_fits;
            window = head.window_fits;
            next = head.next_fits;
            frames = adds.is;
            rows = saved.is;
            spans = are_spans s.clock s.next spans head.clock_fits head.next_fits seen.ordered seen.past seen.given;
            row_count = omega arith;
            audit = all_mapped audit audited.fit;
            audit_count = omega (arith, counted, head.audit_fits);
          };
          rules = record {
            header = header;
            frames = adds.rules;
            spans = spans_keep_rules (header_of image) spans seen.ordered seen.from_floor seen.past seen.given seen.few seen.few_in_each_list;
            rows = follow (header_of image) (store_of d) 0 0 0 0 rows saved.rows refl refl shown.unborn
                (ascending (used_at t) listed 1 s.clock store shown.past shown.used saved.ascending) saved.spelled
                (of_store (store_of d) saved.rows shown.store saved.ascending saved.listed);
          };
          spelled = ap (λ (l : List ℕ). l ++ sha256 l) fronted;
        };
        chains = record {
          table = t;
          frames = adds.table;
          rows = saved_rows saved.rows;
          spelled = saved.spelled;
          stand = stand (used_at t) listed 1 s.clock store shown.past shown.used saved.ascending;
        };
        audit = record { rows = audit; spelled = refl; kept = audited.kept };
      };
      saved = record {
        clock = refl;
        window = refl;
        floor = refl;
        next = refl;
        frames = adds.table;
        rows = saved.rows;
        ascending = saved.ascending;
        listed = saved.listed;
        spelled = saved.spelled;
        spans = seen.alike;
        audit = ap (map audit_part) audited.is;
      };
    }

-- ---- number 0 is no object's

pub no_row_0 : (d : DriveFields) → IsStore (store_of d) → row_of d.store.rows 0 ≡ None
no_row_0 d store = no_row_of_0 (store_of d) (row_of d.store.rows 0) refl store
