-- The new image, put together of its parts.
use Rattle.std.proofs.Common.{◌≡◌, ℕ, suc, ◌+◌, ◌≤◌, List, [], ◌∷◌, length, Option, Some, None, inl, inr, refl, sym, ap, subst, ◌∙◌, arith}
use Rattle.std.specs.Prelude.{MatchOption}
use Rattle.std.specs.Int.{w64}
use Rattle.std.specs.List.{AllByRecursion}
use Rattle.s4_types.specs.Pointer.{Place}
use Rattle.s4_types.specs.Sizes.{IsFrameCount}
use Rattle.s4_types.specs.declared.spans.Span.{Span}
use Rattle.block_log.specs.Log.{Stored}
use Rattle.codec.specs.Fields.{number, SpellsSlot}
use Rattle.codec.specs.declared.versions.ImageVersion.{ImageVersion}
use Rattle.image_parts.specs.declared.audit.AuditPart.{AuditPart}
use Rattle.image_parts.specs.declared.marks.ImageMark.{ImageMark}
use Rattle.image_parts.specs.declared.marks.ImageMark.TheVariants.{Third}
use Rattle.object_map.specs.declared.map.Row.{Row}
use Rattle.time_read.specs.Orderly.{IsFromTo}
use Rattle.segment_table.specs.Table.{Table}
use Rattle.segment_table.specs.Used.{used_at}
use Rattle.image_parts.specs.Frames.{FrameFields}
use Rattle.image_parts.specs.Image.{Image, header_of, image_bytes, image_bytes_by}
use Rattle.image_parts.specs.Rows.{RowsFollow}
use Rattle.image_parts.specs.Spans.{IsSpan, KeepsSpanRules, KeepSpanRules, SpansFollow, SpansKeep}
use Rattle.image_parts.specs.declared.headers.Header.{Header}
use Rattle.image_parts.specs.declared.rows.RowPart.{RowPart}
use Rattle.image_objects.specs.declared.rows.ImageRow.{ImageRow}
use Rattle.image_objects.specs.Rows.{RowsStand}
use Rattle.verifier.specs.Grammar.{SpellsDrive}
use Rattle.verifier.specs.Rows.{SpellRows}
use Rattle.verifier.proofs.SavedWhole.{no_pointer}
use Rattle.earlier_images.specs.Images.{EarlierFields}
use Rattle.earlier_images.specs.Used.{used_in}
use Rattle.migration.specs.Rows.{AscendAbove}
use Rattle.migration.specs.Migrated.{rows_then}
use Rattle.migration.specs.private.Written.{AreBytesOf, IsSource, MayHaveAudit}
use Rattle.migration.proofs.Then.{AreThen}

-- ---- what the old rows keep

pub rows_ascend : (h : Header) (object created o made : ℕ) (parts : List RowPart) (rows : List ImageRow) → o ≡ object → made ≡ created → RowsFollow h object created parts → SpellRows parts rows
    → AscendAbove o rows × AllByRecursion (λ row. IsFromTo 1 h.clock row.created) rows
rows_ascend h object created o made [] [] same_object same_made follow spelled = (tt, tt)
rows_ascend h object created o made [] (row ∷ rows) same_object same_made follow spelled = absurd spelled
rows_ascend h object created o made (part ∷ parts) [] same_object same_made follow spelled = absurd spelled
rows_ascend h object created o made (part ∷ parts) (row ∷ rows) same_object same_made follow spelled =
    let is_object : row.object ≡ part.object = spelled.0.object in
    let is_created : row.created ≡ part.created = spelled.0.created in
    let above = follow.0.ascends in
    let later = follow.0.later in
    let past = follow.0.made in
    let rest = rows_ascend h part.object part.created row.object row.created parts rows is_object is_created follow.1 spelled.1 in
    ((omega (arith, same_object, is_object, above), rest.0), ((omega (arith, is_created, later), omega (arith, is_created, past)), rest.1))

pub as_many_rows : (parts : List RowPart) (rows : List ImageRow) → SpellRows parts rows → length rows ≡ length parts
as_many_rows [] [] spelled = refl
as_many_rows [] (row ∷ rows) spelled = absurd spelled
as_many_rows (part ∷ parts) [] spelled = absurd spelled
as_many_rows (part ∷ parts) (row ∷ rows) spelled = ap suc (as_many_rows parts rows spelled.1)

-- ---- the rules of the new parts

span_kept : (h k : Header) (s : Span) → h.next ≡ k.next → h.floor ≡ k.floor → h.clock ≡ k.clock → KeepsSpanRules h s → KeepsSpanRules k s
span_kept h k s next floor clock rules = let given = rules.given in let from = rules.floor in let past = rules.clock in record {
  given = omega (arith, next, given);
  floor = omega (arith, floor, from);
  order = rules.order;
  clock = omega (arith, clock, past);
}

spans_follow : (h k : Header) (before : Span) (nth : ℕ) (spans : List Span) → h.next ≡ k.next → h.floor ≡ k.floor → h.clock ≡ k.clock → SpansFollow h before nth spans → SpansFollow k before nth spans
spans_follow h k before nth [] next floor clock follow = tt
spans_follow h k before nth (s ∷ spans) next floor clock (rules, inl begins) = (span_kept h k s next floor clock rules, inl (begins.0, spans_follow h k s 1 spans next floor clock begins.1))
spans_follow h k before nth (s ∷ spans) next floor clock (rules, inr goes) = (span_kept h k s next floor clock rules, inr (goes.0, spans_follow h k s (nth + 1) spans next floor clock goes.1))

pub spans_keep : (h k : Header) (spans : List Span) → h.next ≡ k.next → h.floor ≡ k.floor → h.clock ≡ k.clock → SpansKeep h spans → SpansKeep k spans
spans_keep h k [] next floor clock keep = tt
spans_keep h k (s ∷ spans) next floor clock (rules, follow) = (span_kept h k s next floor clock rules, spans_follow h k s 1 spans next floor clock follow)

hole : (n m : ℕ) (none : Type 0) (kept : Place → Type 0) (q : Option Place) → SpellsSlot (number w64 n) q → MatchOption q ((m ≡ 0) × none) kept → n ≡ 0 → m ≡ 0
hole n m none kept None spells known is = known.0
hole n m none kept (Some p) spells known is = absurd (no_pointer p spells.0 (ap (number w64) (sym is) ∙ spells.1))

pub new_follow : (v : ImageVersion) (used newer : Place → Option Stored) (time : ℕ) (h k : Header) (object created o made : ℕ) (parts next : List RowPart) (rows : List ImageRow) (laters : List Row)
    → h.next ≡ k.next → h.clock ≡ k.clock → o ≡ object → made ≡ created → RowsFollow h object created parts → SpellRows parts rows → SpellRows next (rows_then rows laters) → AreThen v used newer rows laters time → RowsFollow k o made next
new_follow v used newer time h k object created o made [] [] [] [] same_next same_clock same_object same_made follow was is are = tt
new_follow v used newer time h k object created o made [] (n ∷ next) [] [] same_next same_clock same_object same_made follow was is are = absurd is
new_follow v used newer time h k object created o made [] next (row ∷ rows) laters same_next same_clock same_object same_made follow was is are = absurd was
new_follow v used newer time h k object created o made (part ∷ parts) next [] laters same_next same_clock same_object same_made follow was is are = absurd was
new_follow v used newer time h k object created o made [] next [] (later ∷ laters) same_next same_clock same_object same_made follow was is are = absurd are
new_follow v used newer time h k object created o made (part ∷ parts) next (row ∷ rows) [] same_next same_clock same_object same_made follow was is are = absurd are
new_follow v used newer time h k object created o made (part ∷ parts) [] (row ∷ rows) (later ∷ laters) same_next same_clock same_object same_made follow was is are = absurd is
new_follow v used newer time h k object created o made (part ∷ parts) (n ∷ next) (row ∷ rows) (later ∷ laters) same_next same_clock same_object same_made follow was is are =
    let was_object : row.object ≡ part.object = was.0.object in
    let was_created : row.created ≡ part.created = was.0.created in
    let is_object : row.object ≡ n.object = is.0.object in
    let is_created : later.created ≡ n.created = is.0.created in
    let is_moment : later.checkpoint_moment ≡ n.checkpoint_moment = is.0.checkpoint_moment in
    let kept : later.created ≡ row.created = are.0.created in
    let rules = follow.0 in
    let ascends = rules.ascends in
    let later_made = rules.later in
    let given = rules.given in
    let past = rules.made in (
      record {
        ascends = omega (arith, same_object, was_object, is_object, ascends);
        later = omega (arith, same_made, was_created, is_created, kept, later_made);
        given = omega (arith, same_next, was_object, is_object, given);
        made = omega (arith, same_clock, was_created, is_created, kept, past);
        hole = λ zeros. sym is_moment ∙ hole n.checkpoint later.checkpoint_moment _ _ later.checkpoint is.0.checkpoint are.0.stands.versions.beginning zeros;
      },
      new_follow v used newer time h k part.object part.created n.object n.created parts next rows laters same_next same_clock (sym is_object ∙ was_object) (sym is_created ∙ kept ∙ was_created) follow.1 was.1 is.1 are.1,
    )

pub as_many_then : (parts : List RowPart) (rows : List ImageRow) (laters : List Row) → SpellRows parts (rows_then rows laters) → length parts ≤ length rows
as_many_then [] rows laters spelled = omega arith
as_many_then (part ∷ parts) [] laters spelled = absurd spelled
as_many_then (part ∷ parts) (row ∷ rows) [] spelled = absurd spelled
as_many_then (part ∷ parts) (row ∷ rows) (later ∷ laters) spelled = let rest = as_many_then parts rows laters spelled.1 in omega (arith, rest)

-- ---- the whole

-- the image that the parts are
abbrev pub image_written : EarlierFields → List AuditPart → List FrameFields → List RowPart → Image
image_written old audit frames parts = record { clock = old.clock; window = old.window; floor = old.floor; next = old.next; frames = frames; rows = parts; spans = old.spans; audit = audit }

spelled_by : (image : Image) (bytes : List ℕ) → bytes ≡ image_bytes image → bytes ≡ image_bytes_by Third image
unfolding image_bytes
spelled_by image bytes is = is

pub spells : (mark : ImageMark) (new : List ℕ) (was : Image) (old : EarlierFields) (audit : List AuditPart) (t : Table) (laters : List Row) → IsSource mark was old → MayHaveAudit old audit → IsFrameCount (length t.seat.frames)
    → AreThen old.version (used_in old.frames) (used_at t) old.rows laters old.clock → RowsStand (used_at t) (rows_then old.rows laters) old.clock → (parts : AreBytesOf old audit t laters new)
    → SpellsDrive new (image_written old audit parts.frames parts.parts)
spells mark new was old audit t laters source may count are stand parts =
    let image : Image = image_written old audit parts.frames parts.parts in
    let of = source.of in
    let numbers = source.is in
    let before = source.rules.header in
    let clock_fits = numbers.clock in
    let window_fits = numbers.window in
    let next_fits = numbers.next in
    let few = numbers.row_count in
    let window = before.window in
    let floor = before.floor in
    let next = before.next in
    let given = before.given in
    let as_many = as_many_rows was.rows old.rows of.spelled in
    let most = as_many_then parts.parts old.rows laters parts.rows.spelled in
    let frames : length t.seat.frames ≡ length parts.frames = parts.table.frame_count in
    record {
      parts = record {
        is = record {
          clock = omega (arith, clock_fits, of.clock);
          window = omega (arith, window_fits, of.window);
          next = omega (arith, next_fits, of.next);
          frames = parts.are_frames;
          rows = parts.rows.are;
          spans = subst (λ (s : List Span). AllByRecursion IsSpan s) (sym of.spans) numbers.spans;
          row_count = omega (arith, few, as_many, most);
          audit = may.are;
          audit_count = may.count;
        };
        rules = record {
          header = record {
            frames = subst IsFrameCount frames count;
            window = omega (arith, window, of.clock, of.window, of.floor);
            floor = omega (arith, floor, of.clock, of.floor);
            next = omega (arith, next, of.next);
            given = omega (arith, given, of.next, of.clock);
            audit = tt;
          };
          frames = parts.rules;
          spans = subst (λ (s : List Span). KeepSpanRules (header_of image) s) (sym of.spans) (record { each = spans_keep (header_of was) (header_of image) was.spans (sym of.next) (sym of.floor) (sym of.clock) source.rules.spans.each; few = source.rules.spans.few });
          rows = new_follow old.version (used_in old.frames) (used_at t) old.clock (header_of was) (header_of image) 0 0 0 0 was.rows parts.parts old.rows laters (sym of.next) (sym of.clock) refl refl source.rules.rows of.spelled parts.rows.spelled are;
        };
        spelled = spelled_by image new parts.bytes_are;
      };
      chains = record {
        table = t;
        frames = parts.table;
        rows = rows_then old.rows laters;
        spelled = parts.rows.spelled;
        stand = stand;
      };
      audit = record { rows = may.rows; spelled = may.spelled; kept = may.kept };
    }
