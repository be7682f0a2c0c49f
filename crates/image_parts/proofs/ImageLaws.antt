-- Bytes that no test refuses encode the image that is read from them, and what encodes an image is read as that image.
use Rattle.std.proofs.Common.{◌≡◌, ℕ, ◌+◌, ◌-◌, ◌*◌, ◌≤◌, List, ◌++◌, length, take, drop, None, refl, sym, ap, subst, ◌∙◌, arith, inl, inr, append_assoc, length-append, length-drop}
use Rattle.std.specs.List.{flat_map}
use Rattle.std.proofs.Math.Seq.{take-add}
use Rattle.std.proofs.lemmas.List.{take-append-drop, take_at, drop_at}
use Rattle.sha2.specs.Sha256.{sha256}
use Rattle.s4_types.specs.declared.spans.Span.{Span}
use Rattle.lemmas.proofs.Bytes.{bytes_after, IsBytes}
use Rattle.image_parts.specs.Header.{header_bytes_by, header_in, KeepsHeaderRulesBy, HasHeaderBy}
use Rattle.image_parts.specs.declared.marks.ImageMark.{ImageMark}
use Rattle.codec.proofs.SummaryLaws.{digest_length}
use Rattle.image_parts.specs.Frames.{FrameFields, frame_bytes, frames_in, frames_length, KeepFrameRulesBy}
use Rattle.image_parts.specs.Rows.{row_bytes, rows_in, KeepRowRules}
use Rattle.image_parts.specs.Spans.{span_bytes, spans_in, KeepSpanRules}
use Rattle.image_parts.specs.Audit.{audit_bytes, audits_in}
use Rattle.image_parts.specs.Marks.{records_of}
use Rattle.image_parts.specs.declared.audit.AuditPart.{AuditPart}
use Rattle.image_parts.specs.Image.{Image, IsImage, KeepsRulesBy, SpellsImageBy, header_of, front_bytes_by, image_bytes_by, image_in, behind_header, behind_frames, behind_rows, behind_spans}
use Rattle.image_parts.specs.Causes.{IsLong, IsFilled, HasDigest, FirstCauseBy}
use Rattle.image_parts.specs.declared.headers.Header.{Header}
use Rattle.image_parts.specs.declared.rows.RowPart.{RowPart}
use Rattle.image_parts.proofs.CauseLaws.{all_hold}
use Rattle.image_parts.proofs.NumberLaws.{long_below, word_below}
use Rattle.image_parts.proofs.HeaderLaws.{IsHeader, header_again, header_length}
use Rattle.image_parts.proofs.FrameLists.{frames_count}
use Rattle.image_parts.proofs.FrameLaws.{AllRead, frames_back, frames_are, frames_again}
use Rattle.image_parts.proofs.RowLists.{rows_count, spans_count}
use Rattle.image_parts.proofs.AuditLaws.{audits_count, audits_back, audits_are, audits_again, audits_length}
use Rattle.image_parts.proofs.RowLaws.{rows_back, rows_are, rows_again, rows_length, spans_back, spans_are, spans_again, spans_length}

-- ---- bytes that no test refuses

-- what all tests say
pub record AllHold (v : ImageMark) (bytes : List ℕ) : Type 0 where
  pub long : IsLong bytes
  pub header : HasHeaderBy v bytes
  pub filled : IsFilled bytes
  pub digest : HasDigest bytes
  pub frames : KeepFrameRulesBy (records_of v) (image_in bytes).frames
  pub spans : KeepSpanRules (header_in bytes) (image_in bytes).spans
  pub rows : KeepRowRules (header_in bytes) (image_in bytes).rows

pub they_hold : (v : ImageMark) (bytes : List ℕ) → FirstCauseBy v bytes None → AllHold v bytes
they_hold v bytes (inl (bad, e)) = absurd cc
they_hold v bytes (inr (long, inl (bad, e))) = absurd cc
they_hold v bytes (inr (long, inr (header, inl (bad, e)))) = absurd cc
they_hold v bytes (inr (long, inr (header, inr (filled, inl (bad, e))))) = absurd cc
they_hold v bytes (inr (long, inr (header, inr (filled, inr (digest, inl (bad, e)))))) = absurd cc
they_hold v bytes (inr (long, inr (header, inr (filled, inr (digest, inr (frames, inl (bad, e))))))) = absurd cc
they_hold v bytes (inr (long, inr (header, inr (filled, inr (digest, inr (frames, inr (spans, inl (bad, e)))))))) = absurd cc
they_hold v bytes (inr (long, inr (header, inr (filled, inr (digest, inr (frames, inr (spans, inr (rows, e)))))))) =
    record { long = long; header = header; filled = filled; digest = digest; frames = frames; spans = spans; rows = rows }

-- five parts one after the other
five : (a b c d e : ℕ) (bytes : List ℕ) → take a bytes ++ (take b (drop a bytes) ++ (take c (drop b (drop a bytes)) ++ (take d (drop c (drop b (drop a bytes))) ++ take e (drop d (drop c (drop b (drop a bytes))))))) ≡ take (a + (b + (c + (d + e)))) bytes
five a b c d e bytes =
    let one = drop a bytes in
    let two = drop b one in
    let three = drop c two in
    let last : take d three ++ take e (drop d three) ≡ take (d + e) three = sym (take-add d e three) in
    let later : take c two ++ take (d + e) three ≡ take (c + (d + e)) two = sym (take-add c (d + e) two) in
    let middle : take b one ++ take (c + (d + e)) two ≡ take (b + (c + (d + e))) one = sym (take-add b (c + (d + e)) one) in
    rw (last, later, middle) (sym (take-add a (b + (c + (d + e))) bytes))

-- the parts fit the bytes
record PartsFit (bytes : List ℕ) : Type 0 where
  frames : frames_length (header_in bytes).frames (behind_header bytes) ≤ length (behind_header bytes)
  rows : 40 * (header_in bytes).rows ≤ length (behind_frames bytes)
  spans : 24 * (header_in bytes).spans ≤ length (behind_rows bytes)
  audit : 33 * (header_in bytes).audit ≤ length (behind_spans bytes)
  whole : length bytes - 32 ≡ 512 + (frames_length (header_in bytes).frames (behind_header bytes) + (40 * (header_in bytes).rows + (24 * (header_in bytes).spans + 33 * (header_in bytes).audit)))

parts_fit : (bytes : List ℕ) → IsFilled bytes → PartsFit bytes
parts_fit bytes filled =
    let size = frames_length (header_in bytes).frames (behind_header bytes) in
    let rows = 40 * (header_in bytes).rows in
    let spans = 24 * (header_in bytes).spans in
    let audit = 33 * (header_in bytes).audit in
    let first : length (behind_header bytes) ≡ length bytes - 512 = length-drop 512 bytes in
    let second : length (behind_frames bytes) ≡ length (behind_header bytes) - size = length-drop size (behind_header bytes) in
    let third : length (behind_rows bytes) ≡ length (behind_frames bytes) - rows = length-drop rows (behind_frames bytes) in
    let fourth : length (behind_spans bytes) ≡ length (behind_rows bytes) - spans = length-drop spans (behind_rows bytes) in
    let all : length bytes ≡ 512 + size + rows + spans + audit + 32 = filled in
    record {
      frames = omega (arith, first, all);
      rows = omega (arith, first, second, all);
      spans = omega (arith, first, second, third, all);
      audit = omega (arith, first, second, third, fourth, all);
      whole = omega (arith, all);
    }

pub counted : (bytes : List ℕ) → header_of (image_in bytes) ≡ header_in bytes
unfolding image_in
counted bytes =
    rw (
      frames_count (header_in bytes).frames (behind_header bytes),
      rows_count (header_in bytes).rows (behind_frames bytes),
      spans_count (header_in bytes).spans (behind_rows bytes),
      audits_count (header_in bytes).audit (behind_spans bytes),
    ) refl

module _ (v : ImageMark) (bytes : List ℕ) (h : IsBytes bytes) (header : HasHeaderBy v bytes) (fit : PartsFit bytes) where
  front_is : front_bytes_by v (image_in bytes) ≡ take (length bytes - 32) bytes
  unfolding front_bytes_by image_in
  front_is =
      let size = frames_length (header_in bytes).frames (behind_header bytes) in
      let rows = 40 * (header_in bytes).rows in
      let spans = 24 * (header_in bytes).spans in
      let audit = 33 * (header_in bytes).audit in
      let b1 = bytes_after 512 bytes h in
      let b2 = bytes_after size (behind_header bytes) b1 in
      let b3 = bytes_after rows (behind_frames bytes) b2 in
      let b4 = bytes_after spans (behind_rows bytes) b3 in
      let head : header_bytes_by v (header_of (image_in bytes)) ≡ take 512 bytes = ap (header_bytes_by v) (counted bytes) ∙ sym header.spelled in
      let first = frames_back (header_in bytes).frames (behind_header bytes) b1 fit.frames in
      let second = rows_back (header_in bytes).rows (behind_frames bytes) b2 fit.rows in
      let third = spans_back (header_in bytes).spans (behind_rows bytes) b3 fit.spans in
      let fourth = audits_back (header_in bytes).audit (behind_spans bytes) b4 fit.audit in
      rw (head, first, second, third, fourth, fit.whole) (five 512 size rows spans audit bytes)

  image_is : IsImage (image_in bytes)
  unfolding image_in header_in
  image_is =
      let size = frames_length (header_in bytes).frames (behind_header bytes) in
      let rows = 40 * (header_in bytes).rows in
      let b1 = bytes_after 512 bytes h in
      let b2 = bytes_after size (behind_header bytes) b1 in
      let b3 = bytes_after rows (behind_frames bytes) b2 in
      let b4 = bytes_after (24 * (header_in bytes).spans) (behind_rows bytes) b3 in
      record {
        clock = long_below (drop 16 bytes) (bytes_after 16 bytes h);
        window = long_below (drop 24 bytes) (bytes_after 24 bytes h);
        next = long_below (drop 40 bytes) (bytes_after 40 bytes h);
        frames = frames_are (header_in bytes).frames (behind_header bytes) b1 fit.frames;
        rows = rows_are (header_in bytes).rows (behind_frames bytes) b2;
        spans = spans_are (header_in bytes).spans (behind_rows bytes) b3;
        row_count = omega (arith, word_below (drop 48 bytes) (bytes_after 48 bytes h), rows_count (header_in bytes).rows (behind_frames bytes));
        audit = audits_are (header_in bytes).audit (behind_spans bytes) b4;
        audit_count = omega (arith, long_below (drop 56 bytes) (bytes_after 56 bytes h), audits_count (header_in bytes).audit (behind_spans bytes));
      }

spelled_by : (bytes front : List ℕ) → HasDigest bytes → front ≡ take (length bytes - 32) bytes → bytes ≡ front ++ sha256 front
spelled_by bytes front digest is =
    let n = length bytes - 32 in
    sym (take-append-drop n bytes) ∙ ap (λ (d : List ℕ). take n bytes ++ d) digest ∙ ap (λ (f : List ℕ). f ++ sha256 f) (sym is)

pub found : (v : ImageMark) (bytes : List ℕ) → IsBytes bytes → FirstCauseBy v bytes None → SpellsImageBy v bytes (image_in bytes)
unfolding image_bytes_by
found v bytes h none =
    let all = they_hold v bytes none in
    let fit = parts_fit bytes all.filled in
    let same = sym (counted bytes) in
    record {
      is = image_is v bytes h all.header fit;
      rules = record {
        header = subst (KeepsHeaderRulesBy v) same all.header.rules;
        frames = all.frames;
        spans = subst (λ (k : Header). KeepSpanRules k (image_in bytes).spans) same all.spans;
        rows = subst (λ (k : Header). KeepRowRules k (image_in bytes).rows) same all.rows;
      };
      spelled = spelled_by bytes (front_bytes_by v (image_in bytes)) all.digest (front_is v bytes h all.header fit);
    }

-- ---- bytes that encode an image

abbrev behind_audit : ImageMark → Image → List ℕ
behind_audit v image = sha256 (front_bytes_by v image)

abbrev from_audit : ImageMark → Image → List ℕ
from_audit v image = flat_map audit_bytes image.audit ++ behind_audit v image

abbrev from_spans : ImageMark → Image → List ℕ
from_spans v image = flat_map span_bytes image.spans ++ from_audit v image

abbrev from_rows : ImageMark → Image → List ℕ
from_rows v image = flat_map row_bytes image.rows ++ from_spans v image

abbrev from_frames : ImageMark → Image → List ℕ
from_frames v image = flat_map frame_bytes image.frames ++ from_rows v image

regrouped : (v : ImageMark) (image : Image) → image_bytes_by v image ≡ header_bytes_by v (header_of image) ++ from_frames v image
unfolding image_bytes_by front_bytes_by
regrouped v image =
    let a = flat_map frame_bytes image.frames in
    let b = flat_map row_bytes image.rows in
    let c = flat_map span_bytes image.spans in
    let d = flat_map audit_bytes image.audit in
    let e = sha256 (front_bytes_by v image) in
    append_assoc (header_bytes_by v (header_of image)) (a ++ (b ++ (c ++ d))) e
    ∙ ap (λ (t : List ℕ). header_bytes_by v (header_of image) ++ t) (append_assoc a (b ++ (c ++ d)) e
    ∙ ap (λ (t : List ℕ). a ++ t) (append_assoc b (c ++ d) e ∙ ap (λ (t : List ℕ). b ++ t) (append_assoc c d e)))

made : ℕ → ℕ → ℕ → ℕ → List FrameFields → List RowPart → List Span → List AuditPart → Image
made clock window floor next frames rows spans audit = record { clock = clock; window = window; floor = floor; next = next; frames = frames; rows = rows; spans = spans; audit = audit }

same : (a b c d a' b' c' d' : ℕ) (f f' : List FrameFields) (r r' : List RowPart) (s s' : List Span) (n n' : List AuditPart) → a ≡ a' → b ≡ b' → c ≡ c' → d ≡ d' → f ≡ f' → r ≡ r' → s ≡ s' → n ≡ n' → made a b c d f r s n ≡ made a' b' c' d' f' r' s' n'
same a b c d a' b' c' d' f f' r r' s s' n n' p q t u v w x y = cc

header_numbers : (v : ImageMark) (image : Image) → IsImage image → KeepsRulesBy v image → IsHeader (header_of image)
header_numbers v image is rules = record {
  frames = omega (arith, rules.header.frames.1);
  clock = is.clock;
  window = is.window;
  floor = omega (arith, rules.header.floor, is.clock);
  next = is.next;
  rows = is.row_count;
  spans = omega (arith, rules.spans.few);
  audit = is.audit_count;
}

module _ (v : ImageMark) (bytes : List ℕ) (image : Image) (is : IsImage image) (rules : KeepsRulesBy v image) (e : bytes ≡ header_bytes_by v (header_of image) ++ from_frames v image) where
  header_is : header_in bytes ≡ header_of image
  header_is = ap header_in e ∙ header_again v (header_of image) (from_frames v image) (header_numbers v image is rules)

  first_is : behind_header bytes ≡ from_frames v image
  first_is = ap (λ (b : List ℕ). drop 512 b) e ∙ drop_at (header_bytes_by v (header_of image)) (from_frames v image) 512 (header_length v (header_of image))

  read : AllRead image.frames (from_frames v image)
  read = frames_again image.frames (from_rows v image) is.frames

  size_is : frames_length (header_in bytes).frames (behind_header bytes) ≡ length (flat_map frame_bytes image.frames)
  size_is = rw (header_is, first_is) read.size

  second_is : behind_frames bytes ≡ from_rows v image
  second_is = rw (size_is, first_is) (drop_at (flat_map frame_bytes image.frames) (from_rows v image) (length (flat_map frame_bytes image.frames)) refl)

  third_is : behind_rows bytes ≡ from_spans v image
  third_is = rw (second_is, header_is) (drop_at (flat_map row_bytes image.rows) (from_spans v image) (40 * length image.rows) (rows_length image.rows))

  fourth_is : behind_spans bytes ≡ from_audit v image
  fourth_is = rw (third_is, header_is) (drop_at (flat_map span_bytes image.spans) (from_audit v image) (24 * length image.spans) (spans_length image.spans))

  frames_same : frames_in (header_in bytes).frames (behind_header bytes) ≡ image.frames
  frames_same = rw (header_is, first_is) read.are

  rows_same : rows_in (header_in bytes).rows (behind_frames bytes) ≡ image.rows
  rows_same = rw (second_is, header_is) (rows_again image.rows (from_spans v image) is.rows)

  spans_same : spans_in (header_in bytes).spans (behind_rows bytes) ≡ image.spans
  spans_same = rw (third_is, header_is) (spans_again image.spans (from_audit v image) is.spans)

  audit_same : audits_in (header_in bytes).audit (behind_spans bytes) ≡ image.audit
  audit_same = rw (fourth_is, header_is) (audits_again image.audit (behind_audit v image) is.audit)

  image_same : image_in bytes ≡ image
  unfolding image_in made
  image_same =
      same _ _ _ _ image.clock image.window image.floor image.next _ image.frames _ image.rows _ image.spans _ image.audit
      (ap (λ (h : Header). h.clock) header_is) (ap (λ (h : Header). h.window) header_is) (ap (λ (h : Header). h.floor) header_is) (ap (λ (h : Header). h.next) header_is)
      frames_same rows_same spans_same audit_same

  length_is : length bytes ≡ 512 + length (flat_map frame_bytes image.frames) + 40 * length image.rows + 24 * length image.spans + 33 * length image.audit + 32
  length_is =
      let head = header_bytes_by v (header_of image) in
      let all : length bytes ≡ length (head ++ from_frames v image) = ap length e in
      omega (
        arith,
        all,
        length-append head (from_frames v image),
        header_length v (header_of image),
        length-append (flat_map frame_bytes image.frames) (from_rows v image),
        length-append (flat_map row_bytes image.rows) (from_spans v image),
        length-append (flat_map span_bytes image.spans) (from_audit v image),
        length-append (flat_map audit_bytes image.audit) (behind_audit v image),
        rows_length image.rows,
        spans_length image.spans,
        audits_length image.audit,
        digest_length (front_bytes_by v image),
      )

  filled : IsFilled bytes
  filled =
      let rows : (header_in bytes).rows ≡ length image.rows = ap (λ (h : Header). h.rows) header_is in
      let spans : (header_in bytes).spans ≡ length image.spans = ap (λ (h : Header). h.spans) header_is in
      let audit : (header_in bytes).audit ≡ length image.audit = ap (λ (h : Header). h.audit) header_is in
      omega (arith, length_is, size_is, rows, spans, audit)

  has_header : HasHeaderBy v bytes
  has_header = record {
    spelled = ap (λ (b : List ℕ). take 512 b) e ∙ take_at (header_bytes_by v (header_of image)) (from_frames v image) 512 (header_length v (header_of image)) ∙ ap (header_bytes_by v) (sym header_is);
    rules = subst (KeepsHeaderRulesBy v) (sym header_is) rules.header;
  }

digest_of : (bytes front : List ℕ) → bytes ≡ front ++ sha256 front → HasDigest bytes
digest_of bytes front e =
    let len : length bytes - 32 ≡ length front = omega (arith, ap length e, length-append front (sha256 front), digest_length front) in
    let head : take (length bytes - 32) bytes ≡ front = rw len (ap (λ (b : List ℕ). take (length front) b) e ∙ take_at front (sha256 front) (length front) refl) in
    let tail : drop (length bytes - 32) bytes ≡ sha256 front = rw len (ap (λ (b : List ℕ). drop (length front) b) e ∙ drop_at front (sha256 front) (length front) refl) in
    tail ∙ ap sha256 (sym head)

pub again : (v : ImageMark) (bytes : List ℕ) (image : Image) → SpellsImageBy v bytes image → FirstCauseBy v bytes None × (image_in bytes ≡ image)
unfolding image_bytes_by
again v bytes image s =
    let e = s.spelled ∙ regrouped v image in
    let here = image_same v bytes image s.is s.rules e in
    let header = header_is v bytes image s.is s.rules e in
    let frames = subst (KeepFrameRulesBy (records_of v)) (sym (ap (λ (i : Image). i.frames) here)) s.rules.frames in
    let spans = subst (λ (h : Header). KeepSpanRules h (image_in bytes).spans) (sym header) (subst (KeepSpanRules (header_of image)) (sym (ap (λ (i : Image). i.spans) here)) s.rules.spans) in
    let rows = subst (λ (h : Header). KeepRowRules h (image_in bytes).rows) (sym header) (subst (KeepRowRules (header_of image)) (sym (ap (λ (i : Image). i.rows) here)) s.rules.rows) in
    let len = length_is v bytes image s.is s.rules e in
    (all_hold v bytes (omega (arith, len)) (has_header v bytes image s.is s.rules e) (filled v bytes image s.is s.rules e) (digest_of bytes (front_bytes_by v image) s.spelled) frames spans rows, here)

pub one_image : (v : ImageMark) (bytes : List ℕ) (a b : Image) → SpellsImageBy v bytes a → SpellsImageBy v bytes b → a ≡ b
one_image v bytes a b p q = sym (again v bytes a p).1 ∙ (again v bytes b q).1
