-- An image without some of its objects keeps the rules.
use Rattle.std.proofs.Common.{◌≡◌, ℕ, ◌≤◌, Bool, List, [], ◌∷◌, length, filter, inl, inr, refl, sym, ap, subst, ◌∙◌, arith}
use Rattle.std.specs.Prelude.{Option}
use Rattle.std.specs.List.{AllByRecursion}
use Rattle.std.proofs.lemmas.Bool.{cases_Bool, cond-true, cond-false}
use Rattle.std.proofs.lemmas.List.Elements.{All-filter, All-from_recursion, recursion_from_All}
use Rattle.s4_types.specs.Pointer.{Place}
use Rattle.block_log.specs.Log.{Stored}
use Rattle.codec.specs.Entry.{EntryFields}
use Rattle.codec.specs.declared.versions.ImageVersion.{ImageVersion}
use Rattle.codec.specs.declared.versions.ImageVersion.TheVariants.{Second}
use Rattle.image_parts.specs.declared.headers.Header.{Header}
use Rattle.image_parts.specs.declared.marks.ImageMark.TheVariants.{Third}
use Rattle.image_parts.specs.declared.rows.RowPart.{RowPart}
use Rattle.image_parts.specs.Image.{Image, IsImage, KeepsRulesBy, header_of}
use Rattle.image_parts.specs.Rows.{IsRow, RowsFollow}
use Rattle.version_store.specs.Across.{ShareNoMoment}
use Rattle.image_objects.specs.declared.rows.ImageRow.{ImageRow}
use Rattle.image_objects.specs.Moments.{ChainsShareNoMoment}
use Rattle.image_objects.specs.Versions.{ObjectStandsBy, RowsStandBy, entries_used_by}
use Rattle.verifier.specs.Rows.{SpellRows}
use Rattle.earlier_images.specs.Images.{EarlierFields, IsEarlierOf}
use Rattle.earlier_images.specs.Used.{used_in}
use Rattle.migration.specs.declared.copying.CopyAsked.{CopyAsked}
use Rattle.migration.specs.Copies.{rows_left, stays}
use Rattle.migration.specs.private.Left.{parts_left, with_left, with_parts_left}
use Rattle.migration.specs.private.Written.{IsSource}
use Rattle.migration.proofs.Whole.{as_many_rows, spans_keep}

-- ---- some of a list

all_left : {X : Type 0} (P : X → Type 0) (test : X → Bool) (xs : List X) → AllByRecursion P xs → AllByRecursion P (filter test xs)
all_left P test xs all = recursion_from_All P (filter test xs) (All-filter test P xs (All-from_recursion P xs all))

pub few_left : {X : Type 0} (test : X → Bool) (xs : List X) → length (filter test xs) ≤ length xs
few_left test [] = omega arith
few_left test (x ∷ xs) =
    let rest = few_left test xs in
    elim (cases_Bool (test x)) [
      | inl is ↦ let same = ap (λ l. length l) (cond-true (test x) (x ∷ filter test xs) (filter test xs) is) in omega (arith, rest, same)
      | inr not ↦ let same = ap (λ l. length l) (cond-false (test x) (x ∷ filter test xs) (filter test xs) not) in omega (arith, rest, same)
    ]

-- ---- rows in order

-- rows that come after some come after lower ones
follow_lower : (k : Header) (object created low early : ℕ) (parts : List RowPart) → low ≤ object → early ≤ created → RowsFollow k object created parts → RowsFollow k low early parts
follow_lower k object created low early [] below before follow = tt
follow_lower k object created low early (part ∷ parts) below before follow =
    let ascends = follow.0.ascends in
    let later = follow.0.later in (
      record {
        ascends = omega (arith, below, ascends);
        later = omega (arith, before, later);
        given = follow.0.given;
        made = follow.0.made;
        hole = follow.0.hole;
      },
      follow.1,
    )

follow_left : (h k : Header) (object created : ℕ) (test : RowPart → Bool) (parts : List RowPart) → h.next ≡ k.next → h.clock ≡ k.clock → RowsFollow h object created parts → RowsFollow k object created (filter test parts)
follow_left h k object created test [] next clock follow = tt
follow_left h k object created test (part ∷ parts) next clock follow =
    let rules = follow.0 in
    let given = rules.given in
    let made = rules.made in
    let ascends = rules.ascends in
    let later = rules.later in
    let rest : RowsFollow k part.object part.created (filter test parts) = follow_left h k part.object part.created test parts next clock follow.1 in
    let Follow : List RowPart → Type 0 = λ ps. RowsFollow k object created ps in
    elim (cases_Bool (test part)) [
      | inl is ↦ subst Follow (sym (cond-true (test part) (part ∷ filter test parts) (filter test parts) is)) (
        record {
          ascends = ascends;
          later = later;
          given = omega (arith, next, given);
          made = omega (arith, clock, made);
          hole = rules.hole;
        },
        rest,
      )
      | inr not ↦ subst Follow (sym (cond-false (test part) (part ∷ filter test parts) (filter test parts) not))
          (follow_lower k part.object part.created object created (filter test parts) (omega (arith, ascends)) (omega (arith, later)) rest)
    ]

-- ---- rows as they are encoded

spelled_left : (asked : CopyAsked) (parts : List RowPart) (rows : List ImageRow) → SpellRows parts rows → SpellRows (parts_left asked parts) (rows_left asked rows)
spelled_left asked [] [] spelled = tt
spelled_left asked [] (row ∷ rows) spelled = absurd spelled
spelled_left asked (part ∷ parts) [] spelled = absurd spelled
spelled_left asked (part ∷ parts) (row ∷ rows) spelled =
    let one : Bool = stays asked row.object row.created in
    let other : Bool = stays asked part.object part.created in
    let same : one ≡ other = ap (λ o. stays asked o row.created) spelled.0.object ∙ ap (λ c. stays asked part.object c) spelled.0.created in
    let rest = spelled_left asked parts rows spelled.1 in
    elim (cases_Bool one) [
      | inl is ↦ subst (λ (ps : List RowPart). SpellRows ps (rows_left asked (row ∷ rows))) (sym (cond-true other (part ∷ parts_left asked parts) (parts_left asked parts) (sym same ∙ is)))
          (subst (λ (rs : List ImageRow). SpellRows (part ∷ parts_left asked parts) rs) (sym (cond-true one (row ∷ rows_left asked rows) (rows_left asked rows) is)) (spelled.0, rest))
      | inr not ↦ subst (λ (ps : List RowPart). SpellRows ps (rows_left asked (row ∷ rows))) (sym (cond-false other (part ∷ parts_left asked parts) (parts_left asked parts) (sym same ∙ not)))
          (subst (λ (rs : List ImageRow). SpellRows (parts_left asked parts) rs) (sym (cond-false one (row ∷ rows_left asked rows) (rows_left asked rows) not)) rest)
    ]

-- ---- chains

apart_left : (chain : ImageRow → List EntryFields) (test : ImageRow → Bool) (rows : List ImageRow) → ChainsShareNoMoment chain rows → ChainsShareNoMoment chain (filter test rows)
apart_left chain test [] apart = tt
apart_left chain test (row ∷ rows) apart =
    let rest = apart_left chain test rows apart.1 in
    let Apart : List ImageRow → Type 0 = λ rs. ChainsShareNoMoment chain rs in
    elim (cases_Bool (test row)) [
      | inl is ↦ subst Apart (sym (cond-true (test row) (row ∷ filter test rows) (filter test rows) is)) (all_left (λ other. ShareNoMoment (chain row) (chain other)) test rows apart.0, rest)
      | inr not ↦ subst Apart (sym (cond-false (test row) (row ∷ filter test rows) (filter test rows) not)) rest
    ]

stand_left : (v : ImageVersion) (used : Place → Option Stored) (test : ImageRow → Bool) (rows : List ImageRow) (clock : ℕ) → RowsStandBy v used rows clock → RowsStandBy v used (filter test rows) clock
stand_left v used test rows clock stand = record {
  objects = all_left (λ row. ObjectStandsBy v used row clock) test rows stand.objects;
  apart = apart_left (entries_used_by v used) test rows stand.apart;
}

-- ---- the whole

is_left : (asked : CopyAsked) (was : Image) → IsImage was → IsImage (with_parts_left asked was)
is_left asked was is =
    let few = is.row_count in
    let fewer = few_left (λ (part : RowPart). stays asked part.object part.created) was.rows in
    record {
      clock = is.clock;
      window = is.window;
      next = is.next;
      frames = is.frames;
      rows = all_left IsRow (λ part. stays asked part.object part.created) was.rows is.rows;
      spans = is.spans;
      row_count = omega (arith, few, fewer);
      audit = is.audit;
      audit_count = is.audit_count;
    }

rules_left : (asked : CopyAsked) (was : Image) → KeepsRulesBy Third was → KeepsRulesBy Third (with_parts_left asked was)
rules_left asked was rules =
    let h : Header = header_of was in
    let k : Header = header_of (with_parts_left asked was) in
    record {
      header = record {
        frames = rules.header.frames;
        window = rules.header.window;
        floor = rules.header.floor;
        next = rules.header.next;
        given = rules.header.given;
        audit = tt;
      };
      frames = rules.frames;
      spans = record { each = spans_keep h k was.spans refl refl refl rules.spans.each; few = rules.spans.few };
      rows = follow_left h k 0 0 (λ part. stays asked part.object part.created) was.rows refl refl rules.rows;
    }

read_left : (asked : CopyAsked) (was : Image) (image : EarlierFields) → IsEarlierOf Second was image → IsEarlierOf Second (with_parts_left asked was) (with_left asked image)
read_left asked was image of =
    let spelled : SpellRows (parts_left asked was.rows) (rows_left asked image.rows) = spelled_left asked was.rows image.rows of.spelled in
    let count : length (rows_left asked image.rows) ≡ length (parts_left asked was.rows) = as_many_rows (parts_left asked was.rows) (rows_left asked image.rows) spelled in
    record {
      version_is = of.version_is;
      header = ap (λ (h : Header). record h { rows = length (rows_left asked image.rows) }) of.header ∙ ap (λ n. record (header_of was) { rows = n }) count;
      clock = of.clock;
      window = of.window;
      floor = of.floor;
      next = of.next;
      spans = of.spans;
      frames = of.frames;
      spelled = spelled;
      stand = stand_left image.version (used_in image.frames) (λ row. stays asked row.object row.created) image.rows image.clock of.stand;
    }

-- an image keeps the rules without the objects that a copy lacks, and is read as it was
pub source_left : (asked : CopyAsked) (was : Image) (image : EarlierFields) → IsSource Third was image → IsSource Third (with_parts_left asked was) (with_left asked image)
source_left asked was image source = record {
  is = is_left asked was source.is;
  rules = rules_left asked was source.rules;
  of = read_left asked was image source.of;
}
