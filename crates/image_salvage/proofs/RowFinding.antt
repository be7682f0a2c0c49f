-- Rows that are found, place by place.
use Rattle.std.proofs.Common.{◌≡◌, inl, inr, ℕ, ◌+◌, ◌<◌, ◌≤◌, List, [], ◌∷◌, ◌++◌, length, map, Option, refl, sym, ap, subst, ◌∙◌, arith}
use Rattle.std.specs.List.{Contains}
use Rattle.std.proofs.lemmas.Bool.{cases_eq}
use Rattle.std.proofs.lemmas.List.{map-append}
use Rattle.std.proofs.lemmas.List.Elements.{Contains-push, Contains-push_cases, Contains-append_left}
use Rattle.s4_types.specs.Pointer.{Place}
use Rattle.block_log.specs.Log.{Stored}
use Rattle.codec.specs.Summary.{SummaryFields}
use Rattle.image_parts.specs.declared.rows.RowPart.{RowPart}
use Rattle.image_objects.specs.declared.rows.ImageRow.{ImageRow}
use Rattle.image_objects.specs.VersionChain.{VersionChainStands, present_used}
use Rattle.verifier.specs.Rows.{SpellsRow}
use Rattle.image_salvage.specs.Searching.{IsFrameAt, IsWithin, AreFoundTo}
use Rattle.image_salvage.specs.Rows.{last_moment, IsLost, IsPresentOf, IsThere}
use Rattle.image_salvage.specs.RowSearch.{row_from, LeadsAt, IsRowAt, AscendBelow, AreRowsTo, FindsRows, FindsRowsTo}
use Rattle.image_salvage.proofs.Finding.{nothing_in, places_none, place_skipped, place_without, place_found, places_all}

-- ---- one row

-- where a row's object is lost, it leads nowhere
pub lost_nowhere : (used : Place → Option Stored) (bytes : List ℕ) (place : ℕ) (part : RowPart) → part ≡ row_from bytes place → IsLost used part → LeadsAt used bytes place → ⊥
lost_nowhere used bytes place part is lost leads =
    let there : IsPresentOf used part leads.inode = subst (λ (p : RowPart). IsPresentOf used p leads.inode) (sym is) leads.present in
    lost there.row there.spelled there.stands

pub stands_there : (used : Place → Option Stored) (part : RowPart) (row : ImageRow) → SpellsRow part row → VersionChainStands used row last_moment → IsThere used part
stands_there used part row spelled stands = (present_used used row, record { row = row; spelled = spelled; stands = stands; present = refl })

pub present_leads : (used : Place → Option Stored) (bytes : List ℕ) (place : ℕ) (part : RowPart) → part ≡ row_from bytes place → place + 40 ≤ length bytes → IsThere used part → LeadsAt used bytes place
present_leads used bytes place part is inside there = record {
  inside = inside;
  inode = there.0;
  present = subst (λ (p : RowPart). IsPresentOf used p there.0) is there.1;
}

-- ---- ascending places

ascend_more : (first n : ℕ) (places : List ℕ) → AscendBelow first n places → AscendBelow first (n + 1) places
ascend_more first n [] low = omega (arith, low)
ascend_more first n (p ∷ places) ascend = (ascend.0, ascend_more (p + 1) n places ascend.1)

ascend_push : (first n : ℕ) (places : List ℕ) → AscendBelow first n places → AscendBelow first (n + 1) (places ++ n ∷ [])
ascend_push first n [] low = (low, omega arith)
ascend_push first n (p ∷ places) ascend = (ascend.0, ascend_push (p + 1) n places ascend.1)

-- ---- one place more

rows_same : (used : Place → Option Stored) (bytes frames : List ℕ) (n : ℕ) (places : List ℕ) → AreRowsTo used bytes frames n places → (IsRowAt used bytes frames n → ⊥) → AreRowsTo used bytes frames (n + 1) places
rows_same used bytes frames n places are none = record {
  all = λ p. (
    (λ has. (let was = (are.all p).0 has in (omega (arith, was.0), was.1))),
    (λ is. elim (cases_eq p n) [
      | inl at ↦ absurd (none (subst (λ (m : ℕ). IsRowAt used bytes frames m) at is.1))
      | inr ne ↦ (are.all p).1 (omega (arith, is.0, ne), is.1)
    ]),
  );
  ascend = ascend_more 0 n places are.ascend;
}

rows_frame : (used : Place → Option Stored) (bytes frames : List ℕ) (n : ℕ) (places : List ℕ) → AreRowsTo used bytes frames n places → AreRowsTo used bytes (frames ++ n ∷ []) (n + 1) places
rows_frame used bytes frames n places are = record {
  all = λ p. (
    (λ has. (let was = (are.all p).0 has in (
      omega (arith, was.0),
      record {
        outside = λ within. elim (Contains-push_cases frames n within.0 within.1) [
          | inl before ↦ was.1.outside (within.0, before, within.2, within.3)
          | inr at ↦ absurd (let low : within.0 ≤ p = within.2 in let below : p < n = was.0 in omega (arith, at, low, below))
        ];
        leads = was.1.leads;
      },
    ))),
    (λ is. elim (cases_eq p n) [
      | inl at ↦ absurd (is.1.outside (n, Contains-push frames n, omega (arith, at), omega (arith, at)))
      | inr ne ↦ (are.all p).1 (
        omega (arith, is.0, ne),
        record {
          outside = λ within. is.1.outside (within.0, Contains-append_left frames (n ∷ []) within.0 within.1, within.2, within.3);
          leads = is.1.leads;
        },
      )
    ]),
  );
  ascend = ascend_more 0 n places are.ascend;
}

rows_push : (used : Place → Option Stored) (bytes frames : List ℕ) (n : ℕ) (places : List ℕ) → AreRowsTo used bytes frames n places → IsRowAt used bytes frames n → AreRowsTo used bytes frames (n + 1) (places ++ n ∷ [])
rows_push used bytes frames n places are row = record {
  all = λ p. (
    (λ has. elim (Contains-push_cases places n p has) [
      | inl before ↦ (let was = (are.all p).0 before in (omega (arith, was.0), was.1))
      | inr at ↦ (omega (arith, at), subst (λ (m : ℕ). IsRowAt used bytes frames m) at row)
    ]),
    (λ is. elim (cases_eq p n) [
      | inl at ↦ subst (λ (m : ℕ). Contains (places ++ n ∷ []) m) (sym at) (Contains-push places n)
      | inr ne ↦ Contains-append_left places (n ∷ []) p ((are.all p).1 (omega (arith, is.0, ne), is.1))
    ]),
  );
  ascend = ascend_push 0 n places are.ascend;
}

-- a place after all frames that were found is in none of them
outside_of : (bytes : List ℕ) (n next : ℕ) (frames : List ℕ) → AreFoundTo bytes n next frames → next ≤ n → IsWithin frames n → ⊥
outside_of bytes n next frames found past within =
    let end : within.0 + 8192 ≤ next = found.ends within.0 within.1 in
    let high : n < within.0 + 8192 = within.3 in
    absurd (omega (arith, end, high, past))

-- ---- the loop

pub none_searched : (used : Place → Option Stored) (bytes : List ℕ) (rows : List RowPart) → rows ≡ [] → FindsRowsTo used bytes 0 0 rows
none_searched used bytes rows none = record {
  frames = [];
  found = places_none bytes;
  places = [];
  are = record { all = λ p. ((λ has. nothing_in p has), (λ is. absurd (omega (arith, is.0)))); ascend = omega arith };
  rows_are = none;
}

pub searched_skipped : (used : Place → Option Stored) (bytes : List ℕ) (n next : ℕ) (rows : List RowPart) → FindsRowsTo used bytes n next rows → n < next → FindsRowsTo used bytes (n + 1) next rows
searched_skipped used bytes n next rows to inside = record {
  frames = to.frames;
  found = place_skipped bytes n next to.frames to.found inside;
  places = to.places;
  are = rows_same used bytes to.frames n to.places to.are (λ row. row.outside (to.found.skipped n (omega arith) inside));
  rows_are = to.rows_are;
}

pub searched_frame : (used : Place → Option Stored) (bytes : List ℕ) (n next : ℕ) (rows : List RowPart) (s : SummaryFields) → FindsRowsTo used bytes n next rows → next ≤ n → IsFrameAt bytes n s → FindsRowsTo used bytes (n + 1) (n + 8192) rows
searched_frame used bytes n next rows s to past here = record {
  frames = to.frames ++ n ∷ [];
  found = place_found bytes n next to.frames s to.found past here;
  places = to.places;
  are = rows_frame used bytes to.frames n to.places to.are;
  rows_are = to.rows_are;
}

pub searched_without : (used : Place → Option Stored) (bytes : List ℕ) (n next : ℕ) (rows : List RowPart) → FindsRowsTo used bytes n next rows → next ≤ n → ((s : SummaryFields) → IsFrameAt bytes n s → ⊥) → (LeadsAt used bytes n → ⊥)
    → FindsRowsTo used bytes (n + 1) next rows
searched_without used bytes n next rows to past no_frame nowhere = record {
  frames = to.frames;
  found = place_without bytes n next to.frames to.found past no_frame;
  places = to.places;
  are = rows_same used bytes to.frames n to.places to.are (λ row. nowhere row.leads);
  rows_are = to.rows_are;
}

pub searched_row : (used : Place → Option Stored) (bytes : List ℕ) (n next : ℕ) (rows later : List RowPart) (part : RowPart) → FindsRowsTo used bytes n next rows → next ≤ n → ((s : SummaryFields) → IsFrameAt bytes n s → ⊥) → LeadsAt used bytes n
    → part ≡ row_from bytes n → later ≡ rows ++ part ∷ [] → FindsRowsTo used bytes (n + 1) next later
searched_row used bytes n next rows later part to past no_frame leads is more = record {
  frames = to.frames;
  found = place_without bytes n next to.frames to.found past no_frame;
  places = to.places ++ n ∷ [];
  are = rows_push used bytes to.frames n to.places to.are (record { outside = outside_of bytes n next to.frames to.found past; leads = leads });
  rows_are = more ∙ ap (λ (l : List RowPart). l ++ part ∷ []) to.rows_are ∙ ap (λ (p : RowPart). map (row_from bytes) to.places ++ p ∷ []) is ∙ sym (map-append (row_from bytes) to.places (n ∷ []));
}

pub all_searched : (used : Place → Option Stored) (bytes : List ℕ) (n next : ℕ) (rows : List RowPart) → FindsRowsTo used bytes n next rows → n ≡ length bytes → FindsRows used bytes rows
all_searched used bytes n next rows to end = record {
  frames = to.frames;
  found = places_all bytes n next to.frames to.found (omega (arith, end));
  places = to.places;
  are = subst (λ (m : ℕ). AreRowsTo used bytes to.frames m to.places) end to.are;
  rows_are = to.rows_are;
}
