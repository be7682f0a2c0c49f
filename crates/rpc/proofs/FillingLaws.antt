-- Filling twice tops up: the first time the length is told, the second time the frame is whole.
use Rattle.std.proofs.Common.{◌≡◌, ℕ, ◌+◌, ◌<◌, ◌≤◌, List, [], ◌∷◌, ◌++◌, length, Option, Some, None, refl, sym, ap, subst, ◌∙◌, append_assoc, arith, inl, inr}
use Rattle.std.proofs.lemmas.Bool.{cases_lt, lt-ltb, le-ltb}
use Rattle.std.proofs.lemmas.List.{append-nil, length-append, nil_from_length}
use Rattle.s4_types.specs.declared.limits.TheConstants.{FRAME_BODY_BYTES}
use Rattle.rpc.specs.declared.items.Item.{Item}
use Rattle.rpc.specs.declared.items.Item.TheVariants.{BadFrame}
use Rattle.rpc.specs.Stream.{frame, length_told, IsPartial, IsOversized, BeginsWithFrame, IsItem, AddsItems}
use Rattle.rpc.specs.private.Filling.{wanted, IsFilled, IsToppedUp}
use Rattle.rpc.proofs.StreamLaws.{told_on, frame_told, frame_length, frame_on, oversized_on, Leads-start, Leads-frame, Leads-oversized, Leads-adds}

-- ---- the wanted length, by cases

pub wanted_first : (held : List ℕ) → length held < 4 → wanted held ≡ 4
unfolding wanted
wanted_first held lt = rw (lt-ltb _ _ lt) refl

pub wanted_over : (held : List ℕ) → 4 ≤ length held → FRAME_BODY_BYTES < length_told held → wanted held ≡ 4
unfolding wanted
wanted_over held le over = rw (le-ltb _ _ le, lt-ltb _ _ over) refl

pub wanted_whole : (held : List ℕ) → 4 ≤ length held → length_told held ≤ FRAME_BODY_BYTES → wanted held ≡ 4 + length_told held
unfolding wanted
wanted_whole held le within = rw (le-ltb _ _ le, le-ltb _ _ within) refl

at_least_four : (held : List ℕ) → 4 ≤ wanted held
at_least_four held =
    elim (cases_lt (length held) 4) [
      | inl lt ↦ let w = wanted_first held lt in omega (arith, w)
      | inr le ↦ elim (cases_lt FRAME_BODY_BYTES (length_told held)) [
        | inl over ↦ let w = wanted_over held le over in omega (arith, w)
        | inr within ↦ let w = wanted_whole held le within in omega (arith, w)
      ]
    ]

-- ---- two fillings

-- partial bytes are no longer than wanted
pub partial_short : (held : List ℕ) → IsPartial held → length held ≤ wanted held
partial_short held partial =
    elim (cases_lt (length held) 4) [
      | inl lt ↦ let w = wanted_first held lt in omega (arith, w)
      | inr le ↦ let p = partial le in let w = wanted_whole held le p.0 in omega (arith, w, p.1)
    ]

-- bytes after a length that was told leave it
grown_told : (old taken new : List ℕ) → new ≡ old ++ taken → 4 ≤ length old → (length_told new ≡ length_told old) × (length old ≤ length new)
grown_told old taken new grown le =
    (ap length_told grown ∙ told_on old taken le, let len : length new ≡ length old + length taken = ap length grown ∙ length-append old taken in omega (arith, len))

-- the first filling leaves no more than is wanted then
pub filled_short : (old new piece left : List ℕ) → IsPartial old → IsFilled old new piece left → length new ≤ wanted new
filled_short old new piece left partial f =
    elim (cases_lt (length old) 4) [
      | inl lt ↦ let w = wanted_first old lt in let least = at_least_four new in omega (arith, w, least, f.at_most)
      | inr le ↦
          let p = partial le in
          let w = wanted_whole old le p.0 in
          let t = grown_told old f.taken new f.grown le in
          let long : 4 ≤ length new = omega (arith, le, t.1) in
          let within : length_told new ≤ FRAME_BODY_BYTES = omega (arith, t.0, p.0) in
          let v = wanted_whole new long within in
          omega (arith, w, v, t.0, f.at_most)
    ]

none_left : (taken left between : List ℕ) → between ≡ taken ++ left → between ≡ [] → left ≡ []
none_left taken left between parts none =
    let len : length between ≡ length taken + length left = ap length parts ∙ length-append taken left in
    let nothing : length between ≡ 0 = ap length none in
    nil_from_length left (omega (arith, len, nothing))

-- what was filled to the wanted length isn't partial, unless the piece had ended before
left_behind : (old middle new piece between left : List ℕ) → IsFilled old middle piece between → IsFilled middle new between left → length new ≡ wanted middle → IsPartial new → left ≡ []
left_behind old middle new piece between left f g full partial =
    elim (cases_lt (length middle) 4) [
      | inl lt ↦ elim f.ended [
        | inl none ↦ none_left g.taken left between g.parts none
        | inr reached ↦ let least = at_least_four old in absurd (omega (arith, least, reached, lt))
      ]
      | inr le ↦
          let t = grown_told middle g.taken new g.grown le in
          let p = partial (omega (arith, le, t.1)) in
          let w = wanted_whole middle le (omega (arith, p.0, t.0)) in
          absurd (omega (arith, p.1, t.0, w, full))
    ]

pub topped_up : (old middle new piece between left : List ℕ) → IsFilled old middle piece between → IsFilled middle new between left → IsToppedUp old new piece left
topped_up old middle new piece between left f g = record {
  taken = f.taken ++ g.taken;
  grown = g.grown ∙ ap (λ (x : List ℕ). x ++ g.taken) f.grown ∙ append_assoc old f.taken g.taken;
  parts = f.parts ∙ ap (λ (x : List ℕ). f.taken ++ x) g.parts ∙ sym (append_assoc f.taken g.taken left);
  at_most = λ long within. elim (cases_lt (length middle) 4) [
    | inl lt ↦ let w = wanted_first middle lt in omega (arith, w, g.at_most)
    | inr le ↦
        let t = grown_told middle g.taken new g.grown le in
        let w = wanted_whole middle le (omega (arith, within, t.0)) in
        omega (arith, w, t.0, g.at_most)
  ];
  ended = λ partial. elim g.ended [
    | inl none ↦ none
    | inr full ↦ left_behind old middle new piece between left f g full partial
  ];
}

-- ---- a frame of held bytes

-- the held bytes and the piece are the topped up bytes and what is left
pub topped_up_whole : (old new piece left : List ℕ) → IsToppedUp old new piece left → old ++ piece ≡ new ++ left
topped_up_whole old new piece left t =
    ap (λ (x : List ℕ). old ++ x) t.parts ∙ sym (append_assoc old t.taken left) ∙ ap (λ (x : List ℕ). x ++ left) (sym t.grown)

-- nothing comes after the frame
nothing_behind : (old new piece left body rest : List ℕ) → IsToppedUp old new piece left → BeginsWithFrame new body rest → rest ≡ []
nothing_behind old new piece left body rest t begins =
    let told = frame_told new body rest begins in
    let len = frame_length new body rest begins in
    let most = t.at_most (omega (arith, len)) (omega (arith, told, begins.size)) in
    nil_from_length rest (omega (arith, told, len, most))

-- The frame of the held bytes is read first, and then what is left of the piece. Whoever looked at the held
-- bytes saw `seen`, and `pushed` were the items after the first.
pub frame_and_left : {T : Type 0} (spells : List ℕ → T → Type 0) (old new seen piece left body rest : List ℕ) (before pushed after : List (Item T)) (item : Item T) (end : Option (List ℕ)) → IsToppedUp old new piece left → seen ≡ new → BeginsWithFrame seen body rest → IsItem spells body item → pushed ≡ before ++ item ∷ [] → AddsItems spells left pushed after end → AddsItems spells (old ++ piece) before after end
frame_and_left {T} spells old new seen piece left body rest before pushed after item end t saw at_front is grew adds =
    let begins = subst (λ (x : List ℕ). BeginsWithFrame x body rest) saw at_front in
    let none = nothing_behind old new piece left body rest t begins in
    let begins_left : BeginsWithFrame (old ++ piece) body left = record {
      whole = topped_up_whole old new piece left t ∙ (frame_on new body rest left begins).whole ∙ ap (λ (x : List ℕ). frame body ++ (x ++ left)) none;
      size = begins.size;
    } in
    let first = Leads-frame spells (old ++ piece) before before (old ++ piece) body left item (Leads-start spells (old ++ piece) before) begins_left is in
    Leads-adds spells (old ++ piece) before (before ++ item ∷ []) after left end first (subst (λ (x : List (Item T)). AddsItems spells left x after end) grew adds)

-- an oversized length among the topped up bytes is the last of the held bytes and the piece
pub oversized_held : {T : Type 0} (spells : List ℕ → T → Type 0) (old new seen piece left : List ℕ) (before pushed : List (Item T)) → IsToppedUp old new piece left → seen ≡ new → IsOversized seen → pushed ≡ before ++ BadFrame ∷ [] → AddsItems spells (old ++ piece) before pushed None
oversized_held {T} spells old new seen piece left before pushed t saw over grew =
    let joined : old ++ piece ≡ seen ++ left = topped_up_whole old new piece left t ∙ ap (λ (x : List ℕ). x ++ left) (sym saw) in
    let whole = subst IsOversized (sym joined) (oversized_on seen left over) in
    subst (λ (x : List (Item T)). AddsItems spells (old ++ piece) before x None) (sym grew)
    (Leads-oversized spells (old ++ piece) before before (old ++ piece) (Leads-start spells (old ++ piece) before) whole)

-- topped up bytes that are less than a frame are all that there is, and add nothing
pub partial_held : {T : Type 0} (spells : List ℕ → T → Type 0) (old new seen piece left : List ℕ) (before after : List (Item T)) → IsToppedUp old new piece left → seen ≡ new → IsPartial seen → after ≡ before → AddsItems spells (old ++ piece) before after (Some new)
partial_held spells old new seen piece left before after t saw at_front same =
    let partial = subst IsPartial saw at_front in
    let none : left ≡ [] = t.ended partial in
    ([], same ∙ sym (append-nil before), (topped_up_whole old new piece left t ∙ ap (λ (x : List ℕ). new ++ x) none ∙ append-nil new, partial))
