-- The generations of the frames of a table.
use Rattle.std.proofs.Common.{◌≡◌, inl, inr, ℕ, ◌<◌, ◌==◌, ◌&&◌, if◌then◌else◌, Bool, true, false, List, length, get_or, set, replicate, Option, Some, None, refl, sym, ap, subst, ◌∙◌, arith}
use Rattle.std.proofs.lemmas.Bool.{cases_eq, cases_lt, and_parts, eqb-true, both_ways}
use Rattle.std.proofs.lemmas.List.{get_or-set_same, get_or-set_other, length-set, get_or-replicate, length-replicate, get_or_past}
use Rattle.block_log.specs.Log.{Stored}
use Rattle.segment_word.specs.Frames.{Frame, no_frame}
use Rattle.segment_word.specs.Layout.{frame_at}
use Rattle.segment_word.specs.Handles.{fresh_frame}
use Rattle.segment_table.specs.Table.{Table}
use Rattle.segment_table.specs.Used.{is_named, used_at}
use Rattle.image_salvage.specs.Newest.{AreGenerations}
use Rattle.image_salvage.specs.Searching.{HasGenerations}

-- a frame that names blocks
named_by : (b : Bool) (block : Stored) (found : Option Stored) → (if b then found else None) ≡ Some block → b ≡ true
named_by true block found is = refl
named_by false block found is = absurd (let clash : ◌≡◌ {A = Option Stored} None (Some block) = is in cc)

pub generations_of : (t : Table) (generations : List ℕ) → HasGenerations t generations → AreGenerations (used_at t) generations
generations_of t generations has p block used =
    let frame : Frame = frame_at t.seat.frames p.frame in
    let named = and_parts (is_named frame) (frame.generation == p.generation) (named_by (is_named frame && frame.generation == p.generation) block _ used) in
    sym (eqb-true frame.generation p.generation named.1) ∙ has.each p.frame named.0

-- a table of free frames has none
free_there : (m : ℕ) (t : Table) (k : ℕ) → t.seat.frames ≡ replicate m fresh_frame → is_named (frame_at t.seat.frames k) ≡ false
free_there m t k fresh = elim (cases_lt k m) [
  | inl below ↦ ap (λ (l : List Frame). is_named (frame_at l k)) fresh ∙ ap is_named (get_or-replicate m k fresh_frame no_frame below)
  | inr past ↦ ap (λ (l : List Frame). is_named (frame_at l k)) fresh ∙ ap is_named (get_or_past (replicate m fresh_frame) k no_frame (let count : length (replicate m fresh_frame) ≡ m = length-replicate m fresh_frame in omega (arith, past, count)))
]

pub no_generations : (m : ℕ) (t : Table) (generations : List ℕ) → t.seat.frames ≡ replicate m fresh_frame → generations ≡ replicate m 0 → HasGenerations t generations
no_generations m t generations fresh none = record {
  count = ap length none ∙ length-replicate m 0 ∙ sym (length-replicate m fresh_frame) ∙ sym (ap length fresh);
  each = λ k named. absurd (both_ways (is_named (frame_at t.seat.frames k)) (free_there m t k fresh) named);
}

-- one frame more is set
pub generations_more : (t later : Table) (generations after : List ℕ) (number generation : ℕ) → HasGenerations t generations → number < length t.seat.frames → later.seat.frames ≡ set t.seat.frames number (frame_at later.seat.frames number)
    → (frame_at later.seat.frames number).generation ≡ generation → after ≡ set generations number generation → HasGenerations later after
generations_more t later generations after number generation has inside frames is noted = record {
  count = ap length noted ∙ length-set generations number generation ∙ has.count ∙ sym (ap length frames ∙ length-set t.seat.frames number (frame_at later.seat.frames number));
  each = λ k named. elim (cases_eq k number) [
    | inl at ↦ (let F : ℕ → Type 0 = λ m. (frame_at later.seat.frames m).generation ≡ get_or after m 0 in
        subst F (sym at) (is ∙ sym (ap (λ (l : List ℕ). get_or l number 0) noted ∙ get_or-set_same generations number generation 0 (omega (arith, inside, has.count)))))
    | inr ne ↦ (let same : frame_at later.seat.frames k ≡ frame_at t.seat.frames k = ap (λ (l : List Frame). frame_at l k) frames ∙ get_or-set_other t.seat.frames number k (frame_at later.seat.frames number) no_frame ne in
        ap (λ (f : Frame). f.generation) same ∙ has.each k (ap is_named (sym same) ∙ named)
        ∙ sym (ap (λ (l : List ℕ). get_or l k 0) noted ∙ get_or-set_other generations number k generation 0 ne))
  ];
}
