-- What a planned span makes of a window's chunks.
use Rattle.std.proofs.Common.{◌≡◌, ℕ, ◌+◌, ◌-◌, ◌<◌, ◌≤◌, ◌^◌, min, max, List, [], ◌∷◌, length, count_by, filter, Some, Result, Ok, Err, IfOk, sym, ap, subst, ◌∙◌, arith}
use Rattle.std.specs.Global.{Vec}
use Rattle.s4_types.specs.declared.spans.Span.{Span}
use Rattle.s4_types.specs.declared.refusals.Refusal.{Refusal}
use Rattle.window.specs.declared.chunks.Chunk.{Chunk}
use Rattle.window.specs.declared.chunks.Fresh.TheVariants.{One, All}
use Rattle.window.specs.Runs.{Ascend, AllEndFrom, AllEndBefore, AreFewInEachList, with_span, is_live, is_live_in}
use Rattle.window.specs.Chunks.{flat, Parted, AllDated, AllNumbered, holder, put, AreSoundChunks}
use Rattle.window.specs.Timeline.{Timeline, Plan, chunks_by, IsMade, IsPlanned}
use Rattle.window.proofs.Ordering.{Ascend-with_span, Ascend-filter, all_with_span, all_filter}
use Rattle.window.proofs.Live.{from_later, live_from, ends_by, ends_before}
use Rattle.window.proofs.Chunked.{put_is, put_parted, put_sifted, put_within, put_dated, put_length, held_length, count_in_put}
use Rattle.s4_types.specs.declared.limits.TheConstants.{RUNS_IN_A_LIST, RUNS_IN_ALL}
use Rattle.window.proofs.OwnCounts.{few_with_span}
use Rattle.window.proofs.Standing.{AreKept, runs_by, planned_kept}

-- a plan of one chunk: whole is the chunk with the span, and fresh is it without the runs below the floor
pub one_made : (w : Timeline) (span : Span) (c whole fresh : Chunk) (count own end before : ℕ) → span.first ≤ span.last → span.last ≤ w.clock → span.object < 2 ^ 64 → w.runs ≡ flat w.chunks → AreSoundChunks w.clock w.floor end before w.chunks
    → holder span.object w.chunks ≡ Some c → whole.up_to ≡ c.up_to → whole.runs.items ≡ with_span span c.runs.items → fresh.up_to ≡ c.up_to → fresh.runs.items ≡ filter (is_live w.floor) whole.runs.items → AllEndFrom fresh.earliest fresh.runs.items
    → count ≡ (before - length c.runs.items) + length fresh.runs.items → own ≡ count_by (is_live_in w.floor span.object) fresh.runs.items → IsMade w (record { span = span; fresh = One fresh; count = count; own = own })
one_made w span c whole fresh count own end before ordered past numbered runs sound h top is up sifted dated counted of_list =
    let parted : Parted 0 (put span.object fresh w.chunks) =
    put_within 0 span.object w.chunks w.floor whole fresh (up ∙ sym top) sifted (put_parted span 0 w.chunks c whole (omega arith) sound.3 h top is) in
    let size : length (flat (put span.object fresh w.chunks)) + length c.runs.items ≡ length (flat w.chunks) + length fresh.runs.items = put_length span.object w.chunks c fresh h in
    let known : before ≡ length (flat w.chunks) = sound.7 in
    let held : length c.runs.items ≤ length (flat w.chunks) = held_length span.object w.chunks c h in
    record {
      ordered = ordered;
      past = past;
      numbered = numbered;
      parted = parted;
      dated = put_dated span.object w.chunks fresh sound.4 dated;
      runs = put_sifted w.floor span.object w.chunks whole fresh sound.5 sifted ∙ ap (filter (is_live w.floor)) (put_is span 0 w.chunks c whole sound.3 h is ∙ ap (with_span span) (sym runs));
      count = omega arith;
      own = of_list ∙ sym (count_in_put w.floor span.object w.chunks c fresh h up parted);
    }

-- a plan of all chunks
pub all_made : (w : Timeline) (span : Span) (all : Vec Chunk) (runs : List Span) (count own : ℕ) → span.first ≤ span.last → span.last ≤ w.clock → span.object < 2 ^ 64
    → runs ≡ filter (is_live w.floor) (with_span span w.runs) → (flat all.items ≡ runs) × Parted 0 all.items × AllDated all.items → count ≡ length runs → own ≡ count_by (is_live_in w.floor span.object) runs → IsMade w (record { span = span; fresh = All all; count = count; own = own })
all_made w span all runs count own ordered past numbered is divided counted of_list = record {
  ordered = ordered;
  past = past;
  numbered = numbered;
  parted = divided.1;
  dated = divided.2;
  runs = divided.0 ∙ is;
  count = counted ∙ ap (λ (xs : List Span). length xs) (sym divided.0);
  own = of_list ∙ ap (count_by (is_live_in w.floor span.object)) (sym divided.0);
}

-- what is divided is in order and numbered
pub all_ready : (w : Timeline) (span : Span) (runs : List Span) → runs ≡ filter (is_live w.floor) (with_span span w.runs) → AreKept w → AllNumbered w.runs → span.first ≤ span.last → span.object < 2 ^ 64 → Ascend runs × AllNumbered runs
all_ready w span runs is kept numbered ordered below =
    let P : List Span → Type 0 = λ xs. Ascend xs × AllNumbered xs in
    subst P (sym is) (
      Ascend-filter (is_live w.floor) (with_span span w.runs) (Ascend-with_span span w.runs ordered kept.0),
      all_filter (λ run. run.object < 2 ^ 64) (is_live w.floor) (with_span span w.runs) (all_with_span (λ run. run.object < 2 ^ 64) span w.runs (λ x y p q. p) below numbered),
    )

-- two plans of one span make as many runs
pub made_alike : (w : Timeline) (p q : Plan) → p.span ≡ q.span → IsMade w p → IsMade w q → q.count ≡ p.count
made_alike w p q same a b =
    b.count ∙ ap (λ (xs : List Span). length xs) (b.runs ∙ ap (λ (span : Span). filter (is_live w.floor) (with_span span w.runs)) (sym same) ∙ sym a.runs) ∙ sym a.count

-- and as many of the span's list
pub made_alike_in_list : (w : Timeline) (p q : Plan) → p.span ≡ q.span → IsMade w p → IsMade w q → q.own ≡ p.own
made_alike_in_list w p q same a b =
    let runs : flat (chunks_by w q) ≡ flat (chunks_by w p) = b.runs ∙ ap (λ (span : Span). filter (is_live w.floor) (with_span span w.runs)) (sym same) ∙ sym a.runs in
    b.own ∙ ap (count_by (is_live_in w.floor q.span.object)) runs ∙ ap (λ (span : Span). count_by (is_live_in w.floor span.object) (flat (chunks_by w p))) (sym same) ∙ sym a.own

-- so what comes of a plan made once more is a plan
pub planned_again : (w : Timeline) (plan : Plan) (r : Result Plan Refusal) → IsPlanned w plan → IfOk r (λ p. (p.span ≡ plan.span) × IsMade w p) → IfOk r (λ p. (p.span ≡ plan.span) × IsPlanned w p)
planned_again w plan (Ok p) planned made =
    let same : plan.span ≡ p.span = sym made.0 in
    let few : plan.count ≤ RUNS_IN_ALL = planned.few in
    let few_in_list : plan.own ≤ RUNS_IN_A_LIST = planned.few_in_list in
    let count : p.count ≡ plan.count = made_alike w plan p same planned.made made.1 in
    let own : p.own ≡ plan.own = made_alike_in_list w plan p same planned.made made.1 in
    (made.0, record { made = made.1; few = omega arith; few_in_list = omega arith })
planned_again w plan (Err refusal) planned made = tt

from_either : (floor end last : ℕ) (runs : List Span) → AllEndFrom floor runs → AllEndFrom (min end last) runs → AllEndFrom (min end (max floor last)) runs
from_either floor end last [] a b = tt
from_either floor end last (run ∷ runs) a b =
    let le : floor ≤ run.last = a.0 in
    let by : min end last ≤ run.last = b.0 in
    (omega arith, from_either floor end last runs a.1 b.1)

-- what a window keeps when a plan is carried out, at a later clock
pub sound_by : (w : Timeline) (plan : Plan) (chunks : List Chunk) (end before later moment : ℕ) → chunks ≡ chunks_by w plan → later ≡ min end (max w.floor plan.span.last) → w.clock < moment → IsPlanned w plan → w.runs ≡ flat w.chunks → AreSoundChunks w.clock w.floor end before w.chunks
    → AreSoundChunks moment w.floor later plan.count chunks
sound_by w plan chunks end before later moment is sooner moves planned runs sound =
    let made : IsMade w plan = planned.made in
    let P : List Chunk → Type 0 = λ xs. AreSoundChunks moment w.floor later plan.count xs in
    let Q : List Span → Type 0 = λ xs. Ascend xs × AllEndBefore w.clock xs × AllNumbered xs × AllEndFrom end xs × AreFewInEachList xs in
    let facts : Q w.runs = subst Q (sym runs) (sound.0, sound.1, sound.2, sound.6, sound.9) in
    let kept = planned_kept w plan made (facts.0, ends_by w.clock w.runs facts.1) facts.2 in
    let all : List Span = with_span plan.span w.runs in
    let first : AllEndFrom (min end plan.span.last) all =
    all_with_span (λ run. min end plan.span.last ≤ run.last) plan.span w.runs (λ x y p q. omega arith) (omega arith) (from_later (min end plan.span.last) end w.runs (omega arith) facts.3) in
    let live : AllEndFrom w.floor (filter (is_live w.floor) all) = live_from w.floor all in
    let both : AllEndFrom (min end (max w.floor plan.span.last)) (filter (is_live w.floor) all) =
    from_either w.floor end plan.span.last (filter (is_live w.floor) all) live (all_filter (λ run. min end plan.span.last ≤ run.last) (is_live w.floor) all first) in
    let A : List Span → Type 0 = λ xs. AllEndFrom w.floor xs × AllEndFrom later xs in
    let ends : A (runs_by w plan) = subst A (sym made.runs) (live, subst (λ n. AllEndFrom n (filter (is_live w.floor) all)) (sym sooner) both) in
    let own : count_by (is_live_in w.floor plan.span.object) (runs_by w plan) ≤ RUNS_IN_A_LIST = subst (λ n. n ≤ RUNS_IN_A_LIST) made.own planned.few_in_list in
    let few : AreFewInEachList (runs_by w plan) = few_with_span w.floor plan.span w.runs (runs_by w plan) made.runs ends.0 own facts.4 in
    subst P (sym is) (kept.0, ends_before w.clock moment (runs_by w plan) moves kept.1, kept.2, made.parted, made.dated, ends.0, ends.1, made.count, planned.few, few)
