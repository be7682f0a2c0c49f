-- What a window keeps that is made of saved spans, and for which states it stands.
use Rattle.std.proofs.Common.{◌≡◌, ℕ, ◌≤◌, List, [], ◌∷◌, length, sym, ap, subst, ◌∙◌, arith}
use Rattle.std.specs.List.{list_any, AllByRecursion}
use Rattle.s4_types.specs.declared.spans.Span.{Span}
use Rattle.s4_types.specs.declared.limits.TheConstants.{RUNS_IN_ALL}
use Rattle.s4_model.specs.State.{State}
use Rattle.s4_model.specs.Visible.{spans_of}
use Rattle.s4_model.specs.Sound.{IsOfGiven}
use Rattle.window.specs.declared.chunks.Chunk.{Chunk}
use Rattle.window.specs.Runs.{covers, Ascend, AllEndFrom, AllBeginFrom, AllEndBefore, AreFewInEachList}
use Rattle.window.specs.Chunks.{flat, Parted, AllNumbered, AllDated, told, AreSoundChunks}
use Rattle.window.specs.Timeline.{Timeline, StandsFor}
use Rattle.window.proofs.Forgetting.{from_told}

-- what begins from the floor on reaches it
pub begun_reach : (floor : ℕ) (runs : List Span) → Ascend runs → AllBeginFrom floor runs → AllEndFrom floor runs
begun_reach floor [] h from = tt
begun_reach floor (run ∷ runs) h from =
    let a : floor ≤ run.first = from.0 in
    let b : run.first ≤ run.last = h.0 in
    (omega arith, begun_reach floor runs h.2 from.1)

-- what a window of saved spans keeps
pub sound_opened : (clock floor end count : ℕ) (spans : List Span) (cs : List Chunk) → Ascend spans → AllBeginFrom floor spans → AllEndBefore clock spans → AllNumbered spans → length spans ≤ RUNS_IN_ALL → AreFewInEachList spans → (flat cs ≡ spans) × Parted 0 cs × AllDated cs → end ≡ told cs → count ≡ length spans → AreSoundChunks clock floor end count cs
sound_opened clock floor end count spans cs ordered from past numbered few in_each divided ends counted =
    let P : List Span → Type 0 = λ xs. Ascend xs × AllEndBefore clock xs × AllNumbered xs × AllEndFrom floor xs × (count ≡ length xs) × AreFewInEachList xs in
    let facts : P (flat cs) = subst P (sym divided.0) (ordered, past, numbered, begun_reach floor spans ordered from, counted, in_each) in
    (facts.0, facts.1, facts.2, divided.1, divided.2, facts.3, subst (λ n. AllEndFrom n (flat cs)) (sym ends) (from_told cs divided.2), facts.4, omega arith, facts.5)

-- it represents each state with its numbers and spans
pub stands_opened : (w : Timeline) (s : State) (spans : List Span) → w.clock ≡ s.clock → w.window ≡ s.window → w.floor ≡ s.floor → w.runs ≡ spans → spans_of s ≡ spans → AllByRecursion (IsOfGiven s.next) spans → StandsFor w s
stands_opened w s spans clock window floor runs is given =
    let P : List Span → Type 0 = λ xs. AllByRecursion (IsOfGiven s.next) xs in
    record {
      clock = clock;
      window = window;
      floor = floor;
      alike = λ list t le. ap (λ xs. list_any (covers list t) xs) (runs ∙ sym is);
      owned = subst P (sym runs) given;
    }
