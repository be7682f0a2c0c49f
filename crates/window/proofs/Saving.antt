-- What is saved of a window.
use Rattle.std.proofs.Common.{◌≡◌, ℕ, ◌<◌, ◌≤◌, ◌^◌, List, length, map, Result, Ok, Err, IfOk, refl, sym, ap, subst, ◌∙◌, arith}
use Rattle.std.specs.List.{AllByRecursion}
use Rattle.std.specs.Global.{Vec}
use Rattle.s4_types.specs.declared.spans.Span.{Span}
use Rattle.s4_types.specs.declared.refusals.Refusal.{Refusal}
use Rattle.s4_types.specs.declared.limits.TheConstants.{RUNS_IN_ALL}
use Rattle.s4_model.specs.State.{State}
use Rattle.s4_model.specs.Sound.{EndsBefore, IsOfGiven}
use Rattle.window.specs.declared.chunks.Chunk.{Chunk}
use Rattle.window.specs.Runs.{Ascend, AllBeginFrom, AllEndFrom, AllEndBefore, AreFewInEachList, cut}
use Rattle.window.specs.Chunks.{flat, AllNumbered, AreSoundChunks}
use Rattle.window.specs.Timeline.{Timeline, CoverAlike, StandsFor, spans_kept}
use Rattle.window.proofs.Cutting.{cut_all, cut_from, cut_ascend, cut_length, cut_few, cut_alike}

-- spans are what is saved of a window
pub record AreSaved (w : Timeline) (spans : List Span) : Type 0 where
  pub exact : spans ≡ spans_kept w
  pub ordered : Ascend spans
  pub from_floor : AllBeginFrom w.floor spans
  pub past : AllEndBefore w.clock spans
  pub numbered : AllNumbered spans
  pub few : length spans ≤ RUNS_IN_ALL
  pub few_in_each_list : AreFewInEachList spans
  pub alike : CoverAlike w.floor spans w.runs
  pub given : (s : State) → StandsFor w s → AllByRecursion (IsOfGiven s.next) spans

kept_saved : (w : Timeline) (end count : ℕ) → AreSoundChunks w.clock w.floor end count w.chunks → w.runs ≡ flat w.chunks → AreSaved w (spans_kept w)
kept_saved w end count sound runs =
    let P : List Span → Type 0 = λ xs. Ascend xs × AllEndBefore w.clock xs × AllNumbered xs × AllEndFrom w.floor xs × (count ≡ length xs) × AreFewInEachList xs in
    let facts : P w.runs = subst P (sym runs) (sound.0, sound.1, sound.2, sound.5, sound.7, sound.9) in
    let size : length (spans_kept w) ≡ length w.runs = cut_length w.floor w.runs in
    let known : count ≡ length w.runs = facts.4 in
    let few : count ≤ RUNS_IN_ALL = sound.8 in
    record {
      exact = refl;
      ordered = cut_ascend w.floor w.runs facts.3 facts.0;
      from_floor = cut_from w.floor w.runs;
      past = cut_all (EndsBefore w.clock) w.floor w.runs (λ run h. h) facts.1;
      numbered = cut_all (λ run. run.object < 2 ^ 64) w.floor w.runs (λ run h. h) facts.2;
      few = omega arith;
      few_in_each_list = cut_few w.floor w.runs facts.5;
      alike = cut_alike w.floor w.runs;
      given = λ s stands. cut_all (IsOfGiven s.next) w.floor w.runs (λ run h. h) stands.owned;
    }

-- what the runs of all chunks make, without their moments below the floor
pub all_saved : (w x : Timeline) (end count : ℕ) (cs : List Chunk) (r : Result (Vec Span) Refusal) → AreSoundChunks x.clock x.floor end count x.chunks → x.runs ≡ flat x.chunks → x ≡ w → cs ≡ x.chunks → IfOk r (λ all. all.items ≡ map (cut x.floor) (flat cs)) → IfOk r (λ v. AreSaved w v.items)
all_saved w x end count cs (Ok v) sound runs same held is =
    let kept : v.items ≡ spans_kept x = is ∙ ap (λ zs. map (cut x.floor) (flat zs)) held ∙ ap (λ xs. map (cut x.floor) xs) (sym runs) in
    subst (λ y. AreSaved y v.items) same (subst (λ xs. AreSaved x xs) (sym kept) (kept_saved x end count sound runs))
all_saved w x end count cs (Err refusal) sound runs same held is = tt

-- clause by clause
pub saved_clauses : (w : Timeline) (r : Result (Vec Span) Refusal) → IfOk r (λ v. AreSaved w v.items)
    → IfOk r (λ v. v.items ≡ spans_kept w) × IfOk r (λ v. Ascend v.items) × IfOk r (λ v. AllBeginFrom w.floor v.items) × IfOk r (λ v. AllEndBefore w.clock v.items) × IfOk r (λ v. AllNumbered v.items)
    × IfOk r (λ v. length v.items ≤ RUNS_IN_ALL) × IfOk r (λ v. AreFewInEachList v.items) × IfOk r (λ v. CoverAlike w.floor v.items w.runs) × IfOk r (λ v. (s : State) → StandsFor w s → AllByRecursion (IsOfGiven s.next) v.items)
saved_clauses w (Ok v) saved = (saved.exact, saved.ordered, saved.from_floor, saved.past, saved.numbered, saved.few, saved.few_in_each_list, saved.alike, saved.given)
saved_clauses w (Err refusal) saved = (tt, tt, tt, tt, tt, tt, tt, tt, tt)
