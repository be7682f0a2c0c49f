-- What contracts see of a window, and which states of a history it represents.
use Rattle.std.specs.Prelude.{◌≡◌, ℕ, ◌-◌, ◌<◌, ◌≤◌, ◌^◌, max, List, length, filter, map, count_by}
use Rattle.std.specs.List.{list_any, AllByRecursion}
use Rattle.s4_types.specs.declared.spans.Span.{Span}
use Rattle.s4_types.specs.declared.limits.TheConstants.{RUNS_IN_A_LIST, RUNS_IN_ALL}
use Rattle.s4_model.specs.State.{State}
use Rattle.s4_model.specs.Visible.{spans_of}
use Rattle.s4_model.specs.Sound.{IsOfGiven}
use Rattle.window.specs.declared.chunks.Chunk.{Chunk}
use Rattle.window.specs.declared.chunks.Fresh.{Fresh}
use Rattle.window.specs.Runs.{covers, with_span, cut, is_live, is_live_in}
use Rattle.window.specs.Chunks.{flat, Parted, AllDated, renewed}

-- the clock, the window, the floor, and the runs of hidden moments of all lists, which are in chunks
pub record Timeline : Type 0 where
  pub clock : ℕ
  pub window : ℕ
  pub floor : ℕ
  pub runs : List Span
  pub chunks : List Chunk

-- what is kept of a window when it is saved: its runs without their moments below the floor
abbrev pub spans_kept : Timeline → List Span
spans_kept w = map (cut w.floor) w.runs

-- from the floor on, runs cover on each list what the spans do
abbrev pub CoverAlike : ℕ → List Span → List Span → Type 0
CoverAlike floor runs spans = (list t : ℕ) → floor ≤ t → list_any (covers list t) runs ≡ list_any (covers list t) spans

-- The window has the clock, window and floor of a state; its runs cover what the state's spans do, and are of
-- lists whose numbers were given.
pub record StandsFor (w : Timeline) (s : State) : Type 0 where
  pub clock : w.clock ≡ s.clock
  pub window : w.window ≡ s.window
  pub floor : w.floor ≡ s.floor
  pub alike : CoverAlike s.floor w.runs (spans_of s)
  pub owned : AllByRecursion (IsOfGiven s.next) w.runs

-- A span, the chunks that it makes anew, how many runs there are then in all, and how many of them are of the
-- span's list.
pub record Plan : Type 0 where
  pub span : Span
  pub fresh : Fresh
  pub count : ℕ
  pub own : ℕ

-- the chunks of a window with what a plan makes anew
abbrev pub chunks_by : Timeline → Plan → List Chunk
chunks_by w plan = renewed plan.span.object plan.fresh w.chunks

-- The plan is made from this window: its span is in order and past, and its chunks hold the window's runs with the
-- span, those that reach the floor.
pub record IsMade (w : Timeline) (plan : Plan) : Type 0 where
  pub ordered : plan.span.first ≤ plan.span.last
  pub past : plan.span.last ≤ w.clock
  pub numbered : plan.span.object < 2 ^ 64
  pub parted : Parted 0 (chunks_by w plan)
  pub dated : AllDated (chunks_by w plan)
  pub runs : flat (chunks_by w plan) ≡ filter (is_live w.floor) (with_span plan.span w.runs)
  pub count : plan.count ≡ length (flat (chunks_by w plan))
  pub own : plan.own ≡ count_by (is_live_in w.floor plan.span.object) (flat (chunks_by w plan))

-- The plan is this window's, and neither the span's list nor all lists together have too many runs by it.
pub record IsPlanned (w : Timeline) (plan : Plan) : Type 0 where
  pub made : IsMade w plan
  pub few : plan.count ≤ RUNS_IN_ALL
  pub few_in_list : plan.own ≤ RUNS_IN_A_LIST

-- The clock moved on, the floor with it, and the runs that end below the floor are forgotten.
pub record HasMoved (w later : Timeline) (moment : ℕ) : Type 0 where
  pub clock : later.clock ≡ moment
  pub window : later.window ≡ w.window
  pub floor : later.floor ≡ max w.floor (moment - w.window)
  pub runs : later.runs ≡ filter (is_live later.floor) w.runs
