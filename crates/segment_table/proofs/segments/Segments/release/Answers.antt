use Rattle.std.proofs.Common.{rules, ◌≡◌, ◌+◌, ◌^◌, ◌<◌, ◌≤◌, length, slice_set, ap, subst, ◌∙◌, arith}
use Rattle.std.specs.Prelude.{Ok, vec_capacity}
use Rattle.std.proofs.lemmas.List.{length-set}
use Rattle.lemmas.proofs.Result.{OnErr_from}
use Rattle.segment_word.specs.Layout.{frame_at}
use Rattle.segment_word.specs.Steps.{released}
use Rattle.segment_table.specs.Table.{Table}
use Rattle.segment_table.specs.Room.{log_of}
use Rattle.segment_table.specs.Changes.{IsReleased, ReleasesFrame}
use Rattle.segment_table.proofs.Emptying.{same_log}
use Rattle.segment_table.proofs.Freeing.{frames_are, list_short, list_again, list_kept, release_is, released_generation, sound_released, released_so}
use Rattle.segment_table.proofs.segments.Segments.release.Goals.{After-generation}
use Rattle.segment_table.proofs.segments.Segments.release.Goals as goal

-- the table as it was opened, and with the frame free
abbrev old_of : After-generation → Table
old_of c = record { seat = c.self.inside.seat; slots = c.self.inside.slots.items }

abbrev new_of : After-generation → Table
new_of c = record { seat = c.generation.new.self; slots = slice_set c.self.inside.slots.items c.args.frame c.clear.new.self }

freed : (c : After-generation) → IsReleased c.args.frame (old_of c) (new_of c)
freed c =
    let within : c.args.frame < length c.self.inside.slots.items = search rules in
    let freed = c.in_ok-release.ensures.freed in
    release_is (old_of c) c.self.inside.free.items c.self.inside.current c.args.frame c.release.new.self c.generation.new.self c.clear.new.self c.self.invariant.0 within freed.0 freed.1 c.in_ok-release.ensures.goes_on c.generation.ensures.same c.clear.ensures

-- the generation that was read is the frame's next one
next : (c : After-generation) → c.generation.result ≡ (frame_at c.self.inside.seat.frames c.args.frame).generation + 1
next c =
    let r = freed c in
    let made : IsReleased c.args.frame (old_of c) (record { seat = c.release.new.self; slots = (new_of c).slots }) = record { inside = r.inside; draining = r.draining; goes_on = r.goes_on; seat = c.in_ok-release.ensures.freed.1; slots = r.slots } in
    c.generation.ensures.generation ∙ released_generation (old_of c) (record { seat = c.release.new.self; slots = (new_of c).slots }) c.args.frame made

-- as many frames as before
few : (c : After-generation) → length c.generation.new.self.frames ≡ length c.self.inside.seat.frames
few c = ap length (frames_are (old_of c) (new_of c) c.args.frame (freed c)) ∙ length-set c.self.inside.seat.frames c.args.frame (released (frame_at c.self.inside.seat.frames c.args.frame))

released_all : (c : After-generation) → ReleasesFrame c.args.frame c.args.self.now (Ok tt) (new_of c)
released_all c = subst (λ (t : Table). ReleasesFrame c.args.frame t (Ok tt) (new_of c)) c.self.view_is (released_so (old_of c) (new_of c) c.self.inside.free.items c.self.inside.current c.args.frame c.self.invariant.0 (freed c))

pub put_back-requires : goal.put_back-requires
put_back-requires c =
    let at = (goal.at.put_back-requires c).After-generation in
    let short : length c.self.inside.free.items < length c.self.inside.seat.frames = list_short (old_of at) (new_of at) c.self.inside.free.items c.self.inside.current c.args.frame c.self.invariant.0 (freed at) in
    let room : length c.self.inside.seat.frames ≤ vec_capacity c.self.inside.free = c.self.invariant.1 in
    omega arith

pub invariant_of-self-then-generation-lt4294967295 : goal.invariant_of-self-then-generation-lt4294967295
invariant_of-self-then-generation-lt4294967295 c =
    let at = (goal.at.invariant_of-self-then-generation-lt4294967295 c).After-generation in
    let is = next at in
    let low : c.generation.result < 4294967295 = search rules in
    let again : (frame_at c.self.inside.seat.frames c.args.frame).generation + 2 < 2 ^ 32 = omega arith in
    let list = list_again (old_of at) (new_of at) c.self.inside.free.items c.put_back.new.free.items c.self.inside.current c.args.frame c.self.invariant.0 (freed at) again c.put_back.ensures.items in (
      sound_released (old_of at) (new_of at) c.self.inside.free.items c.put_back.new.free.items c.self.inside.current c.args.frame c.self.invariant.0 (freed at) list,
      omega (arith, few at, c.self.invariant.1, c.put_back.ensures.room),
    )

pub invariant_of-self-else-generation-lt4294967295 : goal.invariant_of-self-else-generation-lt4294967295
invariant_of-self-else-generation-lt4294967295 c =
    let at = (goal.at.invariant_of-self-else-generation-lt4294967295 c).After-generation in
    let is = next at in
    let high : 4294967295 ≤ c.generation.result = search rules in
    let last : 2 ^ 32 ≤ (frame_at c.self.inside.seat.frames c.args.frame).generation + 2 = omega arith in (
      sound_released (old_of at) (new_of at) c.self.inside.free.items c.self.inside.free.items c.self.inside.current c.args.frame c.self.invariant.0 (freed at)
          (list_kept (old_of at) (new_of at) c.self.inside.free.items c.self.inside.current c.args.frame c.self.invariant.0 (freed at) last),
      omega (arith, few at, c.self.invariant.1),
    )

pub returns-then-generation-lt4294967295 : goal.returns-then-generation-lt4294967295
returns-then-generation-lt4294967295 c = released_all (goal.at.returns-then-generation-lt4294967295 c).After-generation

pub returns-else-generation-lt4294967295 : goal.returns-else-generation-lt4294967295
returns-else-generation-lt4294967295 c = released_all (goal.at.returns-else-generation-lt4294967295 c).After-generation

pub returns-in_err-release : goal.returns-in_err-release
returns-in_err-release c =
    let old : Table = record { seat = c.self.inside.seat; slots = c.self.inside.slots.items } in
    let new : Table = record { seat = c.release.new.self; slots = c.self.inside.slots.items } in
    let L : Table → Type 0 = λ t. log_of new ≡ log_of t in
    record {
      released = search rules;
      held = search rules;
      named = search rules;
      spent = search rules;
      again = search rules;
      retired = search rules;
      missed = search rules;
      idle = search rules;
      refused = search rules;
      log = OnErr_from c.from_residual.result (subst L c.self.view_is (same_log old c.release.new.self c.in_err-release.ensures.refused.1));
      table = search rules;
      refusal = search rules;
    }
