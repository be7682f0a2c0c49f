use Rattle.std.proofs.Common.{◌≡◌, ◌∙◌, ◌*◌, ap, sym, arith, length, ℕ}
use Rattle.atomic_table.specs.Seated.{TableId}
use Rattle.segment_word.specs.Steps.{Sat}
use Rattle.segment_word.proofs.pool.Frames.from_words.Goals as goal

pub invariant_of-result : goal.invariant_of-result
invariant_of-result c =
    let made = c.in_ok-table.ensures in
    let kept = c.perches.ensures.seat in
    let me = kept.1 ∙ made.knows in
    let count : length c.perches.new.seat.me.0.frames ≡ length c.args.words = ap (λ (m : Sat). length m.0.frames) me in
    let size : c.perches.new.seat.table_id.words ≡ 1025 * length c.args.words = ap (λ (z : TableId). z.words) (kept.0.0 ∙ made.seat.0) ∙ made.words in (
      kept.0.0 ∙ made.seat.0 ∙ sym (ap (λ b. b.table.shared.table_id) c.in_ok-board.ensures.ok),
      record {
        first = kept.0.1 ∙ made.seat.1;
        bare = ap (λ (m : Sat). m.1) me;
        unlent = ap (λ (m : Sat). m.0.pins) me;
        sized = size ∙ ap (λ (n : ℕ). 1025 * n) (sym count);
        some_frame = omega (arith, made.limits);
        most = omega (arith, made.limits);
      },
    )

pub returns-clause-frames : goal.returns-clause-frames
returns-clause-frames c =
    let made = c.in_ok-table.ensures in
    let kept = c.perches.ensures.seat in
    let me = kept.1 ∙ made.knows in
    let table = kept.0.0 ∙ made.seat.0 ∙ sym (ap (λ b. b.table.shared.table_id) (c.in-Ok.ensures ∙ c.in_ok-board.ensures.ok)) in
    let frames = ap (λ (m : Sat). m.0.frames) me in
    let releases = ap (λ (m : Sat). m.0.releases) me in
    λ t. record { table = table t; frames = frames t; releases = releases t }
