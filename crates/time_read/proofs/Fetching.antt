-- The bytes of a plan, piece by piece.
use Rattle.std.proofs.Common.{◌≡◌, ℕ, ◌+◌, ◌-◌, ◌*◌, ◌/◌, ◌%◌, ◌<◌, ◌≤◌, List, [], ◌++◌, length, take, drop, slice_index, slice_index_or, ap, sym, ◌∙◌, arith, length-append, get_or-take, get_or-drop}
use Rattle.inode.specs.Contents.{listed}
use Rattle.inode.specs.Laws.{RangesJoin, AListIsARange}
use Rattle.time_read.specs.Plans.{PlanFields, piece_bytes, pins_held, byte_planned, Hole}

-- the bytes of a piece are those that the plan has at its places
byte_of_piece : (plan : PlanFields) (index n : ℕ) → n < 512 → slice_index (piece_bytes (pins_held plan.pin) (slice_index_or plan.pieces index Hole)) n ≡ byte_planned plan (512 * index + n)
unfolding byte_planned
byte_of_piece plan index n lt =
    let at : index ≡ (512 * index + n) / 512 = omega arith in
    let rest : n ≡ (512 * index + n) % 512 = omega arith in
    ap (λ (k : ℕ). slice_index (piece_bytes (pins_held plan.pin) (slice_index_or plan.pieces k Hole)) n) at
    ∙ ap (λ (r : ℕ). slice_index (piece_bytes (pins_held plan.pin) (slice_index_or plan.pieces ((512 * index + n) / 512) Hole)) r) rest

-- what was added of a piece is a range of the plan's bytes
pub part_added : AListIsARange → (plan : PlanFields) (index at next from to : ℕ) (old new : List ℕ) → at / 512 ≡ index → at < next → next ≤ 512 * index + 512 → from ≡ at - 512 * index → to ≡ next - 512 * index
    → new ≡ old ++ take (to - from) (drop from (piece_bytes (pins_held plan.pin) (slice_index_or plan.pieces index Hole))) → length new ≡ length old + (to - from) → new ≡ old ++ listed (byte_planned plan) at (next - at)
part_added list plan index at next from to old new is_index lt le is_from is_to is long =
    let block : List ℕ = piece_bytes (pins_held plan.pin) (slice_index_or plan.pieces index Hole) in
    let part : List ℕ = take (to - from) (drop from (piece_bytes (pins_held plan.pin) (slice_index_or plan.pieces index Hole))) in
    let both : length new ≡ length old + length part = ap (length {A = ℕ}) is ∙ length-append old part in
    let whole : length part ≡ next - at = omega (arith, both, long, is_from, is_to, lt, is_index) in
    is ∙ ap (λ (l : List ℕ). old ++ l) (list (byte_planned plan) at (next - at) part whole (λ n below.
    get_or-take (to - from) (drop from block) n 0 (omega (arith, is_from, is_to, below))
    ∙ get_or-drop from block n 0
    ∙ byte_of_piece plan index (from + n) (omega (arith, is_from, below, le, is_index))
    ∙ ap (byte_planned plan) (omega (arith, is_from, is_index))))

-- nothing was fetched
pub none_fetched : AListIsARange → (f : ℕ → ℕ) (first count : ℕ) (bytes : List ℕ) → bytes ≡ [] → count ≡ 0 → bytes ≡ listed f first count
none_fetched list f first count bytes is none = list f first count bytes (ap (length {A = ℕ}) is ∙ sym none) (λ n below. absurd (omega arith))

-- one more piece was
pub more_fetched : RangesJoin → (f : ℕ → ℕ) (first at next : ℕ) (bytes more all : List ℕ) → bytes ≡ listed f first (at - first) → first ≤ at → at ≤ next → more ≡ listed f at (next - at) → all ≡ bytes ++ more → all ≡ listed f first (next - first)
more_fetched join f first at next bytes more all is low high is_more is_all =
    is_all ∙ ap (λ (l : List ℕ). l ++ more) is ∙ ap (λ (l : List ℕ). listed f first (at - first) ++ l) is_more
    ∙ ap (λ (m : ℕ). listed f first (at - first) ++ listed f m (next - at)) (omega arith)
    ∙ join f first (at - first) (next - at)
    ∙ ap (listed f first) (omega arith)
