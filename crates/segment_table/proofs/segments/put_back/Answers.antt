use Rattle.std.proofs.Common.{◌≡◌, ◌≤◌, nat_lt, ap, sym, subst, List, ℕ, ◌++◌, ◌∙◌, true, false, rules, length}
use Rattle.std.specs.List.{insert}
use Rattle.std.specs.List.Sorted.{IsPartitionPoint, IsPartitionedBy}
use Rattle.std.proofs.lemmas.List.Sorted.{IsPartitionPoint-from_clause}
use Rattle.segment_table.proofs.Vacating.{parted, place_is, inserted}
use Rattle.segment_table.proofs.segments.put_back.Goals as goal

pub returns-clause-items : goal.returns-clause-items
returns-clause-items c higher lower split a b =
    let f : ℕ = c.args.frame in
    let slice : c.as_slice.result.now ≡ higher ++ lower = c.as_slice.ensures.value ∙ split in
    let roles : IsPartitionedBy (λ n. nat_lt f n) c.as_slice.result.now = subst (λ (l : List ℕ). IsPartitionedBy (λ n. nat_lt f n) l) (sym slice) (parted f higher lower a b) in
    let point = IsPartitionPoint-from_clause (λ n. nat_lt f n) _ _ c.partition_point-place.ensures.partitioned roles (λ x r g k. search rules) in
    let place : c.partition_point-place.result ≡ length higher =
    place_is f higher lower c.partition_point-place.result a b (subst (λ (l : List ℕ). c.partition_point-place.result ≤ length l) slice c.partition_point-place.ensures.bound)
    (subst (λ (l : List ℕ). IsPartitionPoint (λ n. nat_lt f n ≡ true) (λ n. nat_lt f n ≡ false) l c.partition_point-place.result) slice point) in
    let fits = c.insert.ensures.succeeds c.requires in
    let made : c.insert.new.self.items ≡ insert c.args.free.now.items c.partition_point-place.result f = search rules in
    made ∙ ap (λ (l : List ℕ). insert l c.partition_point-place.result f) split ∙ ap (λ (i : ℕ). insert (higher ++ lower) i f) place ∙ inserted f higher lower
