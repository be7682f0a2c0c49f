-- The blocks that are gone, counted one by one.
use Rattle.std.proofs.Common.{◌≡◌, ℕ, suc, ◌+◌, Bool, cond, count_by, Option, refl, sym, ap, ◌∙◌, arith}
use Rattle.std.specs.List.{range_with_len}
use Rattle.s4_types.specs.Pointer.{Place}
use Rattle.lemmas.proofs.Range.{count_last, tally}
use Rattle.block_log.specs.Log.{Stored}
use Rattle.codec.specs.declared.inodes.Inode.{Inode}
use Rattle.image_salvage.specs.Contents.{is_gone, gone_below}

pub none_gone : (used : Place → Option Stored) (o : ℕ) (i : Inode) → 0 ≡ gone_below used o i 0
unfolding gone_below
none_gone used o i = refl

-- one block more was looked at
pub one_gone : (used : Place → Option Stored) (o : ℕ) (i : Inode) (n gone after : ℕ) (b : Bool) → gone ≡ gone_below used o i n → b ≡ is_gone used o i n → after ≡ gone + cond b 1 0 → after ≡ gone_below used o i (n + 1)
unfolding gone_below
one_gone used o i n gone after b before here is =
    let next : n + 1 ≡ suc n = omega arith in
    let place : tally (is_gone used o i (0 + n)) ≡ tally (is_gone used o i n) = ap (λ (m : ℕ). tally (is_gone used o i m)) (omega arith) in
    is ∙ ap (λ (m : ℕ). m + tally b) before ∙ ap (λ (t : Bool). count_by (is_gone used o i) (range_with_len 0 n) + tally t) here
    ∙ ap (λ (m : ℕ). count_by (is_gone used o i) (range_with_len 0 n) + m) (sym place)
    ∙ sym (count_last (is_gone used o i) 0 n) ∙ ap (λ (m : ℕ). count_by (is_gone used o i) (range_with_len 0 m)) (sym next)
