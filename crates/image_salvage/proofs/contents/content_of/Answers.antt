use Rattle.std.proofs.Common.{◌≡◌, ℕ, ◌%◌, ◌++◌, [], ◌∷◌, List, Option, sym, ap, ◌∙◌, arith}
use Rattle.std.proofs.lemmas.List.FromFn.{map-range_with_len_more}
use Rattle.s4_types.specs.Pointer.{Place}
use Rattle.inode.specs.Contents.{byte_in, byte_of, listed}
use Rattle.segment_table.specs.Used.{used_at}
use Rattle.image_salvage.specs.Contents.{data_of}
use Rattle.image_salvage.proofs.contents.content_of.Goals as goal

pub loop-n-init : goal.loop-n-init
unfolding listed
loop-n-init c = c.new-bytes.ensures.items

pub loop-n-preserved : goal.loop-n-preserved
unfolding listed byte_of
loop-n-preserved c =
    let contents : Place → List ℕ = data_of (used_at c.args.table.now) c.args.object in
    let n : ℕ = c.loop-n.n in
    let byte : c.byte_in.result ≡ byte_of contents c.args.inode.now n = c.byte_in.ensures ∙ ap (λ (slot : Option Place). byte_in contents slot (n % 512)) c.slot_of-slot.ensures in
    c.in_ok-push.ensures.items ∙ ap (λ (l : List ℕ). l ++ c.byte_in.result ∷ []) c.loop-n.invariant
    ∙ ap (λ (b : ℕ). listed (byte_of contents c.args.inode.now) 0 n ++ b ∷ []) byte
    ∙ sym (map-range_with_len_more (byte_of contents c.args.inode.now) 0 n n (omega arith))
