use Rattle.std.proofs.Common.{◌≡◌, ℕ, List, length, Option, None, drop, get_or, ap, subst, ◌∙◌}
use Rattle.std.specs.Prelude.{◌⊎◌, reverse}
use Rattle.s4_types.specs.Pointer.{Place}
use Rattle.codec.specs.declared.inodes.Inode.{Inode}
use Rattle.time_read.specs.Undoings.{put_back}
use Rattle.time_read.specs.Within.{IsIn}
use Rattle.time_read.proofs.Within.{led_within}
use Rattle.time_read.proofs.undo_records.undo_within.Goals as goal

pub returns : goal.returns
returns c =
    let now : List (Option Place) = c.put_some_back.new.pointers in
    let undone : List (Option Place) → List (Option Place) = λ (old : List (Option Place)). put_back (reverse (drop c.args.oldest.now.first c.args.pointers.now)) old in
    let kept : c.undo_fields.new.inode.pointers ≡ c.args.inode.now.pointers = ap (λ (j : Inode). j.pointers) c.undo_fields.ensures in
    led_within c.args.needed c.args.pointers.now c.args.attributes.now c.args.oldest.now c.args.inode.now _ now (ap (λ (j : Inode). record j { pointers = now }) c.undo_fields.ensures)
    (c.put_some_back.ensures.count ∙ ap (λ (l : List (Option Place)). length l) kept)
    (subst (λ (old : List (Option Place)). (k : ℕ) → IsIn c.args.needed k → get_or now k None ≡ get_or (undone old) k None) kept c.put_some_back.ensures.within)
    (subst (λ (old : List (Option Place)). (k : ℕ) → (get_or now k None ≡ get_or (undone old) k None) ⊎ (get_or now k None ≡ get_or old k None)) kept c.put_some_back.ensures.either)
