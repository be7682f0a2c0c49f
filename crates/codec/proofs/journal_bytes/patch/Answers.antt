use Rattle.std.proofs.Common.{◌∙◌, ◌+◌, ℕ, List, ◌++◌, ◌∷◌, [], length, get_or, refl, ap, arith}
use Rattle.s4_types.specs.declared.limits.TheConstants.{JOURNAL_HEAD_BYTES}
use Rattle.codec.specs.Fields.{number}
use Rattle.codec.specs.Entry.{entry_spelling}
use Rattle.codec.specs.Patching.{decoded}
use Rattle.codec.proofs.Patched.{count_low, patched}
use Rattle.codec.proofs.journal_bytes.patch.Goals as goal

pub overflow_add-count : goal.overflow_add-count
overflow_add-count c =
    let j = decoded c.args.block.now in
    omega (arith, c.count_in-count.ensures j c.requires.spells, count_low c.args.block.now j c.args.entry.now c.requires.spells c.requires.room)

pub returns : goal.returns
unfolding number
returns c =
    let j = decoded c.args.block.now in
    let e = c.args.entry.now in
    let told = c.told_in-told.result in
    let count = c.count_in-count.result in
    let spelled = c.as_slice-bytes.result.now in
    let two = c.to_be_bytes.result in
    patched c.args.block.now j e (JOURNAL_HEAD_BYTES + told) (length spelled) told count c.put_at.new.block spelled c.put_at-2.new.block ((count + 1) ∷ get_or two 0 0 ∷ get_or two 1 0 ∷ [])
    c.requires.spells c.encode_entry.ensures.spelled c.requires.room
    (c.told_in-told.ensures j c.requires.spells) (c.count_in-count.ensures j c.requires.spells) refl
    (c.as_slice-bytes.ensures.value ∙ c.encode_entry.ensures.items ∙ ap (λ (l : List ℕ). l ++ entry_spelling e) c.new-spelled.ensures) refl
    c.put_at.ensures
    (ap (λ (b : List ℕ). (count + 1) ∷ get_or b 0 0 ∷ get_or b 1 0 ∷ []) c.to_be_bytes.ensures)
    c.put_at-2.ensures
