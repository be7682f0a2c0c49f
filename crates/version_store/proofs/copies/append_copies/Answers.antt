use Rattle.std.proofs.Common.{◌≡◌, ◌+◌, [], ◌∷◌, List, length, drop, refl, subst, sym, ap, ◌∙◌}
use Rattle.std.proofs.lemmas.List.{drop_more}
use Rattle.version_store.specs.declared.copies.CopiedBlock.{CopiedBlock}
use Rattle.chain_rewriting.specs.Renaming.{RenamingFields, no_moves}
use Rattle.s4_types.specs.Pointer.{Place}
use Rattle.version_store.specs.Store.{times_led}
use Rattle.version_store.specs.Relocating.{frame_of_copies}
use Rattle.version_store.specs.private.Relocating.{Appending}
use Rattle.version_store.proofs.Appending.{begun}
use Rattle.version_store.proofs.copies.append_copies.Goals as goal

-- a renaming has a place for each block of a frame
full : (copies : List CopiedBlock) → length (frame_of_copies copies).moves ≡ 15
unfolding no_moves
full [] = refl
full (c ∷ copies) = refl

-- and none of them is one yet
nowhere : (copies : List CopiedBlock) (q : Place) → times_led q (frame_of_copies copies).moves ≡ 0
unfolding no_moves
nowhere [] q = refl
nowhere (c ∷ copies) q = refl

pub loop-copy-init : goal.loop-copy-init
loop-copy-init g c =
    let log = g.B.Blocks.log c.args.table.now in
    let o = c.args.object in
    let copies = c.args.copies.now in
    subst (λ (r : RenamingFields). Appending o copies log log r copies 0) (sym c.frame_of-renaming.ensures)
    (begun c.moves_are_put_in_one_by_one.ensures.none c.moves_are_put_in_one_by_one.ensures.none_distinct o copies log (full copies) (nowhere copies) c.requires.copies)

pub loop-copy-preserved : goal.loop-copy-preserved
loop-copy-preserved g c =
    let log = g.B.Blocks.log in
    let o = c.args.object in
    let copies = c.args.copies.now in
    let i = c.loop-copy.copy-index in
    let copy = c.copy-item.result in
    let rest = drop (i + 1) copies in
    let split = drop_more copies i copy c.loop-copy-test.true ∙ ap (λ (x : CopiedBlock). x ∷ rest) (sym c.copy-item.is) in
    c.append_copy.ensures.appending copies rest i (log c.args.table.now) (i, c.loop-copy-test.true, sym c.copy-item.is)
    (subst (λ (left : List CopiedBlock). Appending o copies (log c.args.table.now) (log c.loop-copy.table) c.loop-copy.renaming left i) split c.loop-copy.invariant)
