use Rattle.std.proofs.Common.{ℕ, ◌+◌, subst, sym}
use Rattle.inode.specs.Growth.{data_block}
use Rattle.chain_rewriting.specs.Renaming.{RenamingFields, with_move}
use Rattle.version_store.specs.private.Relocating.{Appending}
use Rattle.version_store.proofs.Appending.{one_copied}
use Rattle.version_store.proofs.copies.append_copy.Goals as goal

pub returns : goal.returns
returns g c = record {
  appending = λ copies rest count before among a.
      let log = g.B.Blocks.log in
      let o = c.args.object in
      let copy = c.args.copy.now in
      let now = log c.args.table.now in
      let after = log c.append.new.self in
      let block = data_block o copy.bytes in
      subst (λ (r : RenamingFields). Appending o copies before after r rest (count + 1)) (sym c.insert.ensures.exact)
      (subst (λ (b : ℕ). Appending o copies before after (with_move c.args.renaming.now b c.in-Ok.place) rest (count + 1)) (sym c.block.ensures.block)
      (one_copied g.met.B.Blocks.one_place_has_one_name g.met.B.Blocks.places_taken_add_up c.moves_are_put_in_one_by_one.ensures.more c.moves_are_put_in_one_by_one.ensures.distinct o copies before now after c.args.renaming.now copy rest count c.in-Ok.place
      c.block.ensures.range (g.met.B.Blocks.an_append_puts_one_block now after block c.in-Ok.place c.in-Ok.ensures.appended c.in-Ok.ensures.fresh) (g.met.B.Blocks.an_append_takes_one_place now after block c.in-Ok.place c.in-Ok.ensures.appended) among a));
}
