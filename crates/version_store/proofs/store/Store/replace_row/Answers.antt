use Rattle.std.proofs.Common.{◌≡◌, ◌≤◌, length, Some, sym, ap, subst, ◌∙◌}
use Rattle.object_map.specs.Rows.{row_of}
use Rattle.row_changes.specs.Rewritten.{rewritten_blocks}
use Rattle.version_store.specs.Store.{StoreFields, IsStore, fields_of, pointers_named}
use Rattle.version_store.specs.Replacing.{CanReplace}
use Rattle.version_store.specs.private.Replacing.{Replaces}
use Rattle.version_store.proofs.store.Store.replace_row.Goals as goal

pub put_replacement-requires : goal.put_replacement-requires
put_replacement-requires g c =
    let o = c.args.object in
    let row = c.args.row.now in
    let present = c.args.present.now in
    let entries = c.args.entries.now in
    let same = sym c.names.ensures.same in
    record {
      store = subst (λ (s : StoreFields). IsStore s) same c.requires.store;
      row = subst (λ (s : StoreFields). row_of s.rows o ≡ Some row) same c.requires.row;
      can = subst (λ (s : StoreFields). CanReplace s o row present entries) same c.requires.can;
      told = c.as_slice.ensures.value ∙ c.in_ok-told.ensures.told;
      pointers = c.as_slice-2.ensures.value ∙ c.in_ok-pointers.ensures.names ∙ ap (λ (s : StoreFields). pointers_named s.log.held o row) same;
      room = subst (λ (s : StoreFields). rewritten_blocks present entries ≤ length s.log.ahead) same c.requires.room;
    }

pub returns : goal.returns
returns g c = record {
  replaced = subst (λ (s : StoreFields). Replaces s c.args.object c.args.row.now c.args.present.now c.args.entries.now (fields_of g.B.Blocks.log c.put_replacement.new.self)) c.names.ensures.same c.put_replacement.ensures;
  refusal = tt;
  unchanged = tt;
}
