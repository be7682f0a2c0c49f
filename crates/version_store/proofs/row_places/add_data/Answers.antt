use Rattle.std.proofs.Common.{◌++◌, ◌∙◌, List, Option, sym, ap, subst}
use Rattle.s4_types.specs.Pointer.{Place}
use Rattle.block_log.specs.Log.{Log}
use Rattle.time_read.specs.Rows.{IsRow, entries_of}
use Rattle.version_store.specs.Store.{pointers_named}
use Rattle.version_store.proofs.row_places.add_data.Goals as goal

pub names_by-requires : goal.names_by-requires
names_by-requires g c =
    let o = c.args.object in
    let row = c.args.row.now in
    let same = sym c.entries.ensures.same in
    record {
      row = subst (λ (l : Log). IsRow l.held o row) same c.requires;
      entries = c.as_slice.ensures.value ∙ c.in_ok-entries.ensures.entries ∙ ap (λ (l : Log). entries_of l.held o row) same;
    }

pub returns-clause-added : goal.returns-clause-added
returns-clause-added g c =
    c.in_ok-extend_from_slice.ensures.items
    ∙ ap (λ (names : List (Option Place)). c.args.pointers.now.items ++ names)
    (c.as_slice-2.ensures.value ∙ c.in_ok-names.ensures.names ∙ ap (λ (l : Log). pointers_named l.held c.args.object c.args.row.now) c.entries.ensures.same)
