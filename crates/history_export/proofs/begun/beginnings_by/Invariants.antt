use Rattle.std.proofs.Common.{◌≡◌, ◌++◌, ◌∷◌, drop}
use Rattle.drive.specs.Fields.{state_in}
use Rattle.history_view.specs.Listing.{seen_from}
use Rattle.history_export.specs.Versions.{begun_behind}
use Rattle.history_export.proofs.begun.beginnings_by.Given as goal

-- the moments so far, and those that the entries to come begin, are all
abbrev pub invariant-loop-entry : goal.invariant-loop-entry
invariant-loop-entry g l =
    let s = state_in l.drive in
    let first = seen_from s l.object s.floor in
    first ∷ begun_behind s l.object first l.entries ≡ l.moments.items ++ begun_behind s l.object l.last (drop l.entry-index l.entries)
