use Rattle.std.proofs.Common.{List, subst}
use Rattle.codec.proofs.SummaryLaws.{one_summary}
use Rattle.image_parts.specs.declared.headers.Header.{Header}
use Rattle.segment_table.specs.Used.{used_at}
use Rattle.image_objects.specs.declared.rows.ImageRow.{ImageRow}
use Rattle.image_objects.specs.Rows.{RowsStand}
use Rattle.verifier.specs.Rows.{SpellRows}
use Rattle.verifier.specs.Reading.{AreRead}
use Rattle.verifier.proofs.Retold.{chains_fall, table_held, read_over}
use Rattle.verifier.proofs.verifying.read_chains.Goals as goal

-- over any other table of the frames, rows are where they do over this one
pub returns-in_default-clause-none : goal.returns-in_default-clause-none
returns-in_default-clause-none c =
    let parts = c.args.parts.now in
    let N : Header → Type 0 = λ h. (rows : List ImageRow) → SpellRows parts.rows rows → RowsStand (used_at c.args.table) rows h.clock → ⊥ in
    chains_fall one_summary parts c.args.table c.requires.table (subst N c.header.ensures (rw c.in_default.is at c.in_ok-read.ensures.none))

pub returns-clause-frames : goal.returns-clause-frames
returns-clause-frames c =
    table_held c.args.parts.now.frames c.args.table c.in-Some.read.table c.requires.table (rw c.in-Some.is at c.in_ok-read.ensures.frames) c.rules.ensures.frames.sizes.1 (rw c.in-Some.is at c.in_ok-read.ensures.slots)

pub returns-clause-rows : goal.returns-clause-rows
returns-clause-rows c =
    let parts = c.args.parts.now in
    let read = c.in-Some.read in
    let R : Header → Type 0 = λ h. AreRead c.args.table parts.rows h.clock read.table read.objects.items in
    read_over c.args.table read.table parts.rows parts.clock read.objects.items (subst R c.header.ensures (rw c.in-Some.is at c.in_ok-read.ensures.found)) (rw c.in-Some.is at c.in_ok-read.ensures.used)
