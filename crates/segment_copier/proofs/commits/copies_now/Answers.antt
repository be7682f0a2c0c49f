use Rattle.std.proofs.Common.{◌≡◌, ℕ, List, filter, map, IfOk, IsSome, sym, ap, subst, ◌∙◌}
use Rattle.std.specs.List.{AllByRecursion}
use Rattle.s4_types.specs.Pointer.{Place}
use Rattle.segment_table.specs.Table.{Table, held_at}
use Rattle.segment_table.specs.Room.{pointers_in}
use Rattle.version_store.specs.declared.copies.CopiedBlock.{CopiedBlock}
use Rattle.drive.specs.Fields.{DriveFields}
use Rattle.segment_copier.specs.Moves.{is_data, data_in}
use Rattle.segment_copier.specs.Commits.{copy_at}
use Rattle.segment_copier.specs.private.Copying.{IsTrueIn}
use Rattle.segment_copier.proofs.Placed.{true_copies, same_copies, data_held}
use Rattle.segment_copier.proofs.Gathered.{on_ok_of}
use Rattle.segment_copier.proofs.commits.copies_now.Goals as goal

-- the places that are copied are those of the data blocks there
placed : (d recalled listed : DriveFields) (o f : ℕ) (held slice places last : List Place) → recalled ≡ d → listed ≡ recalled → slice ≡ held → held ≡ pointers_in recalled.store.table o f
    → places ≡ filter (λ p. is_data (held_at listed.store.table p)) slice → last ≡ places → last ≡ data_in d.store.table o f
placed d recalled listed o f held slice places last same same_too is pointers found at =
    let t : Table = d.store.table in
    at ∙ found ∙ ap (λ (e : DriveFields). filter (λ p. is_data (held_at e.store.table p)) slice) (same_too ∙ same)
    ∙ ap (filter (λ p. is_data (held_at t p))) (is ∙ pointers ∙ ap (λ (e : DriveFields). pointers_in e.store.table o f) same)

pub copies_at-requires-clause-held : goal.copies_at-requires-clause-held
copies_at-requires-clause-held g c =
    let t : Table = c.args.drive.now.store.table in
    let places : c.as_slice-2.result.now ≡ data_in t c.args.object c.args.frame =
    placed c.args.drive.now c.recall.new.self c.held_in.new.self c.args.object c.args.frame c.in_ok-held.held.items c.as_slice.result.now c.in_ok-places.places.items c.as_slice-2.result.now
    c.recall.ensures.same.0 c.held_in.ensures.same c.as_slice.ensures.value c.in_ok-held.ensures.pointers c.in_ok-places.ensures.found c.as_slice-2.ensures.value in
    let same : c.data_among.new.drive ≡ c.args.drive.now = c.data_among.ensures.same ∙ c.held_in.ensures.same ∙ c.recall.ensures.same.0 in
    subst (λ (d : DriveFields). AllByRecursion (λ p. IsSome (held_at d.store.table p)) c.as_slice-2.result.now) (sym same)
    (subst (λ (l : List Place). AllByRecursion (λ p. IsSome (held_at t p)) l) (sym places) (data_held c.what_is_listed_is_held.ensures t c.args.object c.args.frame))

pub copies_at-requires-clause-made : goal.copies_at-requires-clause-made
copies_at-requires-clause-made g c =
    let same : c.data_among.new.drive ≡ c.args.drive.now = c.data_among.ensures.same ∙ c.held_in.ensures.same ∙ c.recall.ensures.same.0 in
    subst (λ (d : DriveFields). AllByRecursion (IsTrueIn d.store.table) c.args.made.now) (sym same)
    (true_copies c.args.drive.now.store.table c.args.made.now g.J.Naming.frames c.args.memory.now c.requires.memory c.recall.ensures.remembered)

pub returns-clause-copies : goal.returns-clause-copies
returns-clause-copies g c =
    let t : Table = c.args.drive.now.store.table in
    let places : c.as_slice-2.result.now ≡ data_in t c.args.object c.args.frame =
    placed c.args.drive.now c.recall.new.self c.held_in.new.self c.args.object c.args.frame c.in_ok-held.held.items c.as_slice.result.now c.in_ok-places.places.items c.as_slice-2.result.now
    c.recall.ensures.same.0 c.held_in.ensures.same c.as_slice.ensures.value c.in_ok-held.ensures.pointers c.in_ok-places.ensures.found c.as_slice-2.ensures.value in
    let same : c.data_among.new.drive ≡ c.args.drive.now = c.data_among.ensures.same ∙ c.held_in.ensures.same ∙ c.recall.ensures.same.0 in
    subst (λ (l : List CopiedBlock). IfOk c.copies_at.result (λ copies. copies.items ≡ l))
    (ap (λ (d : DriveFields). map (copy_at d.store.table) c.as_slice-2.result.now) same ∙ ap (map (copy_at t)) places) c.copies_at.ensures.copies

pub returns-clause-made : goal.returns-clause-made
returns-clause-made g c =
    let t : Table = c.args.drive.now.store.table in
    on_ok_of c.copies_at.result (λ is. same_copies t c.args.made.now (data_in t c.args.object c.args.frame)
    (true_copies t c.args.made.now g.J.Naming.frames c.args.memory.now c.requires.memory c.recall.ensures.remembered)
    (data_held c.what_is_listed_is_held.ensures t c.args.object c.args.frame) is)
