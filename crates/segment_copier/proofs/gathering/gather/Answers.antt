use Rattle.std.proofs.Common.{◌≡◌, ◌<◌, true, Option, sym, ap, subst, ◌∙◌, arith}
use Rattle.std.specs.Prelude.{IfSome, nat_lt}
use Rattle.std.proofs.lemmas.Bool.{ltb-true}
use Rattle.std.proofs.lemmas.Result.{err_from_is_err_and}
use Rattle.s4_types.specs.declared.limits.TheConstants.{MOVE_BLOCKS, PAYLOAD_BLOCKS}
use Rattle.version_store.specs.Costs.{room}
use Rattle.drive.specs.Fields.{DriveFields, store_of}
use Rattle.segment_copier.specs.declared.candidates.Candidate.{Candidate}
use Rattle.segment_copier.specs.Choosing.{IsFirstFrame, IsLowestObject}
use Rattle.segment_copier.specs.Gathering.{free_count, most_to_empty, IsUnmade}
use Rattle.segment_copier.proofs.Gathered.{not_gathered}
use Rattle.segment_copier.proofs.gathering.gather.Goals as goal

-- the chosen object has a row, so that its move is kept back for lack of memory, of a pin or of room
pub returns-in_err-move_now-clause-refusal : goal.returns-in_err-move_now-clause-refusal
returns-in_err-move_now-clause-refusal g c =
    let p = err_from_is_err_and c.from_residual-in_err-move_now.result c.from_residual-in_err-move_now.ensures.1 in
    let d : DriveFields = c.args.drive.now in
    let next : Candidate = c.in-Some.next in
    let second : c.free_frames.new.drive ≡ d = c.free_frames.ensures.same ∙ c.sparsest.ensures.same in
    let third : c.takes_few.new.drive ≡ d = c.takes_few.ensures.same ∙ second in
    let short : room (store_of d) < MOVE_BLOCKS = omega (arith, c.room.ensures, c.if-room-ge-MOVE_BLOCKS.false) in
    let frame : IsFirstFrame d.store.table next.frame = subst (λ (found : Option Candidate). IfSome found (λ n. IsFirstFrame d.store.table n.frame)) c.in-Some.is c.in_ok-next.ensures.frame in
    let object : IsLowestObject d.store.table next.frame next.object =
    subst (λ (found : Option Candidate). IfSome found (λ n. IsLowestObject d.store.table n.frame n.object)) c.in-Some.is c.in_ok-next.ensures.object in
    let number : c.free_frames.result ≡ free_count d.store.table = c.free_frames.ensures.number ∙ ap (λ (e : DriveFields). free_count e.store.table) c.sparsest.ensures.same in
    let free : 0 < free_count d.store.table = omega (arith, number, c.if-free_frames-eq0.false) in
    let few : nat_lt (most_to_empty d next.frame) PAYLOAD_BLOCKS ≡ true =
    sym (c.takes_few.ensures.few ∙ ap (λ (e : DriveFields). nat_lt (most_to_empty e next.frame) PAYLOAD_BLOCKS) second) ∙ c.if-not-takes_few.false in
    rw (p.1, p.2) (not_gathered c.what_is_listed_is_held.ensures d next c.in_err-move_now.field-0.0 c.rules.ensures.store short frame object free (ltb-true (most_to_empty d next.frame) PAYLOAD_BLOCKS few)
    (subst (λ (e : DriveFields). IsUnmade e next.frame next.object c.in_err-move_now.field-0.0) third c.in_err-move_now.ensures.refusal))
