use Rattle.std.proofs.Common.{◌≡◌, List, sym, subst, arith}
use Rattle.window.specs.declared.chunks.Chunk.{Chunk}
use Rattle.window.specs.Chunks.{flat, Parted, AllDated}
use Rattle.window.proofs.Dividing.{divides_last}
use Rattle.window.proofs.chunks.divide.Goals as goal

pub returns-clause-ok : goal.returns-clause-ok
returns-clause-ok c =
    let P : List Chunk → Type 0 = λ xs. (flat xs ≡ c.args.runs.now) × Parted 0 xs × AllDated xs in
    let up : c.in_ok-chunk_of-2.field-0.up_to ≡ c.new.result = c.in_ok-chunk_of-2.ensures.ok.0 in
    subst P (sym c.in_ok-push-2.ensures.items) (divides_last c.args.runs.now c.loop-list.chunks.items c.loop-list.rest.now c.in_ok-chunk_of-2.field-0 c.loop-list.invariant (omega arith) c.in_ok-chunk_of-2.ensures.ok.1 c.in_ok-chunk_of-2.ensures.ok.2)
