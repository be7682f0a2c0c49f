use Rattle.std.proofs.Common.{◌∙◌, ap, List, ℕ}
use Rattle.std.specs.Int.{w64}
use Rattle.codec.specs.Fields.{number_at}
use Rattle.codec.specs.Journal.{JournalFields}
use Rattle.codec.specs.Patching.{decoded}
use Rattle.codec.proofs.Patched.{object_is, rest_is, read_some, read_is}
use Rattle.codec.proofs.journal_bytes.JournalBytes.object.Goals as goal

pub unwrap-number-requires : goal.unwrap-number-requires
unwrap-number-requires c =
    let block = c.self.inside.block in
    read_some _ c.read_long.result _ _ c.read_long.ensures (ap (number_at w64) (rest_is block 8 c.self.told) ∙ object_is block (decoded block) c.self.invariant)

pub returns : goal.returns
returns c =
    let block = c.self.inside.block in
    c.new.ensures
    ∙ ap (λ (x : ℕ × List ℕ). x.0) (read_is _ c.read_long.result _ c.unwrap-number.result _ c.read_long.ensures (ap (number_at w64) (rest_is block 8 c.self.told) ∙ object_is block (decoded block) c.self.invariant) c.unwrap-number.ensures)
    ∙ ap (λ (j : JournalFields). j.object) c.self.view_is
