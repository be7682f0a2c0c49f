use Rattle.std.proofs.Common.{ℕ, List, None, ap, ◌∙◌, replicate}
use Rattle.codec.specs.Journal.{JournalFields}
use Rattle.codec.specs.Reader.{entries_begun_at}
use Rattle.codec.specs.declared.versions.ImageVersion.TheVariants.{Second}
use Rattle.codec.proofs.Starts.{object_other}
use Rattle.codec.proofs.entry_reader.EntryReader.empty.Goals as goal

pub returns : goal.returns
returns c =
    let seen : ℕ → List ℕ → JournalFields = λ n starts. record { object = n; previous = None; entries = entries_begun_at Second (replicate 512 0) starts } in
    ap (λ n. seen n c.new.result.items) (object_other Second (replicate 511 0)) ∙ ap (seen 0) c.new.ensures
