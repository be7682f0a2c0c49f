use Rattle.std.proofs.Common.{◌≡◌, length, eqb, sym, ap, ◌∙◌}
use Rattle.codec.specs.Journal.{JournalFields}
use Rattle.codec.proofs.Starts.{as_many}
use Rattle.codec.proofs.entry_reader.EntryReader.is_empty.Goals as goal

pub returns : goal.returns
returns c =
    let starts = c.self.inside.starts.items in
    let many : length starts ≡ length c.args.self.now.entries = sym (as_many c.self.inside.version c.self.inside.block starts c.self.invariant) ∙ ap (λ (j : JournalFields). length j.entries) c.self.view_is in
    c.is_empty.ensures ∙ ap (λ n. eqb n 0) many
