use Rattle.std.proofs.Common.{◌≡◌, length, ap, is_some, ◌∙◌, arith}
use Rattle.codec.specs.Journal.{JournalFields, SpellsJournalBy, journal_rules, journal_rules_by, journal_spelling}
use Rattle.codec.specs.Patching.{decoded}
use Rattle.codec.specs.declared.versions.ImageVersion.TheVariants.{Second}
use Rattle.codec.proofs.Starts.{previous_there, length_there}
use Rattle.codec.proofs.journal_bytes.JournalBytes.previous.Goals as goal

pub previous_of-requires-clause-long : goal.previous_of-requires-clause-long
unfolding journal_rules journal_rules_by journal_spelling
previous_of-requires-clause-long c =
    let block = c.self.inside.block in
    omega (arith, length_there Second block (decoded block) c.self.invariant)

pub previous_of-requires-clause-there : goal.previous_of-requires-clause-there
unfolding journal_rules journal_rules_by journal_spelling
previous_of-requires-clause-there c =
    let block = c.self.inside.block in
    ap is_some (previous_there Second block (decoded block) c.self.invariant)

pub returns : goal.returns
unfolding journal_rules journal_rules_by journal_spelling
returns c =
    let block = c.self.inside.block in
    c.previous_of.ensures (decoded block).previous _ (previous_there Second block (decoded block) c.self.invariant)
    ∙ ap (λ (j : JournalFields). j.previous) c.self.view_is
