use Rattle.std.proofs.Common.{◌∙◌, ◌++◌, ◌∷◌, [], ap, sym, subst}
use Rattle.codec.specs.Journal.{JournalFields, SpellsJournal}
use Rattle.codec.specs.Patching.{decoded, with_entry}
use Rattle.codec.proofs.Patched.{decoded_is}
use Rattle.codec.proofs.journal_bytes.JournalBytes.add.Goals as goal

pub invariant_of-self : goal.invariant_of-self
invariant_of-self c =
    let later = with_entry (decoded c.self.inside.block) c.args.entry.now in
    subst (λ (j : JournalFields). SpellsJournal c.patch.new.block j) (sym (decoded_is c.patch.new.block later c.patch.ensures)) c.patch.ensures

pub returns-clause-object : goal.returns-clause-object
returns-clause-object c =
    let later = with_entry (decoded c.self.inside.block) c.args.entry.now in
    ap (λ (j : JournalFields). j.object) (decoded_is c.patch.new.block later c.patch.ensures) ∙ ap (λ (j : JournalFields). j.object) c.self.view_is

pub returns-clause-previous : goal.returns-clause-previous
returns-clause-previous c =
    let later = with_entry (decoded c.self.inside.block) c.args.entry.now in
    ap (λ (j : JournalFields). j.previous) (decoded_is c.patch.new.block later c.patch.ensures) ∙ ap (λ (j : JournalFields). j.previous) c.self.view_is

pub returns-clause-entries : goal.returns-clause-entries
returns-clause-entries c =
    let later = with_entry (decoded c.self.inside.block) c.args.entry.now in
    ap (λ (j : JournalFields). j.entries) (decoded_is c.patch.new.block later c.patch.ensures) ∙ ap (λ (j : JournalFields). j.entries ++ c.args.entry.now ∷ []) c.self.view_is
