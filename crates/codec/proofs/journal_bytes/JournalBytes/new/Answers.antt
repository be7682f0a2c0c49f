use Rattle.std.proofs.Common.{◌≡◌, ◌∙◌, ◌∷◌, [], Some, true, ap, sym, subst, arith, leb, cond, None}
use Rattle.std.proofs.lemmas.Bool.{le-leb}
use Rattle.codec.specs.Journal.{JournalFields, SpellsJournal}
use Rattle.codec.proofs.Patched.{decoded_is, alone_fits}
use Rattle.codec.proofs.journal_bytes.JournalBytes.new.Goals as goal

pub encode_entries-requires-clause-fit : goal.encode_entries-requires-clause-fit
encode_entries-requires-clause-fit c = alone_fits c.from_ref.result.now c.args.entry.now c.from_ref.ensures.value c.show_room.ensures

pub invariant_of-result : goal.invariant_of-result
invariant_of-result c =
    let j : JournalFields = record { object = c.args.object; previous = c.args.previous; entries = c.from_ref.result.now } in
    subst (λ (d : JournalFields). SpellsJournal c.encode_entries.result d) (sym (decoded_is c.encode_entries.result j c.encode_entries.ensures)) c.encode_entries.ensures

pub returns : goal.returns
returns c =
    let j : JournalFields = record { object = c.args.object; previous = c.args.previous; entries = c.from_ref.result.now } in
    let k : JournalFields = record { object = c.args.object; previous = c.args.previous; entries = c.args.entry.now ∷ [] } in
    let test : leb 1 c.args.object ≡ true = le-leb 1 c.args.object (omega (arith, c.if-number-lt1.false, c.number.ensures)) in
    ap (λ b. cond b (Some k) None) test ∙ sym (ap Some (decoded_is c.encode_entries.result j c.encode_entries.ensures ∙ ap (λ l. record { object = c.args.object; previous = c.args.previous; entries = l }) c.from_ref.ensures.value))
