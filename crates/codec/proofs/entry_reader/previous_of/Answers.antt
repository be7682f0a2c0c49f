use Rattle.std.proofs.Common.{ℕ, List, Option, ap, sym, ◌∙◌, is_some}
use Rattle.std.proofs.lemmas.Option.{same_Some}
use Rattle.s4_types.specs.Pointer.{Place}
use Rattle.lemmas.proofs.Option.{value_there}
use Rattle.codec.specs.Fields.{slot_at}
use Rattle.codec.proofs.Starts.{not_both}
use Rattle.codec.proofs.entry_reader.previous_of.Goals as goal

pub unreachable-requires : goal.unreachable-requires
unreachable-requires c =
    let (x, is) = value_there _ c.requires.there in
    not_both (slot_at c.bytes_from-rest.result.now) x c.in_default.ensures (ap slot_at c.bytes_from-rest.ensures ∙ is)

pub returns : goal.returns
returns c = λ previous rest is. ap (λ (x : Option Place × List ℕ). x.0) (same_Some (c.in-Some.previous, c.in-Some.field-0-1.now) (previous, rest) (sym c.in-Some.ensures ∙ ap slot_at c.bytes_from-rest.ensures ∙ is))
