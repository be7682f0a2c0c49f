use Rattle.std.proofs.Common.{◌≡◌, ℕ, List, IfOk, string_bytes, subst}
use Rattle.history_text.proofs.Printed.{quoted_is, hex_is}
use Rattle.history_text.proofs.attributes.printed_attribute.Goals as goal

pub returns-in-Some : goal.returns-in-Some
returns-in-Some c =
    subst (λ (shown : List ℕ). IfOk c.quoted.result (λ text. string_bytes text ≡ shown)) (quoted_is c.args.bytes.now c.in-Some.text.now c.in-Some.ensures.some.0 c.in-Some.ensures.some.1) c.quoted.ensures

pub returns-in-None : goal.returns-in-None
returns-in-None c = subst (λ (shown : List ℕ). IfOk c.encode.result (λ text. string_bytes text ≡ shown)) (hex_is c.args.bytes.now c.in-None.ensures.none) c.encode.ensures
