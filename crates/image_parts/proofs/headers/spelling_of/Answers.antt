use Rattle.std.proofs.Common.{ℕ, ◌++◌, refl, ap, ◌∙◌}
use Rattle.std.specs.Int.{w64}
use Rattle.codec.specs.Fields.{number}
use Rattle.image_parts.proofs.HeaderLaws.{header_put}
use Rattle.image_parts.proofs.headers.spelling_of.Goals as goal

pub returns : goal.returns
returns c = header_put c.args.mark c.args.header.now
    c.put.new.out.items c.put_short.new.out.items c.put_zeros.new.out.items c.put_long.new.out.items c.put_long-2.new.out.items c.put_long-3.new.out.items
    c.put_long-4.new.out.items c.put_word.new.out.items c.put_word-2.new.out.items c.put_long-5.new.out.items c.put_zeros-2.new.out.items
    (c.put.ensures.items ∙ rw (c.new-out.ensures, c.bytes_of.ensures) refl)
    c.put_short.ensures.items
    c.put_zeros.ensures.items
    (c.put_long.ensures.items ∙ ap (λ (n : ℕ). c.put_zeros.new.out.items ++ number w64 n) c.number.ensures)
    c.put_long-2.ensures.items
    (c.put_long-3.ensures.items ∙ ap (λ (n : ℕ). c.put_long-2.new.out.items ++ number w64 n) c.number-2.ensures)
    (c.put_long-4.ensures.items ∙ ap (λ (n : ℕ). c.put_long-3.new.out.items ++ number w64 n) c.number-3.ensures)
    c.put_word.ensures.items
    c.put_word-2.ensures.items
    c.put_long-5.ensures.items
    c.put_zeros-2.ensures.items
