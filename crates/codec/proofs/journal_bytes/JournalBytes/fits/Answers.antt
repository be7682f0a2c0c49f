use Rattle.std.proofs.Common.{nat_le, ap, arith}
use Rattle.s4_types.specs.declared.limits.TheConstants.{JOURNAL_ENTRY_BYTES}
use Rattle.codec.proofs.journal_bytes.JournalBytes.fits.Goals as goal

pub returns : goal.returns
returns c = ap (λ n. nat_le n JOURNAL_ENTRY_BYTES) (omega (arith, c.entry_bytes.ensures.exact, c.byte_count.ensures.exact))
