use Rattle.std.proofs.Common.{List, sym, subst}
use Rattle.s4_types.specs.declared.spans.Span.{Span}
use Rattle.image_parts.specs.declared.headers.Header.{Header}
use Rattle.verifier.specs.Images.{CanBeOpened}
use Rattle.verifier.proofs.Verified.{can_be_opened}
use Rattle.verifier.proofs.verifying.image_of.Goals as goal

-- the rules of its parts and the chains that stand let it be opened
pub invariant_of-result : goal.invariant_of-result
invariant_of-result c =
    let parts = c.args.parts.now in
    let H : Header → Type 0 = λ h. CanBeOpened (record { clock = h.clock; window = h.window; floor = h.floor; next = h.next; table = c.args.read.table; objects = c.args.read.objects.items; spans = c.args.spans.items; audit = c.args.audit.rows }) in
    let S : List Span → Type 0 = λ spans. CanBeOpened (record { clock = parts.clock; window = parts.window; floor = parts.floor; next = parts.next; table = c.args.read.table; objects = c.args.read.objects.items; spans = spans; audit = c.args.audit.rows }) in
    subst H (sym c.header-header.ensures) (subst S (sym c.requires.spans)
    (can_be_opened c.rows_that_stand_make_a_store.ensures.store c.rows_that_stand_make_a_store.ensures.few c.rows_that_stand_make_a_store.ensures.object c.rows_that_stand_make_a_store.ensures.above c.a_list_has_few_spans.ensures
    parts c.args.read.table c.args.read.objects.items c.args.audit.rows c.requires.rules c.requires.rows c.rules.ensures.names c.rules.ensures.frames.bounded c.requires.kept))
