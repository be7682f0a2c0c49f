use Rattle.std.proofs.Common.{◌∙◌, ap}
use Rattle.std.proofs.lemmas.Result.{err_from_is_err_and}
use Rattle.image_parts.specs.Image.{header_of}
use Rattle.s4_copy.proofs.Failing.{names_alike, unmade_absent, unmade_memory, unmade_parts, unmade_times}
use Rattle.s4_copy.proofs.Wanting.{Found, made_of, refused_of}
use Rattle.s4_copy.proofs.copying.copy_of.Goals as goal

pub returns-in_err-parts-clause-refused : goal.returns-in_err-parts-clause-refused
returns-in_err-parts-clause-refused g c =
    let p = err_from_is_err_and c.from_residual.result c.from_residual.ensures.1 in
    rw p.1 (unmade_parts c.args.asked.now c.args.bytes.now p.0 c.in_err-parts.field-0.0 p.2 c.in_err-parts.ensures.refused)

pub returns-in_err-check_named-clause-refused : goal.returns-in_err-check_named-clause-refused
returns-in_err-check_named-clause-refused g c =
    let p = err_from_is_err_and c.from_residual-in_err-check_named.result c.from_residual-in_err-check_named.ensures.1 in
    rw (p.1, p.2) (unmade_absent c.args.asked.now c.args.bytes.now c.in_ok-parts.parts c.as_slice-named.result.now c.in_err-check_named.field-0.0 c.in_ok-parts.ensures.parts c.as_slice-named.ensures.value c.in_err-check_named.ensures.refused)

pub returns-in_err-since-clause-refused : goal.returns-in_err-since-clause-refused
returns-in_err-since-clause-refused g c =
    let p = err_from_is_err_and c.from_residual-in_err-since.result c.from_residual-in_err-since.ensures.1 in
    let header = c.header.ensures ∙ ap header_of c.in_ok-parts.ensures.parts in
    let named = names_alike c.args.asked.now c.args.bytes.now c.in_ok-parts.parts c.as_slice-named.result.now _ c.in_ok-parts.ensures.parts c.as_slice-named.ensures.value c.in_ok-check_named.ensures.named in
    rw (p.1, p.2) (unmade_times c.args.asked.now c.args.bytes.now c.header.result c.in_err-since.field-0.0 header named c.in_err-since.ensures.refused c.in_err-since.ensures.times)

pub returns-in_err-objects-clause-refused : goal.returns-in_err-objects-clause-refused
returns-in_err-objects-clause-refused g c =
    let p = err_from_is_err_and c.from_residual-in_err-objects.result c.from_residual-in_err-objects.ensures.1 in
    rw p.1 (unmade_memory c.args.asked.now c.args.bytes.now p.0 p.2)

pub returns-in-Ok-clause-made : goal.returns-in-Ok-clause-made
returns-in-Ok-clause-made g c =
    let asked = c.args.asked.now in
    let old = c.args.bytes.now in
    let names = c.as_slice-named.result.now in
    let image = c.in_ok-parts.parts in
    let h = c.header.result in
    let found : Found asked old names image h
    = record { parts = c.in_ok-parts.ensures.parts; header = c.header.ensures; are = c.as_slice-named.ensures.value; none = c.in_ok-check_named.ensures.named; said = c.in_ok-since.ensures.said } in
    made_of asked old names image h c.in-Ok.ensures.copy found (record { frames = c.frames_asked.ensures; objects = c.in_ok-objects.ensures; since = c.in_ok-since.ensures.moment })

pub returns-clause-refused : goal.returns-clause-refused
returns-clause-refused g c =
    let asked = c.args.asked.now in
    let old = c.args.bytes.now in
    let names = c.as_slice-named.result.now in
    let image = c.in_ok-parts.parts in
    let h = c.header.result in
    let found : Found asked old names image h
    = record { parts = c.in_ok-parts.ensures.parts; header = c.header.ensures; are = c.as_slice-named.ensures.value; none = c.in_ok-check_named.ensures.named; said = c.in_ok-since.ensures.said } in
    refused_of asked old names image h c.failure_of.result c.in-Err.refusal c.in-Err.ensures.refused c.failure_of.ensures.room c.failure_of.ensures.other found (record { frames = c.frames_asked.ensures; objects = c.in_ok-objects.ensures; since = c.in_ok-since.ensures.moment })
