use Rattle.std.proofs.Common.{◌∙◌, ap, inl, sym}
use Rattle.std.proofs.lemmas.Result.{IfOk-weaker}
use Rattle.restore_search.specs.Searching.{numbers_of}
use Rattle.s4_restore.proofs.Finding.{prepared_by, prepares}
use Rattle.s4_restore.proofs.preparing.prepare_image.Goals as goal

pub returns-then-is_allowed-clause-prepared : goal.returns-then-is_allowed-clause-prepared
returns-then-is_allowed-clause-prepared g c =
    let known = g.F.Files.contents c.args.files.now c.args.asked.now.image.now in
    let found = c.in_ok-findings.findings in
    IfOk-weaker c.prepared.result _ _
    (λ made same. prepared_by known c.args.asked.now c.args.stand_ins.now found.means made.means found.full.items made.full.items (numbers_of found.lacking.items) made.skipped.items same.0 (ap (λ v. v.items) same.1) same.2
    (prepares known c.args.asked.now c.args.stand_ins.now found c.in_ok-findings.ensures.found (λ unasked. sym c.as_slice.ensures.value ∙ c.is_allowed.ensures c.if-is_allowed.true unasked)))
    c.prepared.ensures.made

pub returns-clause-style : goal.returns-clause-style
returns-clause-style g c = inl (λ style. tt)
