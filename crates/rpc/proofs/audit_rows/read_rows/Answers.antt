use Rattle.std.proofs.Common.{◌≡◌, ◌-◌, ◌+◌, List, sym, subst}
use Rattle.std.proofs.lemmas.Result.{err_from_is_err_and}
use Rattle.s4_types.specs.declared.audit_rows.AuditRow.{AuditRow}
use Rattle.rpc.specs.private.Reading.{rows_at, with_front}
use Rattle.rpc.proofs.RowLaws.{rows_begin, rows_go_on, rows_end, some_bytes, rows_fail, rows_over, rows_full}
use Rattle.rpc.proofs.audit_rows.read_rows.Goals as goal

pub loop-init : goal.loop-init
loop-init c = rows_begin c.new-rows.result.items c.args.most c.args.bytes.now c.new-rows.ensures.items

pub loop-preserved : goal.loop-preserved
loop-preserved c =
    subst (λ (rows : List AuditRow). with_front rows (rows_at (c.args.most - (c.loop.counter + 1)) c.in-Ok.behind.now) ≡ rows_at c.args.most c.args.bytes.now) (sym c.in_ok-push-in-Ok.ensures.items)
    (rows_go_on c.loop.rows.items c.args.most c.loop.counter c.loop.rest.now c.in-Ok.row c.in-Ok.behind.now (rows_at c.args.most c.args.bytes.now) c.loop-test.true c.in-Ok.ensures c.loop.invariant)

pub returns-then-is_empty : goal.returns-then-is_empty
returns-then-is_empty c = rows_end c.loop.rows.items (c.args.most - c.loop.counter) c.loop.rest.now (rows_at c.args.most c.args.bytes.now) c.if-is_empty.ensures c.loop.invariant

pub returns-in-Err : goal.returns-in-Err
returns-in-Err c =
    rows_fail c.in-Err.unread c.loop.rows.items c.args.most c.loop.counter c.loop.rest.now (rows_at c.args.most c.args.bytes.now) c.loop-test.true (some_bytes c.loop.rest.now c.if-is_empty.ensures) c.in-Err.ensures c.loop.invariant

pub returns-in_err-read_end : goal.returns-in_err-read_end
returns-in_err-read_end c =
    let p = err_from_is_err_and c.from_residual-in_err-read_end.result c.from_residual-in_err-read_end.ensures.1 in
    rw (p.1, p.2) (rows_over _ c.loop.rows.items c.args.most c.loop.counter c.loop.rest.now (rows_at c.args.most c.args.bytes.now) c.loop-test.false c.in_err-read_end.ensures c.loop.invariant)

pub returns : goal.returns
returns c = rows_full c.loop.rows.items c.args.most c.loop.counter c.loop.rest.now (rows_at c.args.most c.args.bytes.now) c.in_ok-read_end.field-0 c.in_ok-read_end.ensures c.loop.invariant
