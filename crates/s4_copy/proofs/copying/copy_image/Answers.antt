use Rattle.std.proofs.Common.{ℕ, List, inl, subst}
use Rattle.image_commands.specs.Faults.{KeepsNew}
use Rattle.s4_copy.proofs.Failing.{copy_kept, no_place_kept, nothing_kept, uncopied_unprinted}
use Rattle.s4_copy.proofs.copying.copy_image.Goals as goal

-- there is no place
pub returns-in-Err-clause-refused : goal.returns-in-Err-clause-refused
returns-in-Err-clause-refused g c = inl c.in-Err.ensures.fault

pub returns-in-Err-clause-named : goal.returns-in-Err-clause-named
returns-in-Err-clause-named g c =
    let asked = c.args.asked.now in
    let files = g.F.Files.contents c.args.files.now in
    let output = g.W.Sink.passed c.args.writer.now in
    no_place_kept (files asked.image.now) (files asked.copy.now) files asked output output c.in-Err.fault c.in-Err.ensures.fault

-- no numbers were printed
pub returns-in-Err-make_copy-clause-refused : goal.returns-in-Err-make_copy-clause-refused
returns-in-Err-make_copy-clause-refused g c =
    let asked = c.args.asked.now in
    let files = g.F.Files.contents c.args.files.now in
    uncopied_unprinted (files asked.image.now) (files asked.copy.now) asked (g.W.Sink.failures c.args.writer.now) (g.W.Sink.failures c.make_copy.new.writer) c.in-Err-make_copy.failure c.in-Err-make_copy.ensures.refused

pub returns-in-Err-make_copy-clause-named : goal.returns-in-Err-make_copy-clause-named
returns-in-Err-make_copy-clause-named g c =
    let asked = c.args.asked.now in
    let files = g.F.Files.contents c.args.files.now in
    nothing_kept (files asked.image.now) files asked (g.W.Sink.failures c.args.writer.now) (g.W.Sink.failures c.make_copy.new.writer) (g.W.Sink.passed c.args.writer.now) (g.W.Sink.passed c.make_copy.new.writer)
    c.in-Err-make_copy.failure c.in-Err-make_copy.ensures.refused

-- the copy isn't in its place, and may be in another file
pub returns-clause-named : goal.returns-clause-named
returns-clause-named g c =
    let files = g.F.Files.contents c.args.files.now in
    let files' = g.F.Files.contents c.put_image.new.files in
    let asked = c.args.asked.now in
    let fault = c.in-Err-put_image.fault in
    copy_kept (files asked.image.now) files' asked (g.W.Sink.passed c.args.writer.now) (g.W.Sink.passed c.make_copy.new.writer) fault c.in-Ok-make_copy.made.items c.in-Ok-make_copy.ensures.copied
    (subst (λ (bytes : List ℕ). KeepsNew files' bytes fault) c.as_slice.ensures.value c.in-Err-put_image.ensures.named)
