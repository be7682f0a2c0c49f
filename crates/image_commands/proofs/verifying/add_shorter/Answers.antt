use Rattle.std.proofs.Common.{rules, ◌≡◌, ◌^◌, ◌<◌, List, ℕ, length, sym, subst}
use Rattle.std.proofs.KnownBytes.{Consumes-nil}
use Rattle.std.specs.Io.{StartsWith}
use Rattle.std.specs.Io.KnownBytes.{Consumes}
use Rattle.image_commands.proofs.Fronts.{all_read, if_ok_with, if_ok_with_both, overlong}
use Rattle.image_commands.proofs.verifying.add_shorter.Goals as goal

pub returns-then-len-lt-FRONT_BYTES-clause-bytes : goal.returns-then-len-lt-FRONT_BYTES-clause-bytes
returns-then-len-lt-FRONT_BYTES-clause-bytes g c = λ _.
    let known = g.R.Read.remaining c.args.reader.now in
    let left = g.R.Read.remaining c.read_until.new.reader in
    let bytes = c.read_until.new.bytes.items in
    let begun : Consumes known known c.args.bytes.now.items = subst (Consumes known known) (sym c.requires.none) (Consumes-nil known) in
    let short : length bytes < 544 = search rules in
    all_read known left bytes (c.in_ok-read_until.ensures.read known begun) (c.in_ok-read_until.ensures.whole short)

pub returns-clause-bytes : goal.returns-clause-bytes
returns-clause-bytes g c =
    let known = g.R.Read.remaining c.args.reader.now in
    let begun : Consumes known known c.args.bytes.now.items = subst (Consumes known known) (sym c.requires.none) (Consumes-nil known) in
    if_ok_with c.read_to_end.result
    (λ all whole read is. all_read known _ _ (read known (c.in_ok-read_until.ensures.read known begun)) (whole is))
    c.read_to_end.ensures.whole c.read_to_end.ensures.read

pub returns-clause-overlong : goal.returns-clause-overlong
returns-clause-overlong g c =
    let known = g.R.Read.remaining c.args.reader.now in
    let begun : Consumes known known c.args.bytes.now.items = subst (Consumes known known) (sym c.requires.none) (Consumes-nil known) in
    let bytes = c.read_to_end.new.bytes.items in
    let front : List ℕ = c.as_slice.result.now in
    if_ok_with_both c.read_to_end.result
    (λ all more read begins is.
    let (below, long) = more is in
    overlong known _ front bytes c.most_with-most.result (read known (c.in_ok-read_until.ensures.read known begun))
    (subst (λ (xs : List ℕ). StartsWith bytes xs) (sym c.as_slice.ensures.value) begins)
    c.most_with-most.ensures.least (c.most_with-most.ensures.longer below) long)
    c.read_to_end.ensures.more c.read_to_end.ensures.read c.read_to_end.ensures.front
