use Rattle.std.proofs.Common.{rules, ◌≡◌, ◌+◌, ◌^◌, ◌<◌, ◌≤◌, ◌++◌, ◌∙◌, ℕ, IsFalse, IsTrue, List, Some, length, sym, ap, subst}
use Rattle.std.proofs.KnownBytes.{Consumes-nil}
use Rattle.std.specs.Io.{StartsWith}
use Rattle.std.specs.Io.KnownBytes.{Consumes}
use Rattle.s4_types.specs.declared.refusals.Cause.TheVariants.{Header, Length}
use Rattle.image_parts.specs.declared.marks.ImageMark.{ImageMark}
use Rattle.image_parts.specs.Causes.{FirstSplitCauseBy}
use Rattle.image_commands.specs.Verifying.{mark_asked}
use Rattle.image_commands.proofs.Fronts.{all_read, too_short, no_header, too_long}
use Rattle.image_commands.proofs.verifying.add_bounded.Goals as goal

pub returns-then-len-lt-FRONT_BYTES-clause-damaged :
    goal.returns-then-len-lt-FRONT_BYTES-clause-damaged
returns-then-len-lt-FRONT_BYTES-clause-damaged g c =
    let known = g.R.Read.remaining c.args.reader.now in
    let left = g.R.Read.remaining c.read_until.new.reader in
    let bytes = c.read_until.new.bytes.items in
    let begun : Consumes known known c.args.bytes.now.items = subst (Consumes known known) (sym c.requires.none) (Consumes-nil known) in
    let short : length bytes < 544 = search rules in
    too_short c.args.asked known left bytes (c.in_ok-read_until.ensures.read known begun) (c.in_ok-read_until.ensures.whole short) short

pub returns-in_default-clause-damaged : goal.returns-in_default-clause-damaged
returns-in_default-clause-damaged g c =
    let known = g.R.Read.remaining c.args.reader.now in
    let left = g.R.Read.remaining c.read_until.new.reader in
    let begun : Consumes known known c.args.bytes.now.items = subst (Consumes known known) (sym c.requires.none) (Consumes-nil known) in
    let front : List ℕ = c.as_slice-2.result.now in
    let read : Consumes known left front = subst (Consumes known left) (sym c.as_slice-2.ensures.value) (c.in_ok-read_until.ensures.read known begun) in
    let wide : 8 ≤ length front = search rules in
    let same : c.mark-mark.result ≡ mark_asked c.args.asked front = c.mark-mark.ensures ∙ ap (mark_asked c.args.asked) (c.as_slice.ensures.value ∙ sym c.as_slice-2.ensures.value) in
    no_header c.args.asked known left front wide read (subst (λ (m : ImageMark). (rest : List ℕ) → FirstSplitCauseBy m (front ++ rest) (Some Header)) same c.in_default.ensures.none)

pub returns-then-not-is_all-clause-damaged : goal.returns-then-not-is_all-clause-damaged
returns-then-not-is_all-clause-damaged g c =
    let known = g.R.Read.remaining c.args.reader.now in
    let left = g.R.Read.remaining c.read_to_end.new.reader in
    let bytes = c.read_to_end.new.bytes.items in
    let begun : Consumes known known c.args.bytes.now.items = subst (Consumes known known) (sym c.requires.none) (Consumes-nil known) in
    let front : List ℕ = c.as_slice-2.result.now in
    let begins : StartsWith bytes front = subst (λ (xs : List ℕ). StartsWith bytes xs) (sym c.as_slice-2.ensures.value) c.in_ok-is_all.ensures.front in
    let none : IsFalse c.in_ok-is_all.is_all = search rules in
    let (below, long) = c.in_ok-is_all.ensures.more none in
    let wide : 8 ≤ length front = search rules in
    let same : c.mark-mark.result ≡ mark_asked c.args.asked front = c.mark-mark.ensures ∙ ap (mark_asked c.args.asked) (c.as_slice.ensures.value ∙ sym c.as_slice-2.ensures.value) in
    too_long c.args.asked known left front bytes c.in-Some.longest (c.in_ok-is_all.ensures.read known (c.in_ok-read_until.ensures.read known begun)) begins wide
    (subst (λ (m : ImageMark). (rest : List ℕ) → c.in-Some.longest < length (front ++ rest) → FirstSplitCauseBy m (front ++ rest) (Some Length)) same (c.in-Some.ensures.longer below)) long

pub returns-clause-bytes : goal.returns-clause-bytes
returns-clause-bytes g c =
    let known = g.R.Read.remaining c.args.reader.now in
    let left = g.R.Read.remaining c.read_to_end.new.reader in
    let bytes = c.read_to_end.new.bytes.items in
    let begun : Consumes known known c.args.bytes.now.items = subst (Consumes known known) (sym c.requires.none) (Consumes-nil known) in
    let is : IsTrue c.in_ok-is_all.is_all = search rules in
    all_read known left bytes (c.in_ok-is_all.ensures.read known (c.in_ok-read_until.ensures.read known begun)) (c.in_ok-is_all.ensures.whole is)
