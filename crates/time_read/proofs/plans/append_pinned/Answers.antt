use Rattle.std.proofs.Common.{◌≡◌, ◌<◌, ◌-◌, ◌++◌, take, drop, Option, OnOk, sym, subst, arith}
use Rattle.segment_word.specs.Handles.{Held}
use Rattle.segment_word.specs.Layout.{block_bytes}
use Rattle.segment_word.specs.Counting.{pins_in}
use Rattle.time_read.specs.Plans.{pins_held, contents_pinned}
use Rattle.time_read.proofs.Pins.{pinned_part}
use Rattle.time_read.proofs.plans.append_pinned.Goals as goal

pub append_bytes-requires-clause-counted : goal.append_bytes-requires-clause-counted
append_bytes-requires-clause-counted c = subst (λ (p : Option Held). 0 < pins_in c.args.frame (pins_held p)) c.in-Some.is c.requires.counted.0

pub returns-in-Some-clause-bytes : goal.returns-in-Some-clause-bytes
returns-in-Some-clause-bytes c =
    let counted = subst (λ (p : Option Held). 0 < pins_in c.args.frame (pins_held p)) c.in-Some.is c.requires.counted.0 in
    subst (λ (p : Option Held). OnOk c.append_bytes.result (c.append_bytes.new.into.items ≡ c.args.into.now.items ++ take (c.args.to - c.args.from) (drop c.args.from (block_bytes (contents_pinned c.args.frame (pins_held p)) c.args.block)))) (sym c.in-Some.is)
    (pinned_part c.append_bytes.result c.args.frame c.args.block (c.args.to - c.args.from) c.args.from c.in-Some.pin.pins c.args.into.now.items c.append_bytes.new.into.items counted c.append_bytes.ensures.bytes)

pub returns-in-None-clause-bytes : goal.returns-in-None-clause-bytes
returns-in-None-clause-bytes c =
    let counted : 0 < pins_in c.args.frame (pins_held c.args.pin.now) = c.requires.counted.0 in
    absurd (omega (arith, subst (λ (p : Option Held). 0 < pins_in c.args.frame (pins_held p)) c.in-None.is counted))
