use Rattle.std.proofs.Common.{◌≡◌, ◌<◌, ◌∙◌, ◌==◌, ap, sym, subst, true, List, rules}
use Rattle.std.specs.List.{list_any}
use Rattle.segment_word.specs.Frames.{Pinned}
use Rattle.segment_word.specs.Counting.{pins_in}
use Rattle.segment_word.specs.Handles.{Held}
use Rattle.segment_word.proofs.HeldPins.{among_counts, counts_among}
use Rattle.segment_word.proofs.pins.Pin.counts_on.Goals as goal

pub returns : goal.returns
returns c =
    let pins = ap (λ (h : Held). h.pins) c.self.view_is in
    let value = c.contains.ensures.value ∙ ap (list_any (λ y. y == c.args.frame)) (c.deref.ensures.value ∙ c.self.invariant.2) in (
      (λ t. let is : c.contains.result ≡ true = search rules in subst (λ (l : List Pinned). 0 < pins_in c.args.frame l) pins (among_counts c.args.frame c.self.inside.seat.me.0.pins (sym value ∙ is))),
      (λ h. let is : c.contains.result ≡ true = value ∙ counts_among c.args.frame c.self.inside.seat.me.0.pins (subst (λ (l : List Pinned). 0 < pins_in c.args.frame l) (sym pins) h) in search rules),
    )
