use Rattle.std.proofs.Common.{◌≡◌, ◌∙◌, false, ℕ, List, take, refl, ap}
use Rattle.moment_words.specs.Texts.{style_of}
use Rattle.drive.specs.Fields.{state_in}
use Rattle.history_report.specs.Page.{Part}
use Rattle.history_report.specs.Report.{head_of}
use Rattle.history_report.proofs.page.head_text.Goals as goal

pub returns : goal.returns
returns g c =
    let s = state_in c.args.drive.now in
    let style : c.style_of-style.result ≡ style_of s.clock false = c.style_of-style.ensures ∙ ap (λ (n : ℕ). style_of n false) (c.number.ensures ∙ c.clock.ensures) in
    let so_far : ℕ → List Part = λ n. take n (head_of s c.args.from) in
    let numbers = c.with_text-made.ensures (so_far 8) _ c.numbers_text.ensures refl in
    let begun = c.with_text-made-2.ensures (so_far 9) _ numbers refl in
    let floor = c.with_moment-made.ensures (so_far 10) _ _ begun c.floor.ensures style in
    let between = c.with_text-made-3.ensures (so_far 11) _ floor refl in
    let clock = c.with_moment-made-2.ensures (so_far 12) _ _ between c.clock-2.ensures style in
    c.with_text.ensures (so_far 13) _ clock refl
