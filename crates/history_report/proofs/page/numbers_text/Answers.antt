use Rattle.std.proofs.Common.{◌≡◌, ◌∙◌, ◌∷◌, false, ℕ, List, take, refl, ap}
use Rattle.moment_words.specs.Texts.{style_of}
use Rattle.drive.specs.Fields.{state_in}
use Rattle.history_report.specs.declared.texts.TheConstants.{PAGE_HEAD}
use Rattle.history_report.specs.Page.{Part, Constant}
use Rattle.history_report.specs.Report.{numbers_of}
use Rattle.history_report.proofs.page.numbers_text.Goals as goal

pub returns : goal.returns
returns g c =
    let s = state_in c.args.drive.now in
    let style : c.style_of-style.result ≡ style_of s.clock false = c.style_of-style.ensures ∙ ap (λ (n : ℕ). style_of n false) (c.number.ensures ∙ c.clock.ensures) in
    let so_far : ℕ → List Part = λ n. take n (Constant PAGE_HEAD.now ∷ numbers_of s c.args.from) in
    let begun = c.with_text-made.ensures (so_far 0) _ c.no_parts.ensures refl in
    let named = c.with_text-made-2.ensures (so_far 1) _ begun refl in
    let clock = c.with_moment-made.ensures (so_far 2) _ _ named c.clock-2.ensures style in
    let comma = c.with_text-made-3.ensures (so_far 3) _ clock refl in
    let floor = c.with_moment-made-2.ensures (so_far 4) _ _ comma c.floor.ensures style in
    let period = c.with_text-made-4.ensures (so_far 5) _ floor refl in
    let since = c.with_moment-made-3.ensures (so_far 6) _ _ period refl style in
    c.with_text.ensures (so_far 7) _ since refl
