use Rattle.std.proofs.Common.{◌≡◌, ◌∙◌, ◌*◌, ap, sym, subst, List, [], length, ℕ}
use Rattle.s4_types.specs.Sizes.{IsFrameCount}
use Rattle.atomic_table.specs.Table.{opening}
use Rattle.segment_word.specs.FrameRule.{FrameRule, opening_view}
use Rattle.segment_word.proofs.Opening.{opens, length-frames_of}
use Rattle.segment_word.proofs.pool.table_of.Goals as goal

pub of_words-requires : goal.of_words-requires
of_words-requires c =
    let words : List ℕ = c.words.inside.words.items in
    let start : FrameRule (opening {S = Unit {0}} words [] (opening_view words)) = opens words c.words.invariant in
    let slice : c.as_slice-spelled.result.now ≡ words = c.as_slice-spelled.ensures.value in
    let key : c.of.result.value.items ≡ words = ap (λ v. v.items) c.of.ensures in
    subst (λ (z : List ℕ × List ℕ). FrameRule (opening {S = Unit {0}} z.0 [] (opening_view z.1))) (λ t. (sym slice t, sym key t)) start

pub returns-clause-words : goal.returns-clause-words
returns-clause-words c =
    c.in_ok-table.ensures.0 ∙ ap length c.as_slice-spelled.ensures.value ∙ c.words.invariant.whole
    ∙ ap (λ (n : ℕ). 1025 * n) (sym (length-frames_of c.words.inside.words.items) ∙ ap length c.words.view_is)

pub returns-clause-limits : goal.returns-clause-limits
returns-clause-limits c = subst IsFrameCount (sym (length-frames_of c.words.inside.words.items) ∙ ap length c.words.view_is) c.words.invariant.count
