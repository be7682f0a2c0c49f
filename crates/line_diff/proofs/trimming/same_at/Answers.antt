use Rattle.std.proofs.Common.{◌≡◌, ◌≢◌, ◌∙◌, ℕ, List, [], map, string_bytes, MatchBool, ap, sym, subst₂}
use Rattle.std.proofs.lemmas.List.{get_or-map}
use Rattle.line_diff.specs.Script.{line_at}
use Rattle.line_diff.proofs.trimming.same_at.Goals as goal

pub returns : goal.returns
returns c =
    let old_item = c.index-old-old_at.result in
    let new_item = c.index-new-new_at.result in
    let old : c.as_bytes.result.now ≡ line_at (map string_bytes c.args.old.now) c.args.old_at = c.as_bytes.ensures.value ∙ ap string_bytes c.index-old-old_at.is ∙ sym (get_or-map string_bytes c.args.old.now c.args.old_at old_item [] c.requires.old) in
    let new : c.as_bytes-2.result.now ≡ line_at (map string_bytes c.args.new.now) c.args.new_at = c.as_bytes-2.ensures.value ∙ ap string_bytes c.index-new-new_at.is ∙ sym (get_or-map string_bytes c.args.new.now c.args.new_at new_item [] c.requires.new) in
    subst₂ (λ (x y : List ℕ). MatchBool c.is_same.result (x ≡ y) (x ≢ y)) old new c.is_same.ensures
