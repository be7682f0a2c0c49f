use Rattle.std.proofs.Common.{rules, ◌≡◌, ◌∙◌, ◌++◌, ◌==◌, Bool, false, [], if◌then◌else◌, length, string_bytes, codes, ap, sym, append_assoc}
use Rattle.history_diff.specs.Texts.{version_line}
use Rattle.history_diff.proofs.texts.with_versions.Goals as goal

pub returns : goal.returns
returns c =
    let hunks = string_bytes c.args.hunks in
    let one = version_line (codes "---") c.args.object c.args.comparison.now.before c.args.comparison.now.style in
    let other = version_line (codes "+++") c.args.object c.args.comparison.now.after c.args.comparison.now.style in
    let first : string_bytes c.in_ok-text.text ≡ one = search rules in
    let second : string_bytes c.push_str.new.self ≡ string_bytes c.in_ok-text.text ++ other = search rules in
    let third : string_bytes c.push_str-2.new.self ≡ string_bytes c.push_str.new.self ++ hunks = search rules in
    let some : (length hunks == 0) ≡ false = search rules in
    third ∙ ap (λ t. t ++ hunks) (second ∙ ap (λ t. t ++ other) first) ∙ append_assoc one other hunks ∙ ap (λ (b : Bool). if b then [] else one ++ (other ++ hunks)) (sym some)
