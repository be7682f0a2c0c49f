use Rattle.std.proofs.Common.{rules, ◌≡◌, ◌∙◌, ◌++◌, Bool, false, [], if◌then◌else◌, string_bytes, ap, sym, append_assoc}
use Rattle.line_diff.specs.Unified.{sign_text, ends_line, remark_text}
use Rattle.line_diff.proofs.printing.push_row.Goals as goal

pub returns : goal.returns
returns c =
    let text = string_bytes c.args.text.now in
    let sign = sign_text c.args.row.now.sign in
    let line = string_bytes c.args.row.now.line in
    let remark = remark_text in
    let first : string_bytes c.push_str.new.self ≡ text ++ sign = search rules in
    let second : string_bytes c.push_str-2.new.self ≡ string_bytes c.push_str.new.self ++ line = search rules in
    let third : string_bytes c.push_str-3.new.self ≡ string_bytes c.push_str-2.new.self ++ remark = search rules in
    let open_end : ends_line line ≡ false = search rules in
    third ∙ ap (λ t. t ++ remark) (second ∙ ap (λ t. t ++ line) first) ∙ append_assoc (text ++ sign) line remark ∙ append_assoc text sign (line ++ remark)
    ∙ ap (λ (b : Bool). text ++ (sign ++ (line ++ (if b then [] else remark)))) (sym open_end)
