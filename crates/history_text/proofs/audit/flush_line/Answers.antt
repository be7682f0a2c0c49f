use Rattle.std.proofs.Common.{◌≡◌, ◌∙◌, ◌++◌, ℕ, List, codes}
use Rattle.std.proofs.lemmas.Result.{IfOk-weaker}
use Rattle.history_text.proofs.audit.flush_line.Goals as goal

-- lines of the same parts are the same
same_line : (a a' b b' c c' d d' : List ℕ) → a ≡ a' → b ≡ b' → c ≡ c' → d ≡ d'
    → a ++ (codes "  flush hid " ++ (b ++ (codes "-" ++ (c ++ (d ++ codes "\n"))))) ≡ a' ++ (codes "  flush hid " ++ (b' ++ (codes "-" ++ (c' ++ (d' ++ codes "\n")))))
same_line a a' b b' c c' d d' first second third fourth = cc

pub returns : goal.returns
returns c =
    IfOk-weaker c.format.result _ _
    (λ text is. is ∙ same_line _ _ _ _ _ _ _ _ c.in_ok-moment.ensures c.in_ok-first.ensures.text c.in_ok-last.ensures.text c.in_ok-object.ensures)
    c.format.ensures.ok
