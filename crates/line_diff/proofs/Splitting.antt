-- Where the first line of a text ends.
use Rattle.std.proofs.Common.{◌≡◌, ◌≢◌, ◌∙◌, ◌<◌, ◌++◌, ℕ, suc, Bool, cond, List, [], ◌∷◌, length, get_or, refl, ap, ne_eqb, arith}
use Rattle.std.specs.List.{onto_first}
use Rattle.line_diff.specs.Lines.{lines_of, last_line}

-- a list has no newline
abbrev pub LacksNewline : List ℕ → Type 0
LacksNewline bs = (i : ℕ) → i < length bs → get_or bs i 0 ≢ 10

lacks_behind : (b : ℕ) (bs : List ℕ) → LacksNewline (b ∷ bs) → LacksNewline bs
lacks_behind b bs lacks i lt = lacks (suc i) (omega (arith, lt))

-- one byte more that is no newline begins the first line
begins : (b : ℕ) (bs : List ℕ) → b ≢ 10 → lines_of (b ∷ bs) ≡ onto_first b (lines_of bs)
begins b bs other = ap (λ (t : Bool). cond t ((b ∷ []) ∷ lines_of bs) (onto_first b (lines_of bs))) (ne_eqb b 10 other)

-- a line ends at the first newline
pub first_line : (line rest : List ℕ) → LacksNewline line → lines_of (line ++ (10 ∷ rest)) ≡ (line ++ 10 ∷ []) ∷ lines_of rest
first_line [] rest lacks = refl
first_line (b ∷ line) rest lacks = begins b (line ++ (10 ∷ rest)) (lacks 0 (omega arith)) ∙ ap (onto_first b) (first_line line rest (lacks_behind b line lacks))

-- a text without one is its own line
pub only_line : (bs : List ℕ) → LacksNewline bs → lines_of bs ≡ last_line bs
only_line [] lacks = refl
only_line (b ∷ []) lacks = begins b [] (lacks 0 (omega arith))
only_line (b ∷ c ∷ bs) lacks = begins b (c ∷ bs) (lacks 0 (omega arith)) ∙ ap (onto_first b) (only_line (c ∷ bs) (lacks_behind b (c ∷ bs) lacks))
