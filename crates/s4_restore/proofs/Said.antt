-- What the lines of a text say.
use Rattle.std.proofs.Common.{◌≡◌, ◌≢◌, ◌∙◌, ◌<◌, ◌++◌, ℕ, suc, Bool, cond, List, [], ◌∷◌, length, get_or, Option, None, Some, inl, inr, refl, ap, ne_eqb, arith}
use Rattle.std.specs.List.{onto_first}
use Rattle.history_restore.specs.declared.aims.StandIn.{StandIn}
use Rattle.s4_restore.specs.Maps.{AreSaid, IsSaidBy, lines_of, option_list}

-- a list has no newline
abbrev pub LacksNewline : List ℕ → Type 0
LacksNewline bs = (i : ℕ) → i < length bs → get_or bs i 0 ≢ 10

lacks_after : (b : ℕ) (bs : List ℕ) → LacksNewline (b ∷ bs) → LacksNewline bs
lacks_after b bs lacks i lt = lacks (suc i) (omega (arith, lt))

-- one byte more that is no newline begins the first line
begins : (b : ℕ) (bs : List ℕ) → b ≢ 10 → lines_of (b ∷ bs) ≡ onto_first b (lines_of bs)
begins b bs other = ap (λ (t : Bool). cond t ([] ∷ lines_of bs) (onto_first b (lines_of bs))) (ne_eqb b 10 other)

-- a line ends at the first newline
pub first_line : (line rest : List ℕ) → LacksNewline line → lines_of (line ++ (10 ∷ rest)) ≡ line ∷ lines_of rest
first_line [] rest lacks = refl
first_line (b ∷ line) rest lacks = begins b (line ++ (10 ∷ rest)) (lacks 0 (omega arith)) ∙ ap (onto_first b) (first_line line rest (lacks_after b line lacks))

-- a text without one is its own line
pub only_line : (bs : List ℕ) → LacksNewline bs → lines_of bs ≡ bs ∷ []
only_line [] lacks = refl
only_line (b ∷ bs) lacks = begins b bs (lacks 0 (omega arith)) ∙ ap (onto_first b) (only_line bs (lacks_after b bs lacks))

-- what one line more in front says
pub said_more : (line : List ℕ) (lines : List (List ℕ)) (o : Option StandIn) (more : List StandIn) → IsSaidBy line o → AreSaid lines more → AreSaid (line ∷ lines) (option_list o ++ more)
said_more line lines None [] is rest = (is, rest)
said_more line lines None (l ∷ more) is rest = inl (is, rest)
said_more line lines (Some l) more is rest = inr (is, rest)
