-- What an earlier restore printed of objects that it made anew.
use Rattle.std.specs.Prelude.{◌≡◌, ◌≢◌, ◌⊎◌, ℕ, ◌==◌, ◌++◌, if◌then◌else◌, Bool, false, List, [], ◌∷◌, Option, None, Some, codes, decimal}
use Rattle.std.specs.Borrow.{Bor}
use Rattle.std.specs.List.{list_any, onto_first}
use Rattle.std.specs.Str.Iter.{HasSubslice}
use Rattle.serde_json.specs.Written.{compact_text}
use Rattle.history_text.specs.Lines.{column}
use Rattle.history_restore.specs.declared.aims.StandIn.{StandIn}
use Rattle.history_restore.specs.Aims.{has_stand_in}
use Rattle.image_commands.specs.Files.{AreKnown}
use Rattle.restore_orders.specs.Lines.{remade_data}

-- the lines of a text, without the newlines between them
abbrev pub lines_of : List ℕ → List (List ℕ)
lines_of [] = [] ∷ []
lines_of (b ∷ bs) = if b == 10 then [] ∷ lines_of bs else onto_first b (lines_of bs)

-- the line of an object that was made anew, for people, and for programs
abbrev pub anew_line : StandIn → List ℕ
anew_line l = column 10 l.object ++ (codes "  made anew as " ++ decimal l.number)

abbrev pub anew_json : StandIn → List ℕ
anew_json l = compact_text (remade_data l.object l.number)

-- a line is one of these
abbrev pub IsAnewLine : List ℕ → StandIn → Type 0
IsAnewLine line l = (line ≡ anew_line l) ⊎ (line ≡ anew_json l)

-- a line says nothing of an object that was made anew
abbrev pub IsOfOther : List ℕ → Type 0
IsOfOther line = HasSubslice line (codes "made anew") → ⊥

-- none, or the one
abbrev pub option_list : Option StandIn → List StandIn
option_list None = []
option_list (Some l) = l ∷ []

-- what a line says, if it is of an object that was made anew
abbrev pub IsSaidBy : List ℕ → Option StandIn → Type 0
IsSaidBy line None = IsOfOther line
IsSaidBy line (Some l) = IsAnewLine line l

-- a line adds what it says
abbrev pub Takes : List ℕ → List StandIn → List StandIn → Type 0
Takes line said said' = (o : Option StandIn) × IsSaidBy line o × (said' ≡ said ++ option_list o)

-- These are what lines say of objects that were made anew, in order. Other lines are passed over.
abbrev pub AreSaid : List (List ℕ) → List StandIn → Type 0
AreSaid [] [] = Unit {0}
AreSaid [] (l ∷ said) = ⊥
AreSaid (line ∷ lines) [] = IsOfOther line × AreSaid lines []
AreSaid (line ∷ lines) (l ∷ said) = (IsOfOther line × AreSaid lines (l ∷ said)) ⊎ (IsAnewLine line l × AreSaid lines said)

-- the last that is said of each object
abbrev pub last_said : List StandIn → List StandIn
last_said [] = []
last_said (l ∷ said) = if has_stand_in said l.object then last_said said else l ∷ last_said said

-- whether a number is one of stand-ins
abbrev pub is_given_to : List StandIn → ℕ → Bool
is_given_to stand_ins n = list_any (λ (l : StandIn). l.number == n) stand_ins

-- No object is its own stand-in, and no two have one.
abbrev pub AreApart : List StandIn → Type 0
AreApart [] = Unit {0}
AreApart (l ∷ stand_ins) = (l.object ≢ l.number) × (is_given_to stand_ins l.number ≡ false) × AreApart stand_ins

-- The stand-ins are what a text says: of each object the last line that is of it.
pub record IsMapText (text : List ℕ) (stand_ins : List StandIn) : Type 0 where
  pub said : List StandIn
  pub lines : AreSaid (lines_of text) said
  pub last : stand_ins ≡ last_said said
  pub apart : AreApart stand_ins

-- So it is of a file.
pub record IsMapOf (known : Option (List ℕ)) (stand_ins : List StandIn) : Type 0 where
  pub text : List ℕ
  pub read : AreKnown known text
  pub says : IsMapText text stand_ins

-- The stand-ins are those of the file that is named; none where none is.
abbrev pub IsMapIn : (List ℕ → Option (List ℕ)) → Option (Bor (List ℕ)) → List StandIn → Type 0
IsMapIn files None stand_ins = stand_ins ≡ []
IsMapIn files (Some path) stand_ins = IsMapOf (files path.now) stand_ins
