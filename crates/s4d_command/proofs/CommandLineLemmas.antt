-- How the readers of matches read numbers and words.
use Rattle.std.proofs.Common.{List, ◌≡◌, ℕ, Option, Some, None, Result, Ok, Err, IfSome, refl, sym, ap, ◌∙◌, option_map, codes, get_or, arith}
use Rattle.std.specs.Option.{IfNone}
use Rattle.std.specs.Result.{IsErrOf}
use Rattle.std.specs.Str.Parse.{ParsesUnsigned}
use Rattle.std.specs.Borrow.{Bor}
use Rattle.clap.proofs.WalkLemmas.{first_value-rows}
use Rattle.clap.specs.Matches.{ReadsOne, first_value}
use Rattle.clap.specs.declared.parser.matches.Found.{Found}
use Rattle.s4_types.specs.declared.requests.Role.{Role}
use Rattle.clap.specs.Walk.{Row, Text, first_of, rows_of}
use Rattle.s4d_command.specs.declared.Command.TheVariants as command
use Rattle.s4d_command.specs.declared.Run.{Run}
use Rattle.s4d_command.specs.CommandLine.{IsNumber, SpellsNone, SpellsRun, role_word}

module _ {E : Type 0} (gives : Text → Result ℕ E → Type 0) (reads : (t : Text) (x : Result ℕ E) → gives t x → ParsesUnsigned 64 10 t x) where
  pub number_some : (o : Option Text) (r : Option ℕ) → (o ≡ None → r ≡ None) → ((t : Text) → o ≡ Some t → ReadsOne gives t r) → IfSome r (IsNumber o)
  number_some o None none value = tt
  number_some None (Some n) none value = let same : Some n ≡ None = none refl in absurd cc
  number_some (Some t) (Some n) none value = reads t (Ok n) (value t refl)

  pub number_none : (o : Option Text) (r : Option ℕ) → ((t : Text) → o ≡ Some t → ReadsOne gives t r) → IfNone r ((n : ℕ) → IsNumber o n → ⊥)
  number_none None None value = λ n h. h
  number_none (Some t) None value = λ n h. let e = value t refl in reads t (Err e.0) e.1 h.0
  number_none None (Some n) value = tt
  number_none (Some t) (Some n) value = tt

-- no value is there
pub no_word : (f : Found) (id : Text) (o : Option (Bor Text)) → o ≡ None → option_map (λ s. s.now) o ≡ first_value f id → first_of id (rows_of f) ≡ None
no_word f id o is value = sym (first_value-rows f id) ∙ sym value ∙ ap (option_map (λ s. s.now)) is

-- this value is there
pub one_word : (f : Found) (id : Text) (o : Option (Bor Text)) (w : Bor Text) → o ≡ Some w → option_map (λ s. s.now) o ≡ first_value f id → first_of id (rows_of f) ≡ Some w.now
one_word f id o w is value = sym (first_value-rows f id) ∙ sym value ∙ ap (option_map (λ s. s.now)) is

pub no_role : (o : Option Text) → o ≡ None → (role : Role) → o ≡ Some (role_word role) → ⊥
no_role o is role h = let e : None ≡ Some (role_word role) = sym is ∙ h in absurd cc

pub other_word : (o : Option Text) (w : Text) (r : Option Role) → o ≡ Some w → IfNone r ((role : Role) → w ≡ role_word role → ⊥) → IfNone r ((role : Role) → o ≡ Some (role_word role) → ⊥)
other_word o w None is other = λ role h. let e : Some w ≡ Some (role_word role) = sym is ∙ h in let same : w ≡ role_word role = cc in other role same
other_word o w (Some role) is other = tt

pub same_word : (o : Option Text) (w : Text) (r : Option Role) → o ≡ Some w → IfSome r (λ role. w ≡ role_word role) → IfSome r (λ role. o ≡ Some (role_word role))
same_word o w None is same = tt
same_word o w (Some role) is same = is ∙ ap (λ x. Some x) same

module _ {X : Type 0} {Y : Type 0} (view : X → Y) where
  -- the reader of a value finds none where the rows have none
  pub value_none : (o : Option X) (p q : Option Y) → option_map view o ≡ p → p ≡ q → IfNone o ((y : Y) → q ≡ Some y → ⊥)
  value_none None p q value same = λ y h. let e : None ≡ Some y = value ∙ same ∙ h in absurd cc
  value_none (Some x) p q value same = tt

  -- the reader of a value finds the one that the rows have
  pub value_some : (o : Option X) (p q : Option Y) → option_map view o ≡ p → p ≡ q → IfSome o (λ x. q ≡ Some (view x))
  value_some None p q value same = tt
  value_some (Some x) p q value same = sym (value ∙ same)

-- texts that begin otherwise are no one text
pub other_letter : (text a b : Text) → text ≡ a → text ≡ b → (get_or a 0 0 ≡ get_or b 0 0 → ⊥) → ⊥
other_letter text a b is also differ = differ (ap (λ (t : Text). get_or t 0 0) (sym is ∙ also))

-- the matches of `run` that give no sessions give no command
pub no_run : (name : Text) (rows : List Row) → name ≡ codes "run" → ((run : Run) → SpellsRun rows run → ⊥) → SpellsNone (Some (name, rows))
no_run name rows is never (command.Pipe pipe) h = other_letter name (codes "run") (codes "pipe") is h.0 (λ e. let no_way : 114 ≡ 112 = e in absurd (omega arith))
no_run name rows is never (command.New new) h = other_letter name (codes "run") (codes "new") is h.0 (λ e. let no_way : 114 ≡ 110 = e in absurd (omega arith))
no_run name rows is never (command.Verify verify) h = other_letter name (codes "run") (codes "verify") is h.0 (λ e. let no_way : 114 ≡ 118 = e in absurd (omega arith))
no_run name rows is never (command.Run run) h = never run h.1
no_run name rows is never (command.At at) h = other_letter name (codes "run") (codes "at") is h.0 (λ e. let no_way : 114 ≡ 97 = e in absurd (omega arith))
no_run name rows is never (command.Migrate migrate) h = other_letter name (codes "run") (codes "migrate") is h.0 (λ e. let no_way : 114 ≡ 109 = e in absurd (omega arith))

-- an error is that of another kind of result
pub same_error : {X Y E : Type 0} (error other : E) → IsErrOf {T = X} (Err error) other → IsErrOf {T = Y} (Err error) other
same_error {X} {Y} {E} error other h = let e : Err error ≡ Err other = h in let same : error ≡ other = cc in ap (λ (x : E). Err x) same
