-- What is left of files, step by step.
use Rattle.std.proofs.Common.{◌≡◌, ◌<◌, ◌≤◌, ◌+◌, ◌++◌, ◌∙◌, ◌⊎◌, ℕ, Bool, true, false, List, [], ◌∷◌, Option, Some, None, length-append, inl, inr, subst, arith}
use Rattle.std.proofs.lemmas.Bool.{cases_lt}
use Rattle.std.proofs.lemmas.Bool.Decides.{nat_tests}
use Rattle.std.proofs.lemmas.List.{get_or_append_left}
use Rattle.std.proofs.lemmas.List.Quantifiers.{Any-push}
use Rattle.std.specs.Io.KnownBytes.{Keeps}
use Rattle.std.proofs.KnownBytes.{Keeps-refl, Keeps-trans}
use Rattle.verifier.specs.Grammar.{FirstFault}
use Rattle.image_commands.specs.declared.beside.TheConstants.{MOST_BESIDE}
use Rattle.image_commands.specs.Leaving.{AreAllSpent, AreNoImages, HasClock, IsAmong, IsNoImage, IsKeptWhereWhole, IsSpent, IsUnread, IsWholeFrom, NamesWhole, is_spent}
use Rattle.image_commands.specs.declared.leftovers.LeftFault.{LeftFault}
use Rattle.image_commands.specs.declared.leftovers.LeftFault.TheVariants.{NoMemory, Unread, Whole}

-- of a file that wasn't touched
pub whole_untouched : (known : Option (List ℕ)) → IsKeptWhereWhole known known
whole_untouched known = inl (Keeps-refl known)

-- what is no image was none before, where it was kept since
none_before : (a b : Option (List ℕ)) → Keeps a b → IsNoImage b → IsNoImage a
none_before None b kept none = (none.0, tt)
none_before (Some xs) None kept none = absurd kept
none_before (Some xs) (Some ys) kept none = (none.0, subst (λ (zs : List ℕ). FirstFault zs (Some none.0)) kept none.1)

-- one step more
pub whole_on : (a b c : Option (List ℕ)) → IsKeptWhereWhole a b → IsKeptWhereWhole b c → IsKeptWhereWhole a c
whole_on a b c (inl kept) (inl on) = inl (Keeps-trans a b c kept on)
whole_on a b c (inl kept) (inr none) = inr (none_before a b kept none)
whole_on a b c (inr none) second = inr none

-- a file is whole of which an image with this clock was read, or nothing is known
pub whole_named : (known : Option (List ℕ)) (is : Bool) (found : Option ℕ) (clock least : ℕ) → found ≡ Some clock → (is ≡ true → HasClock known found) → least ≤ clock
    → (is ≡ true) ⊎ (known ≡ None) → IsWholeFrom least known
whole_named None is found clock least same has up which = tt
whole_named (Some bytes) is found clock least same has up (inl left) = (clock, subst (HasClock (Some bytes)) same (has left), up)
whole_named (Some bytes) is found clock least same has up (inr none) = absurd cc

-- one that isn't spent is whole, and its clock is later
pub later_named : (known : Option (List ℕ)) (is : Bool) (found : Option ℕ) (clock : ℕ) → is_spent found clock ≡ false → (is ≡ true → HasClock known found)
    → (is ≡ true) ⊎ (known ≡ None) → IsWholeFrom (clock + 1) known
later_named None is found clock spent has which = tt
later_named (Some bytes) is None clock spent has which = absurd cc
later_named (Some bytes) is (Some later) clock spent has (inl left) = (later, has left, grind (arith, nat_tests))
later_named (Some bytes) is (Some later) clock spent has (inr none) = absurd cc

-- a fault of what isn't known names no whole file
pub unread_names_none : (least : ℕ) (files : List ℕ → Option (List ℕ)) (fault : LeftFault) → IsUnread fault → NamesWhole least files fault
unread_names_none least files (Whole path) unread = absurd unread
unread_names_none least files (Unread path obstacle) unread = tt
unread_names_none least files NoMemory unread = tt

-- ---- what lies beside an image, number by number

-- a number of those below one more is that one, or below it
cases_next : (k n : ℕ) → k < n + 1 → (k < n) ⊎ (k ≡ n)
cases_next k n below = elim (cases_lt k n) [
  | inl less ↦ inl less
  | inr more ↦ inr (omega arith)
]

-- one more number is that of no image
pub no_images_on : (n : ℕ) (lies : ℕ → List ℕ → Type 0) (files : List ℕ → Option (List ℕ)) → AreNoImages n lies files
    → ((path : List ℕ) → lies n path → IsNoImage (files path)) → AreNoImages (n + 1) lies files
no_images_on n lies files so_far here k below path there = elim (cases_next k n below) [
  | inl less ↦ so_far k less path there
  | inr same ↦ here path (subst (λ (m : ℕ). lies m path) same there)
]

module _ {Left : Type 0} (is_left : Left → List ℕ → Bool) (files : List ℕ → Option (List ℕ)) (clock : ℕ) where
  -- one of them is still one where there is one more
  among_more : (k : ℕ) (path : List ℕ) (all : List Left) (one : Left) → IsAmong is_left files clock k path all → IsAmong is_left files clock k path (all ++ one ∷ [])
  among_more k path all one ((i, left, below, is, at), spent) =
      ((i, left, omega (arith, below, length-append all (one ∷ [])), get_or_append_left all (one ∷ []) left i below ∙ is, at), spent)

  -- one more number, by which nothing lies there
  pub all_spent_none : (n : ℕ) (lies : ℕ → List ℕ → Type 0) (all : List Left) → AreAllSpent n lies is_left files clock all
      → ((path : List ℕ) → lies n path → ⊥) → AreAllSpent (n + 1) lies is_left files clock all
  all_spent_none n lies all so_far none k below path there = elim (cases_next k n below) [
    | inl less ↦ so_far k less path there
    | inr same ↦ absurd (none path (subst (λ (m : ℕ). lies m path) same there))
  ]

  -- one more number, by which this one lies there
  pub all_spent_more : (n : ℕ) (lies : ℕ → List ℕ → Type 0) (all : List Left) (one : Left) → AreAllSpent n lies is_left files clock all
      → ((path : List ℕ) → lies n path → is_left one path ≡ true) → (n < MOST_BESIDE → (path : List ℕ) → is_left one path ≡ true → IsSpent clock (files path))
      → AreAllSpent (n + 1) lies is_left files clock (all ++ one ∷ [])
  all_spent_more n lies all one so_far this spent k below path there = elim (cases_next k n below) [
    | inl less ↦ among_more k path all one (so_far k less path there)
    | inr same ↦
        let is : is_left one path ≡ true = this path (subst (λ (m : ℕ). lies m path) same there) in
        (Any-push (λ left. is_left left path ≡ true) all one is, λ whole. spent (subst (λ (m : ℕ). m < MOST_BESIDE) same whole) path is)
  ]
