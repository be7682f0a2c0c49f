-- The text of parts that follow each other.
use Rattle.std.proofs.Common.{◌≡◌, ◌∙◌, ◌+◌, ◌<◌, ◌++◌, ℕ, List, [], ◌∷◌, length, take, get_or, Option, sym, ap, subst, append_assoc}
use Rattle.std.specs.List.{flat_map}
use Rattle.std.specs.Io.KnownBytes.{Appends}
use Rattle.std.proofs.KnownBytes.{Appends-trans}
use Rattle.std.proofs.lemmas.List.{append-nil, take_more}
use Rattle.std.proofs.lemmas.List.Concat.{flat_map-append}
use Rattle.history_report.specs.Page.{Part, part_text, page_text}

-- the text of two lists of parts is that of the one, and then that of the other
pub page_two : (a b : List Part) → page_text (a ++ b) ≡ page_text a ++ page_text b
page_two a b = flat_map-append part_text a b

-- the text of the parts so far and of one more
pub page_on : (parts : List Part) (part : Part) → page_text (parts ++ part ∷ []) ≡ page_text parts ++ part_text part
page_on parts part = page_two parts (part ∷ []) ∙ ap (λ l. page_text parts ++ l) (append-nil (part_text part))

-- what is written of two lists of parts
pub appends_two : (x y z : Option (List ℕ)) (a b : List Part) → Appends x y (page_text a) → Appends y z (page_text b) → Appends x z (page_text (a ++ b))
appends_two x y z a b first second = subst (Appends x z) (sym (page_two a b)) (Appends-trans x y z (page_text a) (page_text b) first second)

module _ {X : Type 0} (f : X → List Part) where
  -- the parts of an element more are after those of the others
  parts_more : (xs : List X) (x : X) → flat_map f (xs ++ x ∷ []) ≡ flat_map f xs ++ f x
  parts_more xs x = flat_map-append f xs (x ∷ []) ∙ ap (λ l. flat_map f xs ++ l) (append-nil (f x))

  pub page_more : (xs : List X) (x : X) → page_text (flat_map f (xs ++ x ∷ [])) ≡ page_text (flat_map f xs) ++ page_text (f x)
  page_more xs x = ap page_text (parts_more xs x) ∙ page_two (flat_map f xs) (f x)

  -- what is written of an element more
  pub appends_more : (a b c : Option (List ℕ)) (xs : List X) (x : X) → Appends a b (page_text (flat_map f xs)) → Appends b c (page_text (f x)) → Appends a c (page_text (flat_map f (xs ++ x ∷ [])))
  appends_more a b c xs x first second = subst (Appends a c) (sym (page_more xs x)) (Appends-trans a b c (page_text (flat_map f xs)) (page_text (f x)) first second)

  -- what is written of the first elements of a list, and then of the next one
  pub appends_taken : (xs : List X) (i : ℕ) (x : X) (a b c : Option (List ℕ)) → i < length xs → x ≡ get_or xs i x → Appends a b (page_text (flat_map f (take i xs))) → Appends b c (page_text (f x))
      → Appends a c (page_text (flat_map f (take (i + 1) xs)))
  appends_taken xs i x a b c lt is first second =
      subst (λ l. Appends a c (page_text (flat_map f l))) (ap (λ y. take i xs ++ y ∷ []) is ∙ sym (take_more xs i x lt)) (appends_more a b c (take i xs) x first second)

  -- a text that had the parts of the first elements of a list has those of one more
  pub text_took : (xs : List X) (i : ℕ) (x : X) (a b c : List ℕ) → i < length xs → x ≡ get_or xs i x → b ≡ a ++ page_text (flat_map f (take i xs)) → c ≡ b ++ page_text (f x)
      → c ≡ a ++ page_text (flat_map f (take (i + 1) xs))
  text_took xs i x a b c lt is before now =
      now ∙ ap (λ l. l ++ page_text (f x)) before ∙ append_assoc a (page_text (flat_map f (take i xs))) (page_text (f x))
      ∙ ap (λ l. a ++ l) (ap (λ y. page_text (flat_map f (take i xs)) ++ page_text (f y)) is ∙ sym (page_more (take i xs) (get_or xs i x)) ∙ ap (λ l. page_text (flat_map f l)) (sym (take_more xs i x lt)))

-- the text of five lists of parts
pub page_five : (a b c d e : List Part) → page_text ((((a ++ b) ++ c) ++ d) ++ e) ≡ (((page_text a ++ page_text b) ++ page_text c) ++ page_text d) ++ page_text e
page_five a b c d e =
    page_two (((a ++ b) ++ c) ++ d) e
    ∙ ap (λ l. l ++ page_text e) (page_two ((a ++ b) ++ c) d ∙ ap (λ l. l ++ page_text d) (page_two (a ++ b) c ∙ ap (λ l. l ++ page_text c) (page_two a b)))
