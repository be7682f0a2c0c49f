-- How the words of several numbers are read.
use Rattle.std.proofs.Common.{◌≡◌, ◌<◌, ◌+◌, ℕ, List, [], ◌∷◌, ◌++◌, Option, Some, length, sym, ap, ◌∙◌, subst, arith, zero, suc, get_or, take, option_map, unwrap_or}
use Rattle.std.specs.Borrow.{Bor}
use Rattle.std.proofs.lemmas.List.{take_more, map-append}
use Rattle.clap.specs.Walk.{Text, texts}
use Rattle.s4d_command.specs.CommandLine.{IsNumber}
use Rattle.s4_command.specs.CommandLine.{AreNumbers}

-- the texts that the reader finds are those that are there
pub found_texts : (o : Option (Bor (List (Bor Text)))) (words : Bor (List (Bor Text))) (given : Option (List Text)) → o ≡ Some words
    → option_map (λ s. texts s.now) o ≡ given → texts words.now ≡ unwrap_or given []
found_texts o words given is same = ap (λ (t : Option (List Text)). unwrap_or t []) (sym (ap (option_map (λ s. texts s.now)) is) ∙ same)

-- one word more, and its number
pub numbers_more : (words : List (Bor Text)) (i : ℕ) (d : Bor Text) (numbers : List ℕ) (number : ℕ)
    → i < length words → AreNumbers (texts (take i words)) numbers → IsNumber (Some (get_or words i d).now) number
    → AreNumbers (texts (take (i + 1) words)) (numbers ++ number ∷ [])
numbers_more words i d numbers number lt each here =
    let more : texts (take (i + 1) words) ≡ texts (take i words) ++ ((get_or words i d).now ∷ []) =
    ap texts (take_more words i d lt) ∙ map-append (λ s. s.now) (take i words) (get_or words i d ∷ []) in
    subst (λ (ts : List Text). AreNumbers ts (numbers ++ number ∷ [])) (sym more) (push (texts (take i words)) numbers each)
  where
    push : (ts : List Text) (ns : List ℕ) → AreNumbers ts ns → AreNumbers (ts ++ (get_or words i d).now ∷ []) (ns ++ number ∷ [])
    push [] [] e = (here, tt)
    push [] (n ∷ ns) e = absurd e
    push (t ∷ ts) [] e = absurd e
    push (t ∷ ts) (n ∷ ns) e = (e.0, push ts ns e.1)

-- where a word is no number, the words aren't numbers
pub no_numbers : (words : List (Bor Text)) (i : ℕ) (d : Bor Text) → i < length words
    → ((number : ℕ) → IsNumber (Some (get_or words i d).now) number → ⊥) → (numbers : List ℕ) → AreNumbers (texts words) numbers → ⊥
no_numbers [] i d lt never numbers each = absurd (omega arith)
no_numbers (w ∷ ws) i d lt never [] each = each
no_numbers (w ∷ ws) zero d lt never (n ∷ ns) each = never n each.0
no_numbers (w ∷ ws) (suc i) d lt never (n ∷ ns) each = no_numbers ws i d (omega arith) never ns each.1
