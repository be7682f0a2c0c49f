-- What is written, piece by piece.
use Rattle.std.proofs.Common.{◌≡◌, ◌∙◌, ◌+◌, ◌<◌, ◌≤◌, ◌++◌, ℕ, List, [], ◌∷◌, length, drop, get_or, Option, append_assoc, append-nil, sym, ap, subst, refl}
use Rattle.std.proofs.lemmas.List.{drop_more, drop_all}
use Rattle.std.specs.Io.KnownBytes.{Appends}
use Rattle.std.proofs.KnownBytes.{Appends-trans, Appends-nil}
use Rattle.history_versions.specs.Lines.{joined, separated, separator}

-- the pieces for the moments so far are written, and with those for the rest they are all
pub record JoinedTo (piece : ℕ → Option (List ℕ)) (moments : List ℕ) (i : ℕ) (before : List ℕ) (output output' : Option (List ℕ)) : Type 0 where
  pub front : List ℕ
  pub wrote : Appends output output' front
  pub rest : front ++ joined piece before (drop i moments) ≡ joined piece [] moments

-- none is at first
pub none_joined : (piece : ℕ → Option (List ℕ)) (moments before : List ℕ) (output : Option (List ℕ)) → before ≡ [] → JoinedTo piece moments 0 before output output
none_joined piece moments before output empty = record { front = []; wrote = Appends-nil output; rest = ap (λ b. joined piece b moments) empty }

-- the next is
pub joined_on : (piece : ℕ → Option (List ℕ)) (moments : List ℕ) (i t : ℕ) (before next : List ℕ) (a b c : Option (List ℕ)) → i < length moments → t ≡ get_or moments i t → JoinedTo piece moments i before a b
    → Appends b c (separated before (piece t)) → next ≡ separator before (piece t) → JoinedTo piece moments (i + 1) next a c
joined_on piece moments i t before next a b c lt here so_far wrote is =
    let later = drop (i + 1) moments in
    record {
      front = so_far.front ++ separated before (piece t);
      wrote = Appends-trans a b c so_far.front (separated before (piece t)) so_far.wrote wrote;
      rest = ap (λ n. (so_far.front ++ separated before (piece t)) ++ joined piece n later) is
          ∙ append_assoc so_far.front (separated before (piece t)) (joined piece (separator before (piece t)) later)
          ∙ ap (λ ts. so_far.front ++ joined piece before ts) (ap (λ u. u ∷ later) here ∙ sym (drop_more moments i t lt))
          ∙ so_far.rest;
    }

-- all are, after the last
pub all_joined : (piece : ℕ → Option (List ℕ)) (moments : List ℕ) (i : ℕ) (before : List ℕ) (a b : Option (List ℕ)) → length moments ≤ i → JoinedTo piece moments i before a b → Appends a b (joined piece [] moments)
all_joined piece moments i before a b over so_far =
    subst (Appends a b) (sym (append-nil so_far.front) ∙ ap (λ ts. so_far.front ++ joined piece before ts) (sym (drop_all i moments over)) ∙ so_far.rest) so_far.wrote
