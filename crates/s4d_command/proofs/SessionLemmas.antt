-- How the words of sessions are cut and read.
use Rattle.std.proofs.Common.{◌≡◌, ◌≢◌, ◌<◌, ◌+◌, ℕ, List, [], ◌∷◌, ◌++◌, Option, Some, None, length, refl, sym, ap, ◌∙◌, subst, arith, zero, suc, get_or, take, false, Bool, length-append}
use Rattle.std.specs.Prelude.{◌==◌, All, min, MatchOption, IfSome}
use Rattle.std.specs.Option.{IfNone}
use Rattle.std.specs.List.{AllZip, before_first, after_first, position_or_len}
use Rattle.std.specs.Borrow.{Bor}
use Rattle.std.proofs.Math.Seq.{get_or-append_seam}
use Rattle.std.proofs.lemmas.Bool.{eqb-false, eqb-true}
use Rattle.std.proofs.lemmas.List.{length-map, take_more, map-append, get_or-take, length-take}
use Rattle.std.proofs.lemmas.List.Elements.{All-head, All-tail}
use Rattle.std.proofs.lemmas.List.Sums.{split_at_first, fails_before_first, passes_at_first}
use Rattle.std.proofs.lemmas.Slice.Zip.{AllZip-long}
use Rattle.clap.specs.Walk.{Text, texts}
use Rattle.s4_types.specs.declared.requests.Role.{Role}
use Rattle.s4d_command.specs.declared.sessions.RunSession.{RunSession}
use Rattle.s4d_command.specs.CommandLine.{IsCut, SpellsSession, SpellsSessions, colon, role_word}

-- two beginnings without a colon before one text's first colon are the same, and so is what follows
pub same_cut : (front other back rest : Text) → All (λ c. c ≢ colon) front → All (λ c. c ≢ colon) other
    → front ++ (colon ∷ back) ≡ other ++ (colon ∷ rest) → (front ≡ other) × (back ≡ rest)
same_cut [] [] back rest h k e = (refl, cc)
same_cut [] (y ∷ ys) back rest h k e = absurd (All-head (λ c. c ≢ colon) y ys k (cc))
same_cut (x ∷ xs) [] back rest h k e = absurd (All-head (λ c. c ≢ colon) x xs h (cc))
same_cut (x ∷ xs) (y ∷ ys) back rest h k e =
    let tails : xs ++ (colon ∷ back) ≡ ys ++ (colon ∷ rest) = cc in
    let heads : x ≡ y = cc in
    let more = same_cut xs ys back rest (All-tail (λ c. c ≢ colon) x xs h) (All-tail (λ c. c ≢ colon) y ys k) tails in
    let same : xs ≡ ys = more.0 in (cc, more.1)

pub one_cut : (text front other back rest : Text) → IsCut text front back → IsCut text other rest → (front ≡ other) × (back ≡ rest)
one_cut text front other back rest h k = same_cut front other back rest h.first k.first (sym h.whole ∙ k.whole)

abbrev is_colon : ℕ → Bool
is_colon c = c == colon

-- no text without a colon is cut
pub no_cut : (text : Text) → position_or_len is_colon text ≡ length text → (front back : Text) → IsCut text front back → ⊥
no_cut text e front back h =
    let long : length text ≡ length front + length (colon ∷ back) = ap length h.whole ∙ length-append front (colon ∷ back) in
    let here : get_or text (length front) 0 ≡ colon
    = ap (λ (t : Text). get_or t (length front) 0) h.whole ∙ get_or-append_seam front colon back 0 in
    let fails : (get_or text (length front) 0 == colon) ≡ false = fails_before_first is_colon text (length front) 0 (omega arith) in
    eqb-false (get_or text (length front) 0) colon fails here

-- a text is cut at the first place at which a colon stands
pub cut_here : (text front back : Text) → front ≡ before_first is_colon text → back ≡ after_first is_colon text
    → position_or_len is_colon text < length text → IsCut text front back
cut_here text front back f b lt =
    let place = position_or_len is_colon text in
    let there : get_or text place 0 ≡ colon = eqb-true (get_or text place 0) colon (passes_at_first is_colon text 0 lt) in
    let same : before_first is_colon text ++ (get_or text place 0 ∷ after_first is_colon text) ≡ front ++ (colon ∷ back) = cc in
    record {
      whole = split_at_first is_colon text 0 lt ∙ same;
      first = λ k d below.
          let short : length front ≡ min place (length text) = ap length f ∙ length-take place text in
          let inside : k < place = omega arith in
          let at : get_or front k d ≡ get_or text k d = ap (λ (t : Text). get_or t k d) f ∙ get_or-take place text k d inside in
          let fails : (get_or text k d == colon) ≡ false = fails_before_first is_colon text k d inside in
          λ e. eqb-false (get_or text k d) colon fails (sym at ∙ e);
    }

-- what `split_once` says of a text and a colon
abbrev IsSplit : Text → Option (Bor Text × Bor Text) → Type 0
IsSplit text r = MatchOption r (position_or_len is_colon text ≡ length text)
    (λ x. (x.0.now ≡ before_first is_colon text) × (x.1.now ≡ after_first is_colon text) × (position_or_len is_colon text < length text))

pub cut_none : (text : Text) (r : Option (Bor Text × Bor Text)) → IsSplit text r → IfNone r ((front back : Text) → IsCut text front back → ⊥)
cut_none text None split = no_cut text split
cut_none text (Some x) split = tt

pub cut_some : (text : Text) (r : Option (Bor Text × Bor Text)) → IsSplit text r → IfSome r (λ parts. IsCut text parts.0.now parts.1.now)
cut_some text None split = tt
cut_some text (Some x) split = cut_here text x.0.now x.1.now split.0 split.1 split.2

-- a word whose rest is not cut gives no session
pub uncut_rest : (word front back : Text) → IsCut word front back → ((input output : Text) → IsCut back input output → ⊥)
    → (session : RunSession) → SpellsSession word session → ⊥
uncut_rest word front back whole never session h =
    let same = one_cut word (role_word session.role) front h.rest back h.role whole in
    never session.input.now session.output.now (subst (λ (t : Text). IsCut t session.input.now session.output.now) same.1 h.files)

-- nor one whose beginning is no role
pub no_role_there : (word front back : Text) → IsCut word front back → ((role : Role) → front ≡ role_word role → ⊥)
    → (session : RunSession) → SpellsSession word session → ⊥
no_role_there word front back whole never session h =
    let same = one_cut word (role_word session.role) front h.rest back h.role whole in never session.role (sym same.0)

-- one word more, and its session
pub sessions_more : (words : List (Bor Text)) (i : ℕ) (d : Bor Text) (sessions : List RunSession) (session : RunSession)
    → i < length words → AllZip SpellsSession (texts (take i words)) sessions → SpellsSession (get_or words i d).now session
    → AllZip SpellsSession (texts (take (i + 1) words)) (sessions ++ session ∷ [])
sessions_more words i d sessions session lt each here =
    let more : texts (take (i + 1) words) ≡ texts (take i words) ++ ((get_or words i d).now ∷ []) =
    ap texts (take_more words i d lt) ∙ map-append (λ s. s.now) (take i words) (get_or words i d ∷ []) in
    subst (λ (ts : List Text). AllZip SpellsSession ts (sessions ++ session ∷ [])) (sym more) (push (texts (take i words)) sessions each)
  where
    push : (ts : List Text) (ss : List RunSession) → AllZip SpellsSession ts ss → AllZip SpellsSession (ts ++ (get_or words i d).now ∷ []) (ss ++ session ∷ [])
    push [] [] e = (here, tt)
    push [] (s ∷ ss) e = absurd e
    push (t ∷ ts) [] e = absurd e
    push (t ∷ ts) (s ∷ ss) e = (e.0, push ts ss e.1)

-- a word that gives no session
pub no_sessions : (words : List (Bor Text)) (i : ℕ) (d : Bor Text) → i < length words
    → ((session : RunSession) → SpellsSession (get_or words i d).now session → ⊥) → (sessions : List RunSession) → SpellsSessions (texts words) sessions → ⊥
no_sessions words i d lt never sessions h = go words i lt never sessions h.each
  where
    go : (ws : List (Bor Text)) (k : ℕ) → k < length ws → ((s : RunSession) → SpellsSession (get_or ws k d).now s → ⊥) → (ss : List RunSession) → AllZip SpellsSession (texts ws) ss → ⊥
    go [] k lt no_one ss e = absurd (omega arith)
    go (w ∷ ws) k lt no_one [] e = e
    go (w ∷ ws) zero lt no_one (s ∷ ss) e = no_one s e.0
    go (w ∷ ws) (suc k) lt no_one (s ∷ ss) e = go ws k (omega arith) no_one ss e.1

-- there are as many sessions as words that give them
pub as_many : (words : List (Bor Text)) (sessions : List RunSession) → AllZip SpellsSession (texts words) sessions → length sessions ≡ length words
as_many words sessions each =
    let mapped : length (texts words) ≡ length words = simp length-map in AllZip-long SpellsSession (texts words) sessions each ∙ mapped
