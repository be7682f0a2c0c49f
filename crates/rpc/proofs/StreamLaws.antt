-- Streams: how readings go on, and that there is one.
use Rattle.std.proofs.Common.{◌≡◌, ℕ, ◌+◌, ◌<◌, ◌≤◌, List, [], ◌∷◌, ◌++◌, length, take, drop, Option, Some, None, refl, sym, ap, subst, ◌∙◌, append_assoc, arith, inl, inr}
use Rattle.std.specs.Prelude.{IfSome}
use Rattle.std.specs.Int.{w32, to_be_bytes, from_be_bytes}
use Rattle.std.proofs.lemmas.Bool.{cases_lt}
use Rattle.std.proofs.lemmas.List.{append-nil, take_at, drop_at, length-append, take-append-le}
use Rattle.std.proofs.lemmas.Nat.{from_be_bytes-to_be_bytes_4}
use Rattle.s4_types.specs.declared.limits.TheConstants.{FRAME_BODY_BYTES}
use Rattle.rpc.specs.declared.items.Item.{Item}
use Rattle.rpc.specs.declared.items.Item.TheVariants.{Whole, BadFrame}
use Rattle.rpc.specs.Stream.{frame, length_told, IsPartial, IsOversized, BeginsWithFrame, IsItem, ReadsItems, AddsOne, AddsItems}

-- ---- a frame at the front

-- the length that a frame tells is its body's
pub frame_told : (bytes body rest : List ℕ) → BeginsWithFrame bytes body rest → length_told bytes ≡ length body
frame_told bytes body rest b =
    let front : take 4 (frame body ++ rest) ≡ to_be_bytes w32 (length body) = refl in
    ap length_told b.whole ∙ from_be_bytes-to_be_bytes_4 (length body) (omega (arith, b.size))

pub frame_length : (bytes body rest : List ℕ) → BeginsWithFrame bytes body rest → length bytes ≡ 4 + length body + length rest
frame_length bytes body rest b = ap length b.whole ∙ omega (arith, length-append body rest)

pub not_partial : (bytes body rest : List ℕ) → BeginsWithFrame bytes body rest → IsPartial bytes → ⊥
not_partial bytes body rest b partial =
    let told = frame_told bytes body rest b in
    let len = frame_length bytes body rest b in
    let p = partial (omega (arith, len)) in
    omega (arith, told, len, p.1)

pub partial_bound : (bytes : List ℕ) → IsPartial bytes → length bytes < 4 + FRAME_BODY_BYTES
partial_bound bytes partial =
    elim (cases_lt (length bytes) 4) [
      | inl lt ↦ omega arith
      | inr le ↦ let p = partial le in omega (arith, p.0, p.1)
    ]

pub not_oversized : (bytes body rest : List ℕ) → BeginsWithFrame bytes body rest → IsOversized bytes → ⊥
not_oversized bytes body rest b o = let told = frame_told bytes body rest b in omega (arith, told, b.size, o.above)

pub partial_not_oversized : (bytes : List ℕ) → IsPartial bytes → IsOversized bytes → ⊥
partial_not_oversized bytes partial o = let p = partial o.told in omega (arith, p.0, o.above)

-- the front of a longer list tells the same length
pub told_on : (bytes more : List ℕ) → 4 ≤ length bytes → length_told (bytes ++ more) ≡ length_told bytes
told_on bytes more le = ap (from_be_bytes w32) (take-append-le 4 bytes more le)

pub oversized_on : (bytes more : List ℕ) → IsOversized bytes → IsOversized (bytes ++ more)
oversized_on bytes more o = let told = told_on bytes more o.told in record { told = omega (arith, length-append bytes more, o.told); above = omega (arith, told, o.above) }

pub frame_on : (bytes body rest more : List ℕ) → BeginsWithFrame bytes body rest → BeginsWithFrame (bytes ++ more) body (rest ++ more)
frame_on bytes body rest more b = record { whole = ap (λ (x : List ℕ). x ++ more) b.whole ∙ append_assoc (frame body) rest more; size = b.size }

-- ---- readings go on

module _ {T : Type 0} (spells : List ℕ → T → Type 0) where
  -- what was read of a stream is read of a longer one, and the rest goes on
  pub reads_on : (stream rest piece : List ℕ) (items more : List (Item T)) (end : Option (List ℕ)) → ReadsItems spells stream items (Some rest) → ReadsItems spells (rest ++ piece) more end → ReadsItems spells (stream ++ piece) (items ++ more) end
  reads_on stream rest piece [] more end first second = subst (λ (s : List ℕ). ReadsItems spells (s ++ piece) more end) (sym first.0) second
  reads_on stream rest piece (item ∷ items) more end (inl (body, behind, begins, is, onward)) second =
      inl (body, behind ++ piece, frame_on stream body behind piece begins, is, reads_on behind rest piece items more end onward second)
  reads_on stream rest piece (item ∷ items) more end (inr (over, is, none, ended)) second = absurd cc

  -- after an oversized length nothing is read
  pub reads_ended : (stream piece : List ℕ) (items : List (Item T)) → ReadsItems spells stream items None → ReadsItems spells (stream ++ piece) items None
  reads_ended stream piece [] first = absurd first
  reads_ended stream piece (item ∷ items) (inl (body, behind, begins, is, onward)) =
      inl (body, behind ++ piece, frame_on stream body behind piece begins, is, reads_ended behind piece items onward)
  reads_ended stream piece (item ∷ items) (inr (over, is, none, ended)) = inr (oversized_on stream piece over, is, none, ended)

  -- one more piece, whose items were put after those before
  pub fed_on : (stream piece : List ℕ) (items more all : List (Item T)) (old new : Option (List ℕ)) → (old ≡ None → ⊥) → all ≡ items ++ more → ReadsItems spells stream items old → IfSome old (λ held. ReadsItems spells (held ++ piece) more new) → ReadsItems spells (stream ++ piece) all new
  fed_on stream piece items more all (Some held) new has joined first second = subst (λ (x : List (Item T)). ReadsItems spells (stream ++ piece) x new) (sym joined) (reads_on stream held piece items more new first second)
  fed_on stream piece items more all None new has joined first second = absurd (has refl)

  pub nothing_on : (stream piece : List ℕ) (items : List (Item T)) (old : Option (List ℕ)) → old ≡ None → ReadsItems spells stream items old → ReadsItems spells (stream ++ piece) items old
  nothing_on stream piece items None none first = reads_ended stream piece items first
  nothing_on stream piece items (Some held) none first = absurd cc

  -- the front was read from the start on, and what is left goes on
  pub record Leads (start : List ℕ) (old items : List (Item T)) (left : List ℕ) : Type 0 where
    pub front : List (Item T)
    pub whole : items ≡ old ++ front
    pub on : (more : List (Item T)) (end : Option (List ℕ)) → ReadsItems spells left more end → ReadsItems spells start (front ++ more) end

  pub Leads-start : (start : List ℕ) (old : List (Item T)) → Leads start old old start
  Leads-start start old = record { front = []; whole = sym (append-nil old); on = λ more end r. r }

  pub Leads-frame : (start : List ℕ) (old items : List (Item T)) (left body rest : List ℕ) (item : Item T) → Leads start old items left → BeginsWithFrame left body rest → IsItem spells body item → Leads start old (items ++ item ∷ []) rest
  Leads-frame start old items left body rest item l begins is = record {
    front = l.front ++ item ∷ [];
    whole = ap (λ (x : List (Item T)). x ++ item ∷ []) l.whole ∙ append_assoc old l.front (item ∷ []);
    on = λ more end r. subst (λ (x : List (Item T)). ReadsItems spells start x end) (sym (append_assoc l.front (item ∷ []) more)) (l.on (item ∷ more) end (inl (body, rest, begins, is, r)));
  }

  pub Leads-one : (start : List ℕ) (old items new : List (Item T)) (left rest : List ℕ) → Leads start old items left → AddsOne spells left items new rest → Leads start old new rest
  Leads-one start old items new left rest l a = subst (λ (x : List (Item T)). Leads start old x rest) (sym a.added) (Leads-frame start old items left a.body rest a.item l a.begins a.is)

  pub Leads-partial : (start : List ℕ) (old items : List (Item T)) (left : List ℕ) → Leads start old items left → IsPartial left → AddsItems spells start old items (Some left)
  Leads-partial start old items left l partial = (l.front, l.whole, subst (λ (x : List (Item T)). ReadsItems spells start x (Some left)) (append-nil l.front) (l.on [] (Some left) (refl, partial)))

  pub Leads-oversized : (start : List ℕ) (old items : List (Item T)) (left : List ℕ) → Leads start old items left → IsOversized left → AddsItems spells start old (items ++ BadFrame ∷ []) None
  Leads-oversized start old items left l over =
      (l.front ++ BadFrame ∷ [], ap (λ (x : List (Item T)). x ++ BadFrame ∷ []) l.whole ∙ append_assoc old l.front (BadFrame ∷ []), l.on (BadFrame ∷ []) None (inr (over, refl, refl, refl)))

  -- one step and then others
  pub Leads-adds : (start : List ℕ) (old items new : List (Item T)) (left : List ℕ) (end : Option (List ℕ)) → Leads start old items left → AddsItems spells left items new end → AddsItems spells start old new end
  Leads-adds start old items new left end l a =
      (l.front ++ a.0, a.1 ∙ ap (λ (x : List (Item T)). x ++ a.0) l.whole ∙ append_assoc old l.front a.0, l.on a.0 end a.2)

-- ---- one reading

pub parts_of_frame : (bytes body rest : List ℕ) → BeginsWithFrame bytes body rest → (body ≡ take (length_told bytes) (drop 4 bytes)) × (rest ≡ drop (length_told bytes) (drop 4 bytes))
parts_of_frame bytes body rest b =
    let told = frame_told bytes body rest b in
    let behind : drop 4 bytes ≡ body ++ rest = ap (λ (x : List ℕ). drop 4 x) b.whole in
    (sym (rw (told, behind, take_at body rest (length body) refl) refl), sym (rw (told, behind, drop_at body rest (length body) refl) refl))

pub same_parts : (bytes a x b y : List ℕ) → BeginsWithFrame bytes a x → BeginsWithFrame bytes b y → (a ≡ b) × (x ≡ y)
same_parts bytes a x b y p q =
    let one = parts_of_frame bytes a x p in
    let other = parts_of_frame bytes b y q in
    (one.0 ∙ sym other.0, one.1 ∙ sym other.1)

module _ {T : Type 0} (spells : List ℕ → T → Type 0) (same : (body : List ℕ) (r s : T) → spells body r → spells body s → r ≡ s) where
  one_item : (body : List ℕ) (item other : Item T) → IsItem spells body item → IsItem spells body other → item ≡ other
  one_item body (Whole r) (Whole s) p q = ap (λ (x : T). Whole x) (same body r s p q)
  one_item body (Whole r) BadFrame p q = absurd (q r p)
  one_item body BadFrame (Whole s) p q = absurd (p s q)
  one_item body BadFrame BadFrame p q = refl

  pub one_reading : (stream : List ℕ) (items others : List (Item T)) (end last : Option (List ℕ)) → ReadsItems spells stream items end → ReadsItems spells stream others last → (items ≡ others) × (end ≡ last)
  one_reading stream [] [] (Some x) (Some y) p q = (refl, cc)
  one_reading stream [] [] (Some x) None p q = absurd q
  one_reading stream [] [] None last p q = absurd p
  one_reading stream [] (other ∷ others) (Some x) last p (inl (body, rest, begins, is, onward)) = absurd (not_partial stream body rest begins (subst IsPartial (sym p.0) p.1))
  one_reading stream [] (other ∷ others) (Some x) last p (inr (over, is, none, ended)) = absurd (partial_not_oversized stream (subst IsPartial (sym p.0) p.1) over)
  one_reading stream [] (other ∷ others) None last p q = absurd p
  one_reading stream (item ∷ items) [] end (Some y) (inl (body, rest, begins, is, onward)) q = absurd (not_partial stream body rest begins (subst IsPartial (sym q.0) q.1))
  one_reading stream (item ∷ items) [] end (Some y) (inr (over, is, none, ended)) q = absurd (partial_not_oversized stream (subst IsPartial (sym q.0) q.1) over)
  one_reading stream (item ∷ items) [] end None p q = absurd q
  one_reading stream (item ∷ items) (other ∷ others) end last (inl (body, rest, begins, is, onward)) (inl (body', rest', begins', is', onward')) =
      let parts = same_parts stream body rest body' rest' begins begins' in
      let first = one_item body item other is (subst (λ (x : List ℕ). IsItem spells x other) (sym parts.0) is') in
      let later = one_reading rest items others end last onward (subst (λ (x : List ℕ). ReadsItems spells x others last) (sym parts.1) onward') in
      (cc, later.1)
  one_reading stream (item ∷ items) (other ∷ others) end last (inl (body, rest, begins, is, onward)) (inr (over, bad, none, ended)) = absurd (not_oversized stream body rest begins over)
  one_reading stream (item ∷ items) (other ∷ others) end last (inr (over, bad, none, ended)) (inl (body, rest, begins, is, onward)) = absurd (not_oversized stream body rest begins over)
  one_reading stream (item ∷ items) (other ∷ others) end last (inr (over, bad, none, ended)) (inr (over', bad', none', ended')) = (cc, cc)
