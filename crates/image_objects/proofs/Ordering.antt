-- The inodes of a chain, one after another: what is known of those that were looked at.
use Rattle.std.proofs.Common.{◌≡◌, ℕ, ◌+◌, ◌<◌, ◌≤◌, Bool, true, false, ◌||◌, leb, ltb, inl, inr, List, [], ◌∷◌, ◌++◌, length, take, get_or, refl, sym, ap, ◌∙◌, subst, arith}
use Rattle.std.specs.List.{AllByRecursion}
use Rattle.std.proofs.lemmas.Bool.{cases_Bool, both_ways, leb-true, leb-false, ltb-true, ltb-false, or_cases, or_parts}
use Rattle.std.proofs.lemmas.List.{take_more, take_all}
use Rattle.codec.specs.declared.inodes.Inode.{Inode}
use Rattle.codec.specs.Entry.{EntryFields}
use Rattle.undo_redo.specs.Redone.{redone}
use Rattle.undo_redo.specs.Runs.{redone_all, blank}
use Rattle.time_read.specs.Orderly.{inode_behind, IsFromTo, IsOrderlyChain}

-- the last change of a live inode is from a moment to another
abbrev pub Timely : ℕ → ℕ → Inode → Type 0
Timely created clock i = i.alive ≡ true → IsFromTo created clock i.changed

-- What is known of the inodes up to the one after this many entries: whether one of them is live, that each was changed in
-- time, and that none but the first or the last is dead.
pub record SeenTo (created clock : ℕ) (first : Inode) (entries : List EntryFields) (i : ℕ) (inode : Inode) (live : Bool) : Type 0 where
  pub is : inode ≡ inode_behind first entries i
  pub changed : (n : ℕ) → n ≤ i → Timely created clock (inode_behind first entries n)
  pub between : (n : ℕ) → 0 < n → n ≤ i → n < length entries → (inode_behind first entries n).alive ≡ true
  pub seen : live ≡ true → (n : ℕ) × ((inode_behind first entries n).alive ≡ true)
  pub none : live ≡ false → (n : ℕ) → n ≤ i → (inode_behind first entries n).alive ≡ true → ⊥

none_yet : (n : ℕ) → n ≤ 0 → n ≡ 0
none_yet n le = omega (arith, le)

pub seen_first : (created clock : ℕ) (first : Inode) (entries : List EntryFields) → Timely created clock first → SeenTo created clock first entries 0 first first.alive
seen_first created clock first entries timely = record {
  is = refl;
  changed = λ n le. subst (λ (k : ℕ). Timely created clock (inode_behind first entries k)) (sym (none_yet n le)) timely;
  between = λ n some le lt. absurd (omega (arith, some, le));
  seen = λ live. (0, live);
  none = λ dead n le alive. both_ways first.alive dead (ap (λ (k : ℕ). (inode_behind first entries k).alive) (sym (none_yet n le)) ∙ alive);
}

redone_last : (entries : List EntryFields) (e : EntryFields) (i : Inode) → redone_all (entries ++ e ∷ []) i ≡ redone e (redone_all entries i)
redone_last [] e i = refl
redone_last (f ∷ entries) e i = redone_last entries e (redone f i)

behind_next : (first : Inode) (entries : List EntryFields) (i : ℕ) (e : EntryFields) → i < length entries → e ≡ get_or entries i e → inode_behind first entries (i + 1) ≡ redone e (inode_behind first entries i)
behind_next first entries i e lt is =
    ap (λ (es : List EntryFields). redone_all es first) (take_more entries i e lt ∙ ap (λ (x : EntryFields). take i entries ++ x ∷ []) (sym is)) ∙ redone_last (take i entries) e first

-- the inode after one entry more
pub seen_more : (created clock : ℕ) (first : Inode) (entries : List EntryFields) (i left : ℕ) (inode next : Inode) (live now : Bool) (e : EntryFields)
    → SeenTo created clock first entries i inode live → i < length entries → e ≡ get_or entries i e → left + (i + 1) ≡ length entries → next ≡ redone e inode
    → Timely created clock next → (0 < left → next.alive ≡ true) → now ≡ (live || next.alive) → SeenTo created clock first entries (i + 1) next now
seen_more created clock first entries i left inode next live now e s lt is left_is made timely stands now_is =
    let at : next ≡ inode_behind first entries (i + 1) = made ∙ ap (redone e) s.is ∙ sym (behind_next first entries i e lt is) in
    let at_next : (n : ℕ) → n ≤ i + 1 → ltb n (i + 1) ≡ false → next ≡ inode_behind first entries n =
    λ n le past. let high : i + 1 ≤ n = ltb-false n (i + 1) past in at ∙ ap (inode_behind first entries) (let same : i + 1 ≡ n = omega (arith, le, high) in same) in
    record {
      is = at;
      changed = λ n le. elim (cases_Bool (ltb n (i + 1))) [
        | inl low ↦ (let less : n < i + 1 = ltb-true n (i + 1) low in s.changed n (omega (arith, less)))
        | inr past ↦ subst (λ (j : Inode). Timely created clock j) (at_next n le past) timely
      ];
      between = λ n some le inside. elim (cases_Bool (ltb n (i + 1))) [
        | inl low ↦ (let less : n < i + 1 = ltb-true n (i + 1) low in s.between n some (omega (arith, less)) inside)
        | inr past ↦ (let high : i + 1 ≤ n = ltb-false n (i + 1) past in ap (λ (j : Inode). j.alive) (sym (at_next n le past)) ∙ stands (omega (arith, high, inside, left_is)))
      ];
      seen = λ alive. elim (or_cases live next.alive (sym now_is ∙ alive)) [
        | inl before ↦ s.seen before
        | inr here ↦ (i + 1, ap (λ (j : Inode). j.alive) (sym at) ∙ here)
      ];
      none = λ dead n le alive. (
          let parts = or_parts live next.alive (sym now_is ∙ dead) in
          elim (cases_Bool (ltb n (i + 1))) [
            | inl low ↦ (let less : n < i + 1 = ltb-true n (i + 1) low in s.none parts.0 n (omega (arith, less)) alive)
            | inr past ↦ both_ways next.alive parts.1 (ap (λ (j : Inode). j.alive) (at_next n le past) ∙ alive)
          ]);
    }

-- after more entries than there are stands the last inode
behind_end : (first : Inode) (entries : List EntryFields) (n : ℕ) → length entries ≤ n → inode_behind first entries n ≡ inode_behind first entries (length entries)
behind_end first entries n le = ap (λ (es : List EntryFields). redone_all es first) (take_all n entries le ∙ sym (take_all (length entries) entries (omega arith)))

-- all inodes were looked at
pub in_order : (created clock : ℕ) (first : Inode) (entries : List EntryFields) (i : ℕ) (inode : Inode) (live : Bool) → SeenTo created clock first entries i inode live → length entries ≤ i
    → AllByRecursion (λ e. IsFromTo created clock e.moment) entries → (first.alive ≡ false → first ≡ blank created) → live ≡ true → IsOrderlyChain created clock first entries
in_order created clock first entries i inode live s end moments beginning alive = record {
  moments = moments;
  changed = λ n. elim (cases_Bool (leb n i)) [
    | inl low ↦ s.changed n (leb-true n i low)
    | inr past ↦ (let high : i < n = leb-false n i past in
        subst (λ (j : Inode). Timely created clock j) (behind_end first entries i end ∙ sym (behind_end first entries n (omega (arith, high, end)))) (s.changed i (omega arith)))
  ];
  between = λ n some inside. s.between n some (omega (arith, inside, end)) inside;
  beginning = beginning;
  live = s.seen alive;
}

-- a live inode is among those that were looked at
pub one_lives : (created clock : ℕ) (first : Inode) (entries : List EntryFields) (i : ℕ) (inode : Inode) (live : Bool) → SeenTo created clock first entries i inode live → length entries ≤ i → IsOrderlyChain created clock first entries → live ≡ true
one_lives created clock first entries i inode true s end h = refl
one_lives created clock first entries i inode false s end h =
    elim (cases_Bool (leb h.live.0 i)) [
      | inl low ↦ absurd (s.none refl h.live.0 (leb-true h.live.0 i low) h.live.1)
      | inr past ↦ (let high : i < h.live.0 = leb-false h.live.0 i past in
          absurd (s.none refl i (omega arith) (ap (λ (j : Inode). j.alive) (behind_end first entries i end ∙ sym (behind_end first entries h.live.0 (omega (arith, high, end)))) ∙ h.live.1)))
    ]

-- where the chain is in order, the inode after the next entry passes both tests
pub next_timely : (created clock : ℕ) (first : Inode) (entries : List EntryFields) (i : ℕ) (inode next : Inode) (live : Bool) (e : EntryFields) → SeenTo created clock first entries i inode live → i < length entries → e ≡ get_or entries i e → next ≡ redone e inode
    → IsOrderlyChain created clock first entries → Timely created clock next
next_timely created clock first entries i inode next live e s lt is made h =
    subst (λ (j : Inode). Timely created clock j) (sym (made ∙ ap (redone e) s.is ∙ sym (behind_next first entries i e lt is))) (h.changed (i + 1))

pub next_stands : (created clock : ℕ) (first : Inode) (entries : List EntryFields) (i left : ℕ) (inode next : Inode) (live : Bool) (e : EntryFields) → SeenTo created clock first entries i inode live → i < length entries → e ≡ get_or entries i e → left + (i + 1) ≡ length entries → next ≡ redone e inode
    → IsOrderlyChain created clock first entries → 0 < left → next.alive ≡ true
next_stands created clock first entries i left inode next live e s lt is left_is made h some =
    ap (λ (j : Inode). j.alive) (made ∙ ap (redone e) s.is ∙ sym (behind_next first entries i e lt is)) ∙ h.between (i + 1) (omega arith) (omega (arith, some, left_is))
