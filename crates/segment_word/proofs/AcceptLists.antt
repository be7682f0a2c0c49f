-- Lists as a history grows: beginnings, the accepted changes among records, and a session's own numbers.
use Rattle.std.proofs.Common.{◌≡◌, ◌⊎◌, inl, inr, ℕ, zero, suc, ◌+◌, ◌-◌, ◌<◌, ◌≤◌, List, [], ◌∷◌, ◌++◌, length, slice_index_or, refl, sym, ap, ◌∙◌, subst, arith, length-append, append-nil}
use Rattle.std.specs.List.{Contains}
use mathlib.Core.Option.{some, some-injective, some-ne-none}
use mathlib.Core.List.{IsPrefix}
use lib.ListN.{get_elem?}
use Rattle.s4_types.specs.declared.changes.Accepted.{Accepted}
use Rattle.s4_types.specs.declared.changes.Change.{Change}
use Rattle.s4_types.specs.History.{Record, Took, Seen, taken, accepted}
use Rattle.segment_word.specs.AcceptViews.{Ledger, with_moment, with_change, next_change, count_of}
use Rattle.segment_word.specs.AcceptRule.{AreNumbered, AreOwn}

pub prefix_all : {A : Type 0} (xs : List A) → IsPrefix xs xs
prefix_all xs = ([], append-nil xs)

pub prefix_length : {A : Type 0} (xs ys : List A) → IsPrefix xs ys → length xs ≤ length ys
prefix_length xs ys p = omega (arith, sym (ap length p.1) ∙ length-append xs p.0)

-- what is in a list with one more after it was there, or is that one
pub at_one_more : {A : Type 0} (l : List A) (a b : A) (j : ℕ) → get_elem? (l ++ a ∷ []) j ≡ some b → (get_elem? l j ≡ some b) ⊎ ((j ≡ length l) × (a ≡ b))
at_one_more [] a b zero e = inr (refl, some-injective a b e)
at_one_more [] a b (suc j) e = absurd (some-ne-none b (sym e))
at_one_more (x ∷ xs) a b zero e = inl e
at_one_more (x ∷ xs) a b (suc j) e = elim (at_one_more xs a b j e) as (λ _. (get_elem? xs j ≡ some b) ⊎ ((suc j ≡ suc (length xs)) × (a ≡ b))) [ inl t ↦ inl t | inr t ↦ inr (ap suc t.0, t.1) ]

taken-append : (xs ys : List Record) → taken (xs ++ ys) ≡ taken xs ++ taken ys
taken-append [] ys = refl
taken-append (Took a ∷ xs) ys = ap (λ (l : List Accepted). a ∷ l) (taken-append xs ys)
taken-append (Seen m ∷ xs) ys = taken-append xs ys

-- a moment seen is no accepted change
pub after_moment : (l : Ledger) (m : ℕ) → accepted (with_moment l m).history ≡ accepted l.history
after_moment l m = taken-append l.history.records (Seen m ∷ []) ∙ append-nil (taken l.history.records)

pub after_change : (l : Ledger) (seat m : ℕ) (c : Change) → accepted (with_change l seat m c).history ≡ accepted l.history ++ next_change l m c ∷ []
after_change l seat m c = taken-append l.history.records (Took (next_change l m c) ∷ [])

pub count-change : (l : Ledger) (seat m : ℕ) (c : Change) → count_of (with_change l seat m c) ≡ count_of l + 1
count-change l seat m c = ap length (after_change l seat m c) ∙ length-append (accepted l.history) (next_change l m c ∷ [])

pub numbered_one_more : (n : ℕ) (changes : List Accepted) (a : Accepted) → AreNumbered n changes → a.number ≡ n + length changes + 1 → AreNumbered n (changes ++ a ∷ [])
numbered_one_more n [] a all e = (omega arith, tt)
numbered_one_more n (b ∷ changes) a all e = (all.0, numbered_one_more (n + 1) changes a all.1 (omega arith))

-- the numbers stay own where the list of owners and the bound grow
pub own_more : (owners owners' : List ℕ) (seat low high high' : ℕ) (ns : List ℕ) → ((i x : ℕ) → get_elem? owners i ≡ some x → get_elem? owners' i ≡ some x) → high ≤ high'
    → AreOwn owners seat low high ns → AreOwn owners' seat low high' ns
own_more owners owners' seat low high high' [] keep le own = omega arith
own_more owners owners' seat low high high' (n ∷ ns) keep le own = (own.0, keep (n - 1) seat own.1, own_more owners owners' seat n high high' ns keep le own.2)

pub own_one_more : (owners : List ℕ) (seat low high n : ℕ) (ns : List ℕ) → high < n → get_elem? owners (n - 1) ≡ some seat → AreOwn owners seat low high ns → AreOwn owners seat low n (ns ++ n ∷ [])
own_one_more owners seat low high n [] lt at own = (omega arith, at, omega arith)
own_one_more owners seat low high n (k ∷ ns) lt at own = (own.0, own.1, own_one_more owners seat k high n ns lt at own.2)

own_place : (owners : List ℕ) (seat low high n : ℕ) (ns : List ℕ) (k : ℕ) → AreOwn owners seat low high ns → k < length ns → slice_index_or ns k n ≡ n → get_elem? owners (n - 1) ≡ some seat
own_place owners seat low high n [] k own h e = absurd (omega arith)
own_place owners seat low high n (x ∷ ns) zero own h e = subst (λ (i : ℕ). get_elem? owners (i - 1) ≡ some seat) e own.1
own_place owners seat low high n (x ∷ ns) (suc k) own h e = own_place owners seat x high n ns k own.2 (omega arith) e

-- the change of an own number was accepted for the seat
pub own_at : (owners : List ℕ) (seat low high n : ℕ) (ns : List ℕ) → AreOwn owners seat low high ns → Contains ns n → get_elem? owners (n - 1) ≡ some seat
own_at owners seat low high n ns own is = own_place owners seat low high n ns is.0 own is.1 is.2
