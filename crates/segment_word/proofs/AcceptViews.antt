-- The rule after one view changed or was added.
use Rattle.std.proofs.Common.{◌≡◌, inl, inr, ℕ, zero, suc, List, [], ◌∷◌, ◌++◌, set, length, refl, sym, ap, ◌∙◌, subst, arith}
use mathlib.Core.Option.{some, some-injective, some-ne-none}
use lib.ListN.{get_elem?}
use Rattle.atomic_table.proofs.Lists.{at_set}
use Rattle.s4_types.specs.History.{accepted}
use Rattle.segment_word.specs.AcceptViews.{Told, Ledger, AcceptView, Driving, Lent, Attending, Carried, begun, blank_base, new_session, ledger_of, told_of, count_of}
use Rattle.segment_word.specs.AcceptSteps.{AcceptSat}
use Rattle.segment_word.specs.AcceptRule.{Suits, AreNumbered, AcceptRules, first_ledger}
use Rattle.segment_word.proofs.AcceptLists.{at_one_more}

-- the drive's seat is the first
pub first-at : (views : List AcceptView) (id : ℕ) (v : AcceptView) → id ≡ 0 → get_elem? views id ≡ some v → first_ledger views ≡ ledger_of v
first-at [] id v z e = absurd (some-ne-none v (sym e))
first-at (x ∷ xs) zero v z e = ap ledger_of (some-injective x v e)
first-at (x ∷ xs) (suc id) v z e = absurd (omega arith)

pub first-set : (views : List AcceptView) (id : ℕ) (v w : AcceptView) → id ≡ 0 → get_elem? views id ≡ some v → first_ledger (set views id w) ≡ ledger_of w
first-set [] id v w z e = absurd (some-ne-none v (sym e))
first-set (x ∷ xs) zero v w z e = refl
first-set (x ∷ xs) (suc id) v w z e = absurd (omega arith)

pub first-kept : (views : List AcceptView) (id : ℕ) (v w : AcceptView) → get_elem? views id ≡ some v → ledger_of w ≡ ledger_of v → first_ledger (set views id w) ≡ first_ledger views
first-kept [] id v w e is = refl
first-kept (x ∷ xs) zero v w e is = is ∙ sym (ap ledger_of (some-injective x v e))
first-kept (x ∷ xs) (suc id) v w e is = refl

pub first-added : (views : List AcceptView) (w : AcceptView) → ledger_of w ≡ begun blank_base → first_ledger (views ++ w ∷ []) ≡ first_ledger views
first-added [] w e = e
first-added (x ∷ xs) w e = refl

pub suits_set : (l : Ledger) (views : List AcceptView) (id : ℕ) (w : AcceptView) → ((j : ℕ) (u : AcceptView) → get_elem? views j ≡ some u → Suits l j u) → Suits l id w
    → (j : ℕ) (u : AcceptView) → get_elem? (set views id w) j ≡ some u → Suits l j u
suits_set l views id w all new j u e = elim (at_set views id j w u e) as (λ _. Suits l j u) [ inl t ↦ subst (λ (z : ℕ × AcceptView). Suits l z.0 z.1) (λ k. (sym t.0 k, t.1 k)) new | inr t ↦ all j u t.1 ]

pub suits_added : (l : Ledger) (views : List AcceptView) (w : AcceptView) → ((j : ℕ) (u : AcceptView) → get_elem? views j ≡ some u → Suits l j u) → Suits l (length views) w
    → (j : ℕ) (u : AcceptView) → get_elem? (views ++ w ∷ []) j ≡ some u → Suits l j u
suits_added l views w all new j u e = elim (at_one_more views w u j e) as (λ _. Suits l j u) [ inl t ↦ all j u t | inr t ↦ subst (λ (z : ℕ × AcceptView). Suits l z.0 z.1) (λ k. (sym t.0 k, t.1 k)) new ]

-- the rule after a step of the drive's seat
pub drive_step : (words words' : List ℕ) (views : List AcceptView) (id : ℕ) (v w : AcceptView) (l' : Ledger) → id ≡ 0 → get_elem? views id ≡ some v → AcceptRules words views (ledger_of v) → ledger_of w ≡ l'
    → words' ≡ count_of l' ∷ [] → length l'.owners ≡ count_of l' → AreNumbered 0 (accepted l'.history)
    → ((j : ℕ) (u : AcceptView) → Suits (ledger_of v) j u → Suits l' j u) → Suits l' id w
    → AcceptRules words' (set views id w) (first_ledger (set views id w))
drive_step words words' views id v w l' z at r is word owned numbered keep new = subst (λ (x : Ledger). AcceptRules words' (set views id w) x) (sym (first-set views id v w z at ∙ is)) (record {
  word = word;
  owned = owned;
  numbered = numbered;
  suits = suits_set l' views id w (λ j u e. keep j u (r.suits j u e)) new;
})

-- the rule where the ledger stays, and views changed
pub same_ledger : (words words' : List ℕ) (views views' : List AcceptView) → words' ≡ words → first_ledger views' ≡ first_ledger views → AcceptRules words views (first_ledger views)
    → ((j : ℕ) (u : AcceptView) → get_elem? views' j ≡ some u → Suits (first_ledger views) j u) → AcceptRules words' views' (first_ledger views')
same_ledger words words' views views' same first r suits = subst (λ (x : Ledger). AcceptRules words' views' x) (sym first) (record {
  word = same ∙ r.word;
  owned = r.owned;
  numbered = r.numbered;
  suits = suits;
})

-- a view of one kind is that of its ledger and of what the session was told
pub driving_is : (me : AcceptSat) (l : Ledger) → me ≡ (Driving l, []) → me ≡ (Driving (ledger_of me.0), [])
driving_is me l e = e ∙ (λ k. (Driving (ledger_of (sym e k).0), []))

pub lent_is : (me : AcceptSat) (l : Ledger) (t : Told) → me ≡ (Lent l t, []) → me ≡ (Lent (ledger_of me.0) (told_of me.0), [])
lent_is me l t e = e ∙ (λ k. (Lent (ledger_of (sym e k).0) (told_of (sym e k).0), []))

pub attending_is : (me : AcceptSat) (t : Told) → me ≡ (Attending t, []) → me ≡ (Attending (told_of me.0), [])
attending_is me t e = e ∙ (λ k. (Attending (told_of (sym e k).0), []))

pub carried_is : (me : AcceptSat) (t : Told) → me ≡ (Carried t, []) → me ≡ (Carried (told_of me.0), [])
carried_is me t e = e ∙ (λ k. (Carried (told_of (sym e k).0), []))

pub new_is : (me : AcceptSat) (seat : ℕ) → me ≡ (Attending (new_session seat), []) → me ≡ (Attending (new_session (told_of me.0).seat), [])
new_is me seat e = e ∙ (λ k. (Attending (new_session (told_of (sym e k).0).seat), []))
