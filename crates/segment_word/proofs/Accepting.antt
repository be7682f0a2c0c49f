-- Each step on the accept word keeps the rule, and tells what it says.
use Rattle.std.proofs.Common.{◌≡◌, ℕ, ◌+◌, ◌%◌, ◌^◌, ◌<◌, List, [], ◌∷◌, ◌++◌, set, length, slice_index, refl, sym, ap, ◌∙◌, subst, arith, mod-eq_of_lt, append-nil, length-append, zero, suc}
use mathlib.Core.Option.{none, some, some-injective, some-ne-none}
use mathlib.Core.List.{IsPrefix}
use lib.ListN.{get_elem?}
use lib.Seq.{set-get_or}
use Rattle.atomic_table.specs.Table.{step, keeps, opening, Allows, Enters}
use Rattle.atomic_table.proofs.Lists.{set_again}
use Rattle.s4_types.specs.declared.changes.Change.{Change}
use Rattle.s4_types.specs.History.{Base, accepted}
use Rattle.lemmas.proofs.List.{prefix_trans}
use Rattle.segment_word.specs.AcceptViews.{Told, Ledger, AcceptView, Driving, Lent, Attending, Beside, begun, blank_base, new_session, ledger_of, told_of, with_moment, with_change, next_change, count_of, caught_up, credited}
use Rattle.segment_word.specs.AcceptRule.{FitsLedger, Suits, AreNumbered, AcceptRules, AcceptRule, first_ledger}
use Rattle.segment_word.specs.AcceptSteps.{AcceptSat, TakesChange, Learns, Notes, CountsChanges, Begins, Comes, Sheds}
use Rattle.segment_word.proofs.AcceptLists.{prefix_all, after_moment, after_change, count-change, numbered_one_more}
use Rattle.segment_word.proofs.AcceptFits.{fits_new, fits_caught_up, fits_credited, suits_more}
use Rattle.segment_word.proofs.AcceptViews.{first-at, first-kept, first-added, suits_set, suits_added, drive_step, same_ledger}

only : (id : ℕ) (v : AcceptView) → get_elem? (Driving (begun blank_base) ∷ []) id ≡ some v → Suits (begun blank_base) id v
only zero v e = subst (λ (x : AcceptView). Suits (begun blank_base) 0 x) (some-injective (Driving (begun blank_base)) v e) tt
only (suc id) v e = absurd (some-ne-none v (sym e))

pub opens : AcceptRule (opening {S = Unit {0}} (0 ∷ []) [] (Driving (begun blank_base)))
opens = record { word = refl; owned = refl; numbered = tt; suits = only }

pub takes : (slots id m : ℕ) (c : Change) (l : Ledger) (t : Told) → id ≡ 0 → count_of l + 1 < 2 ^ 64
    → Allows AcceptRule slots id (Lent l t, []) 0 (λ n. (n + 1) % 2 ^ 64) (TakesChange m c (step slots 0 1 0 none) (Lent l t, []))
takes slots id m c l t z room s rule _ at small =
    let r : AcceptRules s.words s.views l = subst (λ (x : Ledger). AcceptRules s.words s.views x) (first-at s.views id (Lent l t) z at) rule in
    let l' : Ledger = with_change l t.seat m c in
    let more : IsPrefix (accepted l.history) (accepted l'.history) = (next_change l m c ∷ [], sym (after_change l t.seat m c)) in
    let before : FitsLedger l t = r.suits id (Lent l t) at in
    let after : FitsLedger l' (credited l' t) = fits_credited l t m c r.owned before in
    let count : count_of l' ≡ count_of l + 1 = count-change l t.seat m c in
    let word : set s.words 0 ((slice_index s.words 0 + 1) % 2 ^ 64) ≡ count_of l' ∷ [] =
    ap (λ (ws : List ℕ). set ws 0 ((slice_index ws 0 + 1) % 2 ^ 64)) r.word ∙ ap (λ (n : ℕ). n ∷ []) (mod-eq_of_lt room ∙ sym count) in
    let owned : length l'.owners ≡ count_of l' = length-append l.owners (t.seat ∷ []) ∙ (let o = r.owned in omega arith) in
    let numbered : AreNumbered 0 (accepted l'.history) = subst (AreNumbered 0) (sym (after_change l t.seat m c)) (numbered_one_more 0 (accepted l.history) (next_change l m c) r.numbered (omega arith)) in (
      Lent l' (credited l' t),
      keeps,
      tt,
      drive_step s.words (set s.words 0 ((slice_index s.words 0 + 1) % 2 ^ 64)) s.views id (Lent l t) (Lent l' (credited l' t)) l' z at r refl word owned numbered
          (suits_more l l' more (t.seat ∷ [], refl)) after,
      record { view = refl; count = ap (λ (ws : List ℕ). slice_index ws 0) r.word; tells = record { grows = prefix_trans t.seen (accepted l.history) (accepted l'.history) before.seen more; before = before; after = after } },
    )

pub learns : (slots id : ℕ) (l : Ledger) (t : Told) → id ≡ 0 → Allows AcceptRule slots id (Lent l t, []) 0 (λ n. n) (Learns (step slots 0 0 0 none) (Lent l t, []))
learns slots id l t z s rule _ at small =
    let r : AcceptRules s.words s.views l = subst (λ (x : Ledger). AcceptRules s.words s.views x) (first-at s.views id (Lent l t) z at) rule in
    let before : FitsLedger l t = r.suits id (Lent l t) at in
    let after : FitsLedger l (caught_up l t) = fits_caught_up l t before in (
      Lent l (caught_up l t),
      keeps,
      tt,
      drive_step s.words (set s.words 0 (slice_index s.words 0)) s.views id (Lent l t) (Lent l (caught_up l t)) l z at r refl (set-get_or s.words 0 0 ∙ r.word) r.owned r.numbered (λ j u e. e) after,
      record { view = refl; count = ap (λ (ws : List ℕ). slice_index ws 0) r.word; tells = record { grows = before.seen; before = before; after = after } },
    )

pub notes : (slots id m : ℕ) (l : Ledger) → id ≡ 0 → Allows AcceptRule slots id (Driving l, []) 0 (λ n. n) (Notes m (step slots 0 0 0 none) (Driving l, []))
notes slots id m l z s rule _ at small =
    let r : AcceptRules s.words s.views l = subst (λ (x : Ledger). AcceptRules s.words s.views x) (first-at s.views id (Driving l) z at) rule in
    let l' : Ledger = with_moment l m in
    let same : accepted l'.history ≡ accepted l.history = after_moment l m in
    let count : count_of l' ≡ count_of l = ap length same in
    let changes : IsPrefix (accepted l.history) (accepted l'.history) = ([], append-nil (accepted l.history) ∙ sym same) in (
      Driving l',
      keeps,
      tt,
      drive_step s.words (set s.words 0 (slice_index s.words 0)) s.views id (Driving l) (Driving l') l' z at r refl
          (set-get_or s.words 0 0 ∙ r.word ∙ ap (λ (n : ℕ). n ∷ []) (sym count)) (r.owned ∙ sym count) (subst (AreNumbered 0) (sym same) r.numbered)
          (suits_more l l' changes (prefix_all l.owners)) tt,
      refl,
    )

pub begins : (slots id : ℕ) (base : Base) → id ≡ 0 → Allows AcceptRule slots id (Driving (begun blank_base), []) 0 (λ n. n) (Begins base (step slots 0 0 0 none) (Driving (begun blank_base), []))
begins slots id base z s rule _ at small =
    let l : Ledger = begun blank_base in
    let r : AcceptRules s.words s.views l = subst (λ (x : Ledger). AcceptRules s.words s.views x) (first-at s.views id (Driving l) z at) rule in (
      Driving (begun base),
      keeps,
      tt,
      drive_step s.words (set s.words 0 (slice_index s.words 0)) s.views id (Driving l) (Driving (begun base)) (begun base) z at r refl (set-get_or s.words 0 0 ∙ r.word) refl tt
          (suits_more l (begun base) ([], refl) ([], refl)) tt,
      refl,
    )

pub counts : (slots id : ℕ) (me : AcceptSat) → id ≡ 0 → Allows AcceptRule slots id me 0 (λ n. n) (CountsChanges (step slots 0 0 0 none) me)
counts slots id me z s rule _ at small =
    let first = first-at s.views id me.0 z at in (
      me.0,
      keeps,
      tt,
      subst (λ (p : List ℕ × List AcceptView). AcceptRules p.0 p.1 (first_ledger p.1)) (λ k. (sym (set-get_or s.words 0 0) k, sym (set_again s.views id me.0 at) k)) rule,
      record {
        view = refl;
        count = ap (λ (ws : List ℕ). slice_index ws 0) rule.word ∙ ap count_of first;
        owned = subst (λ (l : Ledger). length l.owners ≡ count_of l) first rule.owned;
        numbered = subst (λ (l : Ledger). AreNumbered 0 (accepted l.history)) first rule.numbered;
      },
    )

pub comes : (slots : ℕ) (v : AcceptView) → Enters AcceptRule slots 0 (λ n w. Comes (step slots 0 0 0 none) (v, []) n (w, []))
comes slots v s rule _ small =
    let w : AcceptView = Attending (new_session (length s.views)) in (
      w,
      same_ledger s.words s.words s.views (s.views ++ w ∷ []) refl (first-added s.views w refl) rule
          (suits_added (first_ledger s.views) s.views w rule.suits (refl, fits_new (first_ledger s.views) (length s.views))),
      (length s.views, refl),
    )

pub sheds : (slots id : ℕ) (t u : Told) → Allows AcceptRule slots id (Beside t u, []) 0 (λ n. n) (Sheds (step slots 0 0 0 none) (Beside t u, []))
sheds slots id t u s rule _ at small =
    let l : Ledger = first_ledger s.views in
    let mine : Suits l id (Beside t u) = rule.suits id (Beside t u) at in (
      Attending t,
      keeps,
      tt,
      same_ledger s.words (set s.words 0 (slice_index s.words 0)) s.views (set s.views id (Attending t)) (set-get_or s.words 0 0) (first-kept s.views id (Beside t u) (Attending t) at refl) rule
          (suits_set l s.views id (Attending t) rule.suits (mine.0, mine.1)),
      record { view = refl; none = mine.2 },
    )

-- the same steps, at a view that is known to be of its kind
pub takes_of : (slots id m : ℕ) (c : Change) (me : AcceptSat) → id ≡ 0 → me ≡ (Lent (ledger_of me.0) (told_of me.0), []) → count_of (ledger_of me.0) + 1 < 2 ^ 64
    → Allows AcceptRule slots id me 0 (λ n. (n + 1) % 2 ^ 64) (TakesChange m c (step slots 0 1 0 none) me)
takes_of slots id m c me z is room = subst (λ (x : AcceptSat). Allows AcceptRule slots id x 0 (λ n. (n + 1) % 2 ^ 64) (TakesChange m c (step slots 0 1 0 none) x)) (sym is) (takes slots id m c (ledger_of me.0) (told_of me.0) z room)

pub learns_of : (slots id : ℕ) (me : AcceptSat) → id ≡ 0 → me ≡ (Lent (ledger_of me.0) (told_of me.0), []) → Allows AcceptRule slots id me 0 (λ n. n) (Learns (step slots 0 0 0 none) me)
learns_of slots id me z is = subst (λ (x : AcceptSat). Allows AcceptRule slots id x 0 (λ n. n) (Learns (step slots 0 0 0 none) x)) (sym is) (learns slots id (ledger_of me.0) (told_of me.0) z)

pub notes_of : (slots id m : ℕ) (me : AcceptSat) → id ≡ 0 → me ≡ (Driving (ledger_of me.0), []) → Allows AcceptRule slots id me 0 (λ n. n) (Notes m (step slots 0 0 0 none) me)
notes_of slots id m me z is = subst (λ (x : AcceptSat). Allows AcceptRule slots id x 0 (λ n. n) (Notes m (step slots 0 0 0 none) x)) (sym is) (notes slots id m (ledger_of me.0) z)

pub begins_of : (slots id : ℕ) (base : Base) (me : AcceptSat) → id ≡ 0 → me ≡ (Driving (begun blank_base), []) → Allows AcceptRule slots id me 0 (λ n. n) (Begins base (step slots 0 0 0 none) me)
begins_of slots id base me z is = subst (λ (x : AcceptSat). Allows AcceptRule slots id x 0 (λ n. n) (Begins base (step slots 0 0 0 none) x)) (sym is) (begins slots id base z)

pub sheds_of : (slots id : ℕ) (me : AcceptSat) (t u : Told) → me ≡ (Beside t u, []) → Allows AcceptRule slots id me 0 (λ n. n) (Sheds (step slots 0 0 0 none) me)
sheds_of slots id me t u is = subst (λ (x : AcceptSat). Allows AcceptRule slots id x 0 (λ n. n) (Sheds (step slots 0 0 0 none) x)) (sym is) (sheds slots id t u)
