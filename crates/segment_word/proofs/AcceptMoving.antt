-- What a session was told goes from one seat to another: the rule is kept where a view is cut in two, and where two are joined.
use Rattle.std.proofs.Common.{◌≡◌, ℕ, List, [], ◌∷◌, ◌++◌, set, refl, sym, ◌∙◌, subst}
use mathlib.Core.Option.{some}
use lib.ListN.{get_elem?}
use Rattle.atomic_table.specs.Table.{Splits, Joins}
use Rattle.atomic_table.proofs.Lists.{set_else}
use Rattle.segment_word.specs.AcceptViews.{Ledger, AcceptView, Told, Driving, Lent, Attending, Beside, Carried, Spent, begun, blank_base, ledger_of, told_of}
use Rattle.segment_word.specs.AcceptRule.{FitsLedger, ShareNone, Suits, AcceptRule, first_ledger}
use Rattle.segment_word.specs.AcceptSteps.{AcceptSat, unlent, copied, joined_accepts, absorbed, IsFor}
use Rattle.segment_word.proofs.AcceptFits.{fits_told, told_apart}
use Rattle.segment_word.proofs.AcceptViews.{first-kept, first-added, suits_set, suits_added, same_ledger}

ledger-unlent : (v : AcceptView) → ledger_of (unlent v) ≡ ledger_of v
ledger-unlent (Driving l) = refl
ledger-unlent (Lent l t) = refl
ledger-unlent (Attending t) = refl
ledger-unlent (Beside t u) = refl
ledger-unlent (Carried t) = refl
ledger-unlent Spent = refl

suits_unlent : (l : Ledger) (id : ℕ) (v : AcceptView) → Suits l id v → Suits l id (unlent v)
suits_unlent l id (Driving m) s = tt
suits_unlent l id (Lent m t) s = tt
suits_unlent l id (Attending t) s = s
suits_unlent l id (Beside t u) s = s
suits_unlent l id (Carried t) s = s
suits_unlent l id Spent s = tt

ledger-joined_accepts : (v w : AcceptView) → ledger_of (joined_accepts v w) ≡ ledger_of v
ledger-joined_accepts (Driving l) w = refl
ledger-joined_accepts (Lent l t) w = refl
ledger-joined_accepts (Attending t) w = refl
ledger-joined_accepts (Beside t u) w = refl
ledger-joined_accepts (Carried t) w = refl
ledger-joined_accepts Spent w = refl

suits_joined : (l : Ledger) (id : ℕ) (v w : AcceptView) → Suits l id v → FitsLedger l (told_of w) → IsFor (told_of w) v → Suits l id (joined_accepts v w)
suits_joined l id (Driving m) w s f its = f
suits_joined l id (Lent m t) w s f its = s
suits_joined l id (Attending t) w s f its = (its ∙ s.0, f)
suits_joined l id (Beside t u) w s f its = s
suits_joined l id (Carried t) w s f its = s
suits_joined l id Spent w s f its = tt

pub splits : (id : ℕ) (v : AcceptView) → Splits {S = Unit {0}} AcceptRule id v (unlent v) (copied v)
splits id v s r at =
    let left : List AcceptView = set s.views id (unlent v) in
    let l : Ledger = first_ledger s.views in
    same_ledger s.words s.words s.views (left ++ copied v ∷ []) refl (first-added left (copied v) refl ∙ first-kept s.views id v (unlent v) at (ledger-unlent v)) r
    (suits_added l left (copied v) (suits_set l s.views id (unlent v) r.suits (suits_unlent l id v (r.suits id v at))) (fits_told l id v (r.suits id v at)))

pub joins : (id : ℕ) (v : AcceptView) (other : ℕ) (w : AcceptView) → ledger_of w ≡ begun blank_base → IsFor (told_of w) v → Joins {S = Unit {0}} AcceptRule id v other w (joined_accepts v w) Spent
joins id v other w bare its s r at apart there =
    let both : List AcceptView = set s.views id (joined_accepts v w) in
    let l : Ledger = first_ledger s.views in
    let was : get_elem? s.views other ≡ some w = sym (set_else s.views id other (joined_accepts v w) apart) ∙ there in
    let fits : FitsLedger l (told_of w) = fits_told l other w (r.suits other w was) in
    same_ledger s.words s.words s.views (set both other Spent) refl (first-kept both other w Spent there (sym bare) ∙ first-kept s.views id v (joined_accepts v w) at (ledger-joined_accepts v w)) r
    (suits_set l both other Spent (suits_set l s.views id (joined_accepts v w) r.suits (suits_joined l id v w (r.suits id v at) fits its)) tt)

-- a session's seat takes in another's: the two are different seats, so they share no number
absorbs_told : (id : ℕ) (t : Told) (other : ℕ) (u : Told) → Joins {S = Unit {0}} AcceptRule id (Attending t) other (Attending u) (Beside t u) Spent
absorbs_told id t other u s r at apart there =
    let both : List AcceptView = set s.views id (Beside t u) in
    let l : Ledger = first_ledger s.views in
    let was : get_elem? s.views other ≡ some (Attending u) = sym (set_else s.views id other (Beside t u) apart) ∙ there in
    let mine : Suits l id (Attending t) = r.suits id (Attending t) at in
    let its : Suits l other (Attending u) = r.suits other (Attending u) was in
    let none : ShareNone t u = told_apart l t u (λ e. apart (sym its.0 ∙ sym e ∙ mine.0)) mine.1 its.1 in
    same_ledger s.words s.words s.views (set both other Spent) refl (first-kept both other (Attending u) Spent there refl ∙ first-kept s.views id (Attending t) (Beside t u) at refl) r
    (suits_set l both other Spent (suits_set l s.views id (Beside t u) r.suits (mine.0, mine.1, none)) tt)

pub absorbs : (id : ℕ) (me : AcceptSat) (other : ℕ) (its : AcceptSat) → me ≡ (Attending (told_of me.0), []) → its ≡ (Attending (told_of its.0), []) → Joins {S = Unit {0}} AcceptRule id me.0 other its.0 (absorbed me.0 its.0) Spent
absorbs id me other its is are =
    subst (λ (x : AcceptSat). Joins {S = Unit {0}} AcceptRule id x.0 other its.0 (absorbed x.0 its.0) Spent) (sym is)
    (subst (λ (x : AcceptSat). Joins {S = Unit {0}} AcceptRule id (Attending (told_of me.0)) other x.0 (Beside (told_of me.0) (told_of x.0)) Spent) (sym are) (absorbs_told id (told_of me.0) other (told_of its.0)))
