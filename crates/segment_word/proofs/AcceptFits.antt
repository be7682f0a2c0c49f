-- What a session was told stays true as the history grows, and is true of what it is told next.
use Rattle.std.proofs.Common.{◌≡◌, ℕ, ◌-◌, List, [], ◌∷◌, length, refl, sym, ◌∙◌, subst, arith}
use mathlib.Core.Option.{some, some-injective}
use mathlib.Core.List.{IsPrefix}
use lib.ListN.{get_elem?}
use Rattle.atomic_table.proofs.Lists.{at_longer, at_last}
use Rattle.s4_types.specs.declared.changes.Change.{Change}
use Rattle.s4_types.specs.History.{accepted}
use Rattle.lemmas.proofs.List.{prefix_trans}
use Rattle.segment_word.specs.AcceptViews.{Told, Ledger, AcceptView, Driving, Lent, Attending, Beside, Carried, Spent, new_session, told_of, with_change, count_of, caught_up, credited}
use Rattle.segment_word.specs.AcceptRule.{FitsLedger, Suits, first_ledger}
use Rattle.segment_word.specs.AcceptHandles.{SessionsShareNone, ToldShareNone}
use Rattle.segment_word.proofs.AcceptLists.{prefix_all, prefix_length, count-change, own_more, own_one_more, own_at}

pub fits_new : (l : Ledger) (seat : ℕ) → FitsLedger l (new_session seat)
fits_new l seat = record { seen = (accepted l.history, refl); mine = omega arith }

pub fits_more : (l l' : Ledger) (t : Told) → IsPrefix (accepted l.history) (accepted l'.history) → IsPrefix l.owners l'.owners → FitsLedger l t → FitsLedger l' t
fits_more l l' t changes owners f = record {
  seen = prefix_trans t.seen (accepted l.history) (accepted l'.history) f.seen changes;
  mine = own_more l.owners l'.owners t.seat 0 (length t.seen) (length t.seen) t.mine (λ i x e. subst (λ (o : List ℕ). get_elem? o i ≡ some x) owners.1 (at_longer l.owners owners.0 i x e)) (omega arith) f.mine;
}

pub fits_caught_up : (l : Ledger) (t : Told) → FitsLedger l t → FitsLedger l (caught_up l t)
fits_caught_up l t f = record {
  seen = prefix_all (accepted l.history);
  mine = own_more l.owners l.owners t.seat 0 (length t.seen) (count_of l) t.mine (λ i x e. e) (prefix_length t.seen (accepted l.history) f.seen) f.mine;
}

pub fits_credited : (l : Ledger) (t : Told) (m : ℕ) (c : Change) → length l.owners ≡ count_of l → FitsLedger l t → FitsLedger (with_change l t.seat m c) (credited (with_change l t.seat m c) t)
fits_credited l t m c owned f =
    let l' : Ledger = with_change l t.seat m c in
    let count = count-change l t.seat m c in
    let short = prefix_length t.seen (accepted l.history) f.seen in
    record {
      seen = prefix_all (accepted l'.history);
      mine = own_one_more l'.owners t.seat 0 (length t.seen) (count_of l') t.mine (omega arith) (at_last l.owners t.seat (count_of l' - 1) (omega arith))
          (own_more l.owners l'.owners t.seat 0 (length t.seen) (length t.seen) t.mine (λ i x e. at_longer l.owners (t.seat ∷ []) i x e) (omega arith) f.mine);
    }

pub suits_more : (l l' : Ledger) → IsPrefix (accepted l.history) (accepted l'.history) → IsPrefix l.owners l'.owners → (id : ℕ) (v : AcceptView) → Suits l id v → Suits l' id v
suits_more l l' changes owners id (Driving m) s = tt
suits_more l l' changes owners id (Lent m t) s = fits_more l l' t changes owners s
suits_more l l' changes owners id (Attending t) s = (s.0, fits_more l l' t changes owners s.1)
suits_more l l' changes owners id (Beside t u) s = (s.0, fits_more l l' t changes owners s.1, s.2)
suits_more l l' changes owners id (Carried t) s = fits_more l l' t changes owners s
suits_more l l' changes owners id Spent s = tt

-- what any seat has of a session is true
pub fits_told : (l : Ledger) (id : ℕ) (v : AcceptView) → Suits l id v → FitsLedger l (told_of v)
fits_told l id (Driving m) s = fits_new l 0
fits_told l id (Lent m t) s = s
fits_told l id (Attending t) s = s.1
fits_told l id (Beside t u) s = s.1
fits_told l id (Carried t) s = s
fits_told l id Spent s = fits_new l 0

pub told_apart : ToldShareNone
told_apart l a b apart fa fb n na nb = apart (some-injective a.seat b.seat (sym (own_at l.owners a.seat 0 (length a.seen) n a.mine fa.mine na) ∙ own_at l.owners b.seat 0 (length b.seen) n b.mine fb.mine nb))

pub sessions_apart : SessionsShareNone
sessions_apart s rule i j a b apart ai bj =
    let fa = rule.suits i (Attending a) ai in
    let fb = rule.suits j (Attending b) bj in
    told_apart (first_ledger s.views) a b (λ e. apart (sym fa.0 ∙ e ∙ fb.0)) fa.1 fb.1
