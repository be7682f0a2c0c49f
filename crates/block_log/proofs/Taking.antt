-- How many places an append, a drop, and two changes in turn take.
use Rattle.std.proofs.Common.{◌≡◌, inl, inr, ℕ, ◌+◌, leb, Bool, true, false, List, [], ◌∷◌, take, drop, Option, Some, None, IsSome, is_some, if◌then◌else◌, refl, sym, ap, ◌∙◌, subst, arith}
use Rattle.std.specs.List.{Contains}
use Rattle.std.proofs.lemmas.Bool.{cases_Bool, both_ways}
use Rattle.std.proofs.lemmas.List.{drop-drop}
use Rattle.std.proofs.lemmas.List.Elements.{Contains-append_left, Contains-append_right}
use Rattle.std.proofs.Math.Seq.{take-add}
use Rattle.s4_types.specs.Pointer.{Place}
use Rattle.lemmas.proofs.Option.{none_not_some}
use Rattle.block_log.specs.Log.{Log, Stored, same_place, with_held, named_with, is_data, dropped_by, without, appended, appended_at, dropped}
use Rattle.block_log.specs.Taken.{TakesPlaces}
use Rattle.block_log.proofs.Places.{one_place, inside, put, put_elsewhere}

is_none : {X : Type 0} (there : Option X) → is_some there ≡ false → there ≡ None
is_none None h = refl
is_none (Some x) h = absurd (both_ways (is_some (Some x)) h refl)

-- the first place of a list is among its first
first_is : (p : Place) (ahead : List Place) → Contains (take 1 (p ∷ ahead)) p
first_is p ahead = (0, omega arith, refl)

-- what is newly held after a block was put at a place is at that place
newly_put : (held : Place → Option Stored) (p : Place) (found : Option Stored) (q : Place) → held q ≡ None → IsSome (put held p found q) → p ≡ q
newly_put held p found q none some = elim (cases_Bool (same_place p q)) [
  | inl e ↦ one_place p q e
  | inr e ↦ absurd (none_not_some (put held p found q) (put_elsewhere held p found q e ∙ none) some)
]

takes_first : (log : Log) (block : Stored) (p : Place) (ahead : List Place) → log.ahead ≡ p ∷ ahead → TakesPlaces 1 log (record { held = with_held log.held p block; ahead = ahead; spent = 1 + log.spent; named = named_with block.kind log.named p })
unfolding put
takes_first log block p ahead h = record {
  ahead = sym (ap (drop 1) h);
  spent = refl;
  among = λ q none some. subst (λ places. Contains (take 1 places) q) (sym h) (subst (λ r. Contains (take 1 (p ∷ ahead)) r) (newly_put log.held p (Some block) q none some) (first_is p ahead));
}

takes_at : (log : Log) (block : Stored) (ahead : List Place) (p : Place) (after : Log) → log.ahead ≡ ahead → appended_at log block ahead ≡ Some (p, after) → TakesPlaces 1 log after
takes_at log block [] p after h e = absurd cc
takes_at log block (q ∷ ahead) p after h e =
    let same : (q, record { held = with_held log.held q block; ahead = ahead; spent = 1 + log.spent; named = named_with block.kind log.named q }) ≡ (p, after) = ap (λ o. inside o (p, after)) e in
    subst (λ (x : Place × Log). TakesPlaces 1 log x.1) same (takes_first log block q ahead h)

pub append_takes : (before after : Log) (block : Stored) (p : Place) → appended before block ≡ Some (p, after) → TakesPlaces 1 before after
append_takes before after block p e = takes_at before block before.ahead p after refl e

-- what is not held stays so when another place is let go
still_none : (held : Place → Option Stored) (p q : Place) → held q ≡ None → put held p None q ≡ None
unfolding put
still_none held p q none = elim (cases_Bool (same_place p q)) [
  | inl e ↦ ap (λ b. if b then None else held q) e
  | inr e ↦ put_elsewhere held p None q e ∙ none
]

-- what is not held stays so when a place is named once less
still_dropped : (b : Bool) (held : Place → Option Stored) (p q : Place) → held q ≡ None → (if b then without held p else held) q ≡ None
unfolding put
still_dropped true held p q none = still_none held p q none
still_dropped false held p q none = none

still_dropped_by : (b : Bool) (before : Log) (p q : Place) → before.held q ≡ None → (dropped_by b before p).held q ≡ None
unfolding put
still_dropped_by false before p q none = still_none before.held p q none
still_dropped_by true before p q none = still_dropped (leb (before.named p) 1) before.held p q none

drop_takes_by : (b : Bool) (before : Log) (p : Place) → TakesPlaces 0 before (dropped_by b before p)
drop_takes_by true before p = record {
  ahead = refl;
  spent = omega arith;
  among = λ q none some. absurd (none_not_some ((dropped_by true before p).held q) (still_dropped_by true before p q none) some);
}
drop_takes_by false before p = record {
  ahead = refl;
  spent = omega arith;
  among = λ q none some. absurd (none_not_some ((dropped_by false before p).held q) (still_dropped_by false before p q none) some);
}

pub drop_takes : (before : Log) (p : Place) → TakesPlaces 0 before (dropped before p)
drop_takes before p = drop_takes_by (is_data (before.held p)) before p

pub none_taken : (log : Log) → TakesPlaces 0 log log
none_taken log = record {
  ahead = refl;
  spent = omega arith;
  among = λ q none some. absurd (none_not_some (log.held q) none some);
}

-- what is held newly after both changes is held newly after the first or by the second
among_both : (n m : ℕ) (first second third : Log) → TakesPlaces n first second → TakesPlaces m second third
    → (p : Place) → first.held p ≡ None → IsSome (third.held p) → Contains (take (n + m) first.ahead) p
among_both n m first second third a b p none some =
    let parts = take-add n m first.ahead in
    subst (λ places. Contains places p) (sym parts) (elim (cases_Bool (is_some (second.held p))) [
      | inl there ↦ Contains-append_left (take n first.ahead) (take m (drop n first.ahead)) p (a.among p none there)
      | inr absent ↦ Contains-append_right (take n first.ahead) (take m (drop n first.ahead)) p
          (subst (λ places. Contains (take m places) p) a.ahead (b.among p (is_none (second.held p) absent) some))
    ])

pub adds_up : (n m : ℕ) (first second third : Log) → TakesPlaces n first second → TakesPlaces m second third → TakesPlaces (n + m) first third
adds_up n m first second third a b = record {
  ahead = b.ahead ∙ ap (drop m) a.ahead ∙ drop-drop m n first.ahead;
  spent = (let one = a.spent in let two = b.spent in omega arith);
  among = among_both n m first second third a b;
}

-- what is among the next places after a change is among those of both changes
pub among_later : (n m : ℕ) (first between : Log) (p : Place) → TakesPlaces n first between → Contains (take m between.ahead) p → Contains (take (n + m) first.ahead) p
among_later n m first between p takes at =
    subst (λ (places : List Place). Contains places p) (sym (take-add n m first.ahead))
    (Contains-append_right (take n first.ahead) (take m (drop n first.ahead)) p (subst (λ (places : List Place). Contains (take m places) p) takes.ahead at))
