-- What holds of one place and of another.
use Rattle.std.proofs.Common.{◌≡◌, inl, inr, ℕ, ◌+◌, Bool, true, false, ◌==◌, ◌&&◌, List, [], ◌∷◌, Option, Some, None, if◌then◌else◌, refl, sym, ap, ◌∙◌, subst}
use Rattle.std.proofs.lemmas.Bool.{eqb-true, eq-eqb, and_parts, and_from, cases_Bool}
use Rattle.s4_types.specs.Pointer.{Place}
use Rattle.block_log.specs.declared.kinds.BlockKind.{BlockKind}
use Rattle.block_log.specs.Log.{Log, Stored, same_place, same_kind, seen_as, with_held, named_with, is_data, dropped_by, without, appended, appended_at, dropped}
use Rattle.block_log.specs.Growth.{Puts, LetsGo}

pub place_from_parts : (p q : Place) → p.frame ≡ q.frame → p.block ≡ q.block → p.generation ≡ q.generation → p ≡ q
place_from_parts p q frame block generation =
    ap (λ n. record p { frame = n }) frame
    ∙ ap (λ n. record p { frame = q.frame; block = n }) block
    ∙ ap (λ n. record { frame = q.frame; block = q.block; generation = n }) generation

pub one_place : (p q : Place) → same_place p q ≡ true → p ≡ q
one_place p q h =
    let frame = and_parts (p.frame == q.frame) (p.block == q.block && p.generation == q.generation) h in
    let rest = and_parts (p.block == q.block) (p.generation == q.generation) frame.1 in
    place_from_parts p q (eqb-true p.frame q.frame frame.0) (eqb-true p.block q.block rest.0) (eqb-true p.generation q.generation rest.1)

pub same_place_itself : (p : Place) → same_place p p ≡ true
same_place_itself p =
    and_from (p.frame == p.frame) (p.block == p.block && p.generation == p.generation) (eq-eqb p.frame p.frame refl)
    (and_from (p.block == p.block) (p.generation == p.generation) (eq-eqb p.block p.block refl) (eq-eqb p.generation p.generation refl))

pub same_place_back : (p q : Place) → same_place p q ≡ true → same_place q p ≡ true
same_place_back p q h = subst (λ r. same_place r p ≡ true) (one_place p q h) (same_place_itself p)

pub same_place_turned : (p q : Place) → same_place p q ≡ same_place q p
same_place_turned p q = elim (cases_Bool (same_place p q)) [
  | inl is ↦ is ∙ sym (same_place_back p q is)
  | inr isnt ↦ elim (cases_Bool (same_place q p)) [
    | inl back ↦ same_place_back q p back ∙ sym back
    | inr neither ↦ isnt ∙ sym neither
  ]
]

-- an update at a place, seen at that place and elsewhere
unfoldable pub put : (Place → Option Stored) → Place → Option Stored → Place → Option Stored
put held p found = λ q. if same_place p q then found else held q

put_here : (held : Place → Option Stored) (p : Place) (found : Option Stored) → put held p found p ≡ found
unfolding put
put_here held p found = ap (λ b. if b then found else held p) (same_place_itself p)

pub put_elsewhere : (held : Place → Option Stored) (p : Place) (found : Option Stored) (q : Place) → same_place p q ≡ false → put held p found q ≡ held q
unfolding put
put_elsewhere held p found q h = ap (λ b. if b then found else held q) h

-- a block is no block of another kind or object
not_seen : (k : BlockKind) (o : ℕ) (block : Stored) → (same_kind k block.kind && block.object == o) ≡ false → seen_as k o (Some block) ≡ None
not_seen k o block h = ap (λ b. if b then Some block.bytes else None) h

-- what is put or taken at a place isn't seen as another kind or object, where neither it nor what was there is
put_unseen : (held : Place → Option Stored) (p : Place) (found : Option Stored) (k : BlockKind) (o : ℕ) (q : Place) → seen_as k o found ≡ None → seen_as k o (held p) ≡ None → seen_as k o (put held p found q) ≡ seen_as k o (held q)
put_unseen held p found k o q new old = elim (cases_Bool (same_place p q)) [
  | inl e ↦ (let here : p ≡ q = one_place p q e in
      subst (λ r. seen_as k o (put held p found r) ≡ seen_as k o (held r)) here (ap (seen_as k o) (put_here held p found) ∙ new ∙ sym old))
  | inr e ↦ ap (seen_as k o) (put_elsewhere held p found q e)
]

-- where the places ahead are known
puts_first : (log : Log) (block : Stored) (q : Place) (ahead : List Place) → log.ahead ≡ q ∷ ahead → log.held q ≡ None → Puts log block q (record { held = with_held log.held q block; ahead = ahead; spent = 1 + log.spent; named = named_with block.kind log.named q })
unfolding put
puts_first log block q ahead h fresh = record {
  ahead = h;
  spent = refl;
  fresh = fresh;
  named = refl;
  here = put_here log.held q (Some block);
  kept = λ r e. put_elsewhere log.held q (Some block) r e;
  others = λ k o r e. put_unseen log.held q (Some block) k o r (not_seen k o block e) (ap (seen_as k o) fresh);
}

-- what is in an option, or the other
abbrev pub inside : Option (Place × Log) → Place × Log → Place × Log
inside None other = other
inside (Some x) other = x

puts_at : (log : Log) (block : Stored) (ahead : List Place) (p : Place) (after : Log) → log.ahead ≡ ahead → appended_at log block ahead ≡ Some (p, after) → log.held p ≡ None → Puts log block p after
puts_at log block [] p after h e fresh = absurd cc
puts_at log block (q ∷ ahead) p after h e fresh =
    let same : (q, record { held = with_held log.held q block; ahead = ahead; spent = 1 + log.spent; named = named_with block.kind log.named q }) ≡ (p, after) = ap (λ o. inside o (p, after)) e in
    subst (λ (x : Place × Log). log.held x.0 ≡ None → Puts log block x.0 x.1) same (λ f. puts_first log block q ahead h f) fresh

pub puts : (before after : Log) (block : Stored) (p : Place) → appended before block ≡ Some (p, after) → before.held p ≡ None → Puts before block p after
puts before after block p e fresh = puts_at before block before.ahead p after refl e fresh

pub takes : (before : Log) (block : Stored) (p : Place) → before.held p ≡ Some block → is_data (Some block) ≡ false → LetsGo before block p (dropped before p)
unfolding put
takes before block p h other =
    let is : record before { held = without before.held p } ≡ dropped before p = sym (ap (λ (b : Bool). dropped_by b before p) (ap is_data h ∙ other)) in
    subst (LetsGo before block p) is (record {
      ahead = refl;
      spent = refl;
      named = refl;
      here = put_here before.held p None;
      kept = λ q e. put_elsewhere before.held p None q e;
      others = λ k o q e. put_unseen before.held p None k o q refl (ap (seen_as k o) h ∙ not_seen k o block e);
    })
