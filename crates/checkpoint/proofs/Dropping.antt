-- The blocks of a checkpoint are dropped one after the other.
use Rattle.std.proofs.Common.{◌≡◌, inl, inr, ℕ, ◌==◌, ◌&&◌, Bool, true, false, cond, List, [], ◌∷◌, ◌++◌, Option, Some, None, is_some, IfSome, refl, sym, ap, subst, ◌∙◌}
use Rattle.std.specs.Option.{option_to_list}
use Rattle.std.proofs.lemmas.Bool.{cases_Bool, false≢true}
use Rattle.s4_types.specs.Pointer.{Place}
use Rattle.block_log.specs.Growth.{LetsGo}
use Rattle.block_log.specs.Log.{Log, Stored, seen_as, same_kind, same_place, is_data, without, dropped, dropped_by}
use Rattle.codec.specs.Fields.{Reads}
use Rattle.codec.specs.declared.first_blocks.FirstBlock.{FirstBlock}
use Rattle.checkpoint.specs.Held.{seen_of, of_checkpoints, is_one_of, places_in, part_place, first_in, HasBytes, HasItsBlocks, DropsCheckpoint}
use Rattle.checkpoint.specs.private.Steps.{DropsPlaces, HasNoOther}
use Rattle.checkpoint.proofs.OwnBlocks.{IsOwn, seen_own, own_no_data, kinds_beside, has_some}
use Rattle.checkpoint.proofs.Places.{OneName, tested, in_either, in_neither, all_places, in_one, in_two, in_three, in_last}

-- dropping a held block that is not of data takes it alone
abbrev pub DropTakes : Type 0
DropTakes = (before : Log) (block : Stored) (p : Place) → before.held p ≡ Some block → is_data (Some block) ≡ false → LetsGo before block p (dropped before p)

-- one place is dropped
pub record Drops (before : Log) (o : ℕ) (places : List Place) (after : Log) : Type 0 where
  pub held : DropsPlaces before.held o places after.held
  pub named : after.named ≡ before.named

own_dropped : OneName → DropTakes → (before : Log) (o : ℕ) (p : Place) → IsOwn o (before.held p) → Drops before o (p ∷ []) (dropped before p)
own_dropped one law before o p own =
    let gone : LetsGo before own.block p (dropped before p) = law before own.block p own.is (own_no_data o (before.held p) own) in
    record {
      held = record {
        gone = λ q is. sym (ap (dropped before p).held (one p q (tested p q true is))) ∙ gone.here;
        kept = λ q is. gone.kept q (tested p q false is);
        others = λ k other beside i q. gone.others k other q
            (ap (λ (n : ℕ). same_kind k own.block.kind && n == other) own.object ∙ kinds_beside k own.block.kind (o == other) own.kind beside) i;
      };
      named = gone.named;
    }

same_without : (held : Place → Option Stored) (p q : Place) → OneName → held p ≡ None → without held p q ≡ held q
same_without held p q one none = elim (cases_Bool (same_place p q)) [
  | inl here ↦ ap (λ b. cond b None (held q)) here ∙ sym none ∙ ap held (one p q here)
  | inr beside ↦ ap (λ b. cond b None (held q)) beside
]

none_dropped : OneName → (before : Log) (o : ℕ) (p : Place) → before.held p ≡ None → Drops before o (p ∷ []) (dropped before p)
none_dropped one before o p none =
    let as_was : dropped before p ≡ record before { held = without before.held p } = ap (λ (x : Option Stored). dropped_by (is_data x) before p) none in
    let made : Drops before o (p ∷ []) (record before { held = without before.held p }) = record {
      held = record {
        gone = λ q is. ap (λ b. cond b None (before.held q)) (tested p q true is);
        kept = λ q is. same_without before.held p q one none;
        others = λ k other beside i q. seen_as k other (same_without before.held p q one none i);
      };
      named = refl;
    } in
    subst (Drops before o (p ∷ [])) (sym as_was) made

pub place_dropped : OneName → DropTakes → (before after : Log) (o : ℕ) (p : Place) → after ≡ dropped before p → HasNoOther before.held o p → Drops before o (p ∷ []) after
place_dropped one law before after o p is has = subst (Drops before o (p ∷ [])) (sym is) (elim has [
  | inl seen ↦ own_dropped one law before o p (seen_own o (before.held p) seen)
  | inr none ↦ none_dropped one before o p none
])

pub option_dropped : OneName → DropTakes → (before after : Log) (o : ℕ) (place : Option Place) (p : Place) → place ≡ Some p → after ≡ dropped before p → IfSome place (HasNoOther before.held o) → Drops before o (option_to_list place) after
option_dropped one law before after o place p at is has =
    subst (λ (x : Option Place). Drops before o (option_to_list x) after) (sym at) (place_dropped one law before after o p is (subst (λ (x : Option Place). IfSome x (HasNoOther before.held o)) at has))

pub nothing_dropped : (before : Log) (o : ℕ) (place : Option Place) → place ≡ None → Drops before o (option_to_list place) before
nothing_dropped before o place is = subst (λ (x : Option Place). Drops before o (option_to_list x) before) (sym is) (record {
  held = record { gone = λ q here. absurd (false≢true here); kept = λ q beside. refl; others = λ k other beside. refl };
  named = refl;
})

-- ---- several places

pub drops_more : (before between after : Place → Option Stored) (o : ℕ) (ps qs : List Place) → DropsPlaces before o ps between → DropsPlaces between o qs after → DropsPlaces before o (ps ++ qs) after
drops_more before between after o ps qs first second = record {
  gone = λ q is. elim (cases_Bool (is_one_of qs q)) [
    | inl last ↦ second.gone q last
    | inr beside ↦ (elim (in_either ps qs q is) [
      | inl early ↦ second.kept q beside ∙ first.gone q early
      | inr late ↦ absurd (false≢true (sym beside ∙ late))
    ])
  ];
  kept = λ q is. let no = in_neither ps qs q is in second.kept q no.1 ∙ first.kept q no.0;
  others = λ k other beside. second.others k other beside ∙ first.others k other beside;
}

-- a place of a checkpoint is dropped, or as it was
pub still_own : (before after : Place → Option Stored) (o : ℕ) (places : List Place) (q : Place) → DropsPlaces before o places after → HasNoOther before o q → HasNoOther after o q
still_own before after o places q drops has = elim (cases_Bool (is_one_of places q)) [
  | inl here ↦ inr (drops.gone q here)
  | inr beside ↦ (let as_was = drops.kept q beside in elim has [
    | inl seen ↦ inl (ap (λ (x : Option Stored). is_some (seen_of o x)) as_was ∙ seen)
    | inr none ↦ inr (as_was ∙ none)
  ])
]

pub option_still : (before after : Place → Option Stored) (o : ℕ) (places : List Place) (place : Option Place) → DropsPlaces before o places after → IfSome place (HasNoOther before o) → IfSome place (HasNoOther after o)
option_still before after o places None drops has = tt
option_still before after o places (Some q) drops has = still_own before after o places q drops has

-- ---- the places of a checkpoint

part_own : (held : Place → Option Stored) (o : ℕ) (p : Place) (place : Option Place) → HasItsBlocks held o (Some p) → ((q : Place) → place ≡ Some q → is_one_of (places_in (of_checkpoints o held) p) q ≡ true) → IfSome place (HasNoOther held o)
part_own held o p None has there = tt
part_own held o p (Some q) has there = inl (has_some (of_checkpoints o held q) (has q (there q refl)))

-- what is at the places of a checkpoint
pub record Owns (held : Place → Option Stored) (o : ℕ) (p : Place) : Type 0 where
  pub one : IfSome (part_place (first_in (of_checkpoints o held) p) 0) (HasNoOther held o)
  pub two : IfSome (part_place (first_in (of_checkpoints o held) p) 1) (HasNoOther held o)
  pub three : IfSome (part_place (first_in (of_checkpoints o held) p) 2) (HasNoOther held o)
  pub last : HasNoOther held o p
  pub seen : HasBytes (of_checkpoints o held p)

pub owns : (held : Place → Option Stored) (o : ℕ) (p : Place) → HasItsBlocks held o (Some p) → Owns held o p
unfolding places_in
owns held o p has =
    let f = first_in (of_checkpoints o held) p in
    let a = part_place f 0 in
    let b = part_place f 1 in
    let d = part_place f 2 in
    let own = has p (in_last a b d p) in
    record {
      one = part_own held o p a has (λ q e. in_one a b d p q e);
      two = part_own held o p b has (λ q e. in_two a b d p q e);
      three = part_own held o p d has (λ q e. in_three a b d p q e);
      last = inl (has_some (of_checkpoints o held p) own);
      seen = own;
    }

-- its places, by its first block that was read
pub record Ready (log : Log) (o : ℕ) (p : Place) (first : Option FirstBlock) : Type 0 where
  pub is : first_in (of_checkpoints o log.held) p ≡ first
  pub one : IfSome (part_place first 0) (HasNoOther log.held o)
  pub two : IfSome (part_place first 1) (HasNoOther log.held o)
  pub three : IfSome (part_place first 2) (HasNoOther log.held o)
  pub last : HasNoOther log.held o p

pub reads_is : (r read : Option FirstBlock) → Reads (λ f. f) r read → read ≡ r
reads_is None read is = is
reads_is (Some f) read is = is

ready_at : (log : Log) (o : ℕ) (p : Place) (r read : Option FirstBlock) → read ≡ r → first_in (of_checkpoints o log.held) p ≡ read → Owns log.held o p → Ready log o p r
ready_at log o p r read is at own =
    let same : first_in (of_checkpoints o log.held) p ≡ r = at ∙ is in
    record {
      is = same;
      one = subst (λ (f : Option FirstBlock). IfSome (part_place f 0) (HasNoOther log.held o)) same own.one;
      two = subst (λ (f : Option FirstBlock). IfSome (part_place f 1) (HasNoOther log.held o)) same own.two;
      three = subst (λ (f : Option FirstBlock). IfSome (part_place f 2) (HasNoOther log.held o)) same own.three;
      last = own.last;
    }

pub ready : (before log : Log) (o : ℕ) (p : Place) (r : Option FirstBlock) → log ≡ before → HasItsBlocks before.held o (Some p) → Reads (λ f. f) r (first_in (of_checkpoints o before.held) p) → Ready log o p r
ready before log o p r same has reads =
    let at : Ready before o p r = ready_at before o p r (first_in (of_checkpoints o before.held) p) (reads_is r (first_in (of_checkpoints o before.held) p) reads) refl (owns before.held o p has) in
    subst (λ (l : Log). Ready l o p r) (sym same) at

pub slot_own : (log : Log) (o : ℕ) (place slot : Option Place) → place ≡ slot → IfSome slot (HasNoOther log.held o) → IfSome place (HasNoOther log.held o)
slot_own log o place slot is own = subst (λ (x : Option Place). IfSome x (HasNoOther log.held o)) (sym is) own

-- all of its places are dropped
pub drops_all : (h0 h1 h2 h3 h4 : Place → Option Stored) (o : ℕ) (p : Place) (r : Option FirstBlock) (x y z : Option Place) → first_in (of_checkpoints o h0) p ≡ r → x ≡ part_place r 0 → y ≡ part_place r 1 → z ≡ part_place r 2
    → DropsPlaces h0 o (option_to_list x) h1 → DropsPlaces h1 o (option_to_list y) h2 → DropsPlaces h2 o (option_to_list z) h3 → DropsPlaces h3 o (p ∷ []) h4 → DropsCheckpoint h0 o (Some p) h4
unfolding places_in
drops_all h0 h1 h2 h3 h4 o p r x y z is first second third one two three last =
    let a = option_to_list x in
    let b = option_to_list y in
    let d = option_to_list z in
    let all = drops_more h0 h1 h4 o a (b ++ (d ++ p ∷ [])) one (drops_more h1 h2 h4 o b (d ++ p ∷ []) two (drops_more h2 h3 h4 o d (p ∷ []) three last)) in
    let same : places_in (of_checkpoints o h0) p ≡ all_places x y z p =
    ap (λ (f : Option FirstBlock). all_places (part_place f 0) (part_place f 1) (part_place f 2) p) is ∙ sym (λ i. all_places (first i) (second i) (third i) p) in
    let at = λ (q : Place) (b : Bool) (e : is_one_of (places_in (of_checkpoints o h0) p) q ≡ b). ap (λ (places : List Place). is_one_of places q) (sym same) ∙ e in
    record { gone = λ q e. all.gone q (at q true e); kept = λ q e. all.kept q (at q false e); others = all.others }

-- the same where the log of its first block is as it was, and the pointer is there
pub drops_from : (before log : Log) (h4 : Place → Option Stored) (o : ℕ) (c : Option Place) (p : Place) → log ≡ before → c ≡ Some p → DropsCheckpoint log.held o (Some p) h4 → DropsCheckpoint before.held o c h4
drops_from before log h4 o c p same at drops =
    subst (λ (x : Option Place). DropsCheckpoint before.held o x h4) (sym at) (subst (λ (l : Log). DropsCheckpoint l.held o (Some p) h4) same drops)

pub drops_none : (held : Place → Option Stored) (o : ℕ) (c : Option Place) → c ≡ None → DropsCheckpoint held o c held
drops_none held o c is = subst (λ (x : Option Place). DropsCheckpoint held o x held) (sym is) (record { gone = λ q here. absurd (false≢true here); kept = λ q beside. refl; others = λ k other beside. refl })
