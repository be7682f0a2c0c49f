-- What is known goes on, object by object.
use Rattle.std.proofs.Common.{◌≡◌, ◌∙◌, ◌+◌, ◌<◌, ℕ, suc, Bool, List, [], ◌∷◌, ◌++◌, length, take, drop, get_or, map, inl, inr, ap, sym, refl, subst, append_assoc}
use Rattle.std.specs.List.{AllByRecursion}
use Rattle.restore_search.specs.Searching.{AreSettled, Begins, BeginsOne, HasFull, IsBegun, IsKnown, IsLeftBy, IsOfHiding, IsOneOf, IsSameTried, IsSettledOne, Learns, LeavesRest, TakesTurn, Turns, TurnsOne, WasSearched, is_kept, room_found, room_tried}
use Rattle.restore_search.specs.declared.rooms.Room.{Room}
use Rattle.restore_search.specs.declared.searches.Hiding.{Hiding}
use Rattle.restore_search.specs.declared.searches.Search.{Search}
use Rattle.restore_search.specs.declared.surveys.Lack.{Lack}
use Rattle.restore_search.specs.declared.surveys.Lack.TheVariants.{Journal}
use Rattle.restore_search.specs.declared.surveys.Lacking.{Lacking}
use Rattle.restore_search.specs.declared.surveys.Survey.{Survey}
use Rattle.restore_search.specs.declared.turning.Turn.{Turn}
use Rattle.restore_search.specs.declared.turning.Turn.TheVariants.{Again, Leave}
use Rattle.std.proofs.lemmas.List.{map-append, take_more}
use Rattle.std.proofs.SliceLists.{all_by_recursion_push}
use Rattle.lemmas.proofs.List.{all_weaker, all_append}
use Rattle.restore_search.proofs.Each.{all_passing, split_one}

-- an element is one of its list
pub one_at : {X : Type 0} (xs : List X) (i : ℕ) (x : X) → i < length xs → x ≡ get_or xs i x → IsOneOf x xs
one_at xs i x lt is = record {
  front = take i xs;
  back = drop (suc i) xs;
  is = split_one xs i x lt ∙ ap (λ y. take i xs ++ y ∷ drop (suc i) xs) (sym is);
}

-- so is each
pub each_in : {X : Type 0} (xs : List X) → AllByRecursion (λ (x : X). IsOneOf x xs) xs
each_in [] = tt
each_in (x ∷ xs) = (
  record { front = []; back = xs; is = refl },
  all_weaker _ _ xs (λ y one. record { front = x ∷ one.front; back = one.back; is = ap (λ ys. x ∷ ys) one.is }) (each_in xs),
)

-- an object whose journal is full is among those that are
pub full_one : (refused : List Lacking) (one : Lacking) (o : ℕ) → IsOneOf one refused → one.object ≡ o → one.lack ≡ Journal → HasFull refused o
full_one refused one o among object lack =
    subst (λ (why : Lack). IsOneOf {X = Lacking} (record { object = o; lack = why }) refused) lack
    (subst (λ (n : ℕ). IsOneOf {X = Lacking} (record { object = n; lack = one.lack }) refused) object among)

-- what a trial shows of one object is taken
pub turns_on : (flush : Bool) (hidings : List Hiding) (survey : Survey) (old : List Lacking) (h : Hiding) (turn : Turn) (kept : List Hiding) (lacking : List Lacking) (kept' : List Hiding) (lacking' : List Lacking)
    → IsOneOf h hidings → TurnsOne flush h survey.refused.items turn → TakesTurn h.object turn kept lacking kept' lacking' → Turns flush hidings survey old kept lacking → Turns flush hidings survey old kept' lacking'
turns_on flush hidings survey old h (Again next) kept lacking kept' lacking' among turns takes before = record {
  held = subst (AllByRecursion (IsOfHiding flush hidings survey.refused.items)) (sym takes.0) (all_by_recursion_push (IsOfHiding flush hidings survey.refused.items) kept next before.held (record { before = h; one = among; turned = turns }));
  more = before.more;
  lacking_are = takes.1 ∙ before.lacking_are;
  left = before.left;
}
turns_on flush hidings survey old h (Leave lack) kept lacking kept' lacking' among turns takes before =
    let one : Lacking = record { object = h.object; lack = lack } in
    record {
      held = subst (AllByRecursion (IsOfHiding flush hidings survey.refused.items)) (sym takes.0) before.held;
      more = before.more ++ one ∷ [];
      lacking_are = takes.1 ∙ ap (λ (l : List Lacking). l ++ one ∷ []) before.lacking_are ∙ append_assoc old before.more (one ∷ []);
      left = all_by_recursion_push (WasSearched hidings) before.more one before.left (record { hiding = h; among = among; object = refl });
    }

-- room in the journal of an object
abbrev room_at : ℕ → ℕ → Room
room_at o n = record { object = o; count = n }

-- the same is tried again
pub settled_on : (flush : Bool) (hidings : List Hiding) (refused old : List Lacking) (i : ℕ) (h : Hiding) (turn : Turn) (kept : List Hiding) (lacking : List Lacking) (kept' : List Hiding) (lacking' : List Lacking)
    → i < length hidings → h ≡ get_or hidings i h → TurnsOne flush h refused turn → IsSettledOne h turn → IsSameTried h turn → TakesTurn h.object turn kept lacking kept' lacking' → AreSettled (take i hidings) old kept lacking
    → AreSettled (take (i + 1) hidings) old kept' lacking'
settled_on flush hidings refused old i h (Again next) kept lacking kept' lacking' lt is turns settled same takes before =
    let room : room_found next ≡ room_tried h = ap (λ (o : ℕ). room_at o next.least) turns.0 ∙ ap (λ (n : ℕ). room_at h.object n) (settled same) in
    let more : take i hidings ++ h ∷ [] ≡ take (i + 1) hidings = ap (λ (x : Hiding). take i hidings ++ x ∷ []) is ∙ sym (take_more hidings i h lt) in
    record {
      rooms = ap (λ (hs : List Hiding). map room_found hs) takes.0 ∙ map-append room_found kept (next ∷ []) ∙ ap (λ (rs : List Room). rs ++ room_found next ∷ []) before.rooms
          ∙ ap (λ (r : Room). map room_tried (take i hidings) ++ r ∷ []) room ∙ sym (map-append room_tried (take i hidings) (h ∷ [])) ∙ ap (λ (hs : List Hiding). map room_tried hs) more;
      lacking_stay = takes.1 ∙ before.lacking_stay;
    }
settled_on flush hidings refused old i h (Leave lack) kept lacking kept' lacking' lt is turns settled same takes before = absurd same

-- one object more is begun with
pub begins_on : (search middle later : Search) (refused : List Lacking) (one : Lacking) → IsOneOf one refused → Begins search refused middle → BeginsOne middle one later → Begins search refused later
begins_on search middle later refused one among before here =
    elim here.0 [
      | inl same ↦ record {
        begun = before.begun;
        hidings = ap (λ v. v.items) same ∙ before.hidings;
        each = before.each;
        lacking = here.1 ∙ before.lacking;
      }
      | inr next ↦ record {
        begun = before.begun ++ next.begun ∷ [];
        hidings = next.hidings_are ∙ ap (λ (l : List Hiding). l ++ next.begun ∷ []) before.hidings ∙ append_assoc search.hidings.items before.begun (next.begun ∷ []);
        each = all_by_recursion_push (IsBegun refused) before.begun next.begun before.each (next.least, full_one refused one next.begun.object among (sym next.object) next.full);
        lacking = here.1 ∙ before.lacking;
      }
    ]

-- what was turned is known
pub learns_turned : (flush : Bool) (search : Search) (survey : Survey) (later : Search) → Turns flush search.hidings.items survey search.lacking.items later.hidings.items later.lacking.items → Learns flush search survey later
learns_turned flush search survey later turns = record {
  hidings = all_weaker _ _ later.hidings.items (λ h held. inl held) turns.held;
  more = turns.more;
  lacking = turns.lacking_are;
  left = all_weaker _ _ turns.more (λ one was. inl was) turns.left;
}

-- so is what was begun with besides
pub learns_begun : (flush : Bool) (search : Search) (survey : Survey) (middle later : Search) → Learns flush search survey middle → Begins middle survey.refused.items later → Learns flush search survey later
learns_begun flush search survey middle later before begins = record {
  hidings = subst (AllByRecursion (IsKnown flush search.hidings.items survey)) (sym begins.hidings)
      (all_append (IsKnown flush search.hidings.items survey) middle.hidings.items begins.begun before.hidings (all_weaker _ _ begins.begun (λ h begun. inr begun) begins.each));
  more = before.more;
  lacking = ap (λ v. v.items) begins.lacking ∙ before.lacking;
  left = before.left;
}

-- so are both, over lists that are these
pub learns_tried : (flush : Bool) (search : Search) (survey : Survey) (hidings : List Hiding) (refused : List Lacking) (middle later : Search) → hidings ≡ search.hidings.items → refused ≡ survey.refused.items
    → Turns flush hidings survey search.lacking.items middle.hidings.items middle.lacking.items → Begins middle refused later → Learns flush search survey later
learns_tried flush search survey hidings refused middle later hidings_are refused_are turns begins =
    learns_begun flush search survey middle later
    (learns_turned flush search survey middle (subst (λ (of : List Hiding). Turns flush of survey search.lacking.items middle.hidings.items middle.lacking.items) hidings_are turns))
    (subst (λ (full : List Lacking). Begins middle full later) refused_are begins)

-- what a trial found lacking is left out by it
left_by : (hidings : List Hiding) (survey : Survey) → AllByRecursion (IsLeftBy hidings survey) (survey.hidden.items ++ survey.refused.items)
left_by hidings survey =
    all_append (IsLeftBy hidings survey) survey.hidden.items survey.refused.items
    (all_weaker _ _ survey.hidden.items (λ one among. inr (inl among)) (each_in survey.hidden.items))
    (all_weaker _ _ survey.refused.items (λ one among. inr (inr among)) (each_in survey.refused.items))

-- so is what was found lacking
pub learns_left : (flush : Bool) (search : Search) (survey : Survey) (middle later : Search) → Learns flush search survey middle → LeavesRest middle survey later → Learns flush search survey later
learns_left flush search survey middle later before leaves = record {
  hidings = subst (AllByRecursion (IsKnown flush search.hidings.items survey)) (sym leaves.hidings)
      (all_passing (IsKnown flush search.hidings.items survey) (is_kept survey.refused.items) middle.hidings.items before.hidings);
  more = before.more ++ (survey.hidden.items ++ survey.refused.items);
  lacking = leaves.lacking ∙ ap (λ (l : List Lacking). l ++ (survey.hidden.items ++ survey.refused.items)) before.lacking
      ∙ append_assoc search.lacking.items before.more (survey.hidden.items ++ survey.refused.items);
  left = all_append (IsLeftBy search.hidings.items survey) before.more (survey.hidden.items ++ survey.refused.items) before.left (left_by search.hidings.items survey);
}
