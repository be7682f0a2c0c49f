-- What trials show of what is needed.
use Rattle.std.proofs.Common.{◌≡◌, ◌∙◌, ℕ, Bool, false, List, [], ◌∷◌, Option, None, Some, IfSome, IsPermutation, map, inl, inr, ap, sym, subst, arith}
use Rattle.std.specs.List.{AllByRecursion}
use Rattle.std.proofs.lemmas.Bool.{true≢false}
use Rattle.std.proofs.lemmas.List.Elements.{All-from_recursion, recursion_from_All}
use Rattle.std.proofs.lemmas.List.Sorted.{All-permutation, IsPermutation-map, IsPermutation-refl, IsPermutation-trans}
use Rattle.lemmas.proofs.List.{all_weaker, all_append}
use Rattle.drive.specs.Fields.{DriveFields}
use Rattle.history_restore.specs.declared.aims.StandIn.{StandIn}
use Rattle.s4_command.specs.declared.restoring.RestoreAsked.{RestoreAsked}
use Rattle.s4_images.specs.Commands.{OverImage}
use Rattle.restore_search.specs.Searching.{HasFull, IsFine, IsKnown, IsLeftBy, IsOneOf, IsSettled, IsTurned, Learns, numbers_of, room_found, room_tried}
use Rattle.restore_search.specs.declared.rooms.Room.{Room}
use Rattle.restore_search.specs.declared.searches.Hiding.{Hiding}
use Rattle.restore_search.specs.declared.searches.Search.{Search}
use Rattle.restore_search.specs.declared.surveys.Lack.TheVariants.{Journal}
use Rattle.restore_search.specs.declared.surveys.Lacking.{Lacking}
use Rattle.restore_search.specs.declared.surveys.Survey.{Survey}
use Rattle.restore_search.proofs.Each.{all_of, all_one, map_one}
use Rattle.restore_orders.specs.declared.means.Means.{Means}
use Rattle.restore_orders.specs.declared.orders.Order.{Order}
use Rattle.restore_trials.specs.Surveys.{Finds, IsLackingBy, Serves}
use Rattle.s4_restore.specs.Searching.{AreFewest, AreLacking, AreLackingBy, HidesNothing, IsAskedBy, IsFewest, IsFoundBy, IsHeld, IsLeft, IsServed, IsTooLittle, IsUnhidden, Knows, Shows}
use Rattle.s4_restore.specs.declared.searching.Findings.{Findings}

-- what holds of all holds of one of them
one_of : {X : Type 0} (P : X → Type 0) (x : X) (xs : List X) → IsOneOf x xs → AllByRecursion P xs → P x
one_of P x xs one all = all_one P one.front x one.back (subst (AllByRecursion P) one.is all)

-- and of all in another order
all_permuted : {X : Type 0} (P : X → Type 0) (xs ys : List X) → IsPermutation xs ys → AllByRecursion P xs → AllByRecursion P ys
all_permuted P xs ys moved all = recursion_from_All P ys (All-permutation P xs ys moved (All-from_recursion P xs all))

-- ---- a trial

-- what holds of each of these over the drive of an image
each_over : (known : Option (List ℕ)) (order : Order) (lacking : List Lacking) → OverImage known (λ (d : DriveFields). AllByRecursion (IsLackingBy d order) lacking) → AreLackingBy known order lacking
each_over known order [] over = tt
each_over known order (one ∷ lacking) over = (
  record { drive = over.drive; told = over.told; holds = over.holds.0 },
  each_over known order lacking (record { drive = over.drive; told = over.told; holds = over.holds.1 }),
)

-- what a trial finds is shown by it
pub shown : (known : Option (List ℕ)) (restore : RestoreAsked) (stand_ins : List StandIn) (means : Means) (hidings : List Hiding) (order : Order) → IsAskedBy restore stand_ins order → order.means ≡ means → order.full.now ≡ map room_tried hidings
    → (found : Option Survey) → OverImage known (λ (d : DriveFields). Finds d order found) → IfSome found (Shows known restore stand_ins means hidings)
shown known restore stand_ins means hidings order asks by_means full None over = tt
shown known restore stand_ins means hidings order asks by_means full (Some survey) over = record {
  order = order;
  asks = asks;
  by_means = by_means;
  full = full;
  hidden = each_over known order survey.hidden.items (record { drive = over.drive; told = over.told; holds = over.holds.0 });
  refused = each_over known order survey.refused.items (record { drive = over.drive; told = over.told; holds = over.holds.1 });
}

-- where nothing is lacking the order serves
pub served_by : (known : Option (List ℕ)) (restore : RestoreAsked) (stand_ins : List StandIn) (means : Means) (full : List Room) (skipped : List ℕ) (order : Order) → IsAskedBy restore stand_ins order → order.means ≡ means → order.full.now ≡ full → order.skipped.now ≡ skipped
    → (survey : Survey) → OverImage known (λ (d : DriveFields). Serves d order (Some survey)) → IsFine survey → IsServed known restore stand_ins means full skipped
served_by known restore stand_ins means full skipped order asks by_means full_is skipped_are survey over fine = record {
  order = order;
  asks = asks;
  by_means = by_means;
  full_is = full_is;
  skipped_are = subst (IsPermutation order.skipped.now) skipped_are (IsPermutation-refl order.skipped.now);
  serves = record { drive = over.drive; told = over.told; holds = over.holds fine };
}

pub served : (known : Option (List ℕ)) (restore : RestoreAsked) (stand_ins : List StandIn) (means : Means) (full : List Room) (skipped : List ℕ) (order : Order) → IsAskedBy restore stand_ins order → order.means ≡ means → order.full.now ≡ full → order.skipped.now ≡ skipped
    → (found : Option Survey) → OverImage known (λ (d : DriveFields). Serves d order found) → IfSome found (λ (survey : Survey). IsFine survey → IsServed known restore stand_ins means full skipped)
served known restore stand_ins means full skipped order asks by_means full_is skipped_are None over = tt
served known restore stand_ins means full skipped order asks by_means full_is skipped_are (Some survey) over = served_by known restore stand_ins means full skipped order asks by_means full_is skipped_are survey over

-- an object that it lists was found lacking
left_by : (known : Option (List ℕ)) (restore : RestoreAsked) (stand_ins : List StandIn) (means : Means) (hidings : List Hiding) (survey : Survey) (shows : Shows known restore stand_ins means hidings survey) (lacking : List Lacking) (one : Lacking)
    → IsOneOf one lacking → AreLackingBy known shows.order lacking → IsLeft known restore stand_ins means one.object
left_by known restore stand_ins means hidings survey shows lacking one among all = record {
  lack = one.lack;
  found = record {
    order = shows.order;
    asks = shows.asks;
    by_means = shows.by_means;
    lacks = one_of (λ (one : Lacking). OverImage known (λ (d : DriveFields). IsLackingBy d shows.order one)) one lacking among all;
  };
}

-- where an object's journal was full with a room that was tried, that room is too little
too_little : (known : Option (List ℕ)) (restore : RestoreAsked) (stand_ins : List StandIn) (means : Means) (hidings : List Hiding) (survey : Survey) (h : Hiding) → Shows known restore stand_ins means hidings survey → IsOneOf h hidings
    → HasFull survey.refused.items h.object → IsTooLittle known restore stand_ins means (room_tried h)
too_little known restore stand_ins means hidings survey h shows among full = record {
  order = shows.order;
  asks = shows.asks;
  by_means = shows.by_means;
  among = record {
    front = map room_tried among.front;
    back = map room_tried among.back;
    is = shows.full ∙ (ap (map room_tried) among.is ∙ map_one room_tried among.front h among.back);
  };
  lacks = one_of (λ (one : Lacking). OverImage known (λ (d : DriveFields). IsLackingBy d shows.order one)) (record { object = h.object; lack = Journal }) survey.refused.items full shows.refused;
}

-- ---- what a search knows

-- one that has just begun knows nothing
pub nothing_known : (known : Option (List ℕ)) (restore : RestoreAsked) (stand_ins : List StandIn) (means : Means) (search : Search) → search.hidings.items ≡ [] → search.lacking.items ≡ [] → Knows known restore stand_ins means search
nothing_known known restore stand_ins means search hidings lacking = record {
  held = subst (AllByRecursion (IsHeld known restore stand_ins means)) (sym hidings) tt;
  lacking = subst (AreLacking known restore stand_ins means) (sym lacking) tt;
  flushed = λ unasked. subst (AllByRecursion IsUnhidden) (sym hidings) tt;
}

-- what is known of an object goes on
turned_held : (known : Option (List ℕ)) (restore : RestoreAsked) (stand_ins : List StandIn) (means : Means) (flush : Bool) (hidings : List Hiding) (survey : Survey) (h next : Hiding) → Shows known restore stand_ins means hidings survey → IsOneOf h hidings
    → IsTurned flush h survey.refused.items next → IsHeld known restore stand_ins means h → IsHeld known restore stand_ins means next
turned_held known restore stand_ins means flush hidings survey h next shows among turned held = record {
  fewest = λ fewer is.
      subst (λ (o : ℕ). IsTooLittle known restore stand_ins means (record { object = o; count = fewer })) (sym turned.0)
      (elim turned.1 [
        | inl same ↦ held.fewest fewer (sym same ∙ is)
        | inr more ↦ subst (λ (n : ℕ). IsTooLittle known restore stand_ins means (record { object = h.object; count = n })) (omega (arith, more.1, is)) (too_little known restore stand_ins means hidings survey h shows among more.2)
      ]);
  left = subst (IsLeft known restore stand_ins means) (sym turned.0) held.left;
}

known_held : (known : Option (List ℕ)) (restore : RestoreAsked) (stand_ins : List StandIn) (means : Means) (flush : Bool) (hidings : List Hiding) (survey : Survey) (next : Hiding) → Shows known restore stand_ins means hidings survey → AllByRecursion (IsHeld known restore stand_ins means) hidings
    → IsKnown flush hidings survey next → IsHeld known restore stand_ins means next
known_held known restore stand_ins means flush hidings survey next shows held is =
    elim is [
      | inl on ↦ turned_held known restore stand_ins means flush hidings survey on.before next shows on.one on.turned (one_of (IsHeld known restore stand_ins means) on.before hidings on.one held)
      | inr begun ↦ record {
        fewest = λ fewer more. absurd (omega (arith, begun.0, more));
        left = left_by known restore stand_ins means hidings survey shows survey.refused.items (record { object = next.object; lack = Journal }) begun.1 shows.refused;
      }
    ]

-- nothing is hidden of it where nothing may be
known_unhidden : (flush : Bool) (hidings : List Hiding) (survey : Survey) (next : Hiding) → flush ≡ false → AllByRecursion IsUnhidden hidings → IsKnown flush hidings survey next → IsUnhidden next
known_unhidden flush hidings survey next unasked unhidden is =
    elim is [
      | inl on ↦
          elim on.turned.1 [
            | inl same ↦ same ∙ one_of IsUnhidden on.before hidings on.one unhidden
            | inr more ↦ absurd (true≢false (sym more.0 ∙ unasked))
          ]
      | inr begun ↦ begun.0
    ]

-- what is left out was found lacking
known_left : (known : Option (List ℕ)) (restore : RestoreAsked) (stand_ins : List StandIn) (means : Means) (hidings : List Hiding) (survey : Survey) (one : Lacking) → Shows known restore stand_ins means hidings survey → AllByRecursion (IsHeld known restore stand_ins means) hidings
    → IsLeftBy hidings survey one → IsLeft known restore stand_ins means one.object
known_left known restore stand_ins means hidings survey one shows held is =
    elim is [
      | inl searched ↦ subst (IsLeft known restore stand_ins means) searched.object (one_of (IsHeld known restore stand_ins means) searched.hiding hidings searched.among held).left
      | inr listed ↦
          elim listed [
            | inl hidden ↦ left_by known restore stand_ins means hidings survey shows survey.hidden.items one hidden shows.hidden
            | inr refused ↦ left_by known restore stand_ins means hidings survey shows survey.refused.items one refused shows.refused
          ]
    ]

-- a search knows after a trial what it shows
knows_on : (known : Option (List ℕ)) (restore : RestoreAsked) (stand_ins : List StandIn) (means : Means) (search later : Search) (survey : Survey) → Knows known restore stand_ins means search → Shows known restore stand_ins means search.hidings.items survey
    → Learns restore.flush search survey later → Knows known restore stand_ins means later
knows_on known restore stand_ins means search later survey knows shows learns = record {
  held = all_weaker _ _ later.hidings.items (λ (next : Hiding) (is : IsKnown restore.flush search.hidings.items survey next). known_held known restore stand_ins means restore.flush search.hidings.items survey next shows knows.held is) learns.hidings;
  lacking = subst (AreLacking known restore stand_ins means) (sym learns.lacking)
      (all_append (λ (one : Lacking). IsLeft known restore stand_ins means one.object) search.lacking.items learns.more knows.lacking
      (all_weaker _ _ learns.more (λ (one : Lacking) (is : IsLeftBy search.hidings.items survey one). known_left known restore stand_ins means search.hidings.items survey one shows knows.held is) learns.left));
  flushed = λ unasked. all_weaker _ _ later.hidings.items (λ (next : Hiding) (is : IsKnown restore.flush search.hidings.items survey next). known_unhidden restore.flush search.hidings.items survey next unasked (knows.flushed unasked) is) learns.hidings;
}

pub knows_after : (known : Option (List ℕ)) (restore : RestoreAsked) (stand_ins : List StandIn) (means : Means) (search later : Search) (found : Option Survey) (survey : Survey) → found ≡ Some survey → Knows known restore stand_ins means search
    → IfSome found (Shows known restore stand_ins means search.hidings.items) → Learns restore.flush search survey later → Knows known restore stand_ins means later
knows_after known restore stand_ins means search later found survey is knows shows learns =
    knows_on known restore stand_ins means search later survey knows (subst (λ (f : Option Survey). IfSome f (Shows known restore stand_ins means search.hidings.items)) is shows) learns

-- it serves with what was found, where that is what was tried
served_on : (known : Option (List ℕ)) (restore : RestoreAsked) (stand_ins : List StandIn) (means : Means) (search later : Search) (found : Findings) → IsServed known restore stand_ins means (map room_tried search.hidings.items) (numbers_of search.lacking.items) → IsSettled search later
    → found.full.items ≡ map room_found later.hidings.items → IsPermutation later.lacking.items found.lacking.items → IsServed known restore stand_ins means found.full.items (numbers_of found.lacking.items)
served_on known restore stand_ins means search later found tried settled full moved = record {
  order = tried.order;
  asks = tried.asks;
  by_means = tried.by_means;
  full_is = tried.full_is ∙ sym (full ∙ settled.rooms);
  skipped_are = IsPermutation-trans tried.order.skipped.now (numbers_of search.lacking.items) (numbers_of found.lacking.items) tried.skipped_are
      (IsPermutation-map (λ (one : Lacking). one.object) search.lacking.items found.lacking.items (subst (λ (lacking : List Lacking). IsPermutation lacking found.lacking.items) settled.lacking_stay moved));
  serves = tried.serves;
}

-- what a search knows is what was found
pub found_on : (known : Option (List ℕ)) (restore : RestoreAsked) (stand_ins : List StandIn) (means : Means) (search later : Search) (found : Findings) → Knows known restore stand_ins means later → IsServed known restore stand_ins means (map room_tried search.hidings.items) (numbers_of search.lacking.items) → IsSettled search later
    → found.means ≡ means → found.full.items ≡ map room_found later.hidings.items → IsPermutation later.lacking.items found.lacking.items → IsFoundBy known restore stand_ins means found
found_on known restore stand_ins means search later found knows tried settled by_means full moved = record {
  by_means = by_means;
  served = served_on known restore stand_ins means search later found tried settled full moved;
  fewest = subst (AreFewest known restore stand_ins means) (sym full)
      (all_of (IsFewest known restore stand_ins means) room_found later.hidings.items (all_weaker _ _ later.hidings.items (λ (h : Hiding) (held : IsHeld known restore stand_ins means h). held.fewest) knows.held));
  lacking = all_permuted (λ (one : Lacking). IsLeft known restore stand_ins means one.object) later.lacking.items found.lacking.items moved knows.lacking;
  flushed = λ unasked. subst HidesNothing (sym full) (all_of (λ (room : Room). room.count ≡ 0) room_found later.hidings.items (knows.flushed unasked));
}
