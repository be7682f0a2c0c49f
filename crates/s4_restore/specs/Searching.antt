-- What was found to be needed, by trials over the drive of an image.
use Rattle.std.specs.Prelude.{◌≡◌, ◌⊎◌, ℕ, ◌+◌, ◌++◌, false, List, [], ◌∷◌, Option, map, unwrap_or, IsPermutation}
use Rattle.std.specs.List.{AllByRecursion}
use Rattle.history_restore.specs.declared.aims.StandIn.{StandIn}
use Rattle.s4_command.specs.declared.restoring.RestoreAsked.{RestoreAsked}
use Rattle.drive.specs.Fields.{state_in}
use Rattle.moment_words.specs.Texts.{style_of}
use Rattle.s4_images.specs.Commands.{FailsOver, OverImage}
use Rattle.s4_images.specs.Failures.{IsInStyle}
use Rattle.s4_images.specs.declared.faults.Failure.{Failure}
use Rattle.restore_trials.specs.Surveys.{IsLackingBy, IsServedAt, LacksMeans, moments_of}
use Rattle.restore_search.specs.declared.rooms.Room.{Room}
use Rattle.restore_orders.specs.declared.means.Means.{Means}
use Rattle.restore_orders.specs.declared.means.Means.TheVariants.{Nothing, Cleaning, Moves}
use Rattle.restore_orders.specs.declared.orders.Order.{Order}
use Rattle.restore_search.specs.Searching.{numbers_of, room_found, room_tried}
use Rattle.s4_restore.specs.declared.searching.Findings.{Findings}
use Rattle.restore_search.specs.declared.searches.Hiding.{Hiding}
use Rattle.restore_search.specs.declared.searches.Search.{Search}
use Rattle.restore_search.specs.declared.surveys.Lack.{Lack}
use Rattle.restore_search.specs.declared.surveys.Lack.TheVariants.{Journal}
use Rattle.restore_search.specs.declared.surveys.Lacking.{Lacking}
use Rattle.restore_search.specs.declared.surveys.Survey.{Survey}

-- A failure has no moments, or they are dates where the clock of the drive in the image counts microseconds of Unix time.
abbrev pub FailsInStyle : Option (List ℕ) → Failure → Type 0
FailsInStyle known failure = FailsOver known (λ d. IsInStyle (style_of (state_in d).clock false)) failure

-- An order has what is asked for, and these stand-ins.
pub record IsAskedBy (restore : RestoreAsked) (stand_ins : List StandIn) (order : Order) : Type 0 where
  pub at : order.at ≡ restore.at
  pub objects : order.objects.now ≡ restore.objects.items
  pub name : order.name ≡ restore.name
  pub stand_ins_are : order.stand_ins.now ≡ stand_ins
  pub time : order.time ≡ restore.now
  pub leap : order.leap ≡ unwrap_or restore.leap 0
  pub to_nothing : order.to_nothing ≡ restore.to_nothing
  pub newer : order.keep_newer ≡ restore.keep_newer
  pub json : order.json ≡ restore.json

-- A trial of what is asked for, by these means, found an object lacking.
pub record IsFoundLacking (known : Option (List ℕ)) (restore : RestoreAsked) (stand_ins : List StandIn) (means : Means) (one : Lacking) : Type 0 where
  pub order : Order
  pub asks : IsAskedBy restore stand_ins order
  pub by_means : order.means ≡ means
  pub lacks : OverImage known (λ d. IsLackingBy d order one)

-- So one found an object, whatever it lacks.
pub record IsLeft (known : Option (List ℕ)) (restore : RestoreAsked) (stand_ins : List StandIn) (means : Means) (o : ℕ) : Type 0 where
  pub lack : Lack
  pub found : IsFoundLacking known restore stand_ins means (record { object = o; lack = lack })

-- A room is among these.
pub record IsAmongRooms (room : Room) (full : List Room) : Type 0 where
  pub front : List Room
  pub back : List Room
  pub is : full ≡ front ++ room ∷ back

-- With this room a trial of what is asked for, by these means, found the object's journal too full.
pub record IsTooLittle (known : Option (List ℕ)) (restore : RestoreAsked) (stand_ins : List StandIn) (means : Means) (room : Room) : Type 0 where
  pub order : Order
  pub asks : IsAskedBy restore stand_ins order
  pub by_means : order.means ≡ means
  pub among : IsAmongRooms room order.full.now
  pub lacks : OverImage known (λ d. IsLackingBy d order (record { object = room.object; lack = Journal }))

-- Room is made by no more versions than it takes: with one fewer, the newest of them too, the object is refused for its journal.
abbrev pub IsFewest : Option (List ℕ) → RestoreAsked → List StandIn → Means → Room → Type 0
IsFewest known restore stand_ins means room = (fewer : ℕ) → room.count ≡ fewer + 1 → IsTooLittle known restore stand_ins means (record { object = room.object; count = fewer })

abbrev pub AreFewest : Option (List ℕ) → RestoreAsked → List StandIn → Means → List Room → Type 0
AreFewest known restore stand_ins means full = AllByRecursion (IsFewest known restore stand_ins means) full

-- these were found lacking
abbrev pub AreLeft : Option (List ℕ) → RestoreAsked → List StandIn → Means → List ℕ → Type 0
AreLeft known restore stand_ins means objects = AllByRecursion (IsLeft known restore stand_ins means) objects

-- The means don't serve alone: they leave less room than there was, or a trial by them that hides and leaves out nothing found something lacking.
pub record DoesNotServe (known : Option (List ℕ)) (restore : RestoreAsked) (stand_ins : List StandIn) (means : Means) : Type 0 where
  pub order : Order
  pub asks : IsAskedBy restore stand_ins order
  pub by_means : order.means ≡ means
  pub full : order.full.now ≡ []
  pub skipped : order.skipped.now ≡ []
  pub over : OverImage known (λ d. LacksMeans means d ⊎ ((one : Lacking) × IsLackingBy d order one))

-- the means that are tried before one, as long as nothing is hidden or left out
abbrev pub means_before : Means → List Means
means_before Nothing = []
means_before Cleaning = Nothing ∷ []
means_before Moves = Nothing ∷ Cleaning ∷ []

-- the means that were tried alone before these were taken: all of them where something is hidden or left out
abbrev pub means_tried : Means → List Room → List ℕ → List Means
means_tried means [] [] = means_before means
means_tried means (room ∷ full) skipped = Nothing ∷ Cleaning ∷ Moves ∷ []
means_tried means [] (o ∷ skipped) = Nothing ∷ Cleaning ∷ Moves ∷ []

-- None of these serves alone.
abbrev pub DoNotServe : Option (List ℕ) → RestoreAsked → List StandIn → List Means → Type 0
DoNotServe known restore stand_ins all = AllByRecursion (DoesNotServe known restore stand_ins) all

-- ---- the search

-- What is known of an object whose journal is full: no fewer versions serve, and a trial found it lacking.
pub record IsHeld (known : Option (List ℕ)) (restore : RestoreAsked) (stand_ins : List StandIn) (means : Means) (h : Hiding) : Type 0 where
  pub fewest : IsFewest known restore stand_ins means (room_found h)
  pub left : IsLeft known restore stand_ins means h.object

abbrev pub AreLacking : Option (List ℕ) → RestoreAsked → List StandIn → Means → List Lacking → Type 0
AreLacking known restore stand_ins means lacking = AllByRecursion (λ (one : Lacking). IsLeft known restore stand_ins means one.object) lacking

-- no version has to be hidden
abbrev pub IsUnhidden : Hiding → Type 0
IsUnhidden h = h.least ≡ 0

-- What is known of what is needed: so it is of each object whose journal is full, none of its versions has to be hidden as far as is known where
-- none may be, and trials found the others lacking.
pub record Knows (known : Option (List ℕ)) (restore : RestoreAsked) (stand_ins : List StandIn) (means : Means) (search : Search) : Type 0 where
  pub held : AllByRecursion (IsHeld known restore stand_ins means) search.hidings.items
  pub lacking : AreLacking known restore stand_ins means search.lacking.items
  pub flushed : restore.flush ≡ false → AllByRecursion IsUnhidden search.hidings.items

-- What was found lacking by an order over the drive of an image.
abbrev pub AreLackingBy : Option (List ℕ) → Order → List Lacking → Type 0
AreLackingBy known order lacking = AllByRecursion (λ (one : Lacking). OverImage known (λ d. IsLackingBy d order one)) lacking

-- A trial with the room that was to be tried shows these to be lacking.
pub record Shows (known : Option (List ℕ)) (restore : RestoreAsked) (stand_ins : List StandIn) (means : Means) (hidings : List Hiding) (survey : Survey) : Type 0 where
  pub order : Order
  pub asks : IsAskedBy restore stand_ins order
  pub by_means : order.means ≡ means
  pub full : order.full.now ≡ map room_tried hidings
  pub hidden : AreLackingBy known order survey.hidden.items
  pub refused : AreLackingBy known order survey.refused.items

-- Nothing is hidden: journals are cleaned alone.
abbrev pub HidesNothing : List Room → Type 0
HidesNothing full = AllByRecursion (λ (room : Room). room.count ≡ 0) full

-- An order serves that has this room and is without these objects: by what is asked for and by these means a trial restored all that it chooses.
pub record IsServed (known : Option (List ℕ)) (restore : RestoreAsked) (stand_ins : List StandIn) (means : Means) (full : List Room) (skipped : List ℕ) : Type 0 where
  pub order : Order
  pub asks : IsAskedBy restore stand_ins order
  pub by_means : order.means ≡ means
  pub full_is : order.full.now ≡ full
  pub skipped_are : IsPermutation order.skipped.now skipped
  pub serves : OverImage known (λ d. IsServedAt d order (moments_of (state_in d) order))

-- What is needed was found by a search that knows so much, and serves.
pub record IsFoundBy (known : Option (List ℕ)) (restore : RestoreAsked) (stand_ins : List StandIn) (means : Means) (found : Findings) : Type 0 where
  pub by_means : found.means ≡ means
  pub served : IsServed known restore stand_ins means found.full.items (numbers_of found.lacking.items)
  pub fewest : AreFewest known restore stand_ins means found.full.items
  pub lacking : AreLacking known restore stand_ins means found.lacking.items
  pub flushed : restore.flush ≡ false → HidesNothing found.full.items

-- A trial in which no room was to be made in journals found nothing lacking.
abbrev pub LacksNothing : Survey → Type 0
LacksNothing survey = (survey.hidden.items ≡ []) × (survey.refused.items ≡ [])

-- The means serve alone.
pub record IsPlain (known : Option (List ℕ)) (restore : RestoreAsked) (stand_ins : List StandIn) (means : Means) (found : Findings) : Type 0 where
  pub by_means : found.means ≡ means
  pub served : IsServed known restore stand_ins means found.full.items (numbers_of found.lacking.items)
  pub full : found.full.items ≡ []
  pub lacking : found.lacking.items ≡ []

-- What is needed was found: by a search, after the means that don't serve alone.
pub record IsFound (known : Option (List ℕ)) (restore : RestoreAsked) (stand_ins : List StandIn) (found : Findings) : Type 0 where
  pub before : DoNotServe known restore stand_ins (means_tried found.means found.full.items (numbers_of found.lacking.items))
  pub by_search : IsFoundBy known restore stand_ins found.means found
