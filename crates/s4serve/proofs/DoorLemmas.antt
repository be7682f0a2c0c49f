-- One door more.
use Rattle.std.proofs.Common.{◌≡◌, ◌+◌, ◌<◌, ◌∙◌, ℕ, List, [], ◌∷◌, ◌++◌, length, take, get_or, map, ap, subst, sym, arith}
use Rattle.std.specs.List.{AllZip, HoldsAt}
use Rattle.std.specs.Prelude.{Contains, Option, Some}
use Rattle.std.specs.Option.{option_to_list}
use Rattle.std.proofs.lemmas.List.{get_or-map, length-map, map-append, take_more}
use Rattle.std.proofs.lemmas.List.Elements.{Contains-get_or}
use Rattle.s4serve_command.specs.declared.doors.Door.{Door as AskedDoor}
use Rattle.door_files.specs.Paths.{door_path}
use Rattle.s4serve.specs.Doors.{DoorFields, HasRole, IsDoorAt, IsReadAt, ReadsAt, ReadsDoor, asked_door}

-- so the doors are those that were asked for until then
pub doors_more : (asked : List AskedDoor) (i : ℕ) (d : AskedDoor) (old new : List DoorFields) → i < length asked → old ≡ map asked_door (take i asked)
    → new ≡ old ++ asked_door (get_or asked i d) ∷ [] → new ≡ map asked_door (take (i + 1) asked)
doors_more asked i d old new lt are last =
    let more : map asked_door (take (i + 1) asked) ≡ map asked_door (take i asked) ++ asked_door (get_or asked i d) ∷ [] =
    ap (map asked_door) (take_more asked i d lt) ∙ map-append asked_door (take i asked) (get_or asked i d ∷ []) in
    last ∙ ap (λ (l : List DoorFields). l ++ asked_door (get_or asked i d) ∷ []) are ∙ sym more

-- and each of them is one that was asked for
pub is_asked : (doors : List DoorFields) (asked : List AskedDoor) (i : ℕ) (d : AskedDoor) → doors ≡ map asked_door asked → i < length asked → Contains doors (asked_door (get_or asked i d))
is_asked doors asked i d are lt =
    let there : i < length (map asked_door asked) = subst (λ (n : ℕ). i < n) (sym (length-map asked asked_door)) lt in
    let found : Contains (map asked_door asked) (get_or (map asked_door asked) i (asked_door d)) = Contains-get_or (map asked_door asked) i (asked_door d) there in
    subst (λ (l : List DoorFields). Contains l (asked_door (get_or asked i d))) (sym are)
    (subst (λ (door : DoorFields). Contains (map asked_door asked) door) (get_or-map asked_door asked i d (asked_door d) lt) found)

zip_last : {A B : Type 0} (R : A → B → Type 0) (xs : List A) (ys : List B) (x : A) (y : B) → AllZip R xs ys → R x y → AllZip R (xs ++ x ∷ []) (ys ++ y ∷ [])
zip_last R [] [] x y are is = (is, tt)
zip_last R [] (b ∷ ys) x y are is = absurd are
zip_last R (a ∷ xs) [] x y are is = absurd are
zip_last R (a ∷ xs) (b ∷ ys) x y are is = (are.0, zip_last R xs ys x y are.1 is)

-- and so are what is read at them
pub inputs_more : {Input : Type 0} (R : AskedDoor → Input → Type 0) (asked : List AskedDoor) (i : ℕ) (d : AskedDoor) (inputs : List Input) (input : Input) → i < length asked
    → AllZip R (take i asked) inputs → R (get_or asked i d) input → AllZip R (take (i + 1) asked) (inputs ++ input ∷ [])
inputs_more R asked i d inputs input lt are is =
    subst (λ (l : List AskedDoor). AllZip R l (inputs ++ input ∷ [])) (sym (take_more asked i d lt)) (zip_last R (take i asked) inputs (get_or asked i d) input are is)

-- so is what is read at the doors of the service
pub inputs_at : {Input : Type 0} (reads : Input → List ℕ → Type 0) (asked : List AskedDoor) (doors : List DoorFields) (inputs : List Input) → doors ≡ map asked_door asked
    → AllZip (ReadsDoor reads) asked inputs → AllZip (ReadsAt reads) doors inputs
inputs_at reads asked doors inputs are h = subst (λ (l : List DoorFields). AllZip (ReadsAt reads) l inputs) (sym are) (mapped reads asked inputs h) where
  mapped : {Input : Type 0} (reads : Input → List ℕ → Type 0) (asked : List AskedDoor) (inputs : List Input) → AllZip (ReadsDoor reads) asked inputs → AllZip (ReadsAt reads) (map asked_door asked) inputs
  mapped reads [] [] h = h
  mapped reads [] (i ∷ inputs) h = absurd h
  mapped reads (a ∷ asked) [] h = absurd h
  mapped reads (a ∷ asked) (i ∷ inputs) h = (h.0, mapped reads asked inputs h.1)

-- the last input is of the last door that has one, and the others are of those before
pub last_input : {A B : Type 0} (R : A → B → Type 0) (xs : List A) (ys : List B) (y : B) → AllZip R (take (length (ys ++ y ∷ [])) xs) (ys ++ y ∷ [])
    → AllZip R (take (length ys) xs) ys × (length ys < length xs) × HoldsAt (λ x. R x y) xs (length ys)
last_input R [] [] y are = absurd are
last_input R (x ∷ xs) [] y are = (tt, omega arith, λ d. are.0)
last_input R [] (b ∷ ys) y are = absurd are
last_input R (x ∷ xs) (b ∷ ys) y are =
    let rest = last_input R xs ys y are.1 in
    ((are.0, rest.0), omega (arith, rest.1), rest.2)

-- so it is where a vector's last one is taken
pub next_input : {A B : Type 0} (R : A → B → Type 0) (xs : List A) (old new : List B) (r : Option B) (y : B) → old ≡ new ++ option_to_list r → r ≡ Some y → AllZip R (take (length old) xs) old
    → AllZip R (take (length new) xs) new × (length new < length xs) × HoldsAt (λ x. R x y) xs (length new)
next_input R xs old new r y is some are = last_input R xs new y (subst (λ l. AllZip R (take (length l) xs) l) (is ∙ ap (λ o. new ++ option_to_list o) some) are)

-- the door of a number has its own role
pub own_role : (doors : List DoorFields) (number : ℕ) (door : DoorFields) → IsDoorAt doors number door → HasRole doors number door.role
own_role doors number door at = (at.0, λ d. ap (λ (a : DoorFields). a.role) (at.1 d))

-- the door that was found at a number is the one that was asked for there
pub door_at : (asked doors : List DoorFields) (number : ℕ) (door : DoorFields) → doors ≡ asked → (number < length doors) × HoldsAt (λ at. door ≡ at) doors number → IsDoorAt asked number door
door_at asked doors number door are there = subst (λ (l : List DoorFields). IsDoorAt l number door) are (there.0, λ d. sym (there.1 d))

-- and what is read at that number is read at this door
pub read_at : {Input : Type 0} (reads : Input → List ℕ → Type 0) (doors : List DoorFields) (number : ℕ) (door : DoorFields) (input : Input) → IsDoorAt doors number door → IsReadAt reads doors number input → reads input (door_path door.folder)
read_at reads doors number door input at is = subst (λ (a : DoorFields). reads input (door_path a.folder)) (at.1 door) (is.1 door)
