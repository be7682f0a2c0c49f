-- What the grammar of streams comes to: each of these holds of the spellings of requests, and of those of replies.
use Rattle.std.specs.Prelude.{◌≡◌, ℕ, List, ◌++◌, Option, Some, None}
use Rattle.rpc.specs.declared.items.Item.{Item}
use Rattle.rpc.specs.Stream.{frame, ReadsItems}

-- no frame of an encoding begins another's
abbrev pub FramesStandApart : {T : Type 0} → (T → Type 0) → (T → List ℕ) → Type 0
FramesStandApart {T} is_spelled spelling = (r s : T) (x y : List ℕ) → is_spelled r → is_spelled s → frame (spelling r) ++ x ≡ frame (spelling s) ++ y → (r ≡ s) × (x ≡ y)

-- whoever reads a stream has the same items and the same end
abbrev pub StreamsHaveOneReading : {T : Type 0} → (List ℕ → T → Type 0) → Type 0
StreamsHaveOneReading {T} spells = (stream : List ℕ) (items others : List (Item T)) (end last : Option (List ℕ))
    → ReadsItems spells stream items end → ReadsItems spells stream others last → (items ≡ others) × (end ≡ last)

-- where a stream goes on, what was read stands, and what comes is read after it
abbrev pub ReadingsGoOn : {T : Type 0} → (List ℕ → T → Type 0) → Type 0
ReadingsGoOn {T} spells = (stream rest piece : List ℕ) (items more : List (Item T)) (end : Option (List ℕ))
    → ReadsItems spells stream items (Some rest) → ReadsItems spells (rest ++ piece) more end → ReadsItems spells (stream ++ piece) (items ++ more) end

-- after an oversized length nothing is read
abbrev pub ReadingsStayEnded : {T : Type 0} → (List ℕ → T → Type 0) → Type 0
ReadingsStayEnded {T} spells = (stream piece : List ℕ) (items : List (Item T)) → ReadsItems spells stream items None → ReadsItems spells (stream ++ piece) items None
