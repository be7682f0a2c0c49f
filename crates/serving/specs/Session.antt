-- What a whole session reads, asks and writes.
use Rattle.std.specs.Prelude.{◌≡◌, ℕ, ◌<◌, ⊤, List, [], ◌++◌, length, Option, Some, None, Result, Ok, Err}
use Rattle.std.specs.Io.KnownBytes.{Consumes, Appends, IsAtEnd}
use Rattle.s4_types.specs.declared.requests.Request.{Request}
use Rattle.s4_types.specs.declared.replies.Reply.{Reply}
use Rattle.rpc.specs.declared.items.Item.{Item}
use Rattle.rpc.specs.Spelling.{SpellsRequest}
use Rattle.rpc.specs.Stream.{ReadsItems, IsPartial}
use Rattle.serving.specs.Answering.{Answered, AnswersAll, SaidBy}
use Rattle.serving.specs.declared.ends.ServeEnd.{ServeEnd}
use Rattle.serving.specs.declared.ends.ServeEnd.TheVariants.{Ended, CutFrame, Oversized, ReadFailed, WriteFailed, NoMemory}

-- The items that are taken up of a stream, where the beginning of a frame had come before it. The session ends
-- between frames, inside of one, or at a length above the limit; where writing failed or memory was short, some
-- items may be left.
abbrev pub TakenUp : ServeEnd → List ℕ → List ℕ → List (Item Request) → Type 0
TakenUp Ended begun stream items = ReadsItems SpellsRequest (begun ++ stream) items (Some [])
TakenUp CutFrame begun stream items = (rest : List ℕ) × ReadsItems SpellsRequest (begun ++ stream) items (Some rest) × (0 < length rest)
TakenUp Oversized begun stream items = ReadsItems SpellsRequest (begun ++ stream) items None
TakenUp ReadFailed begun stream items = (rest : List ℕ) × ReadsItems SpellsRequest (begun ++ stream) items (Some rest)
TakenUp _ begun stream items = (others : List (Item Request)) × (front : List ℕ) × (unread : List ℕ) × (end : Option (List ℕ))
    × (stream ≡ front ++ unread) × ReadsItems SpellsRequest (begun ++ front) (items ++ others) end

-- the input is at its end where the session says so
abbrev pub IsOver : ServeEnd → Option (List ℕ) → Type 0
IsOver Ended input = IsAtEnd input
IsOver CutFrame input = IsAtEnd input
IsOver _ input = ⊤

-- how often the reader has failed in a session that ends so
abbrev pub reading_failures : ServeEnd → ℕ
reading_failures ReadFailed = 1
reading_failures _ = 0

-- how often the writer has
abbrev pub writing_failures : ServeEnd → ℕ
writing_failures WriteFailed = 1
writing_failures _ = 0

-- how often, after a part of a session that may have ended it
abbrev pub failures_by : {E : Type 0} → (E → ℕ) → Result (Unit {0}) E → ℕ
failures_by count (Ok _) = 0
failures_by count (Err end) = count end

-- the end comes after bytes were read
abbrev pub IsLate : ServeEnd → Type 0
IsLate Oversized = ⊤
IsLate WriteFailed = ⊤
IsLate NoMemory = ⊤
IsLate _ = ⊥

-- what a reader of frames holds of a frame that isn't whole yet
abbrev pub begun_of : Option (List ℕ) → List ℕ
begun_of None = []
begun_of (Some begun) = begun

-- it goes on with less than a whole frame
abbrev pub IsBegun : Option (List ℕ) → Type 0
IsBegun None = ⊥
IsBegun (Some begun) = IsPartial begun

module _ {B C : Type 0} (steps : B → Request → ℕ → Reply → B → Type 0) (draws : C → ℕ → C → Type 0) where
  -- All items of the stream are answered, and all replies are written. The beginning of a frame is held.
  pub record Continues (begun stream : List ℕ) (held : Option (List ℕ)) (old : B) (before : C) (output : Option (List ℕ)) (new : B) (after : C) (output' : Option (List ℕ)) : Type 0 where
    pub rest : List ℕ
    pub is : held ≡ Some rest
    pub items : List (Item Request)
    pub reading : ReadsItems SpellsRequest (begun ++ stream) items (Some rest)
    pub answers : AnswersAll steps draws items old before output new after output'

  -- The items that the end says are answered, and the replies are written as far as it says.
  pub record Finishes (end : ServeEnd) (begun stream : List ℕ) (old : B) (before : C) (output : Option (List ℕ)) (new : B) (after : C) (output' : Option (List ℕ)) : Type 0 where
    pub items : List (Item Request)
    pub taken_up : TakenUp end begun stream items
    pub replies : List Reply
    pub answered : Answered steps draws items replies old before new after
    pub written : List ℕ
    pub wrote : Appends output output' written
    pub saying : SaidBy end replies written

  -- A session that goes on: it has read a stream, and answered it.
  pub record Goes (begun : List ℕ) (held : Option (List ℕ)) (old : B) (before : C) (input output : Option (List ℕ)) (new : B) (after : C) (input' output' : Option (List ℕ)) : Type 0 where
    pub stream : List ℕ
    pub read : Consumes input input' stream
    pub continues : Continues begun stream held old before output new after output'

  -- A session that has come to an end: it has read a stream, and taken up and answered its items in order. The
  -- beginning of a frame may have come before.
  pub record Serves (begun : List ℕ) (end : ServeEnd) (old : B) (before : C) (input output : Option (List ℕ)) (new : B) (after : C) (input' output' : Option (List ℕ)) : Type 0 where
    pub stream : List ℕ
    pub read : Consumes input input' stream
    pub over : IsOver end input'
    pub finishes : Finishes end begun stream old before output new after output'
