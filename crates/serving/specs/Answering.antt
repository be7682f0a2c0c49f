-- What a backend answers to the items of a stream, and what of it is written.
use Rattle.std.specs.Prelude.{◌≡◌, ℕ, ◌≤◌, ⊤, List, [], ◌∷◌, ◌++◌, length, Option, Result, Ok, Err}
use Rattle.std.specs.List.{flat_map}
use Rattle.std.specs.Io.KnownBytes.{Appends, Keeps}
use Rattle.s4_types.specs.declared.requests.Request.{Request}
use Rattle.s4_types.specs.declared.replies.Reply.{Reply}
use Rattle.s4_types.specs.declared.replies.Reply.TheVariants.{Refused}
use Rattle.s4_types.specs.declared.refusals.Refusal.TheVariants as refusal
use Rattle.rpc.specs.declared.items.Item.{Item}
use Rattle.rpc.specs.declared.items.Item.TheVariants.{Whole, BadFrame}
use Rattle.rpc.specs.Spelling.{reply_spelling}
use Rattle.rpc.specs.Stream.{frame}
use Rattle.serving.specs.Drawing.{Drawn}
use Rattle.serving.specs.Streams.{AppendsPart}
use Rattle.serving.specs.declared.ends.ServeEnd.{ServeEnd}
use Rattle.serving.specs.declared.ends.ServeEnd.TheVariants.{WriteFailed, NoMemory}

-- the frame of a reply
abbrev pub reply_frame : Reply → List ℕ
reply_frame reply = frame (reply_spelling reply)

-- the frames of replies, one after the other
abbrev pub said : List Reply → List ℕ
said replies = flat_map reply_frame replies

-- Of the last reply a beginning is written, and all replies before it are written whole.
pub record SaidInPart (replies : List Reply) (written : List ℕ) : Type 0 where
  pub before : List Reply
  pub last : Reply
  pub all : replies ≡ before ++ (last ∷ [])
  pub part : List ℕ
  pub unsaid : List ℕ
  pub cut : reply_frame last ≡ part ++ unsaid
  pub bytes : written ≡ said before ++ part

-- All replies are written, or all but the last.
pub record SaidWhole (replies : List Reply) (written : List ℕ) : Type 0 where
  pub before : List Reply
  pub last : List Reply
  pub single : length last ≤ 1
  pub all : replies ≡ before ++ last
  pub bytes : written ≡ said before

-- what of the replies is written where a session comes to this end
abbrev pub SaidBy : ServeEnd → List Reply → List ℕ → Type 0
SaidBy WriteFailed replies written = SaidInPart replies written
SaidBy NoMemory replies written = SaidWhole replies written
SaidBy _ replies written = written ≡ said replies

-- what a writer has taken after one reply was to be written: all of its frame, a part where writing failed,
-- nothing where memory was short
abbrev pub Said : Option (List ℕ) → Option (List ℕ) → Reply → Result (Unit {0}) ServeEnd → Type 0
Said output output' reply (Ok _) = Appends output output' (reply_frame reply)
Said output output' reply (Err WriteFailed) = AppendsPart output output' (reply_frame reply)
Said output output' reply (Err NoMemory) = Keeps output output'
Said output output' reply (Err _) = ⊥

-- the end comes while replies are given
abbrev pub IsBreak : ServeEnd → Type 0
IsBreak WriteFailed = ⊤
IsBreak NoMemory = ⊤
IsBreak _ = ⊥

module _ {B C : Type 0} (steps : B → Request → ℕ → Reply → B → Type 0) (draws : C → ℕ → C → Type 0) where
  -- The backend answers an item. A request is given one moment. A bad frame is given none, and the backend
  -- isn't asked.
  abbrev pub Turn : Item Request → List ℕ → Reply → B → B → Type 0
  Turn (Whole request) moments reply old new = (now : ℕ) × (moments ≡ now ∷ []) × steps old request now reply new
  Turn BadFrame moments reply old new = (moments ≡ []) × (reply ≡ Refused refusal.BadFrame) × (new ≡ old)

  -- the backend answers the items in order, and each gets one reply
  abbrev pub Run : List (Item Request) → List ℕ → List Reply → B → B → Type 0
  Run [] moments replies old new = (moments ≡ []) × (replies ≡ []) × (new ≡ old)
  Run (item ∷ items) moments replies old new = (now : List ℕ) × (later : List ℕ) × (reply : Reply) × (others : List Reply) × (mid : B)
      × (moments ≡ now ++ later) × (replies ≡ reply ∷ others) × Turn item now reply old mid × Run items later others mid new

  -- The items are answered by these replies, at moments drawn from the clock, and nothing else is asked.
  pub record Answered (items : List (Item Request)) (replies : List Reply) (old : B) (before : C) (new : B) (after : C) : Type 0 where
    pub moments : List ℕ
    pub run : Run items moments replies old new
    pub drawn : Drawn draws before moments after

  -- The items are answered, and all replies are written.
  pub record AnswersAll (items : List (Item Request)) (old : B) (before : C) (output : Option (List ℕ)) (new : B) (after : C) (output' : Option (List ℕ)) : Type 0 where
    pub replies : List Reply
    pub answered : Answered items replies old before new after
    pub wrote : Appends output output' (said replies)

  -- Writing failed or memory was short. A beginning of the items is answered, and what the end says of the replies is written.
  pub record StopsAmong (items : List (Item Request)) (end : ServeEnd) (old : B) (before : C) (output : Option (List ℕ)) (new : B) (after : C) (output' : Option (List ℕ)) : Type 0 where
    pub broken : IsBreak end
    pub met : List (Item Request)
    pub others : List (Item Request)
    pub all : items ≡ met ++ others
    pub replies : List Reply
    pub answered : Answered met replies old before new after
    pub written : List ℕ
    pub wrote : Appends output output' written
    pub saying : SaidBy end replies written
