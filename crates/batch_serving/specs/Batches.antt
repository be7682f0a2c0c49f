-- What a session does whose replies go out in batches, each once what it shows is kept.
use Rattle.std.specs.Prelude.{◌≡◌, ℕ, ◌≤◌, ◌<◌, Bool, true, false, List, [], ◌∷◌, ◌++◌, length, Option, Some}
use Rattle.std.specs.List.{flat_map}
use Rattle.std.specs.Io.KnownBytes.{Appends, Consumes}
use Rattle.s4_types.specs.declared.requests.Request.{Request}
use Rattle.s4_types.specs.declared.replies.Reply.{Reply}
use Rattle.rpc.specs.declared.items.Item.{Item}
use Rattle.rpc.specs.Spelling.{SpellsRequest}
use Rattle.rpc.specs.Stream.{ReadsItems}
use Rattle.serving.specs.Answering.{Answered, said}
use Rattle.serving.specs.Session as session
use Rattle.serving.specs.Session.{IsOver, TakenUp}
use Rattle.serving.specs.Streams.{AppendsPart}
use Rattle.serving.specs.declared.ends.ServeEnd.{ServeEnd}
use Rattle.serving.specs.declared.ends.ServeEnd.TheVariants as serve_end
use Rattle.batch_serving.specs.declared.batches.TheConstants.{BATCH_BYTES}
use Rattle.batch_serving.specs.declared.ends.BatchEnd.{BatchEnd}
use Rattle.batch_serving.specs.declared.ends.BatchEnd.TheVariants.{Ended, CutFrame, Oversized, ReadFailed, WriteFailed, NotKept, NoMemory}

-- The end of a session of single replies whose items are taken up in the same way.
abbrev pub serve_end_of : BatchEnd → ServeEnd
serve_end_of Ended = serve_end.Ended
serve_end_of CutFrame = serve_end.CutFrame
serve_end_of Oversized = serve_end.Oversized
serve_end_of ReadFailed = serve_end.ReadFailed
serve_end_of WriteFailed = serve_end.WriteFailed
serve_end_of NotKept = serve_end.WriteFailed
serve_end_of NoMemory = serve_end.NoMemory

-- how often the reader has failed in a session that ends so
abbrev pub reading_failures : BatchEnd → ℕ
reading_failures end = session.reading_failures (serve_end_of end)

-- how often the writer has
abbrev pub writing_failures : BatchEnd → ℕ
writing_failures WriteFailed = 1
writing_failures _ = 0

-- the end comes after bytes were read
abbrev pub IsLate : BatchEnd → Type 0
IsLate end = session.IsLate (serve_end_of end)

-- The replies of one batch: all but the last have fewer bytes than replies that go out at once.
pub record IsSmall (replies : List Reply) : Type 0 where
  pub before : List Reply
  pub last : List Reply
  pub all : replies ≡ before ++ last
  pub single : length last ≤ 1
  pub few : length (said before) < BATCH_BYTES

module _ {B K : Type 0} (waits : K → B → Bool → K → Type 0) where
  -- What of the replies of the last batch is written where a session comes to this end: a part, where writing failed, after
  -- the wait for them; nothing, where the wait for them failed, or memory was short before it; and else there are none.
  abbrev pub LeftBy : BatchEnd → List ℕ → B → K → Option (List ℕ) → K → Option (List ℕ) → Type 0
  LeftBy WriteFailed bytes new from output to output' = waits from new true to × AppendsPart output output' bytes
  LeftBy NotKept bytes new from output to output' = waits from new false to × (output' ≡ output)
  LeftBy NoMemory bytes new from output to output' = (to ≡ from) × (output' ≡ output)
  LeftBy _ bytes new from output to output' = (bytes ≡ []) × (to ≡ from) × (output' ≡ output)

module _ {B C K : Type 0} (steps : B → Request → ℕ → Reply → B → Type 0) (draws : C → ℕ → C → Type 0) (waits : K → B → Bool → K → Type 0) where
  -- The items are answered, the wait for all of that ends well, and then the replies are written.
  pub record IsBatch (items : List (Item Request)) (old : B) (before : C) (from : K) (output : Option (List ℕ)) (new : B) (after : C) (to : K) (output' : Option (List ℕ)) : Type 0 where
    pub replies : List Reply
    pub answered : Answered steps draws items replies old before new after
    pub waited : waits from new true to
    pub wrote : Appends output output' (said replies)

  -- batches, one after the other
  abbrev pub AreBatches : List (List (Item Request)) → B → C → K → Option (List ℕ) → B → C → K → Option (List ℕ) → Type 0
  AreBatches [] old before from output new after to output' = (new ≡ old) × (after ≡ before) × (to ≡ from) × (output' ≡ output)
  AreBatches (items ∷ batches) old before from output new after to output' =
      (mid : B) × (drawn : C) × (waited : K) × (written : Option (List ℕ))
      × IsBatch items old before from output mid drawn waited written × AreBatches batches mid drawn waited written new after to output'

  -- The items are answered in batches, each of which is written once it is kept.
  pub record AllKept (items : List (Item Request)) (old : B) (before : C) (from : K) (output : Option (List ℕ)) (new : B) (after : C) (to : K) (output' : Option (List ℕ)) : Type 0 where
    pub batches : List (List (Item Request))
    pub all : items ≡ flat_map (λ batch. batch) batches
    pub run : AreBatches batches old before from output new after to output'

  -- A last batch is answered, and its replies are written as far as the end says.
  pub record IsLast (end : BatchEnd) (items : List (Item Request)) (old : B) (before : C) (from : K) (output : Option (List ℕ)) (new : B) (after : C) (to : K) (output' : Option (List ℕ)) : Type 0 where
    pub replies : List Reply
    pub answered : Answered steps draws items replies old before new after
    pub small : IsSmall replies
    pub left : LeftBy waits end (said replies) new from output to output'

  -- The items are answered in batches, each of which is written once it is kept, and a last batch as the end says.
  pub record ComesTo (end : BatchEnd) (items : List (Item Request)) (old : B) (before : C) (from : K) (output : Option (List ℕ)) (new : B) (after : C) (to : K) (output' : Option (List ℕ)) : Type 0 where
    pub kept : List (Item Request)
    pub last : List (Item Request)
    pub all : items ≡ kept ++ last
    pub mid : B
    pub drawn : C
    pub waited : K
    pub written : Option (List ℕ)
    pub whole : AllKept kept old before from output mid drawn waited written
    pub rest : IsLast end last mid drawn waited written new after to output'

  -- All items of the stream are answered, and all replies are written. The beginning of a frame is held.
  pub record Continues (begun stream : List ℕ) (held : Option (List ℕ)) (old : B) (before : C) (from : K) (output : Option (List ℕ)) (new : B) (after : C) (to : K) (output' : Option (List ℕ)) : Type 0 where
    pub rest : List ℕ
    pub is : held ≡ Some rest
    pub items : List (Item Request)
    pub reading : ReadsItems SpellsRequest (begun ++ stream) items (Some rest)
    pub kept : AllKept items old before from output new after to output'

  -- The items that the end says are answered, and the replies are written as far as it says.
  pub record Finishes (end : BatchEnd) (begun stream : List ℕ) (old : B) (before : C) (from : K) (output : Option (List ℕ)) (new : B) (after : C) (to : K) (output' : Option (List ℕ)) : Type 0 where
    pub items : List (Item Request)
    pub taken_up : TakenUp (serve_end_of end) begun stream items
    pub comes : ComesTo end items old before from output new after to output'

  -- A session that goes on: it has read a stream, and answered it.
  pub record Goes (begun : List ℕ) (held : Option (List ℕ)) (old : B) (before : C) (from : K) (input output : Option (List ℕ)) (new : B) (after : C) (to : K) (input' output' : Option (List ℕ)) : Type 0 where
    pub stream : List ℕ
    pub read : Consumes input input' stream
    pub continues : Continues begun stream held old before from output new after to output'

  -- A session that has come to an end: it has read a stream, and taken up and answered its items in order. The
  -- beginning of a frame may have come before.
  pub record Serves (begun : List ℕ) (end : BatchEnd) (old : B) (before : C) (from : K) (input output : Option (List ℕ)) (new : B) (after : C) (to : K) (input' output' : Option (List ℕ)) : Type 0 where
    pub stream : List ℕ
    pub read : Consumes input input' stream
    pub over : IsOver (serve_end_of end) input'
    pub finishes : Finishes end begun stream old before from output new after to output'
