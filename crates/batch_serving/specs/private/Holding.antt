-- Replies that are held until their batch is written.
use Rattle.std.specs.Prelude.{◌≡◌, ℕ, ◌<◌, ◌⊎◌, Bool, true, List, [], ◌∷◌, ◌++◌, length, Option}
use Rattle.std.specs.Io.KnownBytes.{Appends}
use Rattle.s4_types.specs.declared.requests.Request.{Request}
use Rattle.s4_types.specs.declared.replies.Reply.{Reply}
use Rattle.rpc.specs.declared.items.Item.{Item}
use Rattle.serving.specs.Answering.{Answered, IsBreak, reply_frame, said}
use Rattle.batch_serving.specs.Batches.{AllKept, ComesTo, LeftBy, serve_end_of}
use Rattle.batch_serving.specs.declared.batches.TheConstants.{BATCH_BYTES}
use Rattle.batch_serving.specs.declared.ends.BatchEnd.{BatchEnd}

module _ {B K : Type 0} (waits : K → B → Bool → K → Type 0) where
  -- it was waited for the backend, and then the bytes were written
  abbrev pub IsWritten : List ℕ → B → K → Option (List ℕ) → K → Option (List ℕ) → Type 0
  IsWritten bytes new from output to output' = waits from new true to × Appends output output' bytes

  -- the wait for the backend failed, or writing did
  abbrev pub NotWritten : BatchEnd → List ℕ → B → K → Option (List ℕ) → K → Option (List ℕ) → Type 0
  NotWritten end bytes new from output to output' = IsBreak (serve_end_of end) × LeftBy waits end bytes new from output to output'

module _ {B C K : Type 0} (steps : B → Request → ℕ → Reply → B → Type 0) (draws : C → ℕ → C → Type 0) (waits : K → B → Bool → K → Type 0) where
  -- One more item is answered. Its reply is held with those before it, which are few, or all of them are written.
  pub record Adds (item : Item Request) (held held' : List ℕ) (old : B) (before : C) (from : K) (output : Option (List ℕ)) (new : B) (after : C) (to : K) (output' : Option (List ℕ)) : Type 0 where
    pub reply : Reply
    pub answered : Answered steps draws (item ∷ []) (reply ∷ []) old before new after
    pub done : ((held' ≡ held ++ reply_frame reply) × (length held' < BATCH_BYTES) × (to ≡ from) × (output' ≡ output))
        ⊎ ((held' ≡ []) × IsWritten waits (held ++ reply_frame reply) new from output to output')

  -- One more item is answered, and what is held and its reply aren't written.
  pub record Breaks (end : BatchEnd) (item : Item Request) (held : List ℕ) (old : B) (before : C) (from : K) (output : Option (List ℕ)) (new : B) (after : C) (to : K) (output' : Option (List ℕ)) : Type 0 where
    pub reply : Reply
    pub answered : Answered steps draws (item ∷ []) (reply ∷ []) old before new after
    pub unwritten : NotWritten waits end (held ++ reply_frame reply) new from output to output'

  -- The items are answered. Some replies were written in batches, and those to the last items are held.
  pub record Holds (items : List (Item Request)) (old : B) (before : C) (from : K) (output : Option (List ℕ)) (new : B) (after : C) (to : K) (output' : Option (List ℕ)) (held : List ℕ) : Type 0 where
    pub kept : List (Item Request)
    pub last : List (Item Request)
    pub all : items ≡ kept ++ last
    pub mid : B
    pub drawn : C
    pub whole : AllKept steps draws waits kept old before from output mid drawn to output'
    pub replies : List Reply
    pub answered : Answered steps draws last replies mid drawn new after
    pub bytes : held ≡ said replies
    pub few : length held < BATCH_BYTES

  -- A beginning of the items is answered, and the session comes to this end among them.
  pub record StopsAmong (end : BatchEnd) (items : List (Item Request)) (old : B) (before : C) (from : K) (output : Option (List ℕ)) (new : B) (after : C) (to : K) (output' : Option (List ℕ)) : Type 0 where
    pub broken : IsBreak (serve_end_of end)
    pub met : List (Item Request)
    pub others : List (Item Request)
    pub all : items ≡ met ++ others
    pub comes : ComesTo steps draws waits end met old before from output new after to output'
