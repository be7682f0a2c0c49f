-- Parts of a session join.
use Rattle.std.proofs.Common.{◌≡◌, ◌≢◌, take, ℕ, ◌<◌, List, [], ◌∷◌, ◌++◌, length, Option, Some, None, ◌⊎◌, inl, inr, refl, sym, ap, ◌∙◌, subst, append_assoc, append-nil, arith, lit≤, IfSome, MatchResult, Result, Ok, Err}
use Rattle.std.specs.Io.KnownBytes.{Consumes, Keeps, IsAtEnd}
use Rattle.std.proofs.KnownBytes.{Appends-nil, Appends-trans, Consumes-nil, Consumes-trans, Consumes-kept}
use Rattle.s4_types.specs.declared.requests.Request.{Request}
use Rattle.s4_types.specs.declared.replies.Reply.{Reply}
use Rattle.rpc.specs.declared.items.Item.{Item}
use Rattle.rpc.specs.Spelling.{SpellsRequest}
use Rattle.rpc.specs.Stream.{IsPartial, ReadsItems, frame}
use Rattle.serving.specs.Answering.{AnswersAll, IsBreak, SaidBy, StopsAmong, said}
use Rattle.serving.specs.Session.{Continues, Finishes, Goes, IsBegun, IsLate, IsOver, Serves, TakenUp, begun_of}
use Rattle.serving.specs.declared.ends.ServeEnd.{ServeEnd}
use Rattle.serving.specs.declared.ends.ServeEnd.TheVariants.{Ended, CutFrame, Oversized, ReadFailed, WriteFailed, NoMemory}
use Rattle.serving.proofs.AnsweringLemmas.{Answered-append, Answered-nil, AnswersAll-append, AnswersAll-nil, SaidBy-behind}

-- what is left of a stream is less than a whole frame
pub ReadsItems-partial : (stream rest : List ℕ) (items : List (Item Request)) → ReadsItems SpellsRequest stream items (Some rest) → IsPartial rest
ReadsItems-partial stream rest [] h = h.1
ReadsItems-partial stream rest (item ∷ items) (inl h) = ReadsItems-partial h.1 rest items h.4
ReadsItems-partial stream rest (item ∷ items) (inr h) = let none : Some rest ≡ None = h.3 in absurd cc

-- a stream that goes on after what was left is read as the items so far and those after
ReadsItems-more : (stream piece rest : List ℕ) (items more : List (Item Request)) (end : Option (List ℕ))
    → ReadsItems SpellsRequest stream items (Some rest) → ReadsItems SpellsRequest (rest ++ piece) more end → ReadsItems SpellsRequest (stream ++ piece) (items ++ more) end
ReadsItems-more stream piece rest [] more end h k = subst (λ (s : List ℕ). ReadsItems SpellsRequest (s ++ piece) more end) (sym h.0) k
ReadsItems-more stream piece rest (item ∷ items) more end (inl h) k = inl (
  h.0,
  h.1 ++ piece,
  record { whole = ap (λ s. s ++ piece) h.2.whole ∙ append_assoc (frame h.0) h.1 piece; size = h.2.size },
  h.3,
  ReadsItems-more h.1 piece rest items more end h.4 k,
)
ReadsItems-more stream piece rest (item ∷ items) more end (inr h) k = let none : Some rest ≡ None = h.3 in absurd cc

-- the same for two pieces of a stream, where the beginning of a frame came before
ReadsItems-pieces : (begun first second rest : List ℕ) (items more : List (Item Request)) (end : Option (List ℕ))
    → ReadsItems SpellsRequest (begun ++ first) items (Some rest) → ReadsItems SpellsRequest (rest ++ second) more end → ReadsItems SpellsRequest (begun ++ (first ++ second)) (items ++ more) end
ReadsItems-pieces begun first second rest items more end h k =
    subst (λ (s : List ℕ). ReadsItems SpellsRequest s (items ++ more) end) (append_assoc begun first second) (ReadsItems-more (begun ++ first) second rest items more end h k)

-- the same, by what a reader of frames held between them
pub ReadsItems-after : (begun first second rest : List ℕ) (held : Option (List ℕ)) (items more : List (Item Request)) (end : Option (List ℕ)) → held ≡ Some rest
    → ReadsItems SpellsRequest (begun ++ first) items (Some rest) → ReadsItems SpellsRequest (begun_of held ++ second) more end → ReadsItems SpellsRequest (begun ++ (first ++ second)) (items ++ more) end
ReadsItems-after begun first second rest held items more end is h k =
    ReadsItems-pieces begun first second rest items more end h (subst (λ (x : List ℕ). ReadsItems SpellsRequest (x ++ second) more end) (ap begun_of is) k)

TakenUp-left : (end : ServeEnd) (begun first second rest : List ℕ) (items more others : List (Item Request)) (front unread : List ℕ) (e : Option (List ℕ)) → second ≡ front ++ unread
    → ReadsItems SpellsRequest (begun ++ first) items (Some rest) → ReadsItems SpellsRequest (rest ++ front) (more ++ others) e
    → (left : List (Item Request)) × (front' : List ℕ) × (unread' : List ℕ) × (e' : Option (List ℕ)) × (first ++ second ≡ front' ++ unread') × ReadsItems SpellsRequest (begun ++ front') ((items ++ more) ++ left) e'
TakenUp-left end begun first second rest items more others front unread e cut h k = (
  others,
  first ++ front,
  unread,
  e,
  ap (λ s. first ++ s) cut ∙ sym (append_assoc first front unread),
  subst (λ (is : List (Item Request)). ReadsItems SpellsRequest (begun ++ (first ++ front)) is e) (sym (append_assoc items more others)) (ReadsItems-pieces begun first front rest items (more ++ others) e h k),
)

-- what is taken up after items that were read
TakenUp-behind : (end : ServeEnd) (begun first second rest : List ℕ) (items more : List (Item Request))
    → ReadsItems SpellsRequest (begun ++ first) items (Some rest) → TakenUp end rest second more → TakenUp end begun (first ++ second) (items ++ more)
TakenUp-behind Ended begun first second rest items more h k = ReadsItems-pieces begun first second rest items more (Some []) h k
TakenUp-behind CutFrame begun first second rest items more h k = (k.0, ReadsItems-pieces begun first second rest items more (Some k.0) h k.1, k.2)
TakenUp-behind Oversized begun first second rest items more h k = ReadsItems-pieces begun first second rest items more None h k
TakenUp-behind ReadFailed begun first second rest items more h k = (k.0, ReadsItems-pieces begun first second rest items more (Some k.0) h k.1)
TakenUp-behind WriteFailed begun first second rest items more h k = TakenUp-left WriteFailed begun first second rest items more k.0 k.1 k.2 k.3 k.4 h k.5
TakenUp-behind NoMemory begun first second rest items more h k = TakenUp-left NoMemory begun first second rest items more k.0 k.1 k.2 k.3 k.4 h k.5

-- the same, by what a reader of frames held between them
pub TakenUp-after : (end : ServeEnd) (begun first second rest : List ℕ) (held : Option (List ℕ)) (items more : List (Item Request)) → held ≡ Some rest
    → ReadsItems SpellsRequest (begun ++ first) items (Some rest) → TakenUp end (begun_of held) second more → TakenUp end begun (first ++ second) (items ++ more)
TakenUp-after end begun first second rest held items more is h k =
    TakenUp-behind end begun first second rest items more h (subst (λ (x : List ℕ). TakenUp end x second more) (ap begun_of is) k)

-- the items of a stream that are met where the session breaks
pub TakenUp-break : (end : ServeEnd) (begun stream : List ℕ) (items met others : List (Item Request)) (e : Option (List ℕ))
    → IsBreak end → ReadsItems SpellsRequest (begun ++ stream) items e → items ≡ met ++ others → TakenUp end begun stream met
TakenUp-break WriteFailed begun stream items met others e b h cut = (others, stream, [], e, sym (append-nil stream), subst (λ (is : List (Item Request)). ReadsItems SpellsRequest (begun ++ stream) is e) cut h)
TakenUp-break NoMemory begun stream items met others e b h cut = (others, stream, [], e, sym (append-nil stream), subst (λ (is : List (Item Request)). ReadsItems SpellsRequest (begun ++ stream) is e) cut h)
TakenUp-break Ended begun stream items met others e b h cut = absurd b
TakenUp-break CutFrame begun stream items met others e b h cut = absurd b
TakenUp-break Oversized begun stream items met others e b h cut = absurd b
TakenUp-break ReadFailed begun stream items met others e b h cut = absurd b

-- no reply is given
idle_for_memory : SaidBy NoMemory [] []
idle_for_memory = record { before = []; last = []; single = lit≤ tt; all = refl; bytes = refl }

-- nothing is read after what is held of a frame
pub ReadsItems-held : (held : Option (List ℕ)) → IsBegun held → ReadsItems SpellsRequest (begun_of held ++ []) [] (Some (begun_of held))
ReadsItems-held None h = absurd h
ReadsItems-held (Some begun) h = (append-nil begun, h)

-- no item is taken up, of a stream that breaks off
pub none_taken : (held : Option (List ℕ)) (stream : List ℕ) → IsBegun held
    → (others : List (Item Request)) × (front : List ℕ) × (unread : List ℕ) × (e : Option (List ℕ)) × (stream ≡ front ++ unread) × ReadsItems SpellsRequest (begun_of held ++ front) ([] ++ others) e
none_taken held stream h = ([], [], stream, Some (begun_of held), refl, ReadsItems-held held h)

-- the reader of frames was fed a piece
pub fed : (held new : Option (List ℕ)) (piece : List ℕ) (items : List (Item Request)) → IsBegun held
    → IfSome held (λ begun. ReadsItems SpellsRequest (begun ++ piece) items new) → ReadsItems SpellsRequest (begun_of held ++ piece) items new
fed None new piece items h k = absurd h
fed (Some begun) new piece items h k = k

pub IsBreak-late : (end : ServeEnd) → IsBreak end → IsLate end
IsBreak-late Ended h = absurd h
IsBreak-late CutFrame h = absurd h
IsBreak-late Oversized h = absurd h
IsBreak-late ReadFailed h = absurd h
IsBreak-late WriteFailed h = tt
IsBreak-late NoMemory h = tt

pub IsLate-over : (end : ServeEnd) (input : Option (List ℕ)) → IsLate end → IsOver end input
IsLate-over Ended input h = absurd h
IsLate-over CutFrame input h = absurd h
IsLate-over Oversized input h = tt
IsLate-over ReadFailed input h = absurd h
IsLate-over WriteFailed input h = tt
IsLate-over NoMemory input h = tt

module _ {B C : Type 0} (steps : B → Request → ℕ → Reply → B → Type 0) (draws : C → ℕ → C → Type 0) where
  -- nothing is asked and nothing written
  Finishes-idle : (end : ServeEnd) (begun stream : List ℕ) (b : B) (c : C) (o : Option (List ℕ)) → TakenUp end begun stream [] → SaidBy end [] [] → Finishes steps draws end begun stream b c o b c o
  Finishes-idle end begun stream b c o taken saying = record {
    items = [];
    taken_up = taken;
    replies = [];
    answered = Answered-nil steps draws b c;
    written = [];
    wrote = Appends-nil o;
    saying = saying;
  }

  -- the reader of frames had no memory for a piece
  pub unfed : (held : Option (List ℕ)) (piece : List ℕ) (b : B) (c : C) (o : Option (List ℕ)) → IsBegun held → Finishes steps draws NoMemory (begun_of held) piece b c o b c o
  unfed held piece b c o h = Finishes-idle NoMemory (begun_of held) piece b c o (none_taken held piece h) idle_for_memory

  -- all items of a piece were answered, and an oversized length came
  pub oversized : (held new : Option (List ℕ)) (piece : List ℕ) (items : List (Item Request)) (b b' : B) (c c' : C) (o o' : Option (List ℕ)) → IsBegun held
      → IfSome held (λ begun. ReadsItems SpellsRequest (begun ++ piece) items new) → new ≡ None → AnswersAll steps draws items b c o b' c' o'
      → Finishes steps draws Oversized (begun_of held) piece b c o b' c' o'
  oversized held new piece items b b' c c' o o' begun items_are failed h =
      record {
        items = items;
        taken_up = subst (λ (e : Option (List ℕ)). ReadsItems SpellsRequest (begun_of held ++ piece) items e) failed (fed held new piece items begun items_are);
        replies = h.replies;
        answered = h.answered;
        written = said h.replies;
        wrote = h.wrote;
        saying = refl;
      }

  -- some items of a piece were answered
  pub stopped : (held new : Option (List ℕ)) (piece : List ℕ) (items : List (Item Request)) (end : ServeEnd) (b b' : B) (c c' : C) (o o' : Option (List ℕ)) → IsBegun held
      → IfSome held (λ begun. ReadsItems SpellsRequest (begun ++ piece) items new) → StopsAmong steps draws items end b c o b' c' o'
      → IsLate end × Finishes steps draws end (begun_of held) piece b c o b' c' o'
  stopped held new piece items end b b' c c' o o' begun items_are h = (
    IsBreak-late end h.broken,
    record {
      items = h.met;
      taken_up = TakenUp-break end (begun_of held) piece items h.met h.others new h.broken (fed held new piece items begun items_are) h.all;
      replies = h.replies;
      answered = h.answered;
      written = h.written;
      wrote = h.wrote;
      saying = h.saying;
    },
  )

  -- all items of a piece were answered, and the stream goes on
  pub went_on : (held new : Option (List ℕ)) (piece : List ℕ) (items : List (Item Request)) (b b' : B) (c c' : C) (o o' : Option (List ℕ)) → IsBegun held
      → IfSome held (λ begun. ReadsItems SpellsRequest (begun ++ piece) items new) → (new ≡ None → ⊥) → AnswersAll steps draws items b c o b' c' o'
      → Continues steps draws (begun_of held) piece new b c o b' c' o'
  went_on held None piece items b b' c c' o o' begun items_are more h = absurd (more refl)
  went_on held (Some rest) piece items b b' c c' o o' begun items_are more h = record { rest = rest; is = refl; items = items; reading = fed held (Some rest) piece items begun items_are; answers = h }

  -- the reader failed
  pub read_failed : (held : Option (List ℕ)) (b : B) (c : C) (i i' o : Option (List ℕ)) → IsBegun held → Keeps i i' → Serves steps draws (begun_of held) ReadFailed b c i o b c i' o
  read_failed held b c i i' o h kept = record {
    stream = [];
    read = Consumes-kept i i i' [] (Consumes-nil i) kept;
    over = tt;
    finishes = Finishes-idle ReadFailed (begun_of held) [] b c o (begun_of held, ReadsItems-held held h) refl;
  }

  -- the input ended between two frames
  pub ended : (held : Option (List ℕ)) (b : B) (c : C) (i i' o : Option (List ℕ)) → IsBegun held → held ≡ Some [] → Consumes i i' [] → IsAtEnd i'
      → Serves steps draws (begun_of held) Ended b c i o b c i' o
  ended held b c i i' o h between read end = record {
    stream = [];
    read = read;
    over = end;
    finishes = Finishes-idle Ended (begun_of held) [] b c o (subst (λ (x : List ℕ). ReadsItems SpellsRequest (begun_of held ++ []) [] (Some x)) (ap begun_of between) (ReadsItems-held held h)) refl;
  }

  -- the input ended inside a frame
  pub cut : (held : Option (List ℕ)) (b : B) (c : C) (i i' o : Option (List ℕ)) → IsBegun held → (held ≡ Some [] → ⊥) → Consumes i i' [] → IsAtEnd i'
      → Serves steps draws (begun_of held) CutFrame b c i o b c i' o
  cut None b c i i' o h inside read end = absurd h
  cut (Some []) b c i i' o h inside read end = absurd (inside refl)
  cut (Some (x ∷ xs)) b c i i' o h inside read end = record {
    stream = [];
    read = read;
    over = end;
    finishes = Finishes-idle CutFrame (x ∷ xs) [] b c o (x ∷ xs, ReadsItems-held (Some (x ∷ xs)) h, omega arith) refl;
  }

  -- the input ended: a read gave nothing though there was room
  pub over : (end : ServeEnd) (held : Option (List ℕ)) (count : ℕ) (buffer : List ℕ) (b : B) (c : C) (i i' o : Option (List ℕ)) → IsBegun held
      → ((end ≡ Ended) × (held ≡ Some [])) ⊎ ((end ≡ CutFrame) × (held ≢ Some [])) → count ≡ 0 → 0 < length buffer
      → Consumes i i' (take count buffer) × (count ≡ 0 → 0 < length buffer → IsAtEnd i') → Serves steps draws (begun_of held) end b c i o b c i' o
  over end held count buffer b c i i' o h (inl is) none room read =
      subst (λ (e : ServeEnd). Serves steps draws (begun_of held) e b c i o b c i' o) (sym is.0)
      (ended held b c i i' o h is.1 (subst (λ (n : ℕ). Consumes i i' (take n buffer)) none read.0) (read.1 none room))
  over end held count buffer b c i i' o h (inr is) none room read =
      subst (λ (e : ServeEnd). Serves steps draws (begun_of held) e b c i o b c i' o) (sym is.0)
      (cut held b c i i' o h is.1 (subst (λ (n : ℕ). Consumes i i' (take n buffer)) none read.0) (read.1 none room))

  -- a piece was answered
  pub piece_answered : (held held' : Option (List ℕ)) (piece : List ℕ) (r : Result (Unit {0}) ServeEnd) (b b' : B) (c c' : C) (i i' o o' : Option (List ℕ)) → Consumes i i' piece
      → MatchResult r (λ _. Continues steps draws (begun_of held) piece held' b c o b' c' o') (λ end. IsLate end × Finishes steps draws end (begun_of held) piece b c o b' c' o')
      → MatchResult r (λ _. Goes steps draws (begun_of held) held' b c i o b' c' i' o') (λ end. Serves steps draws (begun_of held) end b c i o b' c' i' o')
  piece_answered held held' piece (Ok u) b b' c c' i i' o o' read h = record { stream = piece; read = read; continues = h }
  piece_answered held held' piece (Err end) b b' c c' i i' o o' read h = record { stream = piece; read = read; over = IsLate-over end i' h.0; finishes = h.1 }

  -- a session begins
  pub begins : (b : B) (c : C) (i o : Option (List ℕ)) → Goes steps draws [] (Some []) b c i o b c i o
  begins b c i o = record {
    stream = [];
    read = Consumes-nil i;
    continues = record { rest = []; is = refl; items = []; reading = (refl, λ h. absurd (omega arith)); answers = AnswersAll-nil steps draws b c o };
  }

  -- it begins with a reader of frames that holds nothing
  pub begins_at : (held : Option (List ℕ)) (b : B) (c : C) (i o : Option (List ℕ)) → held ≡ Some [] → Goes steps draws [] held b c i o b c i o
  begins_at held b c i o is = subst (λ (h : Option (List ℕ)). Goes steps draws [] h b c i o b c i o) (sym is) (begins b c i o)

  -- it doesn't begin for lack of memory
  pub unstarted : (b : B) (c : C) (i o : Option (List ℕ)) → Serves steps draws [] NoMemory b c i o b c i o
  unstarted b c i o = record { stream = []; read = Consumes-nil i; over = tt; finishes = unfed (Some []) [] b c o (λ h. absurd (omega arith)) }

  pub begun_by : (begun : List ℕ) (held : Option (List ℕ)) (b b' : B) (c c' : C) (i i' o o' : Option (List ℕ)) → Goes steps draws begun held b c i o b' c' i' o' → IsBegun held
  begun_by begun held b b' c c' i i' o o' h = subst IsBegun (sym h.continues.is) (ReadsItems-partial (begun ++ h.stream) h.continues.rest h.continues.items h.continues.reading)

  -- a session that went on goes on
  pub Goes-trans : (begun : List ℕ) (held held' : Option (List ℕ)) (b b' b'' : B) (c c' c'' : C) (i i' i'' o o' o'' : Option (List ℕ))
      → Goes steps draws begun held b c i o b' c' i' o' → Goes steps draws (begun_of held) held' b' c' i' o' b'' c'' i'' o'' → Goes steps draws begun held' b c i o b'' c'' i'' o''
  Goes-trans begun held held' b b' b'' c c' c'' i i' i'' o o' o'' h k =
      let first = h.continues in
      let second = k.continues in
      record {
        stream = h.stream ++ k.stream;
        read = Consumes-trans i i' i'' h.stream k.stream h.read k.read;
        continues = record {
          rest = second.rest;
          is = second.is;
          items = first.items ++ second.items;
          reading = ReadsItems-after begun h.stream k.stream first.rest held first.items second.items (Some second.rest) first.is first.reading second.reading;
          answers = AnswersAll-append steps draws first.items second.items b b' b'' c c' c'' o o' o'' first.answers second.answers;
        };
      }

  -- a session that went on comes to an end
  pub Goes-serves : (begun : List ℕ) (held : Option (List ℕ)) (end : ServeEnd) (b b' b'' : B) (c c' c'' : C) (i i' i'' o o' o'' : Option (List ℕ))
      → Goes steps draws begun held b c i o b' c' i' o' → Serves steps draws (begun_of held) end b' c' i' o' b'' c'' i'' o'' → Serves steps draws begun end b c i o b'' c'' i'' o''
  Goes-serves begun held end b b' b'' c c' c'' i i' i'' o o' o'' h k =
      let first = h.continues in
      let second = k.finishes in
      record {
        stream = h.stream ++ k.stream;
        read = Consumes-trans i i' i'' h.stream k.stream h.read k.read;
        over = k.over;
        finishes = record {
          items = first.items ++ second.items;
          taken_up = TakenUp-after end begun h.stream k.stream first.rest held first.items second.items first.is first.reading second.taken_up;
          replies = first.answers.replies ++ second.replies;
          answered = Answered-append steps draws first.items second.items first.answers.replies second.replies b b' b'' c c' c'' first.answers.answered second.answered;
          written = said first.answers.replies ++ second.written;
          wrote = Appends-trans o o' o'' _ _ first.answers.wrote second.wrote;
          saying = SaidBy-behind end first.answers.replies second.replies second.written second.saying;
        };
      }
