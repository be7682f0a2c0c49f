-- Parts of a session join whose replies go out in batches.
use Rattle.std.proofs.Common.{◌≡◌, ◌≢◌, take, ℕ, Bool, ◌<◌, List, [], ◌∷◌, ◌++◌, length, Option, Some, None, ◌⊎◌, inl, inr, refl, sym, ap, subst, arith, IfSome, MatchResult, Result, Ok, Err}
use Rattle.std.specs.Io.KnownBytes.{Consumes, Keeps, IsAtEnd}
use Rattle.std.proofs.KnownBytes.{Consumes-nil, Consumes-trans, Consumes-kept}
use Rattle.s4_types.specs.declared.requests.Request.{Request}
use Rattle.s4_types.specs.declared.replies.Reply.{Reply}
use Rattle.rpc.specs.declared.items.Item.{Item}
use Rattle.rpc.specs.Spelling.{SpellsRequest}
use Rattle.rpc.specs.Stream.{ReadsItems}
use Rattle.serving.specs.Session.{IsBegun, TakenUp, begun_of}
use Rattle.serving.proofs.SessionLemmas.{IsBreak-late, IsLate-over, ReadsItems-after, ReadsItems-held, ReadsItems-partial, TakenUp-after, TakenUp-break, fed, none_taken}
use Rattle.batch_serving.specs.Batches.{AllKept, Continues, Finishes, Goes, IsLate, LeftBy, Serves, serve_end_of}
use Rattle.batch_serving.specs.private.Holding.{StopsAmong}
use Rattle.batch_serving.specs.declared.ends.BatchEnd.{BatchEnd}
use Rattle.batch_serving.specs.declared.ends.BatchEnd.TheVariants.{Ended, CutFrame, Oversized, ReadFailed, NoMemory}
use Rattle.batch_serving.proofs.BatchLemmas.{AllKept-append, AllKept-nil, ComesTo-after, all_kept}

module _ {B C K : Type 0} (steps : B → Request → ℕ → Reply → B → Type 0) (draws : C → ℕ → C → Type 0) (waits : K → B → Bool → K → Type 0) where
  -- nothing is asked and nothing written
  Finishes-idle : (end : BatchEnd) (begun stream : List ℕ) (b : B) (c : C) (k : K) (o : Option (List ℕ)) → TakenUp (serve_end_of end) begun stream [] → LeftBy waits end [] b k o k o
      → Finishes steps draws waits end begun stream b c k o b c k o
  Finishes-idle end begun stream b c k o taken left =
      record { items = []; taken_up = taken; comes = all_kept steps draws waits end [] b b c c k k o o left (AllKept-nil steps draws waits b c k o) }

  -- the reader of frames had no memory for a piece
  pub unfed : (held : Option (List ℕ)) (piece : List ℕ) (b : B) (c : C) (k : K) (o : Option (List ℕ)) → IsBegun held → Finishes steps draws waits NoMemory (begun_of held) piece b c k o b c k o
  unfed held piece b c k o h = Finishes-idle NoMemory (begun_of held) piece b c k o (none_taken held piece h) (refl, refl)

  -- all items of a piece were answered, and an oversized length came
  pub oversized : (held new : Option (List ℕ)) (piece : List ℕ) (items : List (Item Request)) (b b' : B) (c c' : C) (k k' : K) (o o' : Option (List ℕ)) → IsBegun held
      → IfSome held (λ begun. ReadsItems SpellsRequest (begun ++ piece) items new) → new ≡ None → AllKept steps draws waits items b c k o b' c' k' o'
      → Finishes steps draws waits Oversized (begun_of held) piece b c k o b' c' k' o'
  oversized held new piece items b b' c c' k k' o o' begun items_are failed h =
      record {
        items = items;
        taken_up = subst (λ (e : Option (List ℕ)). ReadsItems SpellsRequest (begun_of held ++ piece) items e) failed (fed held new piece items begun items_are);
        comes = all_kept steps draws waits Oversized items b b' c c' k k' o o' (refl, refl, refl) h;
      }

  -- some items of a piece were answered
  pub stopped : (held new : Option (List ℕ)) (piece : List ℕ) (items : List (Item Request)) (end : BatchEnd) (b b' : B) (c c' : C) (k k' : K) (o o' : Option (List ℕ)) → IsBegun held
      → IfSome held (λ begun. ReadsItems SpellsRequest (begun ++ piece) items new) → StopsAmong steps draws waits end items b c k o b' c' k' o'
      → IsLate end × Finishes steps draws waits end (begun_of held) piece b c k o b' c' k' o'
  stopped held new piece items end b b' c c' k k' o o' begun items_are h = (
    IsBreak-late (serve_end_of end) h.broken,
    record {
      items = h.met;
      taken_up = TakenUp-break (serve_end_of end) (begun_of held) piece items h.met h.others new h.broken (fed held new piece items begun items_are) h.all;
      comes = h.comes;
    },
  )

  -- all items of a piece were answered, and the stream goes on
  pub went_on : (held new : Option (List ℕ)) (piece : List ℕ) (items : List (Item Request)) (b b' : B) (c c' : C) (k k' : K) (o o' : Option (List ℕ)) → IsBegun held
      → IfSome held (λ begun. ReadsItems SpellsRequest (begun ++ piece) items new) → (new ≡ None → ⊥) → AllKept steps draws waits items b c k o b' c' k' o'
      → Continues steps draws waits (begun_of held) piece new b c k o b' c' k' o'
  went_on held None piece items b b' c c' k k' o o' begun items_are more h = absurd (more refl)
  went_on held (Some rest) piece items b b' c c' k k' o o' begun items_are more h = record { rest = rest; is = refl; items = items; reading = fed held (Some rest) piece items begun items_are; kept = h }

  -- the reader failed
  pub read_failed : (held : Option (List ℕ)) (b : B) (c : C) (k : K) (i i' o : Option (List ℕ)) → IsBegun held → Keeps i i' → Serves steps draws waits (begun_of held) ReadFailed b c k i o b c k i' o
  read_failed held b c k i i' o h kept = record {
    stream = [];
    read = Consumes-kept i i i' [] (Consumes-nil i) kept;
    over = tt;
    finishes = Finishes-idle ReadFailed (begun_of held) [] b c k o (begun_of held, ReadsItems-held held h) (refl, refl, refl);
  }

  -- the input ended between two frames
  ended : (held : Option (List ℕ)) (b : B) (c : C) (k : K) (i i' o : Option (List ℕ)) → IsBegun held → held ≡ Some [] → Consumes i i' [] → IsAtEnd i'
      → Serves steps draws waits (begun_of held) Ended b c k i o b c k i' o
  ended held b c k i i' o h between read end = record {
    stream = [];
    read = read;
    over = end;
    finishes = Finishes-idle Ended (begun_of held) [] b c k o
        (subst (λ (x : List ℕ). ReadsItems SpellsRequest (begun_of held ++ []) [] (Some x)) (ap begun_of between) (ReadsItems-held held h)) (refl, refl, refl);
  }

  -- the input ended inside a frame
  cut : (held : Option (List ℕ)) (b : B) (c : C) (k : K) (i i' o : Option (List ℕ)) → IsBegun held → (held ≡ Some [] → ⊥) → Consumes i i' [] → IsAtEnd i'
      → Serves steps draws waits (begun_of held) CutFrame b c k i o b c k i' o
  cut None b c k i i' o h inside read end = absurd h
  cut (Some []) b c k i i' o h inside read end = absurd (inside refl)
  cut (Some (x ∷ xs)) b c k i i' o h inside read end = record {
    stream = [];
    read = read;
    over = end;
    finishes = Finishes-idle CutFrame (x ∷ xs) [] b c k o (x ∷ xs, ReadsItems-held (Some (x ∷ xs)) h, omega arith) (refl, refl, refl);
  }

  -- the input ended: a read gave nothing though there was room
  pub over : (end : BatchEnd) (held : Option (List ℕ)) (count : ℕ) (buffer : List ℕ) (b : B) (c : C) (k : K) (i i' o : Option (List ℕ)) → IsBegun held
      → ((end ≡ Ended) × (held ≡ Some [])) ⊎ ((end ≡ CutFrame) × (held ≢ Some [])) → count ≡ 0 → 0 < length buffer
      → Consumes i i' (take count buffer) × (count ≡ 0 → 0 < length buffer → IsAtEnd i') → Serves steps draws waits (begun_of held) end b c k i o b c k i' o
  over end held count buffer b c k i i' o h (inl is) none room read =
      subst (λ (e : BatchEnd). Serves steps draws waits (begun_of held) e b c k i o b c k i' o) (sym is.0)
      (ended held b c k i i' o h is.1 (subst (λ (n : ℕ). Consumes i i' (take n buffer)) none read.0) (read.1 none room))
  over end held count buffer b c k i i' o h (inr is) none room read =
      subst (λ (e : BatchEnd). Serves steps draws waits (begun_of held) e b c k i o b c k i' o) (sym is.0)
      (cut held b c k i i' o h is.1 (subst (λ (n : ℕ). Consumes i i' (take n buffer)) none read.0) (read.1 none room))

  -- a piece was answered
  pub piece_answered : (held held' : Option (List ℕ)) (piece : List ℕ) (r : Result (Unit {0}) BatchEnd) (b b' : B) (c c' : C) (k k' : K) (i i' o o' : Option (List ℕ)) → Consumes i i' piece
      → MatchResult r (λ _. Continues steps draws waits (begun_of held) piece held' b c k o b' c' k' o') (λ end. IsLate end × Finishes steps draws waits end (begun_of held) piece b c k o b' c' k' o')
      → MatchResult r (λ _. Goes steps draws waits (begun_of held) held' b c k i o b' c' k' i' o') (λ end. Serves steps draws waits (begun_of held) end b c k i o b' c' k' i' o')
  piece_answered held held' piece (Ok u) b b' c c' k k' i i' o o' read h = record { stream = piece; read = read; continues = h }
  piece_answered held held' piece (Err end) b b' c c' k k' i i' o o' read h = record { stream = piece; read = read; over = IsLate-over (serve_end_of end) i' h.0; finishes = h.1 }

  -- a session begins
  begins : (b : B) (c : C) (k : K) (i o : Option (List ℕ)) → Goes steps draws waits [] (Some []) b c k i o b c k i o
  begins b c k i o = record {
    stream = [];
    read = Consumes-nil i;
    continues = record { rest = []; is = refl; items = []; reading = (refl, λ h. absurd (omega arith)); kept = AllKept-nil steps draws waits b c k o };
  }

  -- it begins with a reader of frames that holds nothing
  pub begins_at : (held : Option (List ℕ)) (b : B) (c : C) (k : K) (i o : Option (List ℕ)) → held ≡ Some [] → Goes steps draws waits [] held b c k i o b c k i o
  begins_at held b c k i o is = subst (λ (h : Option (List ℕ)). Goes steps draws waits [] h b c k i o b c k i o) (sym is) (begins b c k i o)

  -- it doesn't begin for lack of memory
  pub unstarted : (b : B) (c : C) (k : K) (i o : Option (List ℕ)) → Serves steps draws waits [] NoMemory b c k i o b c k i o
  unstarted b c k i o = record { stream = []; read = Consumes-nil i; over = tt; finishes = unfed (Some []) [] b c k o (λ h. absurd (omega arith)) }

  pub begun_by : (begun : List ℕ) (held : Option (List ℕ)) (b b' : B) (c c' : C) (k k' : K) (i i' o o' : Option (List ℕ)) → Goes steps draws waits begun held b c k i o b' c' k' i' o' → IsBegun held
  begun_by begun held b b' c c' k k' i i' o o' h = subst IsBegun (sym h.continues.is) (ReadsItems-partial (begun ++ h.stream) h.continues.rest h.continues.items h.continues.reading)

  -- a session that went on goes on
  pub Goes-trans : (begun : List ℕ) (held held' : Option (List ℕ)) (b b' b'' : B) (c c' c'' : C) (k k' k'' : K) (i i' i'' o o' o'' : Option (List ℕ))
      → Goes steps draws waits begun held b c k i o b' c' k' i' o' → Goes steps draws waits (begun_of held) held' b' c' k' i' o' b'' c'' k'' i'' o'' → Goes steps draws waits begun held' b c k i o b'' c'' k'' i'' o''
  Goes-trans begun held held' b b' b'' c c' c'' k k' k'' i i' i'' o o' o'' h m =
      let first = h.continues in
      let second = m.continues in
      record {
        stream = h.stream ++ m.stream;
        read = Consumes-trans i i' i'' h.stream m.stream h.read m.read;
        continues = record {
          rest = second.rest;
          is = second.is;
          items = first.items ++ second.items;
          reading = ReadsItems-after begun h.stream m.stream first.rest held first.items second.items (Some second.rest) first.is first.reading second.reading;
          kept = AllKept-append steps draws waits first.items second.items b b' b'' c c' c'' k k' k'' o o' o'' first.kept second.kept;
        };
      }

  -- a session that went on comes to an end
  pub Goes-serves : (begun : List ℕ) (held : Option (List ℕ)) (end : BatchEnd) (b b' b'' : B) (c c' c'' : C) (k k' k'' : K) (i i' i'' o o' o'' : Option (List ℕ))
      → Goes steps draws waits begun held b c k i o b' c' k' i' o' → Serves steps draws waits (begun_of held) end b' c' k' i' o' b'' c'' k'' i'' o'' → Serves steps draws waits begun end b c k i o b'' c'' k'' i'' o''
  Goes-serves begun held end b b' b'' c c' c'' k k' k'' i i' i'' o o' o'' h m =
      let first = h.continues in
      let second = m.finishes in
      record {
        stream = h.stream ++ m.stream;
        read = Consumes-trans i i' i'' h.stream m.stream h.read m.read;
        over = m.over;
        finishes = record {
          items = first.items ++ second.items;
          taken_up = TakenUp-after (serve_end_of end) begun h.stream m.stream first.rest held first.items second.items first.is first.reading second.taken_up;
          comes = ComesTo-after steps draws waits end first.items second.items b b' b'' c c' c'' k k' k'' o o' o'' first.kept second.comes;
        };
      }
