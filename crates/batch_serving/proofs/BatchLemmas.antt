-- Batches join, and so do replies that are held and the batch that they become.
use Rattle.std.proofs.Common.{◌≡◌, ℕ, Bool, ◌<◌, ◌≤◌, List, [], ◌∷◌, ◌++◌, length, Option, Result, Ok, Err, ◌⊎◌, inl, inr, refl, sym, ap, ◌∙◌, subst, append_assoc, append-nil, lit≤, lit<, MatchResult}
use Rattle.std.proofs.lemmas.Grind.{flat_map-append}
use Rattle.std.specs.List.{flat_map}
use Rattle.std.specs.Io.KnownBytes.{Appends}
use Rattle.s4_types.specs.declared.requests.Request.{Request}
use Rattle.s4_types.specs.declared.replies.Reply.{Reply}
use Rattle.rpc.specs.declared.items.Item.{Item}
use Rattle.serving.specs.Drawing.{Drawn}
use Rattle.serving.specs.Answering.{Answered, reply_frame, said}
use Rattle.serving.proofs.AnsweringLemmas.{Answered-append, Answered-nil, said-append}
use Rattle.batch_serving.specs.Batches.{AllKept, AreBatches, ComesTo, IsBatch, IsSmall, LeftBy}
use Rattle.batch_serving.specs.private.Holding.{Adds, Breaks, Holds, IsWritten, NotWritten, StopsAmong}
use Rattle.batch_serving.specs.declared.batches.TheConstants.{BATCH_BYTES}
use Rattle.batch_serving.specs.declared.ends.BatchEnd.{BatchEnd}
use Rattle.batch_serving.specs.declared.ends.BatchEnd.TheVariants.{NoMemory}

cons_none : {X : Type 0} (x : X) (xs : List X) → x ∷ xs ≡ [] → ⊥
cons_none x xs h = absurd cc

-- each reply has bytes
nothing_said : (replies : List Reply) → said replies ≡ [] → replies ≡ []
nothing_said [] h = refl
nothing_said (reply ∷ replies) h = absurd (cons_none _ _ h)

pub said_more : (bytes : List ℕ) (replies : List Reply) (reply : Reply) → bytes ≡ said replies → bytes ++ reply_frame reply ≡ said (replies ++ reply ∷ [])
said_more bytes replies reply is =
    ap (λ x. x ++ reply_frame reply) is
    ∙ ap (λ x. said replies ++ x) (sym (append-nil (reply_frame reply)))
    ∙ sym (said-append replies (reply ∷ []))

none_few : (bytes : List ℕ) → bytes ≡ [] → length bytes < BATCH_BYTES
none_few bytes is = subst (λ (x : List ℕ). length x < BATCH_BYTES) (sym is) (lit< tt)

pub no_replies : IsSmall []
no_replies = record { before = []; last = []; all = refl; single = lit≤ tt; few = none_few [] refl }

small_with : (bytes : List ℕ) (replies last : List Reply) → length last ≤ 1 → bytes ≡ said replies → length bytes < BATCH_BYTES → IsSmall (replies ++ last)
small_with bytes replies last single is few =
    record { before = replies; last = last; all = refl; single = single; few = subst (λ (x : List ℕ). length x < BATCH_BYTES) is few }

module _ {B C K : Type 0} (steps : B → Request → ℕ → Reply → B → Type 0) (draws : C → ℕ → C → Type 0) (waits : K → B → Bool → K → Type 0) where
  -- where nothing is answered, nothing was asked
  answered_none : (items : List (Item Request)) (replies : List Reply) (b b' : B) (c c' : C) → replies ≡ [] → Answered steps draws items replies b c b' c'
      → (items ≡ []) × (b' ≡ b) × (c' ≡ c)
  answered_none [] replies b b' c c' none h = (refl, h.run.2, subst (λ (m : List ℕ). Drawn draws c m c') h.run.0 h.drawn)
  answered_none (item ∷ items) replies b b' c c' none h = absurd (cons_none _ _ (sym h.run.6 ∙ none))

  batches_at : (xs : List (List (Item Request))) (b b1 b2 : B) (c c1 c2 : C) (k k1 k2 : K) (o o1 o2 : Option (List ℕ)) → b2 ≡ b1 → c2 ≡ c1 → k2 ≡ k1 → o2 ≡ o1
      → AreBatches steps draws waits xs b c k o b1 c1 k1 o1 → AreBatches steps draws waits xs b c k o b2 c2 k2 o2
  batches_at xs b b1 b2 c c1 c2 k k1 k2 o o1 o2 eb ec ek eo h =
      let hb = subst (λ (x : B). AreBatches steps draws waits xs b c k o x c1 k1 o1) (sym eb) h in
      let hc = subst (λ (x : C). AreBatches steps draws waits xs b c k o b2 x k1 o1) (sym ec) hb in
      let hk = subst (λ (x : K). AreBatches steps draws waits xs b c k o b2 c2 x o1) (sym ek) hc in
      subst (λ (x : Option (List ℕ)). AreBatches steps draws waits xs b c k o b2 c2 k2 x) (sym eo) hk

  batches_from : (xs : List (List (Item Request))) (b b1 b2 : B) (c c1 c2 : C) (k k1 k2 : K) (o o1 o2 : Option (List ℕ)) → b1 ≡ b → c1 ≡ c → k1 ≡ k → o1 ≡ o
      → AreBatches steps draws waits xs b1 c1 k1 o1 b2 c2 k2 o2 → AreBatches steps draws waits xs b c k o b2 c2 k2 o2
  batches_from xs b b1 b2 c c1 c2 k k1 k2 o o1 o2 eb ec ek eo h =
      let hb = subst (λ (x : B). AreBatches steps draws waits xs x c1 k1 o1 b2 c2 k2 o2) eb h in
      let hc = subst (λ (x : C). AreBatches steps draws waits xs b x k1 o1 b2 c2 k2 o2) ec hb in
      let hk = subst (λ (x : K). AreBatches steps draws waits xs b c x o1 b2 c2 k2 o2) ek hc in
      subst (λ (x : Option (List ℕ)). AreBatches steps draws waits xs b c k x b2 c2 k2 o2) eo hk

  batches_append : (xs ys : List (List (Item Request))) (b b1 b2 : B) (c c1 c2 : C) (k k1 k2 : K) (o o1 o2 : Option (List ℕ))
      → AreBatches steps draws waits xs b c k o b1 c1 k1 o1 → AreBatches steps draws waits ys b1 c1 k1 o1 b2 c2 k2 o2 → AreBatches steps draws waits (xs ++ ys) b c k o b2 c2 k2 o2
  batches_append [] ys b b1 b2 c c1 c2 k k1 k2 o o1 o2 h m = batches_from ys b b1 b2 c c1 c2 k k1 k2 o o1 o2 h.0 h.1 h.2 h.3 m
  batches_append (x ∷ xs) ys b b1 b2 c c1 c2 k k1 k2 o o1 o2 h m =
      (h.0, h.1, h.2, h.3, h.4, batches_append xs ys h.0 b1 b2 h.1 c1 c2 h.2 k1 k2 h.3 o1 o2 h.5 m)

  pub AllKept-nil : (b : B) (c : C) (k : K) (o : Option (List ℕ)) → AllKept steps draws waits [] b c k o b c k o
  AllKept-nil b c k o = record { batches = []; all = refl; run = (refl, refl, refl, refl) }

  pub AllKept-append : (items others : List (Item Request)) (b b1 b2 : B) (c c1 c2 : C) (k k1 k2 : K) (o o1 o2 : Option (List ℕ))
      → AllKept steps draws waits items b c k o b1 c1 k1 o1 → AllKept steps draws waits others b1 c1 k1 o1 b2 c2 k2 o2 → AllKept steps draws waits (items ++ others) b c k o b2 c2 k2 o2
  AllKept-append items others b b1 b2 c c1 c2 k k1 k2 o o1 o2 h m = record {
    batches = h.batches ++ m.batches;
    all = ap (λ x. x ++ others) h.all
        ∙ ap (λ x. flat_map (λ (batch : List (Item Request)). batch) h.batches ++ x) m.all
        ∙ sym (flat_map-append (λ (batch : List (Item Request)). batch) h.batches m.batches);
    run = batches_append h.batches m.batches b b1 b2 c c1 c2 k k1 k2 o o1 o2 h.run m.run;
  }

  AllKept-one : (items : List (Item Request)) (b b1 : B) (c c1 : C) (k k1 : K) (o o1 : Option (List ℕ))
      → IsBatch steps draws waits items b c k o b1 c1 k1 o1 → AllKept steps draws waits items b c k o b1 c1 k1 o1
  AllKept-one items b b1 c c1 k k1 o o1 h = record { batches = items ∷ []; all = sym (append-nil items); run = (b1, c1, k1, o1, h, (refl, refl, refl, refl)) }

  -- nothing is left of the last batch
  pub all_kept : (end : BatchEnd) (items : List (Item Request)) (b b1 : B) (c c1 : C) (k k1 : K) (o o1 : Option (List ℕ))
      → LeftBy waits end [] b1 k1 o1 k1 o1 → AllKept steps draws waits items b c k o b1 c1 k1 o1 → ComesTo steps draws waits end items b c k o b1 c1 k1 o1
  all_kept end items b b1 c c1 k k1 o o1 left h = record {
    kept = items;
    last = [];
    all = sym (append-nil items);
    mid = b1;
    drawn = c1;
    waited = k1;
    written = o1;
    whole = h;
    rest = record { replies = []; answered = Answered-nil steps draws b1 c1; small = no_replies; left = left };
  }

  pub ComesTo-after : (end : BatchEnd) (items others : List (Item Request)) (b b1 b2 : B) (c c1 c2 : C) (k k1 k2 : K) (o o1 o2 : Option (List ℕ))
      → AllKept steps draws waits items b c k o b1 c1 k1 o1 → ComesTo steps draws waits end others b1 c1 k1 o1 b2 c2 k2 o2 → ComesTo steps draws waits end (items ++ others) b c k o b2 c2 k2 o2
  ComesTo-after end items others b b1 b2 c c1 c2 k k1 k2 o o1 o2 h m = record {
    kept = items ++ m.kept;
    last = m.last;
    all = ap (λ x. items ++ x) m.all ∙ sym (append_assoc items m.kept m.last);
    mid = m.mid;
    drawn = m.drawn;
    waited = m.waited;
    written = m.written;
    whole = AllKept-append items m.kept b b1 m.mid c c1 m.drawn k k1 m.waited o o1 m.written h m.whole;
    rest = m.rest;
  }

  pub holds_none : (bytes : List ℕ) (b : B) (c : C) (k : K) (o : Option (List ℕ)) → bytes ≡ [] → Holds steps draws waits [] b c k o b c k o bytes
  holds_none bytes b c k o is = record {
    kept = [];
    last = [];
    all = refl;
    mid = b;
    drawn = c;
    whole = AllKept-nil b c k o;
    replies = [];
    answered = Answered-nil steps draws b c;
    bytes = is;
    few = none_few bytes is;
  }

  -- more items are among those of which replies are held
  more_held : (items more : List (Item Request)) (held : List ℕ) (b b1 : B) (c c1 : C) (k k1 : K) (o o1 : Option (List ℕ))
      → (h : Holds steps draws waits items b c k o b1 c1 k1 o1 held) → items ++ more ≡ h.kept ++ (h.last ++ more)
  more_held items more held b b1 c c1 k k1 o o1 h = ap (λ x. x ++ more) h.all ∙ append_assoc h.kept h.last more

  held_by : (items : List (Item Request)) (item : Item Request) (reply : Reply) (held held' : List ℕ) (b b1 b2 : B) (c c1 c2 : C) (k k1 k2 : K) (o o1 o2 : Option (List ℕ))
      → Holds steps draws waits items b c k o b1 c1 k1 o1 held → Answered steps draws (item ∷ []) (reply ∷ []) b1 c1 b2 c2
      → ((held' ≡ held ++ reply_frame reply) × (length held' < BATCH_BYTES) × (k2 ≡ k1) × (o2 ≡ o1)) ⊎ ((held' ≡ []) × IsWritten waits (held ++ reply_frame reply) b2 k1 o1 k2 o2)
      → Holds steps draws waits (items ++ item ∷ []) b c k o b2 c2 k2 o2 held'
  held_by items item reply held held' b b1 b2 c c1 c2 k k1 k2 o o1 o2 h a (inl d) = record {
    kept = h.kept;
    last = h.last ++ item ∷ [];
    all = more_held items (item ∷ []) held b b1 c c1 k k1 o o1 h;
    mid = h.mid;
    drawn = h.drawn;
    whole = record {
      batches = h.whole.batches;
      all = h.whole.all;
      run = batches_at h.whole.batches b h.mid h.mid c h.drawn h.drawn k k1 k2 o o1 o2 refl refl d.2 d.3 h.whole.run;
    };
    replies = h.replies ++ reply ∷ [];
    answered = Answered-append steps draws h.last (item ∷ []) h.replies (reply ∷ []) h.mid b1 b2 h.drawn c1 c2 h.answered a;
    bytes = d.0 ∙ said_more held h.replies reply h.bytes;
    few = d.1;
  }
  held_by items item reply held held' b b1 b2 c c1 c2 k k1 k2 o o1 o2 h a (inr d) =
      let batch : IsBatch steps draws waits (h.last ++ item ∷ []) h.mid h.drawn k1 o1 b2 c2 k2 o2 = record {
        replies = h.replies ++ reply ∷ [];
        answered = Answered-append steps draws h.last (item ∷ []) h.replies (reply ∷ []) h.mid b1 b2 h.drawn c1 c2 h.answered a;
        waited = d.1.0;
        wrote = subst (Appends o1 o2) (said_more held h.replies reply h.bytes) d.1.1;
      } in
      record {
        kept = h.kept ++ (h.last ++ item ∷ []);
        last = [];
        all = more_held items (item ∷ []) held b b1 c c1 k k1 o o1 h ∙ sym (append-nil (h.kept ++ (h.last ++ item ∷ [])));
        mid = b2;
        drawn = c2;
        whole = AllKept-append h.kept (h.last ++ item ∷ []) b h.mid b2 c h.drawn c2 k k1 k2 o o1 o2 h.whole
            (AllKept-one (h.last ++ item ∷ []) h.mid b2 h.drawn c2 k1 k2 o1 o2 batch);
        replies = [];
        answered = Answered-nil steps draws b2 c2;
        bytes = d.0;
        few = none_few held' d.0;
      }

  pub holds_more : (items : List (Item Request)) (item : Item Request) (held held' : List ℕ) (b b1 b2 : B) (c c1 c2 : C) (k k1 k2 : K) (o o1 o2 : Option (List ℕ))
      → Holds steps draws waits items b c k o b1 c1 k1 o1 held → Adds steps draws waits item held held' b1 c1 k1 o1 b2 c2 k2 o2
      → Holds steps draws waits (items ++ item ∷ []) b c k o b2 c2 k2 o2 held'
  holds_more items item held held' b b1 b2 c c1 c2 k k1 k2 o o1 o2 h m = held_by items item m.reply held held' b b1 b2 c c1 c2 k k1 k2 o o1 o2 h m.answered m.done

  -- the replies that are held aren't written, nor is one to an item more
  held_left : (end : BatchEnd) (items more : List (Item Request)) (replies : List Reply) (held bytes : List ℕ) (b b1 b2 : B) (c c1 c2 : C) (k k1 k2 : K) (o o1 o2 : Option (List ℕ)) → length replies ≤ 1
      → (h : Holds steps draws waits items b c k o b1 c1 k1 o1 held) → Answered steps draws more replies b1 c1 b2 c2 → bytes ≡ said (h.replies ++ replies) → LeftBy waits end bytes b2 k1 o1 k2 o2
      → ComesTo steps draws waits end (items ++ more) b c k o b2 c2 k2 o2
  held_left end items more replies held bytes b b1 b2 c c1 c2 k k1 k2 o o1 o2 single h answered is left = record {
    kept = h.kept;
    last = h.last ++ more;
    all = more_held items more held b b1 c c1 k k1 o o1 h;
    mid = h.mid;
    drawn = h.drawn;
    waited = k1;
    written = o1;
    whole = h.whole;
    rest = record {
      replies = h.replies ++ replies;
      answered = Answered-append steps draws h.last more h.replies replies h.mid b1 b2 h.drawn c1 c2 h.answered answered;
      small = small_with held h.replies replies single h.bytes h.few;
      left = subst (λ (x : List ℕ). LeftBy waits end x b2 k1 o1 k2 o2) is left;
    };
  }

  -- the last item whose replies are held breaks the session
  pub holds_breaks : (end : BatchEnd) (all items later : List (Item Request)) (item : Item Request) (held : List ℕ) (b b1 b2 : B) (c c1 c2 : C) (k k1 k2 : K) (o o1 o2 : Option (List ℕ))
      → all ≡ items ++ (item ∷ later) → Holds steps draws waits items b c k o b1 c1 k1 o1 held → Breaks steps draws waits end item held b1 c1 k1 o1 b2 c2 k2 o2
      → StopsAmong steps draws waits end all b c k o b2 c2 k2 o2
  holds_breaks end all items later item held b b1 b2 c c1 c2 k k1 k2 o o1 o2 is h m = record {
    broken = m.unwritten.0;
    met = items ++ item ∷ [];
    others = later;
    all = is ∙ sym (append_assoc items (item ∷ []) later);
    comes = held_left end items (item ∷ []) (m.reply ∷ []) held _ b b1 b2 c c1 c2 k k1 k2 o o1 o2 (lit≤ tt) h m.answered (said_more held h.replies m.reply h.bytes) m.unwritten.1;
  }

  -- no replies are held
  pub none_held : (items : List (Item Request)) (held : List ℕ) (b b1 : B) (c c1 : C) (k k1 : K) (o o1 : Option (List ℕ)) → held ≡ []
      → Holds steps draws waits items b c k o b1 c1 k1 o1 held → AllKept steps draws waits items b c k o b1 c1 k1 o1
  none_held items held b b1 c c1 k k1 o o1 is h =
      let none = answered_none h.last h.replies h.mid b1 h.drawn c1 (nothing_said h.replies (sym h.bytes ∙ is)) h.answered in
      record {
        batches = h.whole.batches;
        all = h.all ∙ ap (λ x. h.kept ++ x) none.0 ∙ append-nil h.kept ∙ h.whole.all;
        run = batches_at h.whole.batches b h.mid b1 c h.drawn c1 k k1 k1 o o1 o1 none.1 none.2 refl refl h.whole.run;
      }

  -- what is held is written, or isn't
  pub held_written : (r : Result (Unit {0}) BatchEnd) (items : List (Item Request)) (held : List ℕ) (b b1 : B) (c c1 : C) (k k1 k2 : K) (o o1 o2 : Option (List ℕ))
      → Holds steps draws waits items b c k o b1 c1 k1 o1 held
      → MatchResult r (λ _. IsWritten waits held b1 k1 o1 k2 o2) (λ end. NotWritten waits end held b1 k1 o1 k2 o2)
      → MatchResult r (λ _. AllKept steps draws waits items b c k o b1 c1 k2 o2) (λ end. StopsAmong steps draws waits end items b c k o b1 c1 k2 o2)
  held_written (Ok u) items held b b1 c c1 k k1 k2 o o1 o2 h m =
      let batch : IsBatch steps draws waits h.last h.mid h.drawn k1 o1 b1 c1 k2 o2 =
      record { replies = h.replies; answered = h.answered; waited = m.0; wrote = subst (Appends o1 o2) h.bytes m.1 } in
      let joined = AllKept-append h.kept h.last b h.mid b1 c h.drawn c1 k k1 k2 o o1 o2 h.whole (AllKept-one h.last h.mid b1 h.drawn c1 k1 k2 o1 o2 batch) in
      record { batches = joined.batches; all = h.all ∙ joined.all; run = joined.run }
  held_written (Err end) items held b b1 c c1 k k1 k2 o o1 o2 h m = record {
    broken = m.0;
    met = items ++ [];
    others = [];
    all = sym (append-nil (items ++ []) ∙ append-nil items);
    comes = held_left end items [] [] held held b b1 b1 c c1 c1 k k1 k2 o o1 o2 (lit≤ tt) h (Answered-nil steps draws b1 c1) (h.bytes ∙ ap said (sym (append-nil h.replies))) m.1;
  }

  -- a reply is held with those before it
  pub adds : (item : Item Request) (reply : Reply) (held held' : List ℕ) (b b1 : B) (c c1 : C) (k : K) (o : Option (List ℕ))
      → Answered steps draws (item ∷ []) (reply ∷ []) b c b1 c1 → held' ≡ held ++ reply_frame reply → length held' < BATCH_BYTES
      → Adds steps draws waits item held held' b c k o b1 c1 k o
  adds item reply held held' b b1 c c1 k o a is few = record { reply = reply; answered = a; done = inl (is, few, refl, refl) }

  -- there is no memory for a reply
  pub unsaid : (item : Item Request) (reply : Reply) (held : List ℕ) (b b1 : B) (c c1 : C) (k : K) (o : Option (List ℕ))
      → Answered steps draws (item ∷ []) (reply ∷ []) b c b1 c1 → Breaks steps draws waits NoMemory item held b c k o b1 c1 k o
  unsaid item reply held b b1 c c1 k o a = record { reply = reply; answered = a; unwritten = (tt, (refl, refl)) }

  -- a reply is written with those before it, or isn't
  pub adds_or_breaks : (r : Result (Unit {0}) BatchEnd) (item : Item Request) (reply : Reply) (held bytes held' : List ℕ) (b b1 : B) (c c1 : C) (k k1 : K) (o o1 : Option (List ℕ))
      → Answered steps draws (item ∷ []) (reply ∷ []) b c b1 c1 → bytes ≡ held ++ reply_frame reply → held' ≡ []
      → MatchResult r (λ _. IsWritten waits bytes b1 k o k1 o1) (λ end. NotWritten waits end bytes b1 k o k1 o1)
      → MatchResult r (λ _. Adds steps draws waits item held held' b c k o b1 c1 k1 o1) (λ end. Breaks steps draws waits end item held b c k o b1 c1 k1 o1)
  adds_or_breaks (Ok u) item reply held bytes held' b b1 c c1 k k1 o o1 a is none h =
      record { reply = reply; answered = a; done = inr (none, subst (λ (x : List ℕ). IsWritten waits x b1 k o k1 o1) is h) }
  adds_or_breaks (Err end) item reply held bytes held' b b1 c c1 k k1 o o1 a is none h =
      record { reply = reply; answered = a; unwritten = (h.0, subst (λ (x : List ℕ). LeftBy waits end x b1 k o k1 o1) is h.1) }
