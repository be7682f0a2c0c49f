-- Runs of a backend join, and so do what is written of their replies.
use Rattle.std.proofs.Common.{◌≡◌, ℕ, List, [], ◌∷◌, ◌++◌, length, Option, Some, Result, Ok, Err, refl, sym, ap, ◌∙◌, subst, append_assoc, append-nil, lit≤, MatchResult, drop, suc, drop-cons, take-append-drop, ap₂}
use Rattle.std.specs.Iterator.{Yields}
use Rattle.std.specs.Vec.Iter.{into_iter_items, into_iter_len, into_iter_steps}
use Rattle.std.specs.declared.vec.IntoIter.{IntoIter}
use Rattle.std.proofs.lemmas.Iterator.Adapters.{YieldsList-from_vec}
use Rattle.std.proofs.lemmas.Iterator.Consumers.{YieldsList-so_far, YieldsList-turn}
use Rattle.std.proofs.lemmas.Grind.{flat_map-append}
use Rattle.std.specs.Io.KnownBytes.{Appends}
use Rattle.std.proofs.KnownBytes.{Appends-nil, Appends-trans, Appends-kept}
use Rattle.std.proofs.lemmas.List.{map-id}
use Rattle.s4_types.specs.declared.requests.Request.{Request}
use Rattle.s4_types.specs.declared.replies.Reply.{Reply}
use Rattle.s4_types.specs.declared.replies.Reply.TheVariants.{Refused}
use Rattle.s4_types.specs.declared.refusals.Refusal.TheVariants as refusal
use Rattle.rpc.specs.declared.items.Item.{Item}
use Rattle.rpc.specs.declared.items.Item.TheVariants.{Whole, BadFrame}
use Rattle.serving.specs.Drawing.{Drawn}
use Rattle.serving.specs.Answering.{Answered, AnswersAll, IsBreak, Run, Said, SaidBy, StopsAmong, reply_frame, said}
use Rattle.serving.specs.declared.ends.ServeEnd.{ServeEnd}
use Rattle.serving.specs.declared.ends.ServeEnd.TheVariants.{Ended, CutFrame, Oversized, ReadFailed, WriteFailed, NoMemory}

pub said-append : (xs ys : List Reply) → said (xs ++ ys) ≡ said xs ++ said ys
said-append xs ys = flat_map-append reply_frame xs ys

-- what an end says of replies, it says of them after others that are written
pub SaidBy-behind : (end : ServeEnd) (first replies : List Reply) (written : List ℕ) → SaidBy end replies written → SaidBy end (first ++ replies) (said first ++ written)
SaidBy-behind Ended first replies written h = ap (λ w. said first ++ w) h ∙ sym (said-append first replies)
SaidBy-behind CutFrame first replies written h = ap (λ w. said first ++ w) h ∙ sym (said-append first replies)
SaidBy-behind Oversized first replies written h = ap (λ w. said first ++ w) h ∙ sym (said-append first replies)
SaidBy-behind ReadFailed first replies written h = ap (λ w. said first ++ w) h ∙ sym (said-append first replies)
SaidBy-behind WriteFailed first replies written h = record {
  before = first ++ h.before;
  last = h.last;
  all = ap (λ r. first ++ r) h.all ∙ sym (append_assoc first h.before (h.last ∷ []));
  part = h.part;
  unsaid = h.unsaid;
  cut = h.cut;
  bytes = ap (λ w. said first ++ w) h.bytes ∙ sym (append_assoc (said first) (said h.before) h.part) ∙ ap (λ w. w ++ h.part) (sym (said-append first h.before));
}
SaidBy-behind NoMemory first replies written h = record {
  before = first ++ h.before;
  last = h.last;
  single = h.single;
  all = ap (λ r. first ++ r) h.all ∙ sym (append_assoc first h.before h.last);
  bytes = ap (λ w. said first ++ w) h.bytes ∙ sym (said-append first h.before);
}

module _ {B C : Type 0} (steps : B → Request → ℕ → Reply → B → Type 0) (draws : C → ℕ → C → Type 0) where
  Drawn-append : (xs ys : List ℕ) (a b c : C) → Drawn draws a xs b → Drawn draws b ys c → Drawn draws a (xs ++ ys) c
  Drawn-append [] ys a b c p q = subst (λ (s : C). Drawn draws s ys c) p q
  Drawn-append (x ∷ xs) ys a b c p q = (p.0, p.1, Drawn-append xs ys p.0 b c p.2 q)

  Run-append : (items others : List (Item Request)) (xs ys : List ℕ) (replies more : List Reply) (a b c : B)
      → Run steps draws items xs replies a b → Run steps draws others ys more b c → Run steps draws (items ++ others) (xs ++ ys) (replies ++ more) a c
  Run-append [] others xs ys replies more a b c h k =
      let from = subst (λ (s : B). Run steps draws others ys more s c) h.2 k in
      let at = subst (λ (x : List ℕ). Run steps draws others (x ++ ys) more a c) (sym h.0) from in
      subst (λ (x : List Reply). Run steps draws others (xs ++ ys) (x ++ more) a c) (sym h.1) at
  Run-append (item ∷ items) others xs ys replies more a b c h k = (
    h.0,
    h.1 ++ ys,
    h.2,
    h.3 ++ more,
    h.4,
    ap (λ x. x ++ ys) h.5 ∙ append_assoc h.0 h.1 ys,
    ap (λ r. r ++ more) h.6,
    h.7,
    Run-append items others h.1 ys h.3 more h.4 b c h.8 k,
  )

  pub Answered-nil : (b : B) (c : C) → Answered steps draws [] [] b c b c
  Answered-nil b c = record { moments = []; run = (refl, refl, refl); drawn = refl }

  pub Answered-append : (items others : List (Item Request)) (replies more : List Reply) (b b' b'' : B) (c c' c'' : C)
      → Answered steps draws items replies b c b' c' → Answered steps draws others more b' c' b'' c'' → Answered steps draws (items ++ others) (replies ++ more) b c b'' c''
  Answered-append items others replies more b b' b'' c c' c'' h k = record {
    moments = h.moments ++ k.moments;
    run = Run-append items others h.moments k.moments replies more b b' b'' h.run k.run;
    drawn = Drawn-append h.moments k.moments c c' c'' h.drawn k.drawn;
  }

  -- a request is answered at the moment that was drawn
  pub asked : (item : Item Request) (request : Request) (now : ℕ) (reply : Reply) (b b' : B) (c c' : C)
      → item ≡ Whole request → draws c now c' → steps b request now reply b' → Answered steps draws (item ∷ []) (reply ∷ []) b c b' c'
  asked item request now reply b b' c c' is drawn step =
      subst (λ (i : Item Request). Answered steps draws (i ∷ []) (reply ∷ []) b c b' c') (sym is)
      (record { moments = now ∷ []; run = (now ∷ [], [], reply, [], b', refl, refl, (now, refl, step), (refl, refl, refl)); drawn = (c', drawn, refl) })

  -- a bad frame is answered by nobody
  pub unasked : (item : Item Request) (b : B) (c : C) → item ≡ BadFrame → Answered steps draws (item ∷ []) (Refused refusal.BadFrame ∷ []) b c b c
  unasked item b c is =
      subst (λ (i : Item Request). Answered steps draws (i ∷ []) (Refused refusal.BadFrame ∷ []) b c b c) (sym is)
      (record { moments = []; run = ([], [], Refused refusal.BadFrame, [], b, refl, refl, (refl, refl, refl), (refl, refl, refl)); drawn = refl })

  pub AnswersAll-nil : (b : B) (c : C) (output : Option (List ℕ)) → AnswersAll steps draws [] b c output b c output
  AnswersAll-nil b c output = record { replies = []; answered = Answered-nil b c; wrote = Appends-nil output }

  pub AnswersAll-append : (items others : List (Item Request)) (b b' b'' : B) (c c' c'' : C) (o o' o'' : Option (List ℕ))
      → AnswersAll steps draws items b c o b' c' o' → AnswersAll steps draws others b' c' o' b'' c'' o'' → AnswersAll steps draws (items ++ others) b c o b'' c'' o''
  AnswersAll-append items others b b' b'' c c' c'' o o' o'' h k = record {
    replies = h.replies ++ k.replies;
    answered = Answered-append items others h.replies k.replies b b' b'' c c' c'' h.answered k.answered;
    wrote = subst (Appends o o'') (sym (said-append h.replies k.replies)) (Appends-trans o o' o'' _ _ h.wrote k.wrote);
  }

  -- the items after those that are answered are stopped among
  pub StopsAmong-behind : (items others : List (Item Request)) (end : ServeEnd) (b b' b'' : B) (c c' c'' : C) (o o' o'' : Option (List ℕ))
      → AnswersAll steps draws items b c o b' c' o' → StopsAmong steps draws others end b' c' o' b'' c'' o'' → StopsAmong steps draws (items ++ others) end b c o b'' c'' o''
  StopsAmong-behind items others end b b' b'' c c' c'' o o' o'' h k = record {
    broken = k.broken;
    met = items ++ k.met;
    others = k.others;
    all = ap (λ x. items ++ x) k.all ∙ sym (append_assoc items k.met k.others);
    replies = h.replies ++ k.replies;
    answered = Answered-append items k.met h.replies k.replies b b' b'' c c' c'' h.answered k.answered;
    written = said h.replies ++ k.written;
    wrote = Appends-trans o o' o'' _ _ h.wrote k.wrote;
    saying = SaidBy-behind end h.replies k.replies k.written k.saying;
  }

  -- items that come later change nothing
  pub StopsAmong-before : (items others : List (Item Request)) (end : ServeEnd) (b b' : B) (c c' : C) (o o' : Option (List ℕ))
      → StopsAmong steps draws items end b c o b' c' o' → StopsAmong steps draws (items ++ others) end b c o b' c' o'
  StopsAmong-before items others end b b' c c' o o' k = record {
    broken = k.broken;
    met = k.met;
    others = k.others ++ others;
    all = ap (λ x. x ++ others) k.all ∙ append_assoc k.met k.others others;
    replies = k.replies;
    answered = k.answered;
    written = k.written;
    wrote = k.wrote;
    saying = k.saying;
  }

  -- the session breaks at one item
  stops_at : (item : Item Request) (reply : Reply) (end : ServeEnd) (b b' : B) (c c' : C) (o o' : Option (List ℕ)) (written : List ℕ) → IsBreak end
      → Answered steps draws (item ∷ []) (reply ∷ []) b c b' c' → Appends o o' written → SaidBy end (reply ∷ []) written → StopsAmong steps draws (item ∷ []) end b c o b' c' o'
  stops_at item reply end b b' c c' o o' written broken answered wrote saying = record {
    broken = broken;
    met = item ∷ [];
    others = [];
    all = refl;
    replies = reply ∷ [];
    answered = answered;
    written = written;
    wrote = wrote;
    saying = saying;
  }

  -- one item is answered, and its reply written as far as the writing goes
  pub one_item : (item : Item Request) (reply : Reply) (b b' : B) (c c' : C) (o o' : Option (List ℕ)) (r : Result (Unit {0}) ServeEnd)
      → Answered steps draws (item ∷ []) (reply ∷ []) b c b' c' → Said o o' reply r
      → MatchResult r (λ _. AnswersAll steps draws (item ∷ []) b c o b' c' o') (λ end. StopsAmong steps draws (item ∷ []) end b c o b' c' o')
  one_item item reply b b' c c' o o' (Ok u) answered h = record {
    replies = reply ∷ [];
    answered = answered;
    wrote = subst (Appends o o') (sym (append-nil (reply_frame reply))) h;
  }
  one_item item reply b b' c c' o o' (Err WriteFailed) answered h =
      stops_at item reply WriteFailed b b' c c' o o' h.0 tt answered h.3 (record { before = []; last = reply; all = refl; part = h.0; unsaid = h.1; cut = h.2; bytes = refl })
  one_item item reply b b' c c' o o' (Err NoMemory) answered h =
      stops_at item reply NoMemory b b' c c' o o' [] tt answered (Appends-kept o o o' [] (Appends-nil o) h)
      (record { before = []; last = reply ∷ []; single = lit≤ tt; all = refl; bytes = refl })
  one_item item reply b b' c c' o o' (Err Ended) answered h = absurd h
  one_item item reply b b' c c' o o' (Err CutFrame) answered h = absurd h
  one_item item reply b b' c c' o o' (Err Oversized) answered h = absurd h
  one_item item reply b b' c c' o o' (Err ReadFailed) answered h = absurd h

-- a loop over a vector has passed a beginning of it, and is at the next item
pub passed_items : {X Z : Type 0} (s : IntoIter X Z) (all : List X) → into_iter_items s ≡ all → into_iter_len s ≡ length all
    → (passed : List X) (at : IntoIter X Z) → Yields into_iter_steps s passed at
    → (r : Option X) (after : IntoIter X Z) (x : X) → r ≡ Some x → into_iter_steps at r after → all ≡ passed ++ (x ∷ drop (suc (length passed)) all)
passed_items s all items len passed at yielded r after x is step =
    let road = YieldsList-from_vec {s = s} all items len in
    let here = YieldsList-turn road passed at yielded r after x is step in
    sym (take-append-drop (length passed) all)
    ∙ ap₂ (λ a b. a ++ b) (sym (YieldsList-so_far road passed at yielded) ∙ map-id passed)
    (drop-cons all (length passed) x here.0 ∙ ap (λ y. y ∷ drop (suc (length passed)) all) (sym here.1))
