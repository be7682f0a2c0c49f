-- What a session has said grows with each reply, also where it is sent.
use Rattle.std.proofs.Common.{◌≡◌, ◌∙◌, ℕ, List, [], ◌∷◌, ◌++◌, Option, Some, None, ap, append_assoc, append-nil, refl, subst, sym}
use Rattle.std.specs.Prelude.{IfSome}
use Rattle.std.specs.Io.KnownBytes.{Appends, append_known}
use Rattle.s4_types.specs.declared.requests.Request.{Request}
use Rattle.s4_types.specs.declared.replies.Reply.{Reply}
use Rattle.rpc.specs.declared.items.Item.{Item}
use Rattle.serving.specs.Answering.{Answered, reply_frame, said}
use Rattle.serving.proofs.AnsweringLemmas.{Answered-append, Answered-nil}
use Rattle.batch_serving.specs.Saying.{Completes, HasSaid}
use Rattle.batch_serving.proofs.BatchLemmas.{said_more}

completes_more : (sent : Option (List ℕ)) (held : List ℕ) (replies : List Reply) (reply : Reply) → Completes sent held (said replies) → Completes sent (held ++ reply_frame reply) (said (replies ++ reply ∷ []))
completes_more None held replies reply is = tt
completes_more (Some bytes) held replies reply is = sym (append_assoc bytes held (reply_frame reply)) ∙ said_more (bytes ++ held) replies reply is

completes_sent : (sent : Option (List ℕ)) (held all : List ℕ) → Completes sent held all → Completes (append_known sent held) [] all
completes_sent None held all is = tt
completes_sent (Some bytes) held all is = append-nil (bytes ++ held) ∙ is

completes_nothing : (sent : Option (List ℕ)) → IfSome sent (λ bytes. bytes ≡ []) → Completes sent [] []
completes_nothing None none = tt
completes_nothing (Some bytes) none = append-nil bytes ∙ none

-- bytes that are known from the beginning on
pub appends_known : (old new : Option (List ℕ)) (bytes : List ℕ) → new ≡ append_known old bytes → Appends old new bytes
appends_known None new bytes is = tt
appends_known (Some xs) new bytes is = subst (λ (o : Option (List ℕ)). Appends (Some xs) o bytes) (sym is) refl

module _ {B C : Type 0} (steps : B → Request → ℕ → Reply → B → Type 0) (draws : C → ℕ → C → Type 0) where
  -- one more item is answered
  pub said_one_more : (begins : B → Type 0) (sent : Option (List ℕ)) (held held' : List ℕ) (item : Item Request) (reply : Reply) (b b' : B) (c c' : C)
      → HasSaid steps draws begins sent held b c → Answered steps draws (item ∷ []) (reply ∷ []) b c b' c' → held' ≡ held ++ reply_frame reply
      → HasSaid steps draws begins sent held' b' c'
  said_one_more begins sent held held' item reply b b' c c' h a is = record {
    first = h.first;
    begun = h.begun;
    before = h.before;
    items = h.items ++ item ∷ [];
    replies = h.replies ++ reply ∷ [];
    answered = Answered-append steps draws h.items (item ∷ []) h.replies (reply ∷ []) h.first b b' h.before c c' h.answered a;
    all = subst (λ (x : List ℕ). Completes sent x (said (h.replies ++ reply ∷ []))) (sym is) (completes_more sent held h.replies reply h.all);
  }

  -- what is held is sent
  pub said_sent : (begins begins' : B → Type 0) (sent sent' : Option (List ℕ)) (held : List ℕ) (b : B) (c : C)
      → ((first : B) → begins first → begins' first) → sent' ≡ append_known sent held → HasSaid steps draws begins sent held b c → HasSaid steps draws begins' sent' [] b c
  said_sent begins begins' sent sent' held b c same is h = record {
    first = h.first;
    begun = same h.first h.begun;
    before = h.before;
    items = h.items;
    replies = h.replies;
    answered = h.answered;
    all = subst (λ (o : Option (List ℕ)). Completes o [] (said h.replies)) (sym is) (completes_sent sent held (said h.replies) h.all);
  }

  -- nothing is held where that is empty
  pub said_none : (begins : B → Type 0) (sent : Option (List ℕ)) (held held' : List ℕ) (b : B) (c : C) → held' ≡ held → HasSaid steps draws begins sent held b c → HasSaid steps draws begins sent held' b c
  said_none begins sent held held' b c is h = subst (λ (x : List ℕ). HasSaid steps draws begins sent x b c) (sym is) h

  -- a session that was just had has said nothing
  pub begins_to_say : (begins : B → Type 0) (sent : Option (List ℕ)) (b : B) (c : C) → begins b → IfSome sent (λ bytes. bytes ≡ []) → HasSaid steps draws begins sent [] b c
  begins_to_say begins sent b c begun none = record {
    first = b;
    begun = begun;
    before = c;
    items = [];
    replies = [];
    answered = Answered-nil steps draws b c;
    all = completes_nothing sent none;
  }
