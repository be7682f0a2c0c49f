-- What the plain drive's parts answer, as a step.
use Rattle.std.proofs.Common.{◌≡◌, ◌≢◌, inl, inr, ℕ, Bool, true, false, cond, Option, Some, Result, Ok, Err, IfOk, MatchResult, List, [], ◌∷◌, refl, sym, ap, subst, ◌∙◌, arith}
use Rattle.std.specs.List.{find, AllByRecursion}
use Rattle.std.proofs.lemmas.Option.{same_Some}
use Rattle.s4_types.specs.History.{History, Took, Seen}
use Rattle.s4_types.specs.RefusalNumber.{number_of}
use Rattle.s4_types.specs.declared.changes.Change.{Change}
use Rattle.s4_types.specs.declared.changes.Change.TheVariants as change
use Rattle.s4_types.specs.declared.requests.Role.{Role}
use Rattle.s4_types.specs.declared.requests.Request.{Request}
use Rattle.s4_types.specs.declared.requests.Request.TheVariants.{Update, Query, Control}
use Rattle.s4_types.specs.declared.replies.Reply.{Reply}
use Rattle.s4_types.specs.declared.replies.Reply.TheVariants.{Refused}
use Rattle.s4_types.specs.declared.refusals.Refusal.{Refusal}
use Rattle.s4_types.specs.declared.refusals.Refusal.TheVariants as refusal
use Rattle.s4_model.specs.State.{State, state_of, grown, seen}
use Rattle.s4_model.specs.Refusals.{first_refusal, applies, checks}
use Rattle.s4_model.specs.Step.{Step, Refuses, Serves, Alters, Reads, MayRefuse, AsFirst, ForMemory, judged, reply_to_read, accepted_record, reply_at, MayWantMemory}
use Rattle.s4_model.specs.Plain.{IsTakeable, IsPlainRefusal, IsPlain, RefusesPlainly, Judges, Settles, Answers, Responds, Refusing, Taking, Telling, judged_by}
use Rattle.s4_model.proofs.StateLemmas.{state_of-seen, state_of-took}

-- a request is judged by its history's state
judged-by_state : (h : History) (request : Request) (now : ℕ) → judged h request now ≡ judged_by (state_of h) request now
judged-by_state h (Query question) now = state_of-seen h now
judged-by_state h (Update update) now = refl
judged-by_state h (Control control) now = refl

-- what answering a read came to
Responds-read : (s : State) (role : Role) (request : Request) (now : ℕ) (answered : Result Reply Refusal) (reply : Reply) (after : State) → judged_by s request now ≡ seen s now → Answers (seen s now) role request answered → MatchResult answered (λ r. reply ≡ r) (λ e. reply ≡ Refused e) → IfOk answered IsPlain → after ≡ seen s now → Responds s role request now reply after
Responds-read s role request now (Ok r) reply after j a is fits e =
    Telling (ap (λ k. first_refusal k role request) j ∙ a.0) (ap (λ k. reply_to_read k request) j ∙ a.1 ∙ ap Some (sym is)) (subst IsPlain (sym is) fits) e
Responds-read s role request now (Err r) reply after j a is fits e =
    Refusing r is (let P : State → Type 0 = λ k. RefusesPlainly (first_refusal k role request) request r in subst P (sym j) a) e

-- what settling a change came to
Responds-change : (s : State) (role : Role) (request : Request) (now : ℕ) (change : Result Change Refusal) (reply : Reply) (after : State) → judged_by s request now ≡ s → Judges s role request change → Settles s change now reply after → Responds s role request now reply after
Responds-change s role request now (Ok taken) reply after j a (inl w) =
    Refusing refusal.NoMemory w.0 (inr (refl, let P : Option Refusal → Type 0 = λ first. MayWantMemory first request in subst P (sym (ap (λ k. first_refusal k role request) j ∙ a.0)) tt)) w.1
Responds-change s role request now (Ok taken) reply after j a (inr w) =
    Taking taken (ap (λ k. first_refusal k role request) j ∙ a.0) a.1 w.0 w.1
Responds-change s role request now (Err r) reply after j a w =
    Refusing r w.0 (let P : State → Type 0 = λ k. RefusesPlainly (first_refusal k role request) request r in subst P (sym j) a) w.1

may_refuse : (first : Option Refusal) (request : Request) (given : Refusal) → RefusesPlainly first request given → MayRefuse first request given
may_refuse first request given (inl h) = AsFirst h
may_refuse first request given (inr h) = ForMemory h.0 h.1

-- a response is a step of each history that the state represents
step_of_state : (h : History) (role : Role) (request : Request) (now : ℕ) (reply : Reply) (after : State) → Responds (state_of h) role request now reply after → (next : History) × Step h role request now reply next × (state_of next ≡ after)
step_of_state h role request now reply after (Refusing r is a e) =
    let P : State → Type 0 = λ k. RefusesPlainly (first_refusal k role request) request r in
    (grown h (Seen now), Refuses r is (may_refuse _ request r (subst P (sym (judged-by_state h request now)) a)) refl, state_of-seen h now ∙ sym e)
step_of_state h role request now reply after (Taking taken none is_change is e) = (
  grown h (Took (accepted_record (state_of h) taken now)),
  Serves (Took (accepted_record (state_of h) taken now)) (ap (λ k. first_refusal k role request) (judged-by_state h request now) ∙ none) (Alters taken is_change is refl) refl,
  state_of-took h (accepted_record (state_of h) taken now) ∙ sym e,
)
step_of_state h role request now reply after (Telling none tells fits e) = (
  grown h (Seen now),
  Serves (Seen now) (ap (λ k. first_refusal k role request) (judged-by_state h request now) ∙ none) (Reads (ap (λ k. reply_to_read k request) (judged-by_state h request now) ∙ tells) refl) refl,
  state_of-seen h now ∙ sym e,
)

pub step_of : (s : State) (role : Role) (request : Request) (now : ℕ) (reply : Reply) (after : State) → Responds s role request now reply after → (h : History) → state_of h ≡ s → (next : History) × Step h role request now reply next × (state_of next ≡ after)
step_of s role request now reply after r h e =
    let P : State → Type 0 = λ k. Responds k role request now reply after in
    step_of_state h role request now reply after (subst P (sym e) r)

-- what is found passes what all elements pass
pub found_passes : (p : Refusal → Bool) (P : Refusal → Type 0) (xs : List Refusal) (r : Refusal) → AllByRecursion P xs → find p xs ≡ Some r → P r
found_passes p P [] r all e = absurd (cc)
found_passes p P (x ∷ xs) r all e =
    elim (p x) as (λ b. cond b (Some x) (find p xs) ≡ Some r → P r) [
      | true ↦ λ is. subst P (same_Some x r is) all.0
      | false ↦ λ is. found_passes p P xs r all.1 is
    ] e

pub IsPlainRefusal-RefusesPlainly : (s : State) (role : Role) (request : Request) (r : Refusal) → RefusesPlainly (first_refusal s role request) request r → IsPlainRefusal r
IsPlainRefusal-RefusesPlainly s role request r (inl e) = found_passes (applies s role request) IsPlainRefusal checks r (tt, (tt, (tt, (tt, (tt, (tt, (tt, (tt, (tt, (tt, tt)))))))))) e
IsPlainRefusal-RefusesPlainly s role request r (inr h) = subst IsPlainRefusal (sym h.0) tt

IsPlain-change : (change : Change) (m : ℕ) → IsPlain (reply_at change m)
IsPlain-change (change.Create object attribute) m = (tt, tt)
IsPlain-change (change.Delete object) m = (tt, tt)
IsPlain-change (change.Write object offset bytes) m = (tt, tt)
IsPlain-change (change.Truncate object size) m = (tt, tt)
IsPlain-change (change.SetAttr object attribute) m = (tt, tt)
IsPlain-change (change.SetWindow window) m = (tt, tt)
IsPlain-change (change.Flush first last) m = (tt, tt)
IsPlain-change (change.FlushO object first last) m = (tt, tt)

not_damaged : (r : Refusal) → IsPlainRefusal r → number_of r ≢ 16
not_damaged refusal.NoObject h e = absurd (omega (arith, e))
not_damaged refusal.NotAdmin h e = absurd (omega (arith, e))
not_damaged refusal.Expired h e = absurd (omega (arith, e))
not_damaged refusal.Future h e = absurd (omega (arith, e))
not_damaged refusal.Flushed h e = absurd (omega (arith, e))
not_damaged refusal.TooLarge h e = absurd (omega (arith, e))
not_damaged refusal.BadSpan h e = absurd (omega (arith, e))
not_damaged refusal.TooManySpans h e = absurd (omega (arith, e))
not_damaged refusal.NoSpace h e = h
not_damaged refusal.NoMemory h e = absurd (omega (arith, e))
not_damaged refusal.ClockEnd h e = absurd (omega (arith, e))
not_damaged refusal.ChainFull h e = h
not_damaged refusal.BadAttr h e = absurd (omega (arith, e))
not_damaged refusal.Busy h e = h
not_damaged refusal.BadFrame h e = h
not_damaged (refusal.Damaged cause) h e = h
not_damaged refusal.Stale h e = h
not_damaged refusal.NoRoom h e = h
not_damaged refusal.InUse h e = h

IsPlain-refused : (r : Refusal) → IsPlainRefusal r → IsPlain (Refused r)
IsPlain-refused r h = (not_damaged r h, h)

-- each response is a plain reply
pub IsPlain-Responds : (s : State) (role : Role) (request : Request) (now : ℕ) (reply : Reply) (after : State) → Responds s role request now reply after → IsPlain reply
IsPlain-Responds s role request now reply after (Refusing r is a e) = subst IsPlain (sym is) (IsPlain-refused r (IsPlainRefusal-RefusesPlainly (judged_by s request now) role request r a))
IsPlain-Responds s role request now reply after (Taking taken none is_change is e) = subst IsPlain (sym is) (IsPlain-change taken _)
IsPlain-Responds s role request now reply after (Telling none tells plain e) = plain

-- the same, where the state has seen the moment already
pub Responds-asked : (s : State) (role : Role) (request asked : Request) (now : ℕ) (answered : Result Reply Refusal) (reply : Reply) (after : State) → request ≡ asked → judged_by s asked now ≡ seen s now → after ≡ seen s now → Answers after role asked answered → MatchResult answered (λ r. reply ≡ r) (λ e. reply ≡ Refused e) → IfOk answered IsPlain → Responds s role request now reply after
Responds-asked s role request asked now answered reply after is j e a said plain =
    let P : State → Type 0 = λ k. Answers k role asked answered in
    let Q : Request → Type 0 = λ r. Responds s role r now reply after in
    subst Q (sym is) (Responds-read s role asked now answered reply after j (subst P e a) said plain e)

-- what settling a change came to, of a request that is judged by the state as it is
pub Responds-made : (s : State) (role : Role) (request asked : Request) (now : ℕ) (change : Result Change Refusal) (reply : Reply) (after : State) → request ≡ asked → judged_by s asked now ≡ s → Judges s role asked change → Settles s change now reply after → Responds s role request now reply after
Responds-made s role request asked now change reply after is j judges settles =
    let Q : Request → Type 0 = λ r. Responds s role r now reply after in
    subst Q (sym is) (Responds-change s role asked now change reply after j judges settles)

-- what is judged to be taken can be
pub takeable : (s : State) (role : Role) (request : Request) (judgement : Result Change Refusal) → Judges s role request judgement → IfOk judgement (IsTakeable s)
takeable s role request (Ok taken) judges = judges.2
takeable s role request (Err r) judges = tt
