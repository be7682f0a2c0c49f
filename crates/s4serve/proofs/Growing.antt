-- What a session has seen grows with each of its steps.
use Rattle.std.proofs.Common.{◌≡◌, ◌≤◌, ◌∙◌, ℕ, Bool, true, false, List, [], ◌∷◌, ◌++◌, length, length-append, if◌then◌else◌, refl, sym, ap, subst, arith}
use mathlib.Core.List.{IsPrefix}
use Rattle.s4_types.specs.History.{Base, History, Record, Took, Seen, accepted, taken}
use Rattle.s4_types.specs.declared.changes.Accepted.{Accepted}
use Rattle.s4_types.specs.declared.requests.Request.{Request}
use Rattle.s4_types.specs.declared.requests.Role.{Role}
use Rattle.s4_types.specs.declared.replies.Reply.{Reply}
use Rattle.s4_model.specs.Step.{Step, Refuses, Serves}
use Rattle.segment_word.specs.AcceptViews.{Ledger, Told, caught_up, credited}
use Rattle.drive.specs.Answering.{is_acceptance}
use Rattle.drive.specs.Fields.{SessionFields, history_of}
use Rattle.server.specs.Sharing.{SharedStep}

-- one record more takes no accepted change away
taken_more : (records : List Record) (r : Record) → length (taken records) ≤ length (taken (records ++ r ∷ []))
taken_more [] r = omega arith
taken_more (Took a ∷ records) r = let more = taken_more records r in omega (arith, more)
taken_more (Seen m ∷ records) r = taken_more records r

step_more : (h after : History) (role : Role) (request : Request) (now : ℕ) (reply : Reply) → Step h role request now reply after → length (accepted h) ≤ length (accepted after)
step_more h after role request now reply (Refuses refusal is may grows) = subst (λ (k : History). length (accepted h) ≤ length (accepted k)) (sym grows) (taken_more h.records (Seen now))
step_more h after role request now reply (Serves r free accepts grows) = subst (λ (k : History). length (accepted h) ≤ length (accepted k)) (sym grows) (taken_more h.records r)

begins_shorter : (xs ys : List Accepted) → IsPrefix xs ys → length xs ≤ length ys
begins_shorter xs ys p = subst (λ (l : List Accepted). length xs ≤ length l) p.1 (let both = length-append xs p.0 in omega (arith, both))

-- whatever the reply, the session has seen all then
seen_all : (is : Bool) (l : Ledger) (t : Told) → (if is then credited l t else caught_up l t).seen ≡ accepted l.history
seen_all true l t = refl
seen_all false l t = refl

pub seen_more : (base : Base) (reserve : ℕ) (old new : SessionFields) (request : Request) (now : ℕ) (reply : Reply) → SharedStep base reserve old request now reply new
    → length old.told.seen ≤ length new.told.seen
seen_more base reserve old new request now reply h =
    let before = begins_shorter old.told.seen (accepted (history_of h.before)) h.had_seen.seen in
    let more = step_more (history_of h.before) (history_of h.after) old.role request now reply h.step in
    let seen : new.told.seen ≡ accepted (history_of h.after) = ap (λ (s : SessionFields). s.told.seen) h.told ∙ seen_all (is_acceptance reply) h.after.ledger old.told in
    subst (λ (l : List Accepted). length old.told.seen ≤ length l) (sym seen) (omega (arith, before, more))
