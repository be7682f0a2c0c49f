-- What is read after a call of the image's keeper or of the log.
use Rattle.std.proofs.Common.{◌≡◌, ◌∙◌, ◌⊎◌, inl, inr, ℕ, List, [], ◌∷◌, ◌++◌, Some, sym, ap, subst}
use Rattle.image_keeping.specs.Leaving.{AddsNothing, IsBeforeOrAfter, Only}
use Rattle.image_logging.specs.Reading.{digest_of, followed, front_of, made, read_of}
use Rattle.image_logging.specs.Leaving.{AddsLog, AddsNoLog, AreBound, AreOthers, AreRead, AreTheirs, IsEmpty, LeaveOnly, LeavesFront, LogOutcomes, WithRecord}
use Rattle.image_logging.proofs.Following.{followed_before, followed_more, read_alone, read_by, same_some, some_none, some_of}

-- ---- fewer outcomes

pub fewer_read : (images images' : List ℕ → Type 0) (logs logs' : LogOutcomes) → AddsNothing images images' → AddsNoLog logs logs' → AreRead images logs → AreRead images' logs'
fewer_read images images' logs logs' i l h = λ image bound payloads there beside. h image bound payloads (i image there) (l bound payloads beside)

pub fewer_leave : (images images' : List ℕ → Type 0) (logs logs' : LogOutcomes) → AddsNothing images images' → AddsNoLog logs logs' → AddsNothing (LeavesFront images logs) (LeavesFront images' logs')
fewer_leave images images' logs logs' i l front h = record {
  image = h.image;
  bound = h.bound;
  payloads = h.payloads;
  there = i h.image h.there;
  beside = l h.bound h.payloads h.beside;
  reads = h.reads;
}

pub fewer_theirs : (images images' : List ℕ → Type 0) (logs logs' : LogOutcomes) → AddsNothing images images' → AddsNoLog logs logs' → AreTheirs images logs → AreTheirs images' logs'
fewer_theirs images images' logs logs' i l h image there bound payloads beside = h image (i image there) bound payloads (l bound payloads beside)

-- ---- one more record

module _ (images : List ℕ → Type 0) (logs : LogOutcomes) (payload front next : List ℕ) (theirs : AreTheirs images logs) (only : LeaveOnly images logs front) (makes : made payload front ≡ Some next) where
  -- what the log's other records make is the front
  before_is : (image bound : List ℕ) (others : List (List ℕ)) → images image → logs bound others → (mid : List ℕ) → followed others (Some (front_of image)) ≡ Some mid → mid ≡ front
  before_is image bound others there beside mid f = only mid (record {
    image = image;
    bound = bound;
    payloads = others;
    there = there;
    beside = beside;
    reads = read_by image bound others (theirs image there bound others beside) ∙ f;
  })

  -- what is read with it is the next front
  with_record : (image bound : List ℕ) (payloads : List (List ℕ)) → images image → WithRecord logs payload bound payloads → (other : List ℕ) → read_of image bound payloads ≡ Some other → other ≡ next
  with_record image bound payloads there w other r =
      let all : followed (w.0 ++ payload ∷ []) (Some (front_of image)) ≡ Some other = subst (λ (l : List (List ℕ)). followed l (Some (front_of image)) ≡ Some other) w.2 (sym (read_by image bound payloads (theirs image there bound w.0 w.1)) ∙ r) in
      let parts = followed_before w.0 payload other (Some (front_of image)) all in
      let mid = before_is image bound w.0 there w.1 parts.0 parts.1 in
      same_some other next (sym parts.2 ∙ (ap (made payload) mid ∙ makes))

  pub record_leaves : (logs' : LogOutcomes) → AddsNoLog (WithRecord logs payload) logs' → LeaveOnly images logs' next
  record_leaves logs' l other h = with_record h.image h.bound h.payloads h.there (l h.bound h.payloads h.beside) other h.reads

  pub record_theirs : (logs' : LogOutcomes) → AddsNoLog (WithRecord logs payload) logs' → AreTheirs images logs'
  record_theirs logs' l image there bound payloads beside = let w = l bound payloads beside in theirs image there bound w.0 w.1

  pub record_or_before : (logs' : LogOutcomes) → AddsLog (WithRecord logs payload) logs logs' → IsBeforeOrAfter next (LeavesFront images logs) (LeavesFront images logs')
  record_or_before logs' l other h =
      elim (l h.bound h.payloads h.beside) as (λ _. LeavesFront images logs other ⊎ (other ≡ next)) [
        | inl before ↦ inl (record { image = h.image; bound = h.bound; payloads = h.payloads; there = h.there; beside = before; reads = h.reads })
        | inr w ↦ inr (with_record h.image h.bound h.payloads h.there w other h.reads)
      ]

  pub record_read : (logs' : LogOutcomes) → AddsLog (WithRecord logs payload) logs logs' → AreRead images logs → AreRead images logs'
  record_read logs' l h image bound payloads there beside none =
      elim (l bound payloads beside) as (λ _. ⊥) [
        | inl before ↦ h image bound payloads there before none
        | inr w ↦
            (let is = theirs image there bound w.0 w.1 in
            let old = some_of (read_of image bound w.0) (h image bound w.0 there w.1) in
            let follows : followed w.0 (Some (front_of image)) ≡ Some old.0 = sym (read_by image bound w.0 is) ∙ old.1 in
            let mid = before_is image bound w.0 there w.1 old.0 follows in
            let all = followed_more w.0 payload old.0 next (Some (front_of image)) follows (ap (made payload) mid ∙ makes) in
            some_none next (sym (subst (λ (l : List (List ℕ)). followed l (Some (front_of image)) ≡ Some next) (sym w.2) all) ∙ (sym (read_by image bound payloads is) ∙ none)))
      ]

-- ---- a new image

-- a log that is bound by another digest is another image's
pub others_by : (logs : LogOutcomes) (bound image : List ℕ) → AreBound logs bound → (bound ≡ digest_of image → ⊥) → AreOthers logs image
others_by logs bound image are apart b payloads h e = apart (sym (are b payloads h) ∙ e)

module _ (image : List ℕ) (logs : LogOutcomes) (others : AreOthers logs image) where
  -- a log of another image counts for nothing
  other_reads : (b : List ℕ) (payloads : List (List ℕ)) → logs b payloads → read_of image b payloads ≡ Some (front_of image)
  other_reads b payloads l = read_alone image b payloads (others b payloads l)

  pub image_or_before : (images images' : List ℕ → Type 0) → IsBeforeOrAfter image images images' → IsBeforeOrAfter (front_of image) (LeavesFront images logs) (LeavesFront images' logs)
  image_or_before images images' i other h =
      elim (i h.image h.there) as (λ _. LeavesFront images logs other ⊎ (other ≡ front_of image)) [
        | inl before ↦ inl (record { image = h.image; bound = h.bound; payloads = h.payloads; there = before; beside = h.beside; reads = h.reads })
        | inr same ↦ inr (same_some other (front_of image) (sym h.reads ∙ (ap (λ (x : List ℕ). read_of x h.bound h.payloads) same ∙ other_reads h.bound h.payloads h.beside)))
      ]

  pub image_read : (images images' : List ℕ → Type 0) → IsBeforeOrAfter image images images' → AreRead images logs → AreRead images' logs
  image_read images images' i h new b payloads there beside none =
      elim (i new there) as (λ _. ⊥) [
        | inl before ↦ h new b payloads before beside none
        | inr same ↦ some_none (front_of image) (sym (ap (λ (x : List ℕ). read_of x b payloads) same ∙ other_reads b payloads beside) ∙ none)
      ]

  module _ (digest : List ℕ) (d : digest ≡ digest_of image) (logs' : LogOutcomes) (l : AddsLog (IsEmpty digest) logs logs') where
    -- what an empty log of it, or that one, leaves
    started_reads : (b : List ℕ) (payloads : List (List ℕ)) → logs' b payloads → read_of image b payloads ≡ Some (front_of image)
    started_reads b payloads h =
        elim (l b payloads h) as (λ _. read_of image b payloads ≡ Some (front_of image)) [
          | inl before ↦ other_reads b payloads before
          | inr empty ↦ ap (read_of image b) empty.1 ∙ read_by image b [] (empty.0 ∙ d)
        ]

    pub started_read : (images : List ℕ → Type 0) → Only image images → AreRead images logs'
    started_read images only new b payloads there beside none = some_none (front_of image) (sym (ap (λ (x : List ℕ). read_of x b payloads) (only new there) ∙ started_reads b payloads beside) ∙ none)

    pub started_leaves : (images : List ℕ → Type 0) → Only image images → LeaveOnly images logs' (front_of image)
    started_leaves images only other h = same_some other (front_of image) (sym h.reads ∙ (ap (λ (x : List ℕ). read_of x h.bound h.payloads) (only h.image h.there) ∙ started_reads h.bound h.payloads h.beside))

    pub started_theirs : (images : List ℕ → Type 0) → Only image images → AddsNoLog (IsEmpty digest) logs' → AreTheirs images logs'
    started_theirs images only none new there b payloads beside = (none b payloads beside).0 ∙ (d ∙ ap digest_of (sym (only new there)))
