-- How a table's views change when a block is put at a free place, and when one is dropped.
use Rattle.std.proofs.Common.{◌≡◌, inl, inr, ℕ, ◌+◌, Bool, true, false, ◌==◌, ◌&&◌, cond, List, [], ◌∷◌, Option, Some, None, is_some, refl, sym, ap, ◌∙◌}
use Rattle.std.proofs.lemmas.Bool.{cases_Bool, both_ways, and_parts, eq-eqb, eqb-true}
use Rattle.std.proofs.lemmas.Option.{none-some, same_Some}
use Rattle.s4_types.specs.Pointer.{Place}
use Rattle.block_log.specs.declared.kinds.BlockKind.{BlockKind}
use Rattle.block_log.specs.declared.kinds.BlockKind.TheVariants.{Journal, Checkpoint, Data, Pointers}
use Rattle.block_log.specs.Log.{Log, Stored, same_place, same_kind, with_held, without, named_with, is_data, dropped, dropped_by, appended, appended_at, seen_as, of_kind}
use Rattle.block_log.proofs.Places.{same_place_itself, one_place}
use Rattle.journal_chain.specs.Chain.{OnlyJournalChanged}
use Rattle.journal_chain.proofs.Steps.{ChangedAt}

append_at : (log later : Log) (block : Stored) (ahead : List Place) (p : Place) → appended_at log block ahead ≡ Some (p, later) → (later.held ≡ with_held log.held p block) × ((later.named ≡ named_with block.kind log.named p) × (ahead ≡ p ∷ later.ahead))
append_at log later block [] p h = absurd (none-some (p, later) h)
append_at log later block (q ∷ ahead) p h =
    let f = λ (x : Place × Log). x.0 in
    let g = λ (x : Place × Log). x.1 in
    let made : Log = record { held = with_held log.held q block; ahead = ahead; spent = 1 + log.spent; named = named_with block.kind log.named q } in
    let both : ◌≡◌ {A = Place × Log} (q, made) (p, later) = same_Some (q, made) (p, later) h in
    let place : q ≡ p = ap f both in
    let log_is : made ≡ later = ap g both in (
      sym (ap (λ (l : Log). l.held) log_is) ∙ ap (λ r. with_held log.held r block) place,
      (sym (ap (λ (l : Log). l.named) log_is) ∙ ap (named_with block.kind log.named) place, ap (λ (r : Place). r ∷ ahead) place ∙ ap (λ (l : Log). p ∷ l.ahead) log_is),
    )

-- a block is held at the place that its append takes
pub append_holds : (log later : Log) (block : Stored) (p : Place) → appended log block ≡ Some (p, later) → later.held ≡ with_held log.held p block
append_holds log later block p h = (append_at log later block log.ahead p h).0

-- and names of data are as its kind has them
pub append_names : (log later : Log) (block : Stored) (p : Place) → appended log block ≡ Some (p, later) → later.named ≡ named_with block.kind log.named p
append_names log later block p h = (append_at log later block log.ahead p h).1.0

-- and the place is the next one ahead
pub append_next : (log later : Log) (block : Stored) (p : Place) → appended log block ≡ Some (p, later) → log.ahead ≡ p ∷ later.ahead
append_next log later block p h = (append_at log later block log.ahead p h).1.1

-- this object's journal, and no other view
abbrev pub is_journal_of : ℕ → BlockKind → ℕ → Bool
is_journal_of o kind other = same_kind Journal kind && o == other

same_kind-here : (kind : BlockKind) → same_kind kind Journal ≡ same_kind Journal kind
same_kind-here Journal = refl
same_kind-here Checkpoint = refl
same_kind-here Data = refl
same_kind-here Pointers = refl

-- a block of the object's journal is in no other view
hidden : (o : ℕ) (bytes : List ℕ) (kind : BlockKind) (other : ℕ) → is_journal_of o kind other ≡ false → seen_as kind other (Some (record { kind = Journal; object = o; bytes = bytes })) ≡ None
hidden o bytes kind other h = ap (λ b. cond (b && o == other) (Some bytes) None) (same_kind-here kind) ∙ ap (λ b. cond b (Some bytes) None) h

shown : (o : ℕ) (bytes : List ℕ) → seen_as Journal o (Some (record { kind = Journal; object = o; bytes = bytes })) ≡ Some bytes
shown o bytes = ap (λ b. cond b (Some bytes) None) (eq-eqb o o refl)

put_sees : (held : Place → Option Stored) (p q : Place) (block : Stored) (kind : BlockKind) (o : ℕ) (same : Bool) → same_place p q ≡ same
    → of_kind kind o (with_held held p block) q ≡ (cond same (seen_as kind o (Some block)) (of_kind kind o held q))
put_sees held p q block kind o true e = ap (λ b. seen_as kind o (cond b (Some block) (held q))) e
put_sees held p q block kind o false e = ap (λ b. seen_as kind o (cond b (Some block) (held q))) e

dropped_sees : (held : Place → Option Stored) (p q : Place) (kind : BlockKind) (o : ℕ) (same : Bool) → same_place p q ≡ same
    → of_kind kind o (without held p) q ≡ (cond same None (of_kind kind o held q))
dropped_sees held p q kind o true e = ap (λ b. seen_as kind o (cond b None (held q))) e
dropped_sees held p q kind o false e = ap (λ b. seen_as kind o (cond b None (held q))) e

abbrev pub journal_block : ℕ → List ℕ → Stored
journal_block o bytes = record { kind = Journal; object = o; bytes = bytes }

pub put_changes : (held : Place → Option Stored) (p : Place) (o : ℕ) (bytes : List ℕ) → ChangedAt (of_kind Journal o held) (of_kind Journal o (with_held held p (journal_block o bytes))) p (Some bytes)
put_changes held p o bytes = (
  put_sees held p p (journal_block o bytes) Journal o true (same_place_itself p) ∙ shown o bytes,
  λ q ne. put_sees held p q (journal_block o bytes) Journal o false ne,
)

pub dropped_changes : (held : Place → Option Stored) (p : Place) (o : ℕ) → ChangedAt (of_kind Journal o held) (of_kind Journal o (without held p)) p None
dropped_changes held p o = (dropped_sees held p p Journal o true (same_place_itself p), λ q ne. dropped_sees held p q Journal o false ne)

pub free_in_view : (held : Place → Option Stored) (p : Place) (kind : BlockKind) (o : ℕ) → held p ≡ None → of_kind kind o held p ≡ None
free_in_view held p kind o h = ap (seen_as kind o) h

-- a block put at a free place, or dropped, changes its own view alone
pub put_only : (held : Place → Option Stored) (p : Place) (o : ℕ) (bytes : List ℕ) → held p ≡ None → OnlyJournalChanged o held (with_held held p (journal_block o bytes))
put_only held p o bytes free kind other h =
    let at : (q : Place) → of_kind kind other (with_held held p (journal_block o bytes)) q ≡ of_kind kind other held q = λ q. elim (cases_Bool (same_place p q)) [
      | inl e ↦ put_sees held p q (journal_block o bytes) kind other true e ∙ hidden o bytes kind other h ∙ sym (ap (λ r. of_kind kind other held r) (sym (one_place p q e)) ∙ free_in_view held p kind other free)
      | inr ne ↦ put_sees held p q (journal_block o bytes) kind other false ne
    ] in
    λ i q. at q i

kind_is : (kind : BlockKind) → same_kind Journal kind ≡ true → kind ≡ Journal
kind_is Journal h = refl
kind_is Checkpoint h = absurd (both_ways false refl h)
kind_is Data h = absurd (both_ways false refl h)
kind_is Pointers h = absurd (both_ways false refl h)

-- what the object's journal shows at a place, no other view does
hidden_at : (o : ℕ) (there : Option Stored) (kind : BlockKind) (other : ℕ) → is_some (seen_as Journal o there) ≡ true → is_journal_of o kind other ≡ false → seen_as kind other there ≡ None
hidden_at o None kind other shows h = refl
hidden_at o (Some block) kind other shows h = elim (cases_Bool (same_kind Journal block.kind && block.object == o)) [
  | inl e ↦ (let parts = and_parts (same_kind Journal block.kind) (block.object == o) e in
      ap (λ k. seen_as kind other (Some (record block { kind = k }))) (kind_is block.kind parts.0)
      ∙ ap (λ n. seen_as kind other (Some (record { kind = Journal; object = n; bytes = block.bytes }))) (eqb-true block.object o parts.1)
      ∙ hidden o block.bytes kind other h)
  | inr ne ↦ absurd (both_ways false refl (sym (ap (λ b. is_some (cond b (Some block.bytes) None)) ne) ∙ shows))
]

-- a block that the object's journal shows isn't of data, so its drop leaves all names
not_data : (o : ℕ) (there : Option Stored) → is_some (seen_as Journal o there) ≡ true → is_data there ≡ false
not_data o None shows = refl
not_data o (Some block) shows = elim (cases_Bool (same_kind Journal block.kind && block.object == o)) [
  | inl e ↦ ap (λ k. same_kind k Data) (kind_is block.kind (and_parts (same_kind Journal block.kind) (block.object == o) e).0)
  | inr ne ↦ absurd (both_ways false refl (sym (ap (λ b. is_some (cond b (Some block.bytes) None)) ne) ∙ shows))
]

pub dropped_journal : (log : Log) (p : Place) (o : ℕ) → is_some (of_kind Journal o log.held p) ≡ true → dropped log p ≡ record log { held = without log.held p }
dropped_journal log p o shows = ap (λ (b : Bool). dropped_by b log p) (not_data o (log.held p) shows)

pub dropped_only : (held : Place → Option Stored) (p : Place) (o : ℕ) → is_some (of_kind Journal o held p) ≡ true → OnlyJournalChanged o held (without held p)
dropped_only held p o shows kind other h =
    let at : (q : Place) → of_kind kind other (without held p) q ≡ of_kind kind other held q = λ q. elim (cases_Bool (same_place p q)) [
      | inl e ↦ dropped_sees held p q kind other true e ∙ sym (ap (λ r. of_kind kind other held r) (sym (one_place p q e)) ∙ hidden_at o (held p) kind other shows h)
      | inr ne ↦ dropped_sees held p q kind other false ne
    ] in
    λ i q. at q i

pub only-refl : (o : ℕ) (held : Place → Option Stored) → OnlyJournalChanged o held held
only-refl o held kind other h = refl

pub only-trans : (o : ℕ) (held between later : Place → Option Stored) → OnlyJournalChanged o held between → OnlyJournalChanged o between later → OnlyJournalChanged o held later
only-trans o held between later a b kind other h = b kind other h ∙ a kind other h
