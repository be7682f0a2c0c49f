-- Frames that hold nothing are marked and released, one after the other.
use Rattle.std.proofs.Common.{◌≡◌, ◌⊎◌, ℕ, zero, suc, ◌+◌, ◌-◌, ◌<◌, ◌≤◌, Bool, true, false, Result, Ok, Err, inl, inr, List, [], ◌∷◌, length, Option, refl, sym, ap, subst, ◌∙◌, arith}
use Rattle.std.specs.Prelude.{OnOk, OnErr, IfErr, slice_set, count_by}
use Rattle.std.specs.List.{range_with_len}
use Rattle.std.proofs.lemmas.Bool.{cases_eq, false≢true}
use Rattle.std.proofs.lemmas.List.{get_or-set_same, get_or-set_other, length-set}
use Rattle.s4_types.specs.Pointer.{Place}
use Rattle.s4_types.specs.declared.refusals.Refusal.{Refusal}
use Rattle.s4_types.specs.declared.refusals.Refusal.TheVariants.{InUse}
use Rattle.lemmas.proofs.Range.{count_first, count_last, tally}
use Rattle.block_log.specs.Log.{Stored}
use Rattle.segment_word.specs.Frames.{Phase, Free, Open, Sealed, Draining, is_draining, Frame, Releases, no_frame}
use Rattle.segment_word.specs.Layout.{frame_at, word_of}
use Rattle.segment_word.specs.Handles.{Drive, HasMissed}
use Rattle.segment_word.specs.Steps.{released}
use Rattle.segment_table.specs.Table.{Table}
use Rattle.segment_table.specs.Changes.{NoneHeld, IsMarked, IsReleased, CanBeEmptied}
use Rattle.segment_table.specs.Room.{log_of}
use Rattle.version_store.specs.Store.{StoreFields}
use Rattle.drive.specs.Fields.{DriveFields, store_of}
use Rattle.drive.specs.Upkeep.{Marks}
use Rattle.version_store.specs.Upkeep.{KeepsObjects}
use Rattle.history_cleaner.specs.Emptying.{AllVacated, HasFoundReader, MarkedBelow, FreesFrame, MeetsReader, EndsAtReader, StopsAtReader}
use Rattle.history_cleaner.specs.private.Emptying.{ReleasedFrom, ReleasedBelow, HasVacated}

-- ---- frames

changed_here : (frames : List Frame) (f : ℕ) (k : Frame) → f < length frames → frame_at (slice_set frames f k) f ≡ k
changed_here frames f k inside = get_or-set_same frames f k no_frame inside

changed_else : (frames : List Frame) (f n : ℕ) (k : Frame) → (n ≡ f → ⊥) → frame_at (slice_set frames f k) n ≡ frame_at frames n
changed_else frames f n k other = get_or-set_other frames f n k no_frame other

changed_count : (frames : List Frame) (f : ℕ) (k : Frame) → length (slice_set frames f k) ≡ length frames
changed_count frames f k = length-set frames f k

not_free : Free ≡ Sealed → ⊥
not_free is = cc

free_not_draining : Free ≡ Draining → ⊥
free_not_draining is = cc

not_draining : Draining ≡ Sealed → ⊥
not_draining is = cc

-- a frame that isn't free has a number
inside : (frames : List Frame) (f : ℕ) → ((frame_at frames f).phase ≡ Free → ⊥) → f < length frames
inside [] f other = absurd (other refl)
inside (k ∷ ks) zero other = omega arith
inside (k ∷ ks) (suc f) other = let rest : f < length ks = inside ks f other in omega (arith, rest)

-- ---- what stays

pub kept_all : (s : StoreFields) → KeepsObjects s s
kept_all s = record { held = refl; rows = refl; latest = refl; spent = omega arith; inodes = λ o t. refl; versions = λ o t. refl }

pub kept_on : (a b c : StoreFields) → KeepsObjects a b → KeepsObjects b c → KeepsObjects a c
kept_on a b c first second =
    let low : a.log.spent ≤ b.log.spent = first.spent in
    let high : b.log.spent ≤ c.log.spent = second.spent in
    record {
      held = second.held ∙ first.held;
      rows = second.rows ∙ first.rows;
      latest = second.latest ∙ first.latest;
      spent = omega (arith, low, high);
      inodes = λ o t. second.inodes o t ∙ first.inodes o t;
      versions = λ o t. second.versions o t ∙ first.versions o t;
    }

pub kept_same : (s later : StoreFields) → later ≡ s → KeepsObjects s later
kept_same s later is = subst (KeepsObjects s) (sym is) (kept_all s)

-- nothing is held in a frame where nothing was
none_again : (f : ℕ) (old new : Table) → (log_of new).held ≡ (log_of old).held → NoneHeld f old → NoneHeld f new
none_again f old new same none p at = ap (λ (held : Place → Option Stored). held p) same ∙ none p at

-- ---- marking

-- how far marking has come in a drive
pub record MarksSoFar (f : ℕ) (old new : DriveFields) : Type 0 where
  pub table : MarkedBelow f old.store.table new.store.table
  pub same : store_of new ≡ store_of old
  pub ledger : new.ledger ≡ old.ledger

pub none_marked : (d : DriveFields) → MarksSoFar 0 d d
none_marked d = record {
  table = record {
    count = refl;
    generations = λ k. refl;
    begun = λ k below can. absurd (omega arith);
    others = λ k not. refl;
    marked = λ k below. absurd (omega arith);
    slots = refl;
    table = refl;
    releases = refl;
  };
  same = refl;
  ledger = refl;
}

-- frame k is another one than that which was marked, or it is that one
marked_frame : (old new : Table) (f k : ℕ) → IsMarked f old new → (k ≡ f → ⊥) → frame_at new.seat.frames k ≡ frame_at old.seat.frames k
marked_frame old new f k done other = ap (λ (d : Drive). frame_at d.frames k) done.seat ∙ changed_else old.seat.frames f k (record (frame_at old.seat.frames f) { phase = Draining }) other

marked_here : (old new : Table) (f : ℕ) → IsMarked f old new → frame_at new.seat.frames f ≡ record (frame_at old.seat.frames f) { phase = Draining }
marked_here old new f done =
    ap (λ (d : Drive). frame_at d.frames f) done.seat
    ∙ changed_here old.seat.frames f (record (frame_at old.seat.frames f) { phase = Draining }) (inside old.seat.frames f (λ free. not_free (sym free ∙ done.sealed)))

-- what is no frame below f is as it was
untouched : (f : ℕ) (old d : Table) → MarkedBelow f old d → frame_at d.seat.frames f ≡ frame_at old.seat.frames f
untouched f old d sofar = sofar.others f (λ low can. absurd (omega arith))

-- so it can begin to be emptied exactly where it could before
can_still : (f : ℕ) (old d : Table) → MarkedBelow f old d → (log_of d).held ≡ (log_of old).held → CanBeEmptied f old → CanBeEmptied f d
can_still f old d sofar was can = (ap (λ (x : Frame). x.phase) (untouched f old d sofar) ∙ can.0, none_again f old d was can.1)

could_before : (f : ℕ) (old d : Table) → MarkedBelow f old d → (log_of d).held ≡ (log_of old).held → CanBeEmptied f d → CanBeEmptied f old
could_before f old d sofar was can = (sym (ap (λ (x : Frame). x.phase) (untouched f old d sofar)) ∙ can.0, none_again f d old (sym was) can.1)

marked_more : (f : ℕ) (old d new : Table) → MarkedBelow f old d → (log_of d).held ≡ (log_of old).held → IsMarked f d new → (log_of new).held ≡ (log_of d).held → MarkedBelow (f + 1) old new
marked_more f old d new sofar was done same = record {
  count = ap (λ (x : Drive). length x.frames) done.seat ∙ changed_count d.seat.frames f (record (frame_at d.seat.frames f) { phase = Draining }) ∙ sofar.count;
  generations = λ k. elim (cases_eq k f) [
    | inl is ↦ ap (λ (n : ℕ). (frame_at new.seat.frames n).generation) is ∙ ap (λ (x : Frame). x.generation) (marked_here d new f done) ∙ ap (λ (n : ℕ). (frame_at d.seat.frames n).generation) (sym is) ∙ sofar.generations k
    | inr other ↦ ap (λ (x : Frame). x.generation) (marked_frame d new f k done other) ∙ sofar.generations k
  ];
  begun = λ k below can. elim (cases_eq k f) [
    | inl is ↦ ap (λ (n : ℕ). frame_at new.seat.frames n) is ∙ marked_here d new f done
        ∙ ap (λ (x : Frame). record x { phase = Draining }) (untouched f old d sofar) ∙ ap (λ (n : ℕ). record (frame_at old.seat.frames n) { phase = Draining }) (sym is)
    | inr other ↦ marked_frame d new f k done other ∙ sofar.begun k (omega arith) can
  ];
  others = λ k not. elim (cases_eq k f) [
    | inl is ↦ absurd (not (omega arith) (subst (λ (n : ℕ). CanBeEmptied n old) (sym is) (could_before f old d sofar was (done.sealed, done.unheld))))
    | inr other ↦ marked_frame d new f k done other ∙ sofar.others k (λ low can. not (omega arith) can)
  ];
  marked = λ k below can. elim (cases_eq k f) [
    | inl is ↦ not_draining (sym (ap (λ (n : ℕ). (frame_at new.seat.frames n).phase) is ∙ ap (λ (x : Frame). x.phase) (marked_here d new f done)) ∙ can.0)
    | inr other ↦ sofar.marked k (omega arith) (sym (ap (λ (x : Frame). x.phase) (marked_frame d new f k done other)) ∙ can.0, none_again k new d (sym same) can.1)
  ];
  slots = done.slots ∙ sofar.slots;
  table = ap (λ (x : Drive). x.table) done.seat ∙ sofar.table;
  releases = ap (λ (x : Drive). x.releases) done.seat ∙ sofar.releases;
}

marked_not : (f : ℕ) (old d : Table) → MarkedBelow f old d → (log_of d).held ≡ (log_of old).held → (CanBeEmptied f d → ⊥) → MarkedBelow (f + 1) old d
marked_not f old d sofar was cannot = record {
  count = sofar.count;
  generations = sofar.generations;
  begun = λ k below can. elim (cases_eq k f) [
    | inl is ↦ absurd (cannot (can_still f old d sofar was (subst (λ (n : ℕ). CanBeEmptied n old) is can)))
    | inr other ↦ sofar.begun k (omega arith) can
  ];
  others = λ k not. sofar.others k (λ low can. not (omega arith) can);
  marked = λ k below can. elim (cases_eq k f) [
    | inl is ↦ cannot (subst (λ (n : ℕ). CanBeEmptied n d) is can)
    | inr other ↦ sofar.marked k (omega arith) can
  ];
  slots = sofar.slots;
  table = sofar.table;
  releases = sofar.releases;
}

pub mark_step : (r : Result (Unit {0}) Refusal) (f : ℕ) (old d new : DriveFields) → MarksSoFar f old d → Marks f d r new → MarksSoFar (f + 1) old new
mark_step (Ok u) f old d new sofar marks = record {
  table = marked_more f old.store.table d.store.table new.store.table sofar.table (ap (λ (s : StoreFields). s.log.held) sofar.same) marks.frame.marked (ap (λ (s : StoreFields). s.log.held) marks.store);
  same = marks.store ∙ sofar.same;
  ledger = marks.ledger ∙ sofar.ledger;
}
mark_step (Err e) f old d new sofar marks = record {
  table = subst (λ (x : DriveFields). MarkedBelow (f + 1) old.store.table x.store.table) (sym marks.refused) (marked_not f old.store.table d.store.table sofar.table (ap (λ (s : StoreFields). s.log.held) sofar.same) marks.frame.answer.1);
  same = marks.store ∙ sofar.same;
  ledger = marks.ledger ∙ sofar.ledger;
}

-- ---- counting

pub count_alike : (p q : ℕ → Bool) (a n : ℕ) → ((k : ℕ) → a ≤ k → k < a + n → p k ≡ q k) → count_by p (range_with_len a n) ≡ count_by q (range_with_len a n)
count_alike p q a zero alike = refl
count_alike p q a (suc n) alike =
    count_first p a n
    ∙ ap (λ (b : Bool). tally b + count_by p (range_with_len (a + 1) n)) (alike a (omega arith) (omega arith))
    ∙ ap (λ (m : ℕ). tally (q a) + m) (count_alike p q (a + 1) n (λ k low high. alike k (omega arith) (omega arith)))
    ∙ sym (count_first q a n)

-- one more number is counted, or isn't
pub count_more : (p q : ℕ → Bool) (n : ℕ) → ((k : ℕ) → k < n → p k ≡ q k) → count_by p (range_with_len 0 (n + 1)) ≡ count_by q (range_with_len 0 n) + tally (p n)
count_more p q n alike =
    let next : n + 1 ≡ suc n = omega arith in
    let here : tally (p (0 + n)) ≡ tally (p n) = ap (λ (m : ℕ). tally (p m)) (omega arith) in
    ap (λ (m : ℕ). count_by p (range_with_len 0 m)) next ∙ count_last p 0 n
    ∙ ap (λ (m : ℕ). m + tally (p (0 + n))) (count_alike p q 0 n (λ k low high. alike k (omega arith)))
    ∙ ap (λ (m : ℕ). count_by q (range_with_len 0 n) + m) here

-- ---- from the highest frame down

-- the frame of an index is the one before those that are done
pub next_down : (count index : ℕ) → index < count → count - index ≡ (count - 1 - index) + 1
next_down count index below = omega (arith, below)

-- and the first of those that are done then
pub one_down : (Done : ℕ → Type 0) (count index : ℕ) → index < count → Done (count - 1 - index) → Done (count - (index + 1))
one_down Done count index below = subst Done (omega (arith, below))

-- ---- releasing

-- how far releasing has come in a drive: down to frame first, and with the frames below that it ends at a reader if they do
pub record ReleasesSoFar (first f : ℕ) (old new : DriveFields) : Type 0 where
  pub table : ReleasedFrom first f old.store.table new.store.table
  pub rest : (last : Drive) → EndsAtReader first new.store.table.seat last → EndsAtReader f old.store.table.seat last
  pub objects : KeepsObjects (store_of old) (store_of new)
  pub ledger : new.ledger ≡ old.ledger

pub none_released : (f : ℕ) (d : DriveFields) → ReleasesSoFar f f d d
none_released f d = record {
  table = record { count = refl; between = λ k from below. absurd (omega arith); sealed = λ k is. is; tried = omega arith };
  rest = λ last ended. ended;
  objects = kept_all (store_of d);
  ledger = refl;
}

-- at its end
pub all_released : (first f : ℕ) (old new : DriveFields) → first ≡ 0 → ReleasesSoFar first f old new → ReleasedBelow f old.store.table new.store.table
all_released first f old new end sofar = subst (λ (n : ℕ). ReleasedFrom n f old.store.table new.store.table) end sofar.table

released_frame : (old new : Table) (f k : ℕ) → IsReleased f old new → (k ≡ f → ⊥) → frame_at new.seat.frames k ≡ frame_at old.seat.frames k
released_frame old new f k done other = ap (λ (d : Drive). frame_at d.frames k) done.seat ∙ changed_else old.seat.frames f k (released (frame_at old.seat.frames f)) other

released_here : (old new : Table) (f : ℕ) → IsReleased f old new → frame_at new.seat.frames f ≡ released (frame_at old.seat.frames f)
released_here old new f done = ap (λ (d : Drive). frame_at d.frames f) done.seat ∙ changed_here old.seat.frames f (released (frame_at old.seat.frames f)) done.inside

-- frame n was released, the one before those that are done
released_more : (n f : ℕ) (old d new : Table) → ReleasedFrom (n + 1) f old d → IsReleased n d new → ReleasedFrom n f old new
released_more n f old d new sofar done =
    let low : old.seat.releases.tried ≤ d.seat.releases.tried = sofar.tried in
    let tries : new.seat.releases.tried ≡ d.seat.releases.tried + 1 = ap (λ (x : Drive). x.releases.tried) done.seat in
    record {
      count = ap (λ (x : Drive). length x.frames) done.seat ∙ changed_count d.seat.frames n (released (frame_at d.seat.frames n)) ∙ sofar.count;
      between = λ k from lt here. elim (cases_eq k n) [
        | inl at ↦ free_not_draining (sym (ap (λ (m : ℕ). (frame_at new.seat.frames m).phase) at ∙ ap (λ (x : Frame). x.phase) (released_here d new n done)) ∙ here)
        | inr other ↦ sofar.between k (omega arith) lt (sym (ap (λ (x : Frame). x.phase) (released_frame d new n k done other)) ∙ here)
      ];
      sealed = λ k here. elim (cases_eq k n) [
        | inl at ↦ absurd (not_free (sym (ap (λ (m : ℕ). (frame_at new.seat.frames m).phase) at ∙ ap (λ (x : Frame). x.phase) (released_here d new n done)) ∙ here))
        | inr other ↦ sofar.sealed k (sym (ap (λ (x : Frame). x.phase) (released_frame d new n k done other)) ∙ here)
      ];
      tried = omega (arith, low, tries);
    }

-- frame n isn't being emptied
released_not : (n f : ℕ) (old d : Table) → ReleasedFrom (n + 1) f old d → is_draining (frame_at d.seat.frames n).phase ≡ false → ReleasedFrom n f old d
released_not n f old d sofar not = record {
  count = sofar.count;
  between = λ k from lt here. elim (cases_eq k n) [
    | inl at ↦ false≢true (sym not ∙ ap is_draining (ap (λ (m : ℕ). (frame_at d.seat.frames m).phase) (sym at) ∙ here))
    | inr other ↦ sofar.between k (omega arith) lt here
  ];
  sealed = sofar.sealed;
  tried = sofar.tried;
}

-- a frame was released, and then those below it down to a reader; or it had a reader itself
end_below : (n : ℕ) (d new last : Drive) → FreesFrame n d new → EndsAtReader n new last → EndsAtReader (n + 1) d last
end_below n d new last one rest =
    let next : suc n ≡ n + 1 = omega arith in
    let all : EndsAtReader (suc n) d last = inr (new, one, rest) in
    subst (λ (m : ℕ). EndsAtReader m d last) next all

end_here : (n : ℕ) (d last : Drive) → MeetsReader n d last → EndsAtReader (n + 1) d last
end_here n d last meets =
    let next : suc n ≡ n + 1 = omega arith in
    let all : EndsAtReader (suc n) d last = inl meets in
    subst (λ (m : ℕ). EndsAtReader m d last) next all

frees : (n : ℕ) (old new : Table) → IsReleased n old new → FreesFrame n old.seat new.seat
frees n old new done = record { freed = λ draining. done.seat; idle = λ not. absurd (not done.draining) }

frees_none : (n : ℕ) (d : Drive) → is_draining (frame_at d.frames n).phase ≡ false → FreesFrame n d d
frees_none n d not = record { freed = λ draining. absurd (false≢true (sym not ∙ ap is_draining draining)); idle = λ other. refl }

pub release_step : (first n f : ℕ) (old d e new last : DriveFields) → first ≡ n + 1 → ReleasesSoFar first f old d → e ≡ d → IsReleased n e.store.table new.store.table → KeepsObjects (store_of e) (store_of new) → new.ledger ≡ e.ledger → last ≡ new → ReleasesSoFar n f old last
release_step first n f old d e new last next sofar same done objects ledger is =
    let moved : ReleasesSoFar (n + 1) f old d = subst (λ (m : ℕ). ReleasesSoFar m f old d) next sofar in
    let before : ReleasesSoFar (n + 1) f old e = subst (ReleasesSoFar (n + 1) f old) (sym same) moved in
    subst (ReleasesSoFar n f old) (sym is) (record {
      table = released_more n f old.store.table e.store.table new.store.table before.table done;
      rest = λ x ended. before.rest x (end_below n e.store.table.seat new.store.table.seat x (frees n e.store.table new.store.table done) ended);
      objects = kept_on (store_of old) (store_of e) (store_of new) before.objects objects;
      ledger = ledger ∙ before.ledger;
    })

pub skip_step : (first n f : ℕ) (old d e last : DriveFields) → first ≡ n + 1 → ReleasesSoFar first f old d → e ≡ d → is_draining (frame_at d.store.table.seat.frames n).phase ≡ false → last ≡ e → ReleasesSoFar n f old last
skip_step first n f old d e last next sofar same not is =
    let before : ReleasesSoFar (n + 1) f old d = subst (λ (m : ℕ). ReleasesSoFar m f old d) next sofar in
    subst (ReleasesSoFar n f old) (sym (is ∙ same)) (record {
      table = released_not n f old.store.table d.store.table before.table not;
      rest = λ x ended. before.rest x (end_below n d.store.table.seat d.store.table.seat x (frees_none n d.store.table.seat not) ended);
      objects = before.objects;
      ledger = before.ledger;
    })

-- ---- where a frame had a reader

draining_is : (p : Phase) → is_draining p ≡ true → p ≡ Draining
draining_is Free is = absurd (false≢true is)
draining_is Open is = absurd (false≢true is)
draining_is Sealed is = absurd (false≢true is)
draining_is Draining is = refl

missed_from : (first f n : ℕ) (old d new : DriveFields) → ReleasesSoFar first f old d → is_draining (frame_at d.store.table.seat.frames n).phase ≡ true
    → ((frame_at d.store.table.seat.frames n).phase ≡ Draining → HasMissed n d.store.table.seat new.store.table.seat) → HasFoundReader old.store.table.seat new.store.table.seat
missed_from first f n old d new sofar is misses =
    let draining : (frame_at d.store.table.seat.frames n).phase ≡ Draining = draining_is (frame_at d.store.table.seat.frames n).phase is in
    let miss : HasMissed n d.store.table.seat new.store.table.seat = misses draining in
    let last : new.store.table.seat.releases.last ≡ n = ap (λ (x : Drive). x.releases.last) miss.else_same in
    let tries : new.store.table.seat.releases.tried ≡ d.store.table.seat.releases.tried + 1 = ap (λ (x : Drive). x.releases.tried) miss.else_same in
    let low : old.store.table.seat.releases.tried ≤ d.store.table.seat.releases.tried = sofar.table.tried in
    let frame : frame_at new.store.table.seat.frames new.store.table.seat.releases.last ≡ frame_at d.store.table.seat.frames n =
    ap (frame_at new.store.table.seat.frames) last ∙ ap (λ (x : Drive). frame_at x.frames n) miss.else_same in
    record {
      since = omega (arith, tries, low);
      draining = ap (λ (k : Frame). k.phase) frame ∙ draining;
      readers = miss.readers;
      some_reader = miss.some_reader;
      found = miss.found ∙ ap (λ (k : Frame). word_of k miss.readers) (sym frame);
    }

pub missed : (first f n : ℕ) (old d e new : DriveFields) → ReleasesSoFar first f old d → e ≡ d → is_draining (frame_at d.store.table.seat.frames n).phase ≡ true
    → ((frame_at e.store.table.seat.frames n).phase ≡ Draining → HasMissed n e.store.table.seat new.store.table.seat) → HasFoundReader old.store.table.seat new.store.table.seat
missed first f n old d e new sofar same is misses =
    missed_from first f n old d new sofar is (subst (λ (x : DriveFields). (frame_at x.store.table.seat.frames n).phase ≡ Draining → HasMissed n x.store.table.seat new.store.table.seat) same misses)

-- and there it ended
pub missed_ends : (first f n : ℕ) (old d e new : DriveFields) → first ≡ n + 1 → ReleasesSoFar first f old d → e ≡ d → is_draining (frame_at d.store.table.seat.frames n).phase ≡ true
    → ((frame_at e.store.table.seat.frames n).phase ≡ Draining → HasMissed n e.store.table.seat new.store.table.seat) → EndsAtReader f old.store.table.seat new.store.table.seat
missed_ends first f n old d e new next sofar same is misses =
    let miss : (frame_at d.store.table.seat.frames n).phase ≡ Draining → HasMissed n d.store.table.seat new.store.table.seat =
    subst (λ (x : DriveFields). (frame_at x.store.table.seat.frames n).phase ≡ Draining → HasMissed n x.store.table.seat new.store.table.seat) same misses in
    let draining : (frame_at d.store.table.seat.frames n).phase ≡ Draining = draining_is (frame_at d.store.table.seat.frames n).phase is in
    let moved : ReleasesSoFar (n + 1) f old d = subst (λ (m : ℕ). ReleasesSoFar m f old d) next sofar in
    moved.rest new.store.table.seat (end_here n d.store.table.seat new.store.table.seat (record { draining = draining; missed = miss draining }))

-- the objects are as they were also then
pub missed_keeps : (first f : ℕ) (old d e new : DriveFields) → ReleasesSoFar first f old d → e ≡ d → KeepsObjects (store_of e) (store_of new) → KeepsObjects (store_of old) (store_of new)
missed_keeps first f old d e new sofar same objects = kept_on (store_of old) (store_of d) (store_of new) sofar.objects (subst (λ (x : DriveFields). KeepsObjects (store_of x) (store_of new)) same objects)

pub missed_count : (first f : ℕ) (old d e new : DriveFields) → ReleasesSoFar first f old d → e ≡ d → new.store.table.seat.frames ≡ e.store.table.seat.frames → length new.store.table.seat.frames ≡ length old.store.table.seat.frames
missed_count first f old d e new sofar same stays = ap (λ (ks : List Frame). length ks) stays ∙ ap (λ (x : DriveFields). length x.store.table.seat.frames) same ∙ sofar.table.count

-- ---- at the end

vacated_at : (phase : Phase) → (phase ≡ Sealed → ⊥) → (phase ≡ Draining → ⊥) → (phase ≡ Open) ⊎ (phase ≡ Free)
vacated_at Free sealed draining = inr refl
vacated_at Open sealed draining = inl refl
vacated_at Sealed sealed draining = absurd (sealed refl)
vacated_at Draining sealed draining = absurd (draining refl)

-- all frames were marked, and then all released
all_vacated : (count : ℕ) (old d new : Table) → count ≡ length old.seat.frames → MarkedBelow count old d → ReleasedBelow count d new → (log_of new).held ≡ (log_of d).held → AllVacated new
all_vacated count old d new whole marked released same f within none =
    let low : f < length new.seat.frames = within in
    let lengths : length new.seat.frames ≡ length old.seat.frames = released.count ∙ marked.count in
    let below : f < count = omega (arith, low, lengths, whole) in
    vacated_at (frame_at new.seat.frames f).phase (λ sealed. marked.marked f below (released.sealed f sealed, none_again f new d (sym same) none)) (released.between f (omega arith) below)

found_since : (old d new : Drive) → d.releases ≡ old.releases → HasFoundReader d new → HasFoundReader old new
found_since old d new same found = record {
  since = subst (λ (m : ℕ). m < new.releases.tried) (ap (λ (r : Releases). r.tried) same) found.since;
  draining = found.draining;
  readers = found.readers;
  some_reader = found.some_reader;
  found = found.found;
}

pub has_vacated : (r : Result (Unit {0}) Refusal) (count : ℕ) (old d new : DriveFields) → count ≡ length old.store.table.seat.frames → MarksSoFar count old d
    → OnOk r (ReleasedBelow count d.store.table new.store.table) → IfErr r (λ e. (e ≡ InUse) × HasFoundReader d.store.table.seat new.store.table.seat)
    → OnErr r (EndsAtReader count d.store.table.seat new.store.table.seat) → length new.store.table.seat.frames ≡ length d.store.table.seat.frames → KeepsObjects (store_of d) (store_of new) → new.ledger ≡ d.ledger → HasVacated r old new
has_vacated (Ok done) count old d new whole marked released refused ended frames objects ledger = record {
  vacated = all_vacated count old.store.table d.store.table new.store.table whole marked.table released objects.held;
  refusal = tt;
  frames = frames ∙ marked.table.count;
  objects = kept_on (store_of old) (store_of d) (store_of new) (kept_same (store_of old) (store_of d) marked.same) objects;
  ledger = ledger ∙ marked.ledger;
}
has_vacated (Err e) count old d new whole marked released refused ended frames objects ledger = record {
  vacated = tt;
  refusal = (
    refused.0,
    record {
      between = d.store.table;
      marked = subst (λ (n : ℕ). MarkedBelow n old.store.table d.store.table) whole marked.table;
      ended = subst (λ (n : ℕ). EndsAtReader n d.store.table.seat new.store.table.seat) whole ended;
      reader = found_since old.store.table.seat d.store.table.seat new.store.table.seat marked.table.releases refused.1;
    },
  );
  frames = frames ∙ marked.table.count;
  objects = kept_on (store_of old) (store_of d) (store_of new) (kept_same (store_of old) (store_of d) marked.same) objects;
  ledger = ledger ∙ marked.ledger;
}
