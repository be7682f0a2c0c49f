-- What a call on a table answers, and what it makes of a chain that is being written.
use Rattle.std.proofs.Common.{◌≡◌, ℕ, ◌+◌, ◌≤◌, Bool, true, false, ◌==◌, cond, List, [], ◌∷◌, ◌++◌, length, Option, Some, None, Result, Ok, is_some, IsSome, IfOk, refl, sym, ap, ◌∙◌, subst, arith, nat_le, ◌&&◌, add-zero, append_assoc, add_comm}
use Rattle.std.specs.Option.{option_to_list}
use Rattle.std.proofs.lemmas.Bool.{eq-eqb, le-leb, true≢false}
use Rattle.std.proofs.lemmas.Option.{none-some, same_Some, cond_some}
use Rattle.s4_types.specs.Pointer.{Place}
use Rattle.s4_types.specs.declared.limits.TheConstants.{CHAIN_BLOCKS, CHAIN_ENTRY_BYTES}
use Rattle.block_log.specs.declared.kinds.BlockKind.TheVariants.{Journal}
use Rattle.block_log.specs.Log.{Log, Stored, appended, dropped, with_held, without, of_kind, seen_as, same_kind}
use Rattle.block_log.specs.Taken.{TakesPlaces}
use Rattle.codec.specs.Fields.{◌>>=◌, all_of, kept, Reads}
use Rattle.codec.specs.Entry.{EntryFields, entry_length, entries_length}
use Rattle.codec.specs.Journal.{JournalFields, journal_at, journal_spelling}
use Rattle.codec.proofs.JournalEntries.{entries_push}
use Rattle.codec.proofs.Exact.{bind_some}
use Rattle.journal_chain.specs.Sizes.{fits, filled_with, breaks}
use Rattle.journal_chain.specs.Packing.{filled_bytes, packed, joined, AllFit}
use Rattle.journal_chain.specs.Chain.{Link, ChainFields, journal_of, journal_in, blocks_of, Holds, OnlyJournalChanged}
use Rattle.journal_chain.specs.Writing.{head_of, Finished, Unfinished, Put, spelled_journal, reopened}
use Rattle.journal_chain.proofs.Spelled.{bind_is}
use Rattle.journal_chain.proofs.Loops.{all_fit-append, AddUp}
use Rattle.journal_chain.proofs.Tables.{append_holds, append_names, append_next, dropped_journal, only-trans}
use Rattle.journal_chain.proofs.Chains.{held_of, put_finished, put_changes_only, drop_finished, stale_there, drop_changes_only, entry_begins, finished_of, begins_head, head_there, reopens, head_reopened}

-- ---- appending a block

reads_back : (block : JournalFields) → all_of journal_at (journal_spelling block) ≡ Some block → journal_of block.object (journal_spelling block) ≡ Some block
unfolding journal_of
reads_back block h = bind_is (all_of journal_at (journal_spelling block)) (λ j. kept (j.object == block.object) j) block h ∙ ap (λ t. cond t (Some block) None) (eq-eqb block.object block.object refl)

-- an append takes one place
abbrev pub TakesOne : Type 0
TakesOne = (before after : Log) (block : Stored) (p : Place) → appended before block ≡ Some (p, after) → TakesPlaces 1 before after

pub put_since : {E : Type 0} (log later : Log) (r : Result Place E) (p : Place) (block : JournalFields) (o : ℕ) (bytes : List ℕ)
    → TakesOne → r ≡ Ok p → IfOk r (λ q. appended log (record { kind = Journal; object = o; bytes = bytes }) ≡ Some (q, later)) → IfOk r (λ q. log.held q ≡ None)
    → o ≡ block.object → bytes ≡ journal_spelling block → all_of journal_at bytes ≡ Some block → Put log later p block
put_since {E} log later r p block o bytes takes is took free object spells reads =
    let took_p : appended log (record { kind = Journal; object = o; bytes = bytes }) ≡ Some (p, later) =
    subst (λ (x : Result Place E). IfOk x (λ q. appended log (record { kind = Journal; object = o; bytes = bytes }) ≡ Some (q, later))) is took in
    let held : later.held ≡ with_held log.held p (record { kind = Journal; object = o; bytes = bytes }) = append_holds log later (record { kind = Journal; object = o; bytes = bytes }) p took_p in
    record {
      free = subst (λ (x : Result Place E). IfOk x (λ q. log.held q ≡ None)) is free;
      held = held ∙ ap (λ n. with_held log.held p (record { kind = Journal; object = n; bytes = bytes })) object ∙ ap (λ b. with_held log.held p (record { kind = Journal; object = block.object; bytes = b })) spells;
      takes = takes log later (record { kind = Journal; object = o; bytes = bytes }) p took_p;
      next = append_next log later (record { kind = Journal; object = o; bytes = bytes }) p took_p;
      named = append_names log later (record { kind = Journal; object = o; bytes = bytes }) p took_p;
      spells = reads_back block (subst (λ b. all_of journal_at b ≡ Some block) spells reads);
    }

-- ---- one more entry

pub filled_fits : (before after : List EntryFields) (e : EntryFields) → after ≡ before ++ e ∷ [] → fits (entries_length before) (entry_length e) ≡ true
    → entries_length after ≡ filled_with (entries_length before) (entry_length e)
filled_fits before after e is fit = ap entries_length is ∙ entries_push before e ∙ ap (λ t. cond t (entries_length before + entry_length e) (entry_length e)) (sym fit)

pub filled_begins : (before after : List EntryFields) (e : EntryFields) → after ≡ e ∷ [] → fits (entries_length before) (entry_length e) ≡ false
    → entries_length after ≡ filled_with (entries_length before) (entry_length e)
unfolding entries_length
filled_begins before after e is breaks = ap entries_length is ∙ add-zero (entry_length e) ∙ ap (λ t. cond t (entries_length before + entry_length e) (entry_length e)) (sym breaks)

pub new_is : (r : Option JournalFields) (o : ℕ) (made is : JournalFields) → 1 ≤ o → Reads (λ j. j) r (kept (nat_le 1 o) made) → r ≡ Some is → is ≡ made
new_is None o made is least reads h = absurd (none-some is h)
new_is (Some j) o made is least reads h =
    sym (same_Some j is h) ∙ sym (same_Some made j (ap (λ t. cond t (Some made) None) (sym (le-leb 1 o least)) ∙ reads))

pub take_begins : (log later : Log) (p : Place) (stale : List Place) (block after : JournalFields) (entries : List EntryFields) (e : EntryFields)
    → Unfinished log.held block.object stale block entries → Put log later p block → fits (entries_length block.entries) (entry_length e) ≡ false
    → after ≡ record { object = block.object; previous = Some p; entries = e ∷ [] }
    → Unfinished later.held block.object stale after (entries ++ e ∷ [])
take_begins log later p stale block after entries e u put breaks is =
    entry_begins later.held block.object stale p block.entries (blocks_of u.links) entries e after (put_finished log later p block.object stale block entries u put) u.blocks breaks is

-- ---- the last block

pub finish_some : (log between later : Log) (p old : Place) (stale : Option Place) (block : JournalFields) (entries : List EntryFields)
    → stale ≡ Some old → Put log between p block → later ≡ dropped between old → Unfinished log.held block.object (option_to_list stale) block entries
    → Finished later.held block.object [] (Some p) entries × (OnlyJournalChanged block.object log.held later.held × (later.named ≡ log.named))
finish_some log between later p old stale block entries is put drops u =
    let o = block.object in
    let f : Finished between.held o (old ∷ []) (Some p) entries =
    put_finished log between p o (old ∷ []) block entries (subst (λ (s : Option Place). Unfinished log.held o (option_to_list s) block entries) is u) put in
    let both : Finished (without between.held old) o [] (Some p) entries × (OnlyJournalChanged o log.held (without between.held old) × (between.named ≡ log.named)) = (
      drop_finished between.held o [] old (Some p) entries f,
      (
        only-trans o log.held between.held (without between.held old) (put_changes_only log between p block put) (drop_changes_only between.held o [] old (Some p) entries f),
        put.named,
      ),
    ) in
    let gone : later ≡ record between { held = without between.held old } = drops ∙ dropped_journal between old o (stale_there between.held o [] old (Some p) entries f) in
    subst (λ (l : Log). Finished l.held o [] (Some p) entries × (OnlyJournalChanged o log.held l.held × (l.named ≡ log.named))) (sym gone) both

pub finish_none : (log later : Log) (p : Place) (stale : Option Place) (block : JournalFields) (entries : List EntryFields)
    → stale ≡ None → Put log later p block → Unfinished log.held block.object (option_to_list stale) block entries
    → Finished later.held block.object [] (Some p) entries
finish_none log later p stale block entries is put u =
    put_finished log later p block.object [] block entries (subst (λ (s : Option Place). Unfinished log.held block.object (option_to_list s) block entries) is u) put

-- ---- the first entry

shown_bytes : (test : Bool) (bytes shown : List ℕ) → cond test (Some bytes) None ≡ Some shown → bytes ≡ shown
shown_bytes true bytes shown h = same_Some bytes shown h
shown_bytes false bytes shown h = absurd (none-some shown h)

pub spelled_since : (there : Option Stored) (o : ℕ) (j : JournalFields) → (seen_as Journal o there >>= journal_of o) ≡ Some j → spelled_journal there ≡ Some j
unfolding journal_of
spelled_since None o j h = absurd (none-some j h)
spelled_since (Some block) o j h =
    let (bytes, shows, spells) = bind_some (seen_as Journal o (Some block)) (journal_of o) j h in
    let same : block.bytes ≡ bytes = shown_bytes (same_kind Journal block.kind && block.object == o) block.bytes bytes shows in
    let (k, reads, keeps) = bind_some (all_of journal_at bytes) (λ k. kept (k.object == o) k) j spells in
    ap (all_of journal_at) same ∙ reads ∙ ap Some (cond_some (k.object == o) k j keeps).1

-- the block that is read where a head is reopened
pub record HeadRead (held : Place → Option Stored) (chain : ChainFields) (size : ℕ) (p : Place) (block : JournalFields) : Type 0 where
  pub reads : journal_in chain.object (of_kind Journal chain.object held) p ≡ Some block
  pub object : block.object ≡ chain.object
  pub filled : chain.filled ≡ entries_length block.entries
  pub fit : fits chain.filled size ≡ true

pub some_is : {A : Type 0} (o : Option A) → is_some o ≡ true → (x : A) × (o ≡ Some x)
some_is None h = absurd (true≢false (sym h))
some_is (Some x) h = (x, refl)

pub head_spelled : (held : Place → Option Stored) (chain : ChainFields) (entries : List EntryFields) (size : ℕ) (p : Place)
    → Holds held chain entries → reopened chain size ≡ Some p → IsSome (spelled_journal (held p))
head_spelled held chain entries size p c again =
    let (j, reads) = some_is (journal_in chain.object (of_kind Journal chain.object held) p) (head_there held chain entries size p c again) in
    ap is_some (spelled_since (held p) chain.object j reads)

pub head_read : (held : Place → Option Stored) (chain : ChainFields) (entries : List EntryFields) (size : ℕ) (p : Place) (block : JournalFields)
    → Holds held chain entries → reopened chain size ≡ Some p → spelled_journal (held p) ≡ Some block → HeadRead held chain size p block
unfolding filled_bytes
head_read held chain entries size p block c again here =
    let o = chain.object in
    let (j, reads) = some_is (journal_in o (of_kind Journal o held) p) (head_there held chain entries size p c again) in
    let is : j ≡ block = same_Some j block (sym (spelled_since (held p) o j reads) ∙ here) in
    let reads_it : journal_in o (of_kind Journal o held) p ≡ Some block = reads ∙ ap Some is in
    let (fit, head) = reopens (fits chain.filled size) chain.head p again in
    let f : Finished held o [] chain.head entries = finished_of held chain entries c in
    let u : Unfinished held o (p ∷ []) block entries = head_reopened held o entries p block f.links f.standing (sym head ∙ f.head_is) f.blocks reads_it in
    record { reads = reads_it; object = u.object; filled = c.filled ∙ ap filled_bytes u.blocks; fit = fit }

pub begun_head : (log later : Log) (chain : ChainFields) (entries : List EntryFields) (e : EntryFields) (p : Place) (block after : JournalFields)
    → later ≡ log → Holds log.held chain entries → reopened chain (entry_length e) ≡ Some p → spelled_journal (log.held p) ≡ Some block
    → after.object ≡ block.object → after.previous ≡ block.previous → after.entries ≡ block.entries ++ e ∷ []
    → Unfinished later.held chain.object (option_to_list (reopened chain (entry_length e))) after (entries ++ e ∷ [])
begun_head log later chain entries e p block after same c again here object previous more =
    let r : HeadRead log.held chain (entry_length e) p block = head_read log.held chain entries (entry_length e) p block c again here in
    let u : Unfinished log.held chain.object (p ∷ []) after (entries ++ e ∷ []) = begins_head log.held chain entries e p block after c again r.reads object previous more in
    subst (λ (l : Log). Unfinished l.held chain.object (option_to_list (reopened chain (entry_length e))) after (entries ++ e ∷ [])) (sym same)
    (subst (λ (s : Option Place). Unfinished log.held chain.object (option_to_list s) after (entries ++ e ∷ [])) (sym again) u)

pub begun_filled : (held : Place → Option Stored) (chain : ChainFields) (e : EntryFields) (p : Place) (block : JournalFields) (after : List EntryFields)
    → HeadRead held chain (entry_length e) p block → after ≡ block.entries ++ e ∷ [] → entries_length after ≡ filled_with chain.filled (entry_length e)
begun_filled held chain e p block after r is =
    filled_fits block.entries after e is (ap (λ n. fits n (entry_length e)) (sym r.filled) ∙ r.fit) ∙ ap (λ n. filled_with n (entry_length e)) (sym r.filled)

fits_or_alone : (test : Bool) (head : Option Place) (filled size : ℕ) → cond test head None ≡ None → (head ≡ None → filled ≡ 0) → size ≡ cond test (filled + size) size
fits_or_alone true head filled size none empty = let e : filled ≡ 0 = empty none in omega arith
fits_or_alone false head filled size none empty = refl

either_none : (test : Bool) (x : Option Place) → x ≡ None → cond test x None ≡ None
either_none true x h = h
either_none false x h = refl

empty_filled : (links : List Link) (head : Option Place) → head ≡ head_of links → head ≡ None → filled_bytes (blocks_of links) ≡ 0
unfolding filled_bytes
empty_filled [] head is none = refl
empty_filled (newest ∷ older) head is none = absurd (none-some newest.place (sym none ∙ is))

pub new_filled : (held : Place → Option Stored) (chain : ChainFields) (entries : List EntryFields) (e : EntryFields) (after : List EntryFields)
    → Holds held chain entries → reopened chain (entry_length e) ≡ None → after ≡ e ∷ [] → entries_length after ≡ filled_with chain.filled (entry_length e)
unfolding entries_length
new_filled held chain entries e after c none is =
    let f : Finished held chain.object [] chain.head entries = finished_of held chain entries c in
    ap entries_length is ∙ add-zero (entry_length e)
    ∙ fits_or_alone (fits chain.filled (entry_length e)) chain.head chain.filled (entry_length e) none
    (λ empty. c.filled ∙ ap filled_bytes f.blocks ∙ empty_filled f.links chain.head f.head_is empty)

-- ---- the whole push

pub record Pushed (first_held later_held : Place → Option Stored) (between : Place → Option Stored) (o : ℕ) (stale : List Place) (block : JournalFields) (head : Place) (entries : List EntryFields) : Type 0 where
  pub unfinished : Unfinished between o stale block entries
  pub finished : Finished later_held o [] (Some head) entries
  pub others : OnlyJournalChanged o first_held later_held

pub pushed : (log log1 log2 log3 : Log) (chain : ChainFields) (old : List EntryFields) (first : EntryFields) (later : List EntryFields) (b1 b2 : JournalFields) (head : Place) (stale : Option Place)
    → log1 ≡ log
    → Unfinished log1.held chain.object (option_to_list (reopened chain (entry_length first))) b1 (old ++ first ∷ [])
    → b1.object ≡ chain.object
    → stale ≡ reopened chain (entry_length first)
    → ((s : List Place) (b : List EntryFields) → Unfinished log1.held b1.object s b1 b → Unfinished log2.held b1.object s b2 (b ++ later))
    → OnlyJournalChanged b1.object log1.held log2.held
    → b2.object ≡ b1.object
    → ((b : List EntryFields) → Unfinished log2.held b2.object (option_to_list stale) b2 b → Finished log3.held b2.object [] (Some head) b)
    → ((b : List EntryFields) → Unfinished log2.held b2.object (option_to_list stale) b2 b → OnlyJournalChanged b2.object log2.held log3.held)
    → Pushed log.held log3.held log2.held chain.object (option_to_list stale) b2 head (old ++ first ∷ later)
pushed log log1 log2 log3 chain old first later b1 b2 head stale same u e1 stale_is takes only12 e2 finishes only23 =
    let o = chain.object in
    let whole : (old ++ first ∷ []) ++ later ≡ old ++ first ∷ later = append_assoc old (first ∷ []) later in
    let u1 : Unfinished log1.held b1.object (option_to_list stale) b1 (old ++ first ∷ []) =
    subst (λ (n : ℕ). Unfinished log1.held n (option_to_list stale) b1 (old ++ first ∷ [])) (sym e1)
    (subst (λ (s : Option Place). Unfinished log1.held o (option_to_list s) b1 (old ++ first ∷ [])) (sym stale_is) u) in
    let u2 : Unfinished log2.held b1.object (option_to_list stale) b2 (old ++ first ∷ later) =
    subst (λ (l : List EntryFields). Unfinished log2.held b1.object (option_to_list stale) b2 l) whole (takes (option_to_list stale) (old ++ first ∷ []) u1) in
    let u3 : Unfinished log2.held b2.object (option_to_list stale) b2 (old ++ first ∷ later) =
    subst (λ (n : ℕ). Unfinished log2.held n (option_to_list stale) b2 (old ++ first ∷ later)) (sym e2) u2 in
    let at : b2.object ≡ o = e2 ∙ e1 in
    record {
      unfinished = subst (λ (n : ℕ). Unfinished log2.held n (option_to_list stale) b2 (old ++ first ∷ later)) at u3;
      finished = subst (λ (n : ℕ). Finished log3.held n [] (Some head) (old ++ first ∷ later)) at (finishes (old ++ first ∷ later) u3);
      others = only-trans o log.held log2.held log3.held
          (subst (λ (l : Log). OnlyJournalChanged o l.held log2.held) same (subst (λ (n : ℕ). OnlyJournalChanged n log1.held log2.held) e1 only12))
          (subst (λ (n : ℕ). OnlyJournalChanged n log2.held log3.held) at (only23 (old ++ first ∷ later) u3));
    }

-- names of data stay
pub pushed_names : (log log1 log2 log3 : Log) (chain : ChainFields) (b2 : JournalFields) (head : Place) (stale : Option Place) (entries : List EntryFields)
    → log1 ≡ log → log2.named ≡ log1.named → b2.object ≡ chain.object
    → ((b : List EntryFields) → Unfinished log2.held b2.object (option_to_list stale) b2 b → log3.named ≡ log2.named)
    → Pushed log.held log3.held log2.held chain.object (option_to_list stale) b2 head entries → log3.named ≡ log.named
pushed_names log log1 log2 log3 chain b2 head stale entries same takes at finishes p =
    finishes entries (subst (λ (n : ℕ). Unfinished log2.held n (option_to_list stale) b2 entries) (sym at) p.unfinished) ∙ takes ∙ ap (λ (l : Log). l.named) same

pub pushed_holds : (held between later : Place → Option Stored) (chain after : ChainFields) (old new : List EntryFields) (stale : List Place) (block : JournalFields) (head : Place) (bytes filled : ℕ)
    → Holds held chain old → Pushed held later between chain.object stale block head (old ++ new)
    → AllFit new → bytes ≡ entries_length new → chain.bytes + bytes ≤ CHAIN_ENTRY_BYTES → filled ≡ entries_length block.entries
    → after ≡ record { object = chain.object; head = Some head; bytes = chain.bytes + bytes; filled = filled }
    → ((es : List EntryFields) → joined (packed es) ≡ es)
    → ((xs ys : List EntryFields) → entries_length (xs ++ ys) ≡ entries_length xs + entries_length ys)
    → ((es : List EntryFields) → AllFit es → entries_length es ≤ CHAIN_ENTRY_BYTES → length (packed es) ≤ CHAIN_BLOCKS)
    → Holds later after (old ++ new)
unfolding filled_bytes
pushed_holds held between later chain after old new stale block head bytes filled c p fit count limit filled_is is whole sums short =
    let made : ChainFields = record { object = chain.object; head = Some head; bytes = chain.bytes + bytes; filled = filled } in
    let sum : entries_length (old ++ new) ≡ entries_length old + entries_length new = sums old new in
    let had : chain.bytes ≡ entries_length old = c.bytes in
    let all : AllFit (old ++ new) = all_fit-append old new c.fit fit in
    let few : entries_length (old ++ new) ≤ CHAIN_ENTRY_BYTES = omega (arith, limit, had, sum, count) in
    subst (λ (a : ChainFields). Holds later a (old ++ new)) (sym is)
    (held_of later made (old ++ new) p.finished (record {
      fit = all;
      limit = few;
      bytes = omega (arith, had, sum, count);
      filled = filled_is ∙ sym (ap filled_bytes p.unfinished.blocks);
      short = short (old ++ new) all few;
      whole = whole (old ++ new);
    }))

-- the places that are taken once the last block is appended
pub takes_last : (needed : ℕ) (first between later : Log) → AddUp → TakesPlaces needed first between → TakesPlaces 1 between later → TakesPlaces (1 + needed) first later
takes_last needed first between later adds most last = subst (λ n. TakesPlaces n first later) (add_comm needed 1) (adds needed 1 first between later most last)

pub alone_filled : (after : List EntryFields) (e : EntryFields) → after ≡ e ∷ [] → entries_length after ≡ filled_with 0 (entry_length e)
unfolding entries_length
alone_filled after e is = ap entries_length is ∙ add-zero (entry_length e) ∙ fits_or_alone (fits 0 (entry_length e)) None 0 (entry_length e) (either_none (fits 0 (entry_length e)) None refl) (λ h. refl)
