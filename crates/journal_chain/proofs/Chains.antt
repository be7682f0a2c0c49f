-- A chain that is held, as blocks that stand, and back.
use Rattle.std.proofs.Common.{◌≡◌, inl, inr, ℕ, ◌+◌, ◌≤◌, Bool, true, false, cond, List, [], ◌∷◌, ◌++◌, length, Option, Some, None, is_some, refl, sym, ap, ◌∙◌, subst, arith}
use Rattle.std.specs.Option.{unwrap_or}
use Rattle.std.proofs.lemmas.List.{length-map}
use Rattle.std.proofs.lemmas.List.Sums.{fold-append}
use Rattle.std.proofs.lemmas.Bool.{cases_Bool}
use Rattle.std.proofs.lemmas.Option.{none-some, same_Some}
use Rattle.s4_types.specs.Pointer.{Place}
use Rattle.s4_types.specs.declared.limits.TheConstants.{CHAIN_BLOCKS, CHAIN_ENTRY_BYTES}
use Rattle.block_log.specs.declared.kinds.BlockKind.TheVariants.{Journal}
use Rattle.block_log.specs.Log.{Log, Stored, of_kind, with_held, without}
use Rattle.codec.specs.Fields.{bit}
use Rattle.codec.specs.Entry.{EntryFields, entry_length, entries_length}
use Rattle.codec.specs.Journal.{JournalFields, journal_spelling}
use Rattle.codec.proofs.Exact.{bind_some}
use Rattle.journal_chain.specs.Sizes.{fits}
use Rattle.journal_chain.specs.Packing.{packed, joined, packed_with, filled_bytes, AllFit}
use Rattle.journal_chain.specs.Chain.{BlockView, Link, ChainFields, journal_of, journal_in, chain_links, chain_places, places_of, blocks_of, times, IsChain, Holds, OnlyJournalChanged}
use Rattle.journal_chain.specs.Writing.{head_of, fields_of_block, Stands, Standing, Finished, Unfinished, Put, reopened}
use Rattle.journal_chain.proofs.Spelled.{bind_is, Found, walk_of_stands, stands_of_walk}
use Rattle.journal_chain.proofs.Places.{times-here}
use Rattle.journal_chain.proofs.Steps.{head_stale, block_put, stale_dropped}
use Rattle.journal_chain.proofs.Tables.{put_changes, dropped_changes, free_in_view, put_only, dropped_only}

-- packing goes on where it stopped
pub packed_more : (entries : List EntryFields) (e : EntryFields) → packed (entries ++ e ∷ []) ≡ packed_with (packed entries) e
packed_more entries e = fold-append packed_with [] entries (e ∷ [])

-- ---- a chain that is held stands

finished_view : (view : BlockView) (chain : ChainFields) (entries : List EntryFields) → IsChain view chain entries
    → (links : List Link) × (Standing chain.object view links [] × ((chain.head ≡ head_of links) × (packed entries ≡ blocks_of links)))
unfolding chain_links
finished_view view chain entries c =
    let (links, walk, same) = bind_some (chain_links view chain.object chain.head) (λ links. Some (blocks_of links)) (packed entries) c.blocks in
    let found : Found CHAIN_BLOCKS chain.object view chain.head links = stands_of_walk CHAIN_BLOCKS chain.object view chain.head links walk in
    let places : chain_places view chain.object chain.head ≡ places_of links = ap (λ l. places_of (unwrap_or l [])) walk in (
      links,
      (
        record { stands = found.stands; once = λ p. let none : times p [] ≡ 0 = unfold times in refl in let h : times p (places_of links) ≡ bit (is_some (view p)) = subst (λ l. times p l ≡ bit (is_some (view p))) places (c.once p) in omega arith },
        (found.head_is, sym (same_Some (blocks_of links) (packed entries) same)),
      ),
    )

pub finished_of : (held : Place → Option Stored) (chain : ChainFields) (entries : List EntryFields) → Holds held chain entries → Finished held chain.object [] chain.head entries
finished_of held chain entries c =
    let (links, (standing, (head, blocks))) = finished_view (of_kind Journal chain.object held) chain entries c in
    record { links = links; standing = standing; head_is = head; blocks = blocks }

-- ---- blocks that stand are a chain that is held

-- what a push or a rewrite must know of its entries beside their blocks
pub record Counts (chain : ChainFields) (entries : List EntryFields) : Type 0 where
  pub fit : AllFit entries
  pub limit : entries_length entries ≤ CHAIN_ENTRY_BYTES
  pub bytes : chain.bytes ≡ entries_length entries
  pub filled : chain.filled ≡ filled_bytes (packed entries)
  pub short : length (packed entries) ≤ CHAIN_BLOCKS
  pub whole : joined (packed entries) ≡ entries

pub held_of : (held : Place → Option Stored) (chain : ChainFields) (entries : List EntryFields) → Finished held chain.object [] chain.head entries → Counts chain entries → Holds held chain entries
unfolding chain_links
held_of held chain entries f n =
    let view = of_kind Journal chain.object held in
    let short : length f.links ≤ CHAIN_BLOCKS = let e : length (blocks_of f.links) ≡ length f.links = length-map f.links (λ (l : Link). l.entries) in let g : length (packed entries) ≡ length (blocks_of f.links) = ap length f.blocks in omega (arith, n.short) in
    let walk : chain_links view chain.object chain.head ≡ Some f.links =
    subst (λ h. chain_links view chain.object h ≡ Some f.links) (sym f.head_is) (walk_of_stands CHAIN_BLOCKS chain.object view f.links f.standing.stands short) in
    let places : chain_places view chain.object chain.head ≡ places_of f.links = ap (λ l. places_of (unwrap_or l [])) walk in
    record {
      blocks = bind_is (chain_links view chain.object chain.head) (λ links. Some (blocks_of links)) f.links walk ∙ ap Some (sym f.blocks);
      walk = bind_is (chain_links view chain.object chain.head) (λ links. Some (joined (blocks_of links))) f.links walk ∙ ap (λ b. Some (joined b)) (sym f.blocks) ∙ ap Some n.whole;
      once = λ p. let none : times p [] ≡ 0 = unfold times in refl in let h = f.standing.once p in
          subst (λ l. times p l ≡ bit (is_some (view p))) (sym places) (omega arith);
      fit = n.fit;
      limit = n.limit;
      bytes = n.bytes;
      filled = n.filled;
    }

-- ---- a block is put

pub put_finished : (log later : Log) (p : Place) (o : ℕ) (stale : List Place) (block : JournalFields) (entries : List EntryFields)
    → Unfinished log.held o stale block entries → Put log later p block → Finished later.held o stale (Some p) entries
put_finished log later p o stale block entries u put =
    let link : Link = record { place = p; entries = block.entries } in
    let held : Place → Option Stored = with_held log.held p (record { kind = Journal; object = o; bytes = journal_spelling block }) in
    let same : later.held ≡ held = put.held ∙ ap (λ n. with_held log.held p (record { kind = Journal; object = n; bytes = journal_spelling block })) u.object in
    let spells : journal_of o (journal_spelling block) ≡ Some (fields_of_block o link u.links) =
    ap (λ n. journal_of n (journal_spelling block)) (sym u.object) ∙ put.spells
    ∙ ap (λ n. Some (record { object = n; previous = block.previous; entries = block.entries })) u.object
    ∙ ap (λ q. Some (record { object = o; previous = q; entries = block.entries })) u.previous in
    record {
      links = link ∷ u.links;
      standing = subst (λ h. Standing o (of_kind Journal o h) (link ∷ u.links) stale) (sym same)
          (block_put o (of_kind Journal o log.held) (of_kind Journal o held) u.links stale p (journal_spelling block) block.entries u.standing
          (free_in_view log.held p Journal o put.free) (put_changes log.held p o (journal_spelling block)) spells);
      head_is = refl;
      blocks = u.blocks;
    }

pub put_changes_only : (log later : Log) (p : Place) (block : JournalFields) → Put log later p block → OnlyJournalChanged block.object log.held later.held
put_changes_only log later p block put =
    subst (λ h. OnlyJournalChanged block.object log.held h) (sym put.held) (put_only log.held p block.object (journal_spelling block) put.free)

-- ---- one more entry

pub entry_fits : (held : Place → Option Stored) (o : ℕ) (stale : List Place) (block : JournalFields) (entries : List EntryFields) (e : EntryFields) (later : JournalFields)
    → Unfinished held o stale block entries → fits (entries_length block.entries) (entry_length e) ≡ true
    → later.object ≡ block.object → later.previous ≡ block.previous → later.entries ≡ block.entries ++ e ∷ []
    → Unfinished held o stale later (entries ++ e ∷ [])
unfolding packed_with
entry_fits held o stale block entries e later u fit object previous more = record {
  links = u.links;
  standing = u.standing;
  object = object ∙ u.object;
  previous = previous ∙ u.previous;
  blocks = packed_more entries e ∙ ap (λ b. packed_with b e) u.blocks
      ∙ ap (λ t. cond t ((block.entries ++ e ∷ []) ∷ blocks_of u.links) ((e ∷ []) ∷ block.entries ∷ blocks_of u.links)) fit
      ∙ ap (λ b. b ∷ blocks_of u.links) (sym more);
}

pub entry_begins : (held : Place → Option Stored) (o : ℕ) (stale : List Place) (p : Place) (newest : List EntryFields) (older : List (List EntryFields)) (entries : List EntryFields) (e : EntryFields) (later : JournalFields)
    → Finished held o stale (Some p) entries → packed entries ≡ newest ∷ older → fits (entries_length newest) (entry_length e) ≡ false
    → later ≡ record { object = o; previous = Some p; entries = e ∷ [] }
    → Unfinished held o stale later (entries ++ e ∷ [])
unfolding packed_with
entry_begins held o stale p newest older entries e later f blocks breaks is =
    subst (λ l. Unfinished held o stale l (entries ++ e ∷ [])) (sym is) (record {
      links = f.links;
      standing = f.standing;
      object = refl;
      previous = f.head_is;
      blocks = packed_more entries e ∙ ap (λ b. packed_with b e) blocks
          ∙ ap (λ t. cond t ((newest ++ e ∷ []) ∷ older) ((e ∷ []) ∷ newest ∷ older)) breaks
          ∙ ap (λ b. (e ∷ []) ∷ b) (sym blocks ∙ f.blocks);
    })

-- ---- the first entry of a push

begun : (chain : ChainFields) (entries : List EntryFields) (e : EntryFields) (links : List Link) → reopened chain (entry_length e) ≡ None → chain.filled ≡ filled_bytes (packed entries)
    → chain.head ≡ head_of links → packed entries ≡ blocks_of links → packed_with (blocks_of links) e ≡ (e ∷ []) ∷ blocks_of links
unfolding packed_with filled_bytes
begun chain entries e [] new count head blocks = refl
begun chain entries e (newest ∷ older) new count head blocks =
    let filled : chain.filled ≡ entries_length newest.entries = count ∙ ap filled_bytes blocks in
    let breaks : fits (entries_length newest.entries) (entry_length e) ≡ false = elim (cases_Bool (fits (entries_length newest.entries) (entry_length e))) [
      | inr ne ↦ ne
      | inl is ↦ absurd (none-some newest.place (sym new ∙ ap (λ n. cond (fits n (entry_length e)) chain.head None) filled ∙ ap (λ t. cond t chain.head None) is ∙ head))
    ] in
    ap (λ t. cond t ((newest.entries ++ e ∷ []) ∷ blocks_of older) ((e ∷ []) ∷ newest.entries ∷ blocks_of older)) breaks

pub begins_block : (held : Place → Option Stored) (chain : ChainFields) (entries : List EntryFields) (e : EntryFields) (block : JournalFields)
    → Holds held chain entries → reopened chain (entry_length e) ≡ None
    → block ≡ record { object = chain.object; previous = chain.head; entries = e ∷ [] }
    → Unfinished held chain.object [] block (entries ++ e ∷ [])
begins_block held chain entries e block c new is =
    let f : Finished held chain.object [] chain.head entries = finished_of held chain entries c in
    let more : packed (entries ++ e ∷ []) ≡ (e ∷ []) ∷ blocks_of f.links = packed_more entries e ∙ ap (λ b. packed_with b e) f.blocks ∙ begun chain entries e f.links new c.filled f.head_is f.blocks in
    subst (λ b. Unfinished held chain.object [] b (entries ++ e ∷ [])) (sym is) (record {
      links = f.links;
      standing = f.standing;
      object = refl;
      previous = f.head_is;
      blocks = more;
    })

pub head_reopened : (held : Place → Option Stored) (o : ℕ) (entries : List EntryFields) (p : Place) (block : JournalFields) (links : List Link)
    → Standing o (of_kind Journal o held) links [] → Some p ≡ head_of links → packed entries ≡ blocks_of links
    → journal_in o (of_kind Journal o held) p ≡ Some block → Unfinished held o (p ∷ []) block entries
head_reopened held o entries p block [] standing head blocks reads = absurd (none-some p (sym head))
head_reopened held o entries p block (newest ∷ older) standing head blocks reads =
    let at : p ≡ newest.place = same_Some p newest.place head in
    let is : fields_of_block o newest older ≡ block = same_Some (fields_of_block o newest older) block (sym standing.stands.0 ∙ ap (journal_in o (of_kind Journal o held)) (sym at) ∙ reads) in
    subst (λ b. Unfinished held o (p ∷ []) b entries) is (record {
      links = older;
      standing = subst (λ q. Standing o (of_kind Journal o held) older (q ∷ [])) (sym at) (head_stale o (of_kind Journal o held) newest older standing);
      object = refl;
      previous = refl;
      blocks = blocks;
    })

pub reopens : (test : Bool) (head : Option Place) (p : Place) → cond test head None ≡ Some p → (test ≡ true) × (head ≡ Some p)
reopens true head p h = (refl, h)
reopens false head p h = absurd (none-some p h)

pub begins_head : (held : Place → Option Stored) (chain : ChainFields) (entries : List EntryFields) (e : EntryFields) (p : Place) (block later : JournalFields)
    → Holds held chain entries → reopened chain (entry_length e) ≡ Some p
    → journal_in chain.object (of_kind Journal chain.object held) p ≡ Some block
    → later.object ≡ block.object → later.previous ≡ block.previous → later.entries ≡ block.entries ++ e ∷ []
    → Unfinished held chain.object (p ∷ []) later (entries ++ e ∷ [])
unfolding filled_bytes
begins_head held chain entries e p block later c again reads object previous more =
    let (fit, head) = reopens (fits chain.filled (entry_length e)) chain.head p again in
    let f : Finished held chain.object [] chain.head entries = finished_of held chain entries c in
    let u : Unfinished held chain.object (p ∷ []) block entries = head_reopened held chain.object entries p block f.links f.standing (sym head ∙ f.head_is) f.blocks reads in
    let filled : chain.filled ≡ entries_length block.entries = c.filled ∙ ap filled_bytes u.blocks in
    entry_fits held chain.object (p ∷ []) block entries e later u (ap (λ n. fits n (entry_length e)) (sym filled) ∙ fit) object previous more

newest_there : (held : Place → Option Stored) (o : ℕ) (p : Place) (links : List Link) → Stands o (of_kind Journal o held) links → Some p ≡ head_of links → is_some (journal_in o (of_kind Journal o held) p) ≡ true
newest_there held o p [] stands head = absurd (none-some p (sym head))
newest_there held o p (newest ∷ older) stands head = ap (λ q. is_some (journal_in o (of_kind Journal o held) q)) (same_Some p newest.place head) ∙ ap is_some stands.0

-- the head can be read where it is reopened
pub head_there : (held : Place → Option Stored) (chain : ChainFields) (entries : List EntryFields) (size : ℕ) (p : Place)
    → Holds held chain entries → reopened chain size ≡ Some p → is_some (journal_in chain.object (of_kind Journal chain.object held) p) ≡ true
head_there held chain entries size p c again =
    let (fit, head) = reopens (fits chain.filled size) chain.head p again in
    let f : Finished held chain.object [] chain.head entries = finished_of held chain entries c in
    newest_there held chain.object p f.links f.standing.stands (sym head ∙ f.head_is)

-- ---- a stale block is dropped

pub drop_finished : (held : Place → Option Stored) (o : ℕ) (stale : List Place) (p : Place) (head : Option Place) (entries : List EntryFields)
    → Finished held o (p ∷ stale) head entries → Finished (without held p) o stale head entries
drop_finished held o stale p head entries f = record {
  links = f.links;
  standing = stale_dropped o (of_kind Journal o held) (of_kind Journal o (without held p)) f.links stale p f.standing (dropped_changes held p o);
  head_is = f.head_is;
  blocks = f.blocks;
}

there_since : {A : Type 0} (o : Option A) → 1 ≤ bit (is_some o) → is_some o ≡ true
there_since None h = absurd (omega arith)
there_since (Some x) h = refl

-- a stale block is a journal block of the object
pub stale_there : (held : Place → Option Stored) (o : ℕ) (stale : List Place) (p : Place) (head : Option Place) (entries : List EntryFields)
    → Finished held o (p ∷ stale) head entries → is_some (of_kind Journal o held p) ≡ true
stale_there held o stale p head entries f =
    let h = f.standing.once p in
    let e : times p (p ∷ stale) ≡ 1 + times p stale = times-here p stale in
    there_since (of_kind Journal o held p) (omega arith)

pub drop_changes_only : (held : Place → Option Stored) (o : ℕ) (stale : List Place) (p : Place) (head : Option Place) (entries : List EntryFields)
    → Finished held o (p ∷ stale) head entries → OnlyJournalChanged o held (without held p)
drop_changes_only held o stale p head entries f = dropped_only held p o (stale_there held o stale p head entries f)
