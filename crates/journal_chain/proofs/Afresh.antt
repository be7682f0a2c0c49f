-- A chain written afresh beside the old one, whose blocks are then dropped.
use Rattle.std.proofs.Common.{◌≡◌, ℕ, ◌+◌, ◌≤◌, ◌<◌, List, [], ◌∷◌, ◌++◌, map, length, drop, get_or, Option, Some, None, IsSome, is_some, unwrap_or, refl, sym, ap, ◌∙◌, subst, arith}
use Rattle.std.specs.List.{flat_map}
use Rattle.std.specs.Option.{option_to_list}
use Rattle.std.proofs.lemmas.List.{drop_more}
use Rattle.s4_types.specs.Pointer.{Place}
use Rattle.s4_types.specs.declared.limits.TheConstants.{CHAIN_BLOCKS, CHAIN_ENTRY_BYTES}
use Rattle.block_log.specs.declared.kinds.BlockKind.TheVariants.{Journal}
use Rattle.block_log.specs.Log.{Log, Stored, of_kind, without, dropped}
use Rattle.codec.specs.Fields.{bit}
use Rattle.codec.specs.Entry.{EntryFields, entries_length}
use Rattle.codec.specs.Journal.{JournalFields}
use Rattle.codec.proofs.Exact.{bind_some}
use Rattle.journal_chain.specs.Packing.{packed, joined, packed_with, filled_bytes, AllFit}
use Rattle.journal_chain.specs.Chain.{ChainFields, Holds, OnlyJournalChanged, chain_links, chain_places, places_of, blocks_of, times}
use Rattle.journal_chain.specs.Writing.{Standing, Finished, Unfinished, Put}
use Rattle.journal_chain.specs.Back.{links_back, places_back}
use Rattle.journal_chain.proofs.Tables.{only-refl, only-trans, dropped_journal}
use Rattle.journal_chain.proofs.Chains.{held_of, put_finished, put_changes_only, drop_finished, stale_there, drop_changes_only}
use Rattle.journal_chain.proofs.Backwards.{back_of_chain}

-- ---- what is there before

pub record OldBlocks (held : Place → Option Stored) (chain : ChainFields) : Type 0 where
  pub there : IsSome (links_back held chain.head)
  pub standing : Standing chain.object (of_kind Journal chain.object held) [] (places_back held chain.head)

pub old_blocks : (held : Place → Option Stored) (chain : ChainFields) (entries : List EntryFields) → Holds held chain entries → OldBlocks held chain
unfolding times
old_blocks held chain entries c =
    let view = of_kind Journal chain.object held in
    let (links, walk, same) = bind_some (chain_links view chain.object chain.head) (λ links. Some (blocks_of links)) (packed entries) c.blocks in
    let back : links_back held chain.head ≡ Some links = back_of_chain held chain.object chain.head links walk in
    let places : chain_places view chain.object chain.head ≡ places_back held chain.head =
    ap (λ l. places_of (unwrap_or l [])) walk ∙ sym (ap (λ l. places_of (unwrap_or l [])) back) in
    record {
      there = ap is_some back;
      standing = record { stands = tt; once = λ p. let h : times p (places_back held chain.head) ≡ bit (is_some (view p)) = subst (λ l. times p l ≡ bit (is_some (view p))) places (c.once p) in omega arith };
    }

-- where no journal block of the object is held, none stands and none is to be dropped
pub none_standing : (held : Place → Option Stored) (o : ℕ) → ((p : Place) → of_kind Journal o held p ≡ None) → Standing o (of_kind Journal o held) [] []
unfolding times
none_standing held o none = record { stands = tt; once = λ p. sym (ap (λ (b : Option (List ℕ)). bit (is_some b)) (none p)) }

-- ---- dropping

pub drop_some : (log later : Log) (p : Place) (place : Option Place) (o : ℕ) (stale : List Place) (head : Option Place) (entries : List EntryFields)
    → place ≡ Some p → later ≡ dropped log p → Finished log.held o (option_to_list place ++ stale) head entries
    → Finished later.held o stale head entries × (OnlyJournalChanged o log.held later.held × (later.named ≡ log.named))
drop_some log later p place o stale head entries is drops f =
    let g : Finished log.held o (p ∷ stale) head entries = subst (λ (x : Option Place). Finished log.held o (option_to_list x ++ stale) head entries) is f in
    let gone : later ≡ record log { held = without log.held p } = drops ∙ dropped_journal log p o (stale_there log.held o stale p head entries g) in
    subst (λ (l : Log). Finished l.held o stale head entries × (OnlyJournalChanged o log.held l.held × (l.named ≡ log.named))) (sym gone)
    (drop_finished log.held o stale p head entries g, (drop_changes_only log.held o stale p head entries g, refl))

pub next_place : (places : List (Option Place)) (i : ℕ) (place : Option Place) → i < length places → place ≡ get_or places i place
    → flat_map option_to_list (drop i places) ≡ option_to_list place ++ flat_map option_to_list (drop (i + 1) places)
next_place places i place lt is =
    ap (flat_map option_to_list) (drop_more places i place lt ∙ ap (λ x. x ∷ drop (i + 1) places) (sym is))

pub each_there : (places : List Place) → flat_map option_to_list (map Some places) ≡ places
each_there [] = refl
each_there (p ∷ places) = ap (λ l. p ∷ l) (each_there places)

-- ---- writing

first_block : (held : Place → Option Stored) (o : ℕ) (stale : List Place) (first : EntryFields) (block : JournalFields)
    → Standing o (of_kind Journal o held) [] stale → block ≡ record { object = o; previous = None; entries = first ∷ [] } → Unfinished held o stale block (first ∷ [])
unfolding packed_with
first_block held o stale first block s is = subst (λ b. Unfinished held o stale b (first ∷ [])) (sym is) (record {
  links = [];
  standing = s;
  object = refl;
  previous = refl;
  blocks = refl;
})

pub record Written (later : Place → Option Stored) (o : ℕ) (stale : List Place) (head : Place) (block : JournalFields) (entries : List EntryFields) : Type 0 where
  pub finished : Finished later o stale (Some head) entries
  pub filled : entries_length block.entries ≡ filled_bytes (packed entries)

pub written : (log log2 log3 : Log) (o : ℕ) (first : EntryFields) (later : List EntryFields) (b1 b2 : JournalFields) (head : Place) (stale : List Place)
    → b1 ≡ record { object = o; previous = None; entries = first ∷ [] }
    → ((s : List Place) (b : List EntryFields) → Unfinished log.held b1.object s b1 b → Unfinished log2.held b1.object s b2 (b ++ later))
    → Put log2 log3 head b2 → Standing o (of_kind Journal o log.held) [] stale → Written log3.held o stale head b2 (first ∷ later)
unfolding filled_bytes
written log log2 log3 o first later b1 b2 head stale is takes put s =
    let at : b1.object ≡ o = ap (λ (b : JournalFields). b.object) is in
    let u1 : Unfinished log.held b1.object stale b1 (first ∷ []) = subst (λ n. Unfinished log.held n stale b1 (first ∷ [])) (sym at) (first_block log.held o stale first b1 s is) in
    let u2 : Unfinished log2.held o stale b2 (first ∷ later) = subst (λ n. Unfinished log2.held n stale b2 (first ∷ later)) at (takes stale (first ∷ []) u1) in
    record { finished = put_finished log2 log3 head o stale b2 (first ∷ later) u2 put; filled = sym (ap filled_bytes u2.blocks) }

pub written_only : (log log2 log3 : Log) (o : ℕ) (b1 b2 : JournalFields) (head : Place) → b1.object ≡ o → b2.object ≡ b1.object
    → OnlyJournalChanged b1.object log.held log2.held → Put log2 log3 head b2 → OnlyJournalChanged o log.held log3.held
written_only log log2 log3 o b1 b2 head at same only put =
    only-trans o log.held log2.held log3.held (subst (λ n. OnlyJournalChanged n log.held log2.held) at only)
    (subst (λ n. OnlyJournalChanged n log2.held log3.held) (same ∙ at) (put_changes_only log2 log3 head b2 put))

pub none_finished : (held : Place → Option Stored) (o : ℕ) (stale : List Place) → Standing o (of_kind Journal o held) [] stale → Finished held o stale None []
none_finished held o stale s = record { links = []; standing = s; head_is = refl; blocks = refl }

-- ---- the whole

pub record Replaced (first later : Place → Option Stored) (o : ℕ) (after : ChainFields) (entries : List EntryFields) : Type 0 where
  pub finished : Finished later o [] after.head entries
  pub filled : after.filled ≡ filled_bytes (packed entries)
  pub others : OnlyJournalChanged o first later

-- all blocks of the new entries are beside the old ones, which are to be dropped
pub beside_old : (log log1 log2 : Log) (chain : ChainFields) (new : Option Place) (old entries : List EntryFields) (o : ℕ) (head : Option Place) (places : List (Option Place))
    → log1 ≡ log → Holds log.held chain old → o ≡ chain.object → head ≡ chain.head → places ≡ map Some (places_back log.held head)
    → ((stale : List Place) → Standing o (of_kind Journal o log1.held) [] stale → Finished log2.held o stale new entries)
    → Finished log2.held o (flat_map option_to_list places) new entries × Standing o (of_kind Journal o log1.held) [] (places_back log.held chain.head)
beside_old log log1 log2 chain new old entries o head places same c at begins is writes =
    let b : OldBlocks log.held chain = old_blocks log.held chain old c in
    let old_places = places_back log.held chain.head in
    let s : Standing o (of_kind Journal o log1.held) [] old_places =
    subst (λ n. Standing n (of_kind Journal n log1.held) [] old_places) (sym at)
    (subst (λ (l : Log). Standing chain.object (of_kind Journal chain.object l.held) [] old_places) (sym same) b.standing) in
    let stale : flat_map option_to_list places ≡ old_places = ap (flat_map option_to_list) (is ∙ ap (λ h. map Some (places_back log.held h)) begins) ∙ each_there old_places in
    (subst (λ l. Finished log2.held o l new entries) (sym stale) (writes old_places s), s)

-- names of data stay
pub replaced_names : (log log1 log2 log3 : Log) (chain : ChainFields) (new : Option Place) (old entries : List EntryFields) (o : ℕ) (head : Option Place) (places : List (Option Place))
    → log1 ≡ log → Holds log.held chain old → o ≡ chain.object → head ≡ chain.head → places ≡ map Some (places_back log.held head)
    → ((stale : List Place) → Standing o (of_kind Journal o log1.held) [] stale → Finished log2.held o stale new entries)
    → log2.named ≡ log1.named
    → ((n : ℕ) (head : Option Place) (es : List EntryFields) → Finished log2.held n (flat_map option_to_list places) head es → log3.named ≡ log2.named)
    → log3.named ≡ log.named
replaced_names log log1 log2 log3 chain new old entries o head places same c at begins is writes names drops =
    drops o new entries (beside_old log log1 log2 chain new old entries o head places same c at begins is writes).0 ∙ names ∙ ap (λ (l : Log). l.named) same

pub cleared_names : (log log1 log3 : Log) (chain : ChainFields) (old : List EntryFields) (o : ℕ) (head : Option Place) (places : List (Option Place))
    → log1 ≡ log → Holds log.held chain old → o ≡ chain.object → head ≡ chain.head → places ≡ map Some (places_back log.held head)
    → ((n : ℕ) (head : Option Place) (es : List EntryFields) → Finished log1.held n (flat_map option_to_list places) head es → log3.named ≡ log1.named)
    → log3.named ≡ log.named
cleared_names log log1 log3 chain old o head places same c at begins is drops =
    replaced_names log log1 log1 log3 chain None old [] o head places same c at begins is (λ stale s. none_finished log1.held o stale s) refl drops

pub replaced : (log log1 log2 log3 : Log) (chain after : ChainFields) (old entries : List EntryFields) (o : ℕ) (head : Option Place) (places : List (Option Place))
    → log1 ≡ log → Holds log.held chain old → o ≡ chain.object → head ≡ chain.head → places ≡ map Some (places_back log.held head)
    → ((stale : List Place) → Standing o (of_kind Journal o log1.held) [] stale → Finished log2.held o stale after.head entries)
    → ((stale : List Place) → Standing o (of_kind Journal o log1.held) [] stale → after.filled ≡ filled_bytes (packed entries))
    → OnlyJournalChanged o log1.held log2.held
    → ((n : ℕ) (head : Option Place) (es : List EntryFields) → Finished log2.held n (flat_map option_to_list places) head es → Finished log3.held n [] head es)
    → ((n : ℕ) (head : Option Place) (es : List EntryFields) → Finished log2.held n (flat_map option_to_list places) head es → OnlyJournalChanged n log2.held log3.held)
    → Replaced log.held log3.held chain.object after entries
replaced log log1 log2 log3 chain after old entries o head places same c at begins is writes fills only drops only_drops =
    let old_places = places_back log.held chain.head in
    let (f, s) = beside_old log log1 log2 chain after.head old entries o head places same c at begins is writes in
    record {
      finished = subst (λ n. Finished log3.held n [] after.head entries) at (drops o after.head entries f);
      filled = fills old_places s;
      others = subst (λ n. OnlyJournalChanged n log.held log3.held) at
          (only-trans o log.held log2.held log3.held (subst (λ (l : Log). OnlyJournalChanged o l.held log2.held) same only) (only_drops o after.head entries f));
    }

pub replaced_holds : (first later : Place → Option Stored) (o bytes : ℕ) (after : ChainFields) (entries : List EntryFields)
    → Replaced first later o after entries → after.object ≡ o → after.bytes ≡ bytes → bytes ≡ entries_length entries → bytes ≤ CHAIN_ENTRY_BYTES → AllFit entries
    → ((es : List EntryFields) → joined (packed es) ≡ es)
    → ((es : List EntryFields) → AllFit es → entries_length es ≤ CHAIN_ENTRY_BYTES → length (packed es) ≤ CHAIN_BLOCKS)
    → Holds later after entries
replaced_holds first later o bytes after entries r at told sum limit fit whole short =
    let few : entries_length entries ≤ CHAIN_ENTRY_BYTES = omega (arith, sum, limit) in
    held_of later after entries (subst (λ n. Finished later n [] after.head entries) (sym at) r.finished) (record {
      fit = fit;
      limit = few;
      bytes = told ∙ sum;
      filled = r.filled;
      short = short entries fit few;
      whole = whole entries;
    })

-- an empty chain has no entry, no byte and no block
pub cleared_holds : (later : Place → Option Stored) (o : ℕ) → Finished later o [] None [] → Holds later (record { object = o; head = None; bytes = 0; filled = 0 }) []
unfolding joined filled_bytes entries_length
cleared_holds later o f = held_of later (record { object = o; head = None; bytes = 0; filled = 0 }) [] f (record {
  fit = tt;
  limit = omega arith;
  bytes = refl;
  filled = refl;
  short = omega arith;
  whole = refl;
})

pub cleared : (log log1 log3 : Log) (chain : ChainFields) (old : List EntryFields) (o : ℕ) (head : Option Place) (places : List (Option Place))
    → log1 ≡ log → Holds log.held chain old → o ≡ chain.object → head ≡ chain.head → places ≡ map Some (places_back log.held head)
    → ((n : ℕ) (head : Option Place) (es : List EntryFields) → Finished log1.held n (flat_map option_to_list places) head es → Finished log3.held n [] head es)
    → ((n : ℕ) (head : Option Place) (es : List EntryFields) → Finished log1.held n (flat_map option_to_list places) head es → OnlyJournalChanged n log1.held log3.held)
    → Replaced log.held log3.held chain.object (record { object = o; head = None; bytes = 0; filled = 0 }) []
unfolding filled_bytes
cleared log log1 log3 chain old o head places same c at begins is drops only_drops =
    replaced log log1 log1 log3 chain (record { object = o; head = None; bytes = 0; filled = 0 }) old [] o head places same c at begins is
    (λ stale s. none_finished log1.held o stale s) (λ stale s. refl) (only-refl o log1.held) drops only_drops

pub places_there : (held : Place → Option Stored) (chain : ChainFields) (old : List EntryFields) (head : Option Place) → Holds held chain old → head ≡ chain.head → IsSome (links_back held head)
places_there held chain old head c begins = subst (λ h. IsSome (links_back held h)) (sym begins) (old_blocks held chain old c).there
