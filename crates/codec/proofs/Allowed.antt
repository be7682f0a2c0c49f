-- The rules of an entry by a version: those of a single entry, where its sizes and triples are allowed.
use Rattle.std.proofs.Common.{◌≡◌, ℕ, Bool, true, false, List, Option, Some, None, refl, ap, ◌∙◌}
use Rattle.std.proofs.lemmas.Bool.{and_right}
use Rattle.lemmas.proofs.Bool.{and_true}
use Rattle.codec.specs.Fields.{◌>>=◌, kept}
use Rattle.codec.specs.Entry.{EntryFields, entry_rules, is_small, is_allowed_by, pair_at, triples_at_by, checked_entry, checked_entry_by, behind_statuses}
use Rattle.codec.specs.declared.entries.Status.{Status}
use Rattle.codec.specs.declared.entries.Triple.{Triple}
use Rattle.codec.specs.declared.entries.Pair.{Pair}
use Rattle.codec.specs.declared.versions.ImageVersion.{ImageVersion}
use Rattle.codec.specs.declared.versions.ImageVersion.TheVariants.{First, Second}

pub allowed_entry : (v : ImageVersion) (e : EntryFields) → is_allowed_by v e.before.size e.after.size e.triples ≡ true → checked_entry_by v e ≡ checked_entry e
unfolding is_small
allowed_entry First e h = ap (λ (b : Bool). kept b e) (and_true (entry_rules e) (is_small e) h)
allowed_entry Second e h = refl

pub refused_entry : (v : ImageVersion) (e : EntryFields) → is_allowed_by v e.before.size e.after.size e.triples ≡ false → checked_entry_by v e ≡ None
unfolding is_small
refused_entry First e h = ap (λ (b : Bool). kept b e) (and_right (entry_rules e) (is_small e) h)
refused_entry Second e h = absurd cc

-- an entry that is read, by its pair and its triples
abbrev entry_of : ℕ → Status → Status → Option Pair → List Triple → EntryFields
entry_of moment before after pair triples = record { moment = moment; before = before; after = after; pair = pair; triples = triples }

-- what comes after the pair of an entry
abbrev after_pair : ImageVersion → ℕ → Status → Status → Option Pair → Option (List Triple × List ℕ) → Option (EntryFields × List ℕ)
after_pair v moment before after pair triples = triples >>= λ t. checked_entry_by v (entry_of moment before after pair t.0) >>= λ made. Some (made, t.1)

after_triples : (v : ImageVersion) (moment : ℕ) (before after : Status) (there : Bool) (count : ℕ) (bytes middle rest : List ℕ) (pair : Option Pair) (triples : List Triple)
    → pair_at there bytes ≡ Some (pair, middle) → triples_at_by v count middle ≡ Some (triples, rest)
    → behind_statuses v moment before after there count bytes ≡ (checked_entry_by v (entry_of moment before after pair triples) >>= λ made. Some (made, rest))
after_triples v moment before after there count bytes middle rest pair triples p t =
    ap (λ (o : Option (Option Pair × List ℕ)). o >>= λ x. after_pair v moment before after x.0 (triples_at_by v count x.1)) p
    ∙ ap (after_pair v moment before after pair) t

pub rest_refused : (v : ImageVersion) (moment : ℕ) (before after : Status) (there : Bool) (count : ℕ) (bytes middle rest : List ℕ) (pair : Option Pair) (triples : List Triple)
    → pair_at there bytes ≡ Some (pair, middle) → triples_at_by v count middle ≡ Some (triples, rest)
    → is_allowed_by v before.size after.size triples ≡ false
    → behind_statuses v moment before after there count bytes ≡ None
rest_refused v moment before after there count bytes middle rest pair triples p t h =
    after_triples v moment before after there count bytes middle rest pair triples p t
    ∙ ap (λ (o : Option EntryFields). o >>= λ made. Some (made, rest)) (refused_entry v (entry_of moment before after pair triples) h)

pub rest_allowed : (v : ImageVersion) (moment : ℕ) (before after : Status) (there : Bool) (count : ℕ) (bytes middle rest : List ℕ) (pair : Option Pair) (triples : List Triple) (e : EntryFields)
    → pair_at there bytes ≡ Some (pair, middle) → triples_at_by v count middle ≡ Some (triples, rest)
    → is_allowed_by v before.size after.size triples ≡ true
    → checked_entry (entry_of moment before after pair triples) ≡ Some e
    → behind_statuses v moment before after there count bytes ≡ Some (e, rest)
rest_allowed v moment before after there count bytes middle rest pair triples e p t h is =
    after_triples v moment before after there count bytes middle rest pair triples p t
    ∙ ap (λ (o : Option EntryFields). o >>= λ made. Some (made, rest)) (allowed_entry v (entry_of moment before after pair triples) h ∙ is)
