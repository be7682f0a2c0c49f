-- What is logged of a drive, object by object.
use Rattle.std.proofs.Common.{◌≡◌, ◌∙◌, ◌+◌, ◌<◌, ◌++◌, ℕ, List, [], ◌∷◌, length, map, get_or, take, Option, Some, None, sym, ap, append_assoc}
use Rattle.std.specs.Prelude.{option_to_list}
use Rattle.std.specs.List.{flat_map}
use Rattle.lemmas.proofs.List.{flat_map_take_next}
use Rattle.s4_model.specs.State.{state_of}
use Rattle.segment_word.specs.AcceptViews.{Ledger}
use Rattle.version_store.specs.Store.{StoreFields}
use Rattle.drive.specs.Fields.{DriveFields, state_in, store_of}
use Rattle.history_view.specs.declared.changes.ObjectChange.{ObjectChange}
use Rattle.history_view.specs.declared.logs.LogQuery.{LogQuery}
use Rattle.history_view.specs.declared.rows.LogRow.{LogRow}
use Rattle.history_view.specs.declared.rows.LogRow.TheVariants.{Changed}
use Rattle.history_view.specs.declared.stats.ObjectStat.{ObjectStat}
use Rattle.history_view.specs.Changes.{changes_between}
use Rattle.history_view.specs.Logs.{rows_of, stat_in}

-- the changes of a drive that stayed are those of before
changes_as_before : (d e : DriveFields) (o since until : ℕ) → d.ledger ≡ e.ledger → store_of d ≡ store_of e → changes_between (state_in d) (store_of d) o since until ≡ changes_between (state_in e) (store_of e) o since until
changes_as_before d e o since until ledger store =
    ap (λ (l : Ledger). changes_between (state_of l.history) (store_of d) o since until) ledger ∙ ap (λ (x : StoreFields). changes_between (state_in e) x o since until) store

-- so is what they come to
stat_as_before : (d e : DriveFields) (query : LogQuery) (o : ℕ) → d.ledger ≡ e.ledger → store_of d ≡ store_of e → stat_in (state_in d) (store_of d) query o ≡ stat_in (state_in e) (store_of e) query o
stat_as_before d e query o ledger store =
    ap (λ (l : Ledger). stat_in (state_of l.history) (store_of d) query o) ledger ∙ ap (λ (x : StoreFields). stat_in (state_in e) x query o) store

-- the rows of one object more are added
pub rows_on : (d e : DriveFields) (since until : ℕ) (objects : List ℕ) (i o : ℕ) (before rows grown : List LogRow) (changes : List ObjectChange) → d.ledger ≡ e.ledger → store_of d ≡ store_of e → i < length objects → o ≡ get_or objects i o
    → changes ≡ changes_between (state_in d) (store_of d) o since until → rows ≡ before ++ flat_map (rows_of (state_in e) (store_of e) since until) (take i objects) → grown ≡ rows ++ map (Changed o) changes
    → grown ≡ before ++ flat_map (rows_of (state_in e) (store_of e) since until) (take (i + 1) objects)
rows_on d e since until objects i o before rows grown changes ledger store lt here are so_far is =
    let f = rows_of (state_in e) (store_of e) since until in
    let same : map (Changed o) changes ≡ f o = ap (λ (cs : List ObjectChange). map (Changed o) cs) (are ∙ changes_as_before d e o since until ledger store) in
    is ∙ ap (λ (l : List LogRow). l ++ map (Changed o) changes) so_far ∙ ap (λ (l : List LogRow). (before ++ flat_map f (take i objects)) ++ l) same
    ∙ append_assoc before (flat_map f (take i objects)) (f o) ∙ ap (λ (l : List LogRow). before ++ l) (sym (flat_map_take_next f objects i o lt here))

-- what one object more comes to is added
pub stats_on : (d e : DriveFields) (query : LogQuery) (objects : List ℕ) (i o : ℕ) (stats grown : List ObjectStat) (found : Option ObjectStat) → d.ledger ≡ e.ledger → store_of d ≡ store_of e → i < length objects → o ≡ get_or objects i o
    → found ≡ stat_in (state_in d) (store_of d) query o → stats ≡ flat_map (λ o. option_to_list (stat_in (state_in e) (store_of e) query o)) (take i objects) → grown ≡ stats ++ option_to_list found
    → grown ≡ flat_map (λ o. option_to_list (stat_in (state_in e) (store_of e) query o)) (take (i + 1) objects)
stats_on d e query objects i o stats grown found ledger store lt here is so_far more =
    let f : ℕ → List ObjectStat = λ p. option_to_list (stat_in (state_in e) (store_of e) query p) in
    let same : option_to_list found ≡ f o = ap (λ (x : Option ObjectStat). option_to_list x) (is ∙ stat_as_before d e query o ledger store) in
    more ∙ ap (λ (l : List ObjectStat). l ++ option_to_list found) so_far ∙ ap (λ (l : List ObjectStat). flat_map f (take i objects) ++ l) same ∙ sym (flat_map_take_next f objects i o lt here)
