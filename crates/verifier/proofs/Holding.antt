-- What is held of a table grows by the places that a row names.
use Rattle.std.proofs.Common.{◌≡◌, ◌⊎◌, inl, inr, ℕ, ◌+◌, ◌<◌, ◌==◌, ◌&&◌, true, false, cond, List, [], ◌∷◌, ◌++◌, length, get_or, take, Option, Some, None, IsSome, IfSome, refl, sym, ap, ◌∙◌, subst}
use Rattle.std.specs.List.{Contains}
use Rattle.std.proofs.lemmas.Bool.{cases_Bool, cond-true, cond-false, and_parts, eqb-true, false≢true}
use Rattle.std.proofs.lemmas.List.{take_more}
use Rattle.std.proofs.lemmas.List.Elements.{Contains-append_left, Contains-push, Contains-push_cases}
use Rattle.std.proofs.lemmas.Option.{none-some}
use Rattle.s4_types.specs.Pointer.{Place}
use Rattle.lemmas.proofs.Contains.{contains_none}
use Rattle.block_log.specs.Log.{Stored, of_kind, seen_as, same_kind, same_place}
use Rattle.block_log.specs.declared.kinds.BlockKind.{BlockKind}
use Rattle.block_log.proofs.Places.{same_place_itself}
use Rattle.block_log.proofs.BlockKinds.{one_kind}
use Rattle.image_objects.specs.declared.rows.ImageRow.{ImageRow}
use Rattle.image_objects.specs.Naming.{NamesUsed, IsNamedBy, HoldsWhatIsNamed}
use Rattle.segment_table.specs.Table.{Table}
use Rattle.segment_table.specs.Used.{used_at}
use Rattle.verifier.specs.private.Holding.{HoldsAlso, IsUsedAlike}

-- places that the test finds to be one are equal
abbrev pub OneName : Type 0
OneName = (p q : Place) → same_place p q ≡ true → p ≡ q

-- ---- one place more, and so all of a list

pub also_none : (used held : Place → Option Stored) → HoldsAlso used held held []
also_none used held = record {
  only = λ p block h. inl h;
  kept = λ p block h u. h;
  added = λ p there. absurd (contains_none p there);
}

also_one : OneName → (used held now after : Place → Option Stored) (places : List Place) (place : Place) → HoldsAlso used held now places
    → ((q : Place) → after q ≡ cond (same_place place q) (used place) (now q)) → HoldsAlso used held after (places ++ place ∷ [])
also_one name used held now after places place also step =
    let here : (p : Place) → same_place place p ≡ true → after p ≡ used p =
    λ p is. step p ∙ cond-true (same_place place p) (used place) (now p) is ∙ ap used (name place p is) in
    let else : (p : Place) → same_place place p ≡ false → after p ≡ now p =
    λ p ne. step p ∙ cond-false (same_place place p) (used place) (now p) ne in
    record {
      only = λ p block h. elim (cases_Bool (same_place place p)) [
        | inl is ↦ inr (subst (λ q. Contains (places ++ place ∷ []) q) (name place p is) (Contains-push places place), sym (here p is) ∙ h)
        | inr ne ↦ elim (also.only p block (sym (else p ne) ∙ h)) [
          | inl was ↦ inl was
          | inr more ↦ inr (Contains-append_left places (place ∷ []) p more.0, more.1)
        ]
      ];
      kept = λ p block h u. elim (cases_Bool (same_place place p)) [
        | inl is ↦ here p is ∙ u
        | inr ne ↦ else p ne ∙ also.kept p block h u
      ];
      added = λ p there. elim (cases_Bool (same_place place p)) [
        | inl is ↦ here p is
        | inr ne ↦ elim (Contains-push_cases places place p there) [
          | inl before ↦ else p ne ∙ also.added p before
          | inr is ↦ absurd (false≢true (sym ne ∙ subst (λ (q : Place). same_place place q ≡ true) is (same_place_itself place)))
        ]
      ];
    }

pub also_more : OneName → (used held now after : Place → Option Stored) (places : List Place) (i : ℕ) (place : Place) → i < length places → place ≡ get_or places i place
    → HoldsAlso used held now (take i places) → ((q : Place) → after q ≡ cond (same_place place q) (used place) (now q)) → HoldsAlso used held after (take (i + 1) places)
also_more name used held now after places i place lt is also step =
    subst (λ (l : List Place). HoldsAlso used held after l) (sym (take_more places i place lt ∙ ap (λ (p : Place). take i places ++ p ∷ []) (sym is)))
    (also_one name used held now after (take i places) place also step)

-- ---- tables of which the same blocks are used

pub alike_itself : (t : Table) → IsUsedAlike t t
alike_itself t = record { used = λ p. refl; frames = refl; slots = λ f. refl }

pub alike_on : (a b c : Table) → IsUsedAlike a b → IsUsedAlike b c → IsUsedAlike a c
alike_on a b c first second = record {
  used = λ p. second.used p ∙ first.used p;
  frames = second.frames ∙ first.frames;
  slots = λ f. second.slots f ∙ first.slots f;
}

pub same_used : (a b : Table) → IsUsedAlike a b → used_at b ≡ used_at a
same_used a b alike = λ i p. alike.used p i

-- ---- what a row names

-- a block that is seen as of a kind and an object is of these
seen : (kind : BlockKind) (o : ℕ) (block : Stored) → IsSome (seen_as kind o (Some block)) → (kind ≡ block.kind) × (block.object ≡ o)
seen kind o block there = elim (cases_Bool (same_kind kind block.kind && block.object == o)) [
  | inl is ↦ (let parts = and_parts (same_kind kind block.kind) (block.object == o) is in (one_kind kind block.kind parts.0, eqb-true block.object o parts.1))
  | inr ne ↦ absurd (false≢true (subst (λ (x : Option (List ℕ)). IsSome x) (cond-false (same_kind kind block.kind && block.object == o) (Some block.bytes) None ne) there))
]

-- What a row names is of its object and used; and these are places that it names, and all of them.
pub record AreNamed (used : Place → Option Stored) (row : ImageRow) (places : List Place) : Type 0 where
  pub only : (p : Place) → Contains places p → (kind : BlockKind) × NamesUsed used row kind p
  pub all : (kind : BlockKind) (p : Place) → NamesUsed used row kind p → Contains places p
  pub used_there : (kind : BlockKind) (p : Place) → NamesUsed used row kind p → IsSome (of_kind kind row.object used p)

named_before : (used : Place → Option Stored) (rows : List ImageRow) (row : ImageRow) (p : Place) (block : Stored) → IsNamedBy used rows p block → IsNamedBy used (rows ++ row ∷ []) p block
named_before used rows row p block n = record {
  row = n.row;
  listed = Contains-append_left rows (row ∷ []) n.row n.listed;
  object = n.object;
  names = n.names;
}

named_last : (used : Place → Option Stored) (rows : List ImageRow) (row : ImageRow) (places : List Place) (p : Place) (block : Stored) → AreNamed used row places
    → Contains places p → used p ≡ Some block → IsNamedBy used (rows ++ row ∷ []) p block
named_last used rows row places p block named there is =
    let (kind, names) = named.only p there in
    let parts = seen kind row.object block (subst (λ (x : Option Stored). IsSome (seen_as kind row.object x)) is (named.used_there kind p names)) in
    record {
      row = row;
      listed = Contains-push rows row;
      object = sym parts.1;
      names = subst (λ (k : BlockKind). NamesUsed used row k p) parts.0 names;
    }

pub holds_more : (used held after : Place → Option Stored) (rows : List ImageRow) (row : ImageRow) (places : List Place) → AreNamed used row places → HoldsAlso used held after places
    → HoldsWhatIsNamed used held rows → HoldsWhatIsNamed used after (rows ++ row ∷ [])
holds_more used held after rows row places named also holds = record {
  kept = λ p block h. elim (also.only p block h) [
    | inl was ↦ holds.kept p block was
    | inr more ↦ more.1
  ];
  named = λ p block h. elim (also.only p block h) [
    | inl was ↦ named_before used rows row p block (holds.named p block was)
    | inr more ↦ named_last used rows row places p block named more.0 more.1
  ];
  all = λ p block is n. elim (Contains-push_cases rows row n.row n.listed) [
    | inl before ↦ also.kept p block (holds.all p block is (record { row = n.row; listed = before; object = n.object; names = n.names })) is
    | inr last ↦ also.added p (named.all block.kind p (subst (λ (r : ImageRow). NamesUsed used r block.kind p) (sym last) n.names)) ∙ is
  ];
}

-- with nothing held there is nothing that no row names
pub holds_none : (used held : Place → Option Stored) → ((p : Place) → held p ≡ None) → HoldsWhatIsNamed used held []
holds_none used held nothing = record {
  kept = λ p block h. absurd (none-some block (sym (nothing p) ∙ h));
  named = λ p block h. absurd (none-some block (sym (nothing p) ∙ h));
  all = λ p block is n. absurd (contains_none n.row n.listed);
}

-- what holds of the value that is there
pub at_some : {A : Type 0} (o : Option A) (x : A) (P : A → Type 0) → o ≡ Some x → IfSome o P → P x
at_some o x P is h = subst (λ q. IfSome q P) is h

-- what was added to no places
pub only_named : (used : Place → Option Stored) (row : ImageRow) (before places : List Place) → before ≡ [] → ((p : Place) → Contains places p → Contains before p ⊎ ((kind : BlockKind) × NamesUsed used row kind p))
    → (p : Place) → Contains places p → (kind : BlockKind) × NamesUsed used row kind p
only_named used row before places cleared only p there = elim (only p there) [
  | inl was ↦ absurd (contains_none p (subst (λ (l : List Place). Contains l p) cleared was))
  | inr more ↦ more
]
