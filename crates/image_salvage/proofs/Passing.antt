-- Objects that no row gives, one by one.
use Rattle.std.proofs.Common.{◌≡◌, ◌⊎◌, inl, inr, ℕ, ◌<◌, ◌≤◌, ◌++◌, if◌then◌else◌, Bool, true, false, List, [], ◌∷◌, Option, Some, None, is_some, refl, sym, ap, subst, ◌∙◌, arith}
use Rattle.std.specs.List.{Contains}
use Rattle.std.proofs.lemmas.Bool.{cases_eq, cases_lt, eq-eqb, ne_eqb, both_ways}
use Rattle.std.proofs.lemmas.List.Elements.{Contains-push, Contains-push_cases, Contains-append_left}
use Rattle.s4_types.specs.Pointer.{Place}
use Rattle.lemmas.proofs.Option.{one_value, some_not_none}
use Rattle.block_log.specs.Log.{Stored}
use Rattle.codec.specs.declared.inodes.Inode.{Inode}
use Rattle.object_map.specs.Objects.{IsNextAbove, value_of, without_value}
use Rattle.image_parts.specs.declared.rows.RowPart.{RowPart}
use Rattle.image_salvage.specs.declared.newest.Note.{Note}
use Rattle.image_salvage.specs.declared.unlisted.Unlisted.{Unlisted}
use Rattle.image_salvage.specs.Rows.{IsThere, IsLost}
use Rattle.image_salvage.specs.LeftOut.{cut_moment}
use Rattle.image_salvage.specs.Newest.{AreNewest}
use Rattle.image_salvage.specs.Outdated.{AreBelieved}
use Rattle.image_salvage.specs.Heads.{LeadsOn, MakesByCheckpoint, MakesHead}
use Rattle.image_salvage.specs.Unlisted.{unlisted_inode, IsFound, IsListed, ObjectsAscend, FindsUnlisted}
use Rattle.image_salvage.specs.private.Passing.{IsLeft, AreLeft, AddsFound, AreFoundAll}

-- ---- rows

pub none_left_out : (used : Place → Option Stored) (heads : ℕ → Option Note) → AreLeft used [] heads heads
none_left_out used heads o = inr ((λ listed. (let has : Contains [] listed.0 = listed.1 in absurd (let h : has.0 < 0 = has.1 in omega (arith, h)))), refl)

listed_more : (used : Place → Option Stored) (rows : List RowPart) (part : RowPart) (o : ℕ) → IsListed used rows o → IsListed used (rows ++ part ∷ []) o
listed_more used rows part o listed = (listed.0, Contains-append_left rows (part ∷ []) listed.0 listed.1, listed.2, listed.3)

-- an object of rows and one more is of the rows, or of that one
listed_by : (used : Place → Option Stored) (rows : List RowPart) (part : RowPart) (o : ℕ) → (IsListed used rows o → ⊥) → ((part.object ≡ o) → IsThere used part → ⊥) → IsListed used (rows ++ part ∷ []) o → ⊥
listed_by used rows part o none other listed = elim (Contains-push_cases rows part listed.0 listed.1) [
  | inl before ↦ none (listed.0, before, listed.2, listed.3)
  | inr at ↦ other (ap (λ (p : RowPart). p.object) at ∙ listed.2) (subst (IsThere used) (sym at) listed.3)
]

lost_not_there : (used : Place → Option Stored) (part : RowPart) → IsLost used part → IsThere used part → ⊥
lost_not_there used part lost there = (let is = there.1 in lost is.row is.spelled is.stands)

without_same : (heads : ℕ → Option Note) (object o : ℕ) → object ≡ o → without_value heads object o ≡ None
without_same heads object o is = ap (λ (b : Bool). if b then None else heads o) (eq-eqb object o is)

without_other : (heads : ℕ → Option Note) (object o : ℕ) → (object ≡ o → ⊥) → without_value heads object o ≡ heads o
without_other heads object o ne = ap (λ (b : Bool). if b then None else heads o) (ne_eqb object o ne)

left_one : (used : Place → Option Stored) (rows : List RowPart) (part : RowPart) (heads left later : ℕ → Option Note) (o : ℕ) → (IsListed used rows o × (left o ≡ None)) ⊎ ((IsListed used rows o → ⊥) × (left o ≡ heads o)) → IsLeft used part left later
    → (IsListed used (rows ++ part ∷ []) o × (later o ≡ None)) ⊎ ((IsListed used (rows ++ part ∷ []) o → ⊥) × (later o ≡ heads o))
left_one used rows part heads left later o (inl before) (inl there) = elim (cases_eq part.object o) [
  | inl at ↦ inl (listed_more used rows part o before.0, there.1 o ∙ without_same left part.object o at)
  | inr ne ↦ inl (listed_more used rows part o before.0, there.1 o ∙ without_other left part.object o ne ∙ before.1)
]
left_one used rows part heads left later o (inl before) (inr lost) = inl (listed_more used rows part o before.0, lost.1 o ∙ before.1)
left_one used rows part heads left later o (inr before) (inl there) = elim (cases_eq part.object o) [
  | inl at ↦ inl ((part, Contains-push rows part, at, there.0), there.1 o ∙ without_same left part.object o at)
  | inr ne ↦ inr (listed_by used rows part o before.0 (λ is row. ne is), there.1 o ∙ without_other left part.object o ne ∙ before.1)
]
left_one used rows part heads left later o (inr before) (inr lost) =
    inr (listed_by used rows part o before.0 (λ is row. lost_not_there used part lost.0 row), lost.1 o ∙ before.1)

-- one row more
pub left_more : (used : Place → Option Stored) (rows more : List RowPart) (part : RowPart) (heads left later : ℕ → Option Note) → more ≡ rows ++ part ∷ [] → AreLeft used rows heads left → IsLeft used part left later → AreLeft used more heads later
left_more used rows more part heads left later is before here o =
    subst (λ (l : List RowPart). (IsListed used l o × (later o ≡ None)) ⊎ ((IsListed used l o → ⊥) × (later o ≡ heads o))) (sym is) (left_one used rows part heads left later o (before o) here)

-- ---- objects, one by one

-- objects ascend strictly, from above one number up to another
abbrev pub AscendTo : ℕ → ℕ → List Unlisted → Type 0
AscendTo low last [] = low ≤ last
AscendTo low last (u ∷ found) = (low < u.object) × AscendTo u.object last found

ascend_on : (low last next : ℕ) (found : List Unlisted) → last ≤ next → AscendTo low last found → AscendTo low next found
ascend_on low last next [] later is = omega (arith, later, is)
ascend_on low last next (u ∷ found) later is = (is.0, ascend_on u.object last next found later is.1)

ascend_push : (low last : ℕ) (found : List Unlisted) (u : Unlisted) → last < u.object → AscendTo low last found → AscendTo low u.object (found ++ u ∷ [])
ascend_push low last [] u above is = (omega (arith, above, is), omega arith)
ascend_push low last (v ∷ found) u above is = (is.0, ascend_push v.object last found u above is.1)

ascend_all : (low last : ℕ) (found : List Unlisted) → AscendTo low last found → ObjectsAscend low found
ascend_all low last [] is = tt
ascend_all low last (u ∷ found) is = (is.0, ascend_all u.object last found is.1)

-- those up to a number were found
pub record FoundTo (used : Place → Option Stored) (heads : ℕ → Option Note) (last : ℕ) (found : List Unlisted) : Type 0 where
  pub only : (u : Unlisted) → Contains found u → (u.object ≤ last) × IsFound used heads u
  pub each : (u : Unlisted) → u.object ≤ last → IsFound used heads u → Contains found u
  pub ascend : AscendTo 0 last found

pub none_found_yet : (used : Place → Option Stored) (heads : ℕ → Option Note) (found : List Unlisted) → found ≡ [] → FoundTo used heads 0 found
none_found_yet used heads found none = subst (FoundTo used heads 0) (sym none) (record {
  only = λ u has. absurd (let h : has.0 < 0 = has.1 in omega (arith, h));
  each = λ u low is. absurd (let h : 0 < u.object = is.numbered in omega (arith, low, h));
  ascend = omega arith;
})

-- what is found of an object is one
same_head : (used : Place → Option Stored) (heads : ℕ → Option Note) (u v : Unlisted) → v.object ≡ u.object → (a : IsFound used heads u) (b : IsFound used heads v) → b.head ≡ a.head
same_head used heads u v object a b = one_value a.head b.head (heads u.object) a.is (subst (λ (o : ℕ). heads o ≡ Some b.head) object b.is)

one_found : (used : Place → Option Stored) (heads : ℕ → Option Note) (u v : Unlisted) → v.object ≡ u.object → IsFound used heads u → IsFound used heads v → v ≡ u
one_found used heads u v object a b =
    let head : b.head ≡ a.head = same_head used heads u v object a b in
    let inode : v.inode ≡ u.inode = b.inode_is ∙ ap (λ (n : Note). unlisted_inode used n.row) head ∙ sym a.inode_is in
    let left_out : v.left_out ≡ u.left_out = b.left_out_is ∙ ap (λ (n : Note). is_some (cut_moment used n.row)) head ∙ sym a.left_out_is in
    ap (λ (o : ℕ). record { object = o; inode = v.inode; left_out = v.left_out }) object
    ∙ ap (λ (i : Inode). record { object = u.object; inode = i; left_out = v.left_out }) inode
    ∙ ap (λ (b : Bool). record { object = u.object; inode = u.inode; left_out = b }) left_out

-- between the last number and the next one nothing is
found_low : (entries : List (ℕ × Note)) (last next : ℕ) (used : Place → Option Stored) (u : Unlisted) → IsNextAbove entries last next → u.object ≤ next → IsFound used (value_of entries) u → (u.object ≤ last) ⊎ (u.object ≡ next)
found_low entries last next used u is low found = elim (cases_eq u.object next) [
  | inl at ↦ inr at
  | inr ne ↦ (elim (cases_lt last u.object) [
    | inl above ↦ some_not_none found.head (value_of entries u.object) found.is (is.least u.object above (omega (arith, low, ne)))
    | inr past ↦ inl past
  ])
]

pub found_next : (used : Place → Option Stored) (entries : List (ℕ × Note)) (last next : ℕ) (found later : List Unlisted) → FoundTo used (value_of entries) last found → IsNextAbove entries last next → AddsFound used (value_of entries) next found later
    → FoundTo used (value_of entries) next later
found_next used entries last next found later to is (inl adds) =
    let u : Unlisted = adds.0 in
    let at : u.object ≡ next = adds.1 in
    let above : last < next = is.above in
    subst (FoundTo used (value_of entries) next) (sym adds.3) (record {
      only = λ v has. elim (Contains-push_cases found u v has) [
        | inl before ↦ (let was = to.only v before in (omega (arith, was.0, above), was.1))
        | inr same ↦ subst (λ (w : Unlisted). (w.object ≤ next) × IsFound used (value_of entries) w) same (omega (arith, at), adds.2)
      ];
      each = λ v low here. elim (found_low entries last next used v is low here) [
        | inl past ↦ Contains-append_left found (u ∷ []) v (to.each v past here)
        | inr there ↦ subst (Contains (found ++ u ∷ [])) (sym (one_found used (value_of entries) u v (there ∙ sym at) adds.2 here)) (Contains-push found u)
      ];
      ascend = subst (λ (n : ℕ). AscendTo 0 n (found ++ u ∷ [])) at (ascend_push 0 last found u (omega (arith, above, at)) to.ascend);
    })
found_next used entries last next found later to is (inr none) =
    let above : last < next = is.above in
    subst (FoundTo used (value_of entries) next) (sym none.1) (record {
      only = λ v has. (let was = to.only v has in (omega (arith, was.0, above), was.1));
      each = λ v low here. elim (found_low entries last next used v is low here) [
        | inl past ↦ to.each v past here
        | inr at ↦ absurd (none.0 v at here)
      ];
      ascend = ascend_on 0 last next found (omega (arith, above)) to.ascend;
    })

-- none is above the last number
pub found_all : (used : Place → Option Stored) (heads : ℕ → Option Note) (last : ℕ) (found : List Unlisted) → FoundTo used heads last found → ((o : ℕ) → last < o → heads o ≡ None) → AreFoundAll used heads found
found_all used heads last found to none = record {
  all = λ u. (
    (λ has. (to.only u has).1),
    (λ is. elim (cases_lt last u.object) [
      | inl above ↦ some_not_none is.head (heads u.object) is.is (none u.object above)
      | inr low ↦ to.each u low is
    ]),
  );
  ascend = ascend_all 0 last found to.ascend;
}

-- ---- one object

head_at : (used : Place → Option Stored) (heads : ℕ → Option Note) (o : ℕ) (head : Note) (u : Unlisted) → heads o ≡ Some head → u.object ≡ o → (is : IsFound used heads u) → is.head ≡ head
head_at used heads o head u has object is = one_value head is.head (heads o) has (subst (λ (n : ℕ). heads n ≡ Some is.head) object is.is)

pub nothing_there : (used : Place → Option Stored) (heads : ℕ → Option Note) (o : ℕ) (found : List Unlisted) → heads o ≡ None → AddsFound used heads o found found
nothing_there used heads o found none = inr ((λ u object is. some_not_none is.head (heads o) (subst (λ (n : ℕ). heads n ≡ Some is.head) object is.is) none), refl)

pub gives_none : (used : Place → Option Stored) (heads : ℕ → Option Note) (o : ℕ) (head : Note) (found : List Unlisted) → heads o ≡ Some head → (LeadsOn used head.row → ⊥) → AddsFound used heads o found found
gives_none used heads o head found has nowhere = inr ((λ u object is. nowhere (subst (λ (n : Note). LeadsOn used n.row) (head_at used heads o head u has object is) is.leads)), refl)

pub is_deleted : (used : Place → Option Stored) (heads : ℕ → Option Note) (o : ℕ) (head : Note) (inode : Inode) (found : List Unlisted) → heads o ≡ Some head → inode ≡ unlisted_inode used head.row → inode.alive ≡ false → AddsFound used heads o found found
is_deleted used heads o head inode found has same dead = inr (
  (λ u object is.
      both_ways inode.alive dead
      (ap (λ (i : Inode). i.alive) (same ∙ ap (λ (n : Note). unlisted_inode used n.row) (sym (head_at used heads o head u has object is)) ∙ sym is.inode_is) ∙ is.live)),
  refl,
)

pub is_added : (used : Place → Option Stored) (heads : ℕ → Option Note) (o : ℕ) (head : Note) (u : Unlisted) (found later : List Unlisted) → 0 < o → u.object ≡ o → heads o ≡ Some head → LeadsOn used head.row → u.inode ≡ unlisted_inode used head.row
    → u.left_out ≡ is_some (cut_moment used head.row) → u.inode.alive ≡ true → later ≡ found ++ u ∷ [] → AddsFound used heads o found later
is_added used heads o head u found later above object has leads same left_out live more = inl (
  u,
  object,
  record {
    numbered = omega (arith, above, object);
    head = head;
    is = subst (λ (n : ℕ). heads n ≡ Some head) (sym object) has;
    leads = leads;
    inode_is = same;
    left_out_is = left_out;
    live = live;
  },
  more,
)

-- ---- all of an image

found_left : (used : Place → Option Stored) (heads left : ℕ → Option Note) (u : Unlisted) → left u.object ≡ heads u.object → IsFound used heads u → IsFound used left u
found_left used heads left u same is = record { numbered = is.numbered; head = is.head; is = same ∙ is.is; leads = is.leads; inode_is = is.inode_is; left_out_is = is.left_out_is; live = is.live }

pub finds_unlisted : (used : Place → Option Stored) (there rows : List RowPart) (checkpoints heads left : ℕ → Option Note) (found : List Unlisted) → AreNewest (MakesByCheckpoint used) 16384 checkpoints → AreNewest (MakesHead used checkpoints) 16384 heads
    → AreBelieved used heads there rows → AreLeft used rows heads left → AreFoundAll used left found → FindsUnlisted used there rows found
finds_unlisted used there rows checkpoints heads left found newest latest believed out are = record {
  checkpoints = checkpoints;
  newest_checkpoints = newest;
  heads = heads;
  newest_heads = latest;
  believed = believed;
  all = λ u. (
    (λ has. (let is = (are.all u).0 has in elim (out u.object) [
      | inl listed ↦ some_not_none is.head (left u.object) is.is listed.1
      | inr unlisted ↦ (unlisted.0, found_left used left heads u (sym unlisted.1) is)
    ])),
    (λ is. (are.all u).1 (elim (out u.object) [
      | inl listed ↦ absurd (is.0 listed.0)
      | inr unlisted ↦ found_left used heads left u unlisted.1 is.1
    ])),
  );
  ascend = are.ascend;
}
