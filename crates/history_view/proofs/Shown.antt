-- What is listed of an object at a moment, against the history.
use Rattle.std.proofs.Common.{◌≡◌, ◌∙◌, ◌&&◌, ◌<◌, ◌≤◌, ◌==◌, ℕ, Bool, true, false, not, cond, List, length, Option, Some, None, nat_le, inl, inr, refl, sym, ap, subst, arith}
use Rattle.std.specs.Prelude.{MatchBool}
use Rattle.std.proofs.lemmas.Bool.{leb-true, le-leb, and_parts, and_from, or_parts, not-true, not_from_false, cond-true, cond-false, true≢false, false_from_ne_true, cases_lt, cases_eq}
use Rattle.s4_types.specs.declared.versions.Version.{Version}
use Rattle.s4_types.specs.declared.versions.Version.TheVariants.{Absent, Live}
use Rattle.s4_types.specs.Pointer.{Place}
use Rattle.s4_model.specs.State.{State}
use Rattle.s4_model.specs.VersionAt.{version_of}
use Rattle.s4_model.specs.Visible.{IsVisible, IsSeenBetween, is_hidden, spans_of}
use Rattle.s4_model.specs.Sound.{IsSound}
use Rattle.codec.specs.declared.inodes.Inode.{Inode}
use Rattle.inode.specs.Contents.{contents_of, bytes_of, byte_of, meaning}
use Rattle.inode.proofs.Listing.{listed-length}
use Rattle.object_map.specs.Rows.{row_of}
use Rattle.s4_model.proofs.ClockLaws.{none_hides}
use Rattle.version_store.specs.Store.{StoreFields}
use Rattle.version_store.specs.Versions.{inode_in, inode_by, version_by}
use Rattle.drive.specs.Keeping.{DecodesWhereVisible}
use Rattle.history_view.specs.declared.listing.Listed.{Listed}
use Rattle.history_view.specs.Listing.{is_visible, is_listed, listed_of, listed_by, TellsVersion, IsPassed, IsListedAt, IsListedNext}

-- ---- which moments can be read

-- a moment that the test says can be read can be
pub visible_then : (s : State) (o t : ℕ) → is_visible s o t ≡ true → IsVisible s o t
visible_then s o t is =
    let both = and_parts (nat_le s.floor t && nat_le t s.clock) (not (is_hidden s o t)) is in
    let ends = and_parts (nat_le s.floor t) (nat_le t s.clock) both.0 in
    record { kept = leb-true s.floor t ends.0; reached = leb-true t s.clock ends.1; shown = not-true (is_hidden s o t) both.1 }

-- of one that can be read the test says so
pub then_visible : (s : State) (o t : ℕ) → IsVisible s o t → is_visible s o t ≡ true
then_visible s o t v = and_from (nat_le s.floor t && nat_le t s.clock) (not (is_hidden s o t))
    (and_from (nat_le s.floor t) (nat_le t s.clock) (le-leb s.floor t v.kept) (le-leb t s.clock v.reached)) (not_from_false (is_hidden s o t) v.shown)

-- a moment that can be read, between a moment and itself, is that moment
pub seen_here : (s : State) (o t : ℕ) → IsSeenBetween s o t t → IsVisible s o t
seen_here s o t seen = let same : seen.moment ≡ t = omega (arith, seen.begun, seen.ended) in subst (IsVisible s o) same seen.visible

pub seen_if_visible : (s : State) (o t : ℕ) → IsVisible s o t → IsSeenBetween s o t t
seen_if_visible s o t v = record { moment = t; begun = omega arith; ended = omega arith; visible = v }

-- whether some moment between a moment and itself can be read
pub is_visible_by : (b : Bool) (s : State) (o t : ℕ) → MatchBool b (IsSeenBetween s o t t) (IsSeenBetween s o t t → ⊥) → b ≡ is_visible s o t
is_visible_by true s o t seen = sym (then_visible s o t (seen_here s o t seen))
is_visible_by false s o t never = sym (false_from_ne_true (is_visible s o t) (λ is. never (seen_if_visible s o t (visible_then s o t is))))

-- the clock's moment can be read
pub clock_is_visible : (s : State) (o : ℕ) → IsSound s → IsVisible s o s.clock
clock_is_visible s o sound = record { kept = sound.floor_reached; reached = omega arith; shown = none_hides o s.clock (spans_of s) sound.past }

-- ---- what is listed

-- an inode has as many bytes as its size says
pub size_is_long : (contents : Place → List ℕ) (i : Inode) → i.size ≡ length (bytes_of contents i)
size_is_long contents i = sym (listed-length (byte_of contents i) 0 i.size)

-- what an inode tells is the version that it represents
inode_tells : (contents : Place → List ℕ) (o : ℕ) (i : Inode) (alive : Bool) → i.alive ≡ alive → TellsVersion (meaning contents i) (listed_of o i)
inode_tells contents o i true is =
    subst (λ (v : Version). TellsVersion v (listed_of o i)) (sym (cond-true i.alive (Live (bytes_of contents i) i.attribute i.created i.changed) Absent is))
    (is, size_is_long contents i, refl, refl, refl)
inode_tells contents o i false is =
    subst (λ (v : Version). TellsVersion v (listed_of o i)) (sym (cond-false i.alive (Live (bytes_of contents i) i.attribute i.created i.changed) Absent is))
    (λ alive. true≢false (sym alive ∙ is))

-- an inode that isn't listed represents no version
unlisted_is_dead : (contents : Place → List ℕ) (deleted : Bool) (i : Inode) → is_listed deleted i ≡ false → meaning contents i ≡ Absent
unlisted_is_dead contents deleted i is =
    cond-false i.alive (Live (bytes_of contents i) i.attribute i.created i.changed) Absent (or_parts i.alive (deleted && not (i.changed == 0)) is).0

-- the version that the history tells, by the inode of the moment
pub version_by_inode : (s : State) (store : StoreFields) (o t : ℕ) (found : Option Inode) → DecodesWhereVisible store s → IsVisible s o t → inode_in store o t ≡ found → version_of s o t ≡ version_by store.log.held found
version_by_inode s store o t found decodes visible is = sym (decodes o t visible) ∙ ap (version_by store.log.held) is

-- a moment that can't be read is passed
pub hidden_is_passed : (s : State) (store : StoreFields) (deleted : Bool) (o t : ℕ) → is_visible s o t ≡ false → IsPassed s store deleted t o
hidden_is_passed s store deleted o t hidden = record {
  none = cond-false (is_visible s o t) (listed_by deleted o (inode_in store o t)) None hidden;
  absent = λ visible. absurd (true≢false (sym (then_visible s o t visible) ∙ hidden));
}

-- so is an object that has no inode
pub nothing_is_passed : (s : State) (store : StoreFields) (deleted : Bool) (o t : ℕ) → DecodesWhereVisible store s → inode_in store o t ≡ None → IsPassed s store deleted t o
nothing_is_passed s store deleted o t decodes is = record {
  none = none_either (is_visible s o t) (ap (listed_by deleted o) is);
  absent = λ visible. version_by_inode s store o t None decodes visible is;
}
  where
    none_either : (b : Bool) → listed_by deleted o (inode_in store o t) ≡ None → cond b (listed_by deleted o (inode_in store o t)) None ≡ None
    none_either true e = e
    none_either false e = refl

-- so is one whose inode isn't listed
pub unlisted_is_passed : (s : State) (store : StoreFields) (deleted : Bool) (o t : ℕ) (i : Inode) → DecodesWhereVisible store s → is_visible s o t ≡ true → inode_in store o t ≡ Some i → is_listed deleted i ≡ false
    → IsPassed s store deleted t o
unlisted_is_passed s store deleted o t i decodes shown is unlisted = record {
  none = cond-true (is_visible s o t) (listed_by deleted o (inode_in store o t)) None shown ∙ ap (listed_by deleted o) is ∙ cond-false (is_listed deleted i) (Some (listed_of o i)) None unlisted;
  absent = λ visible. version_by_inode s store o t (Some i) decodes visible is ∙ unlisted_is_dead (contents_of store.log.held) deleted i unlisted;
}

-- what is listed of an object tells its version
pub listed_is_there : (s : State) (store : StoreFields) (deleted : Bool) (o t : ℕ) (i : Inode) → DecodesWhereVisible store s → is_visible s o t ≡ true → inode_in store o t ≡ Some i → is_listed deleted i ≡ true
    → IsListedAt s store deleted t o (listed_of o i)
listed_is_there s store deleted o t i decodes shown is there =
    let visible = visible_then s o t shown in
    record {
      object = refl;
      found = cond-true (is_visible s o t) (listed_by deleted o (inode_in store o t)) None shown ∙ ap (listed_by deleted o) is ∙ cond-true (is_listed deleted i) (Some (listed_of o i)) None there;
      visible = visible;
      version = subst (λ (v : Version). TellsVersion v (listed_of o i)) (sym (version_by_inode s store o t (Some i) decodes visible is)) (inode_tells (contents_of store.log.held) o i i.alive refl);
    }

-- an object without a row is passed
pub rowless_is_passed : (s : State) (store : StoreFields) (deleted : Bool) (o t : ℕ) → DecodesWhereVisible store s → row_of store.rows o ≡ None → IsPassed s store deleted t o
rowless_is_passed s store deleted o t decodes none = nothing_is_passed s store deleted o t decodes (ap (inode_by store.log.held o t) none)

-- ---- which is next

-- all objects above one, up to another, are passed
abbrev pub ArePassed : State → StoreFields → Bool → ℕ → ℕ → ℕ → Type 0
ArePassed s store deleted t after last = (o : ℕ) → after < o → o ≤ last → IsPassed s store deleted t o

-- so are all in front of the next one that has a row
pub passed_before : (s : State) (store : StoreFields) (deleted : Bool) (t after last next : ℕ) → DecodesWhereVisible store s → ArePassed s store deleted t after last
    → ((q : ℕ) → last < q → q < next → row_of store.rows q ≡ None) → (o : ℕ) → after < o → o < next → IsPassed s store deleted t o
passed_before s store deleted t after last next decodes passed none o above below =
    elim (cases_lt last o) [
      | inl beyond ↦ rowless_is_passed s store deleted o t decodes (none o beyond below)
      | inr up ↦ passed o above up
    ]

-- and up to that one, where it is passed
pub passed_on : (s : State) (store : StoreFields) (deleted : Bool) (t after last next : ℕ) → DecodesWhereVisible store s → ArePassed s store deleted t after last
    → ((q : ℕ) → last < q → q < next → row_of store.rows q ≡ None) → IsPassed s store deleted t next → ArePassed s store deleted t after next
passed_on s store deleted t after last next decodes passed none here o above up =
    elim (cases_eq o next) [
      | inl same ↦ subst (IsPassed s store deleted t) (sym same) here
      | inr apart ↦ passed_before s store deleted t after last next decodes passed none o above (omega (arith, apart))
    ]

-- what is listed of that one is next
pub listed_next : (s : State) (store : StoreFields) (deleted : Bool) (t after last next : ℕ) (listed : Listed) → DecodesWhereVisible store s → after ≤ last → last < next → ArePassed s store deleted t after last
    → ((q : ℕ) → last < q → q < next → row_of store.rows q ≡ None) → IsListedAt s store deleted t next listed → IsListedNext s store deleted t after listed
listed_next s store deleted t after last next listed decodes from above passed none here =
    let same : next ≡ listed.object = sym here.object in
    record {
      above = subst (λ n. after < n) same (omega arith);
      here = subst (λ o. IsListedAt s store deleted t o listed) same here;
      least = subst (λ n. (o : ℕ) → after < o → o < n → IsPassed s store deleted t o) same (passed_before s store deleted t after last next decodes passed none);
    }
