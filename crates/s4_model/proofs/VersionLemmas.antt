-- How the versions of a state go on with an accepted change.
use Rattle.std.proofs.Common.{◌≡◌, ℕ, ◌<◌, ◌≤◌, true, false, ◌&&◌, cond, inl, inr, List, [], ◌∷◌, ◌++◌, filter, fold, refl, ap, sym, ◌∙◌, append-nil, arith}
use Rattle.std.proofs.lemmas.List.Elements.{filter-append}
use Rattle.std.proofs.lemmas.List.Sums.{fold-append}
use Rattle.std.proofs.lemmas.Bool.{le-leb, lt-leb, and_right, cases_lt}
use Rattle.std.specs.Prelude.{nat_le}
use Rattle.s4_types.specs.declared.changes.Accepted.{Accepted}
use Rattle.s4_types.specs.declared.versions.Version.{Version}
use Rattle.s4_model.specs.Effect.{effect, is_change_of}
use Rattle.s4_model.specs.State.{State, took}
use Rattle.s4_model.specs.VersionAt.{version_of, version_after, opening_version, is_by, effect_of}
use Rattle.s4_model.specs.Sound.{Ascends}

pub version_after-skipped : (v : Version) (changes : List Accepted) (a : Accepted) (o t : ℕ) → is_by o t a ≡ false → version_after v (changes ++ a ∷ []) o t ≡ version_after v changes o t
version_after-skipped v changes a o t e =
    ap (fold effect_of v) (filter-append (is_by o t) changes (a ∷ []) ∙ ap (λ b. filter (is_by o t) changes ++ cond b (a ∷ []) []) e ∙ append-nil (filter (is_by o t) changes))

pub version_after-taken : (v : Version) (changes : List Accepted) (a : Accepted) (o t : ℕ) → is_by o t a ≡ true → version_after v (changes ++ a ∷ []) o t ≡ effect_of (version_after v changes o t) a
version_after-taken v changes a o t e =
    ap (fold effect_of v) (filter-append (is_by o t) changes (a ∷ []) ∙ ap (λ b. filter (is_by o t) changes ++ cond b (a ∷ []) []) e)
    ∙ fold-append effect_of v (filter (is_by o t) changes) (a ∷ [])

-- a change that isn't among those up to the moment leaves the version there
pub version_of-skipped : (s : State) (a : Accepted) (o t : ℕ) → is_by o t a ≡ false → version_of (took s a) o t ≡ version_of s o t
version_of-skipped s a o t e =
    ap (λ v. cond (nat_le t s.opened) (opening_version s o t) v) (version_after-skipped (opening_version s o s.opened) s.changes a o t e)

pub Ascends-low_high : (low : ℕ) (changes : List Accepted) (high : ℕ) → Ascends low changes high → low ≤ high
Ascends-low_high low [] high h = h
Ascends-low_high low (a ∷ changes) high h = let rest : a.moment ≤ high = Ascends-low_high a.moment changes high h.1 in let first : low < a.moment = h.0 in omega arith

pub Ascends-push : (low : ℕ) (changes : List Accepted) (high : ℕ) (a : Accepted) → Ascends low changes high → high < a.moment → Ascends low (changes ++ a ∷ []) a.moment
Ascends-push low [] high a h lt = let le : low ≤ high = h in (omega arith, omega arith)
Ascends-push low (b ∷ changes) high a h lt = (h.0, Ascends-push b.moment changes high a h.1 lt)

pub Ascends-higher : (low : ℕ) (changes : List Accepted) (high higher : ℕ) → Ascends low changes high → high ≤ higher → Ascends low changes higher
Ascends-higher low [] high higher h le = let lower : low ≤ high = h in omega arith
Ascends-higher low (b ∷ changes) high higher h le = (h.0, Ascends-higher b.moment changes high higher h.1 le)

pub is_by-late : (o t : ℕ) (a : Accepted) → t < a.moment → is_by o t a ≡ false
is_by-late o t a lt = and_right (is_change_of o a.change) (nat_le a.moment t) (lt-leb a.moment t lt)

pub is_by-early : (o t : ℕ) (a : Accepted) → a.moment ≤ t → is_by o t a ≡ (is_change_of o a.change && true)
is_by-early o t a le = ap (λ b. is_change_of o a.change && b) (le-leb a.moment t le)

-- up to where the moments begin there are no changes
pub filter-before_all : (o t low : ℕ) (changes : List Accepted) (high : ℕ) → Ascends low changes high → t ≤ low → filter (is_by o t) changes ≡ []
filter-before_all o t low [] high h le = refl
filter-before_all o t low (a ∷ changes) high h le =
    let first : low < a.moment = h.0 in
    ap (λ b. cond b (a ∷ filter (is_by o t) changes) (filter (is_by o t) changes)) (is_by-late o t a (omega arith))
    ∙ filter-before_all o t a.moment changes high h.1 (omega arith)

-- from where they end there are all
pub filter-after_all : (o t low : ℕ) (changes : List Accepted) (high : ℕ) → Ascends low changes high → high ≤ t → filter (is_by o t) changes ≡ filter (is_by o high) changes
filter-after_all o t low [] high h le = refl
filter-after_all o t low (a ∷ changes) high h le =
    let rest : a.moment ≤ high = Ascends-low_high a.moment changes high h.1 in
    ap (λ b. cond b (a ∷ filter (is_by o t) changes) (filter (is_by o t) changes)) (is_by-early o t a (omega arith) ∙ sym (is_by-early o high a rest))
    ∙ ap (λ all. cond (is_by o high a) (a ∷ all) all) (filter-after_all o t a.moment changes high h.1 le)

pub version_of-before_opening : (s : State) (o t : ℕ) → t ≤ s.opened → version_of s o t ≡ opening_version s o t
version_of-before_opening s o t le = ap (λ b. cond b (opening_version s o t) (version_after (opening_version s o s.opened) s.changes o t)) (le-leb t s.opened le)

pub version_of-after_opening : (s : State) (o t : ℕ) → s.opened < t → version_of s o t ≡ version_after (opening_version s o s.opened) s.changes o t
version_of-after_opening s o t lt = ap (λ b. cond b (opening_version s o t) (version_after (opening_version s o s.opened) s.changes o t)) (lt-leb t s.opened lt)

-- from the base's clock on the version is the base's there, and then the changes
pub version_of-from_opening : (s : State) (o t : ℕ) → Ascends s.opened s.changes s.clock → s.opened ≤ t → version_of s o t ≡ version_after (opening_version s o s.opened) s.changes o t
version_of-from_opening s o t h le =
    elim (cases_lt s.opened t) as (λ _. version_of s o t ≡ version_after (opening_version s o s.opened) s.changes o t) [
      | inl lt ↦ version_of-after_opening s o t lt
      | inr ge ↦
          let same : t ≡ s.opened = omega arith in
          version_of-before_opening s o t ge
          ∙ ap (opening_version s o) same
          ∙ ap (fold effect_of (opening_version s o s.opened)) (sym (filter-before_all o t s.opened s.changes s.clock h ge))
    ]

-- from the clock on nothing changes
pub version_of-settled : (s : State) (o t : ℕ) → Ascends s.opened s.changes s.clock → s.clock ≤ t → version_of s o t ≡ version_of s o s.clock
version_of-settled s o t h le =
    let low : s.opened ≤ s.clock = Ascends-low_high s.opened s.changes s.clock h in
    version_of-from_opening s o t h (omega arith)
    ∙ ap (fold effect_of (opening_version s o s.opened)) (filter-after_all o t s.opened s.changes s.clock h le)
    ∙ sym (version_of-from_opening s o s.clock h low)

-- a change leaves the versions before its moment
pub version_of-earlier : (s : State) (a : Accepted) (o t : ℕ) → t < a.moment → version_of (took s a) o t ≡ version_of s o t
version_of-earlier s a o t lt = version_of-skipped s a o t (is_by-late o t a lt)

-- a change leaves the versions of other objects
pub version_of-other : (s : State) (a : Accepted) (o t : ℕ) → is_change_of o a.change ≡ false → version_of (took s a) o t ≡ version_of s o t
version_of-other s a o t e = version_of-skipped s a o t (ap (λ b. b && nat_le a.moment t) e)

-- at its moment a change makes of the present version what its effect is
pub version_of-taken : (s : State) (a : Accepted) (o : ℕ) → Ascends s.opened s.changes s.clock → s.clock < a.moment → is_change_of o a.change ≡ true → version_of (took s a) o a.moment ≡ effect a.change a.moment (version_of s o s.clock)
version_of-taken s a o h lt e =
    let low : s.opened ≤ s.clock = Ascends-low_high s.opened s.changes s.clock h in
    version_of-after_opening (took s a) o a.moment (omega arith)
    ∙ version_after-taken (opening_version s o s.opened) s.changes a o a.moment (is_by-early o a.moment a (omega arith) ∙ ap (λ b. b && true) e)
    ∙ ap (λ v. effect a.change a.moment v) (sym (version_of-from_opening s o a.moment h (omega arith)) ∙ version_of-settled s o a.moment h (omega arith))
