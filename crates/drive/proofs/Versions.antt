-- How the versions of a state go on with an accepted change.
use Rattle.std.proofs.Common.{◌≡◌, ℕ, ◌+◌, ◌<◌, ◌≤◌, true, List, [], ◌∷◌, length, ap, sym, ◌∙◌, arith}
use Rattle.s4_types.specs.declared.changes.Accepted.{Accepted}
use Rattle.s4_types.specs.declared.versions.Version.{Version}
use Rattle.s4_model.specs.State.{State, took}
use Rattle.s4_model.specs.VersionAt.{version_of, opening_version, is_by, effect_of}
use Rattle.s4_model.specs.Sound.{Ascends}
use Rattle.s4_model.proofs.VersionLemmas.{version_after-taken, version_of-after_opening}

-- moments that ascend are no more than the numbers that they lie between
pub counted_by_moments : (low : ℕ) (changes : List Accepted) (high : ℕ) → Ascends low changes high → low + length changes ≤ high
counted_by_moments low [] high h = let le : low ≤ high = h in omega arith
counted_by_moments low (a ∷ changes) high h =
    let first : low < a.moment = h.0 in
    let rest : a.moment + length changes ≤ high = counted_by_moments a.moment changes high h.1 in
    let more : length (a ∷ changes) ≡ 1 + length changes = omega arith in
    omega arith

pub version_of-its_own : (s : State) (a : Accepted) (o t : ℕ) → s.opened < t → is_by o t a ≡ true → version_of (took s a) o t ≡ effect_of (version_of s o t) a
version_of-its_own s a o t lt e =
    version_of-after_opening (took s a) o t lt
    ∙ version_after-taken (opening_version s o s.opened) s.changes a o t e
    ∙ ap (λ (v : Version). effect_of v a) (sym (version_of-after_opening s o t lt))
