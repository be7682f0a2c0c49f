-- What forgetting the runs below the floor leaves of chunks.
use Rattle.std.proofs.Common.{◌≡◌, ℕ, zero, suc, ◌+◌, ◌-◌, ◌^◌, ◌<◌, ◌≤◌, min, List, [], ◌∷◌, ◌++◌, length, get_or, set, take, drop, count_by, filter, refl, sym, ap, subst, ◌∙◌, arith}
use Rattle.std.proofs.lemmas.List.{take_all, take-append-le}
use Rattle.std.proofs.lemmas.List.Elements.{filter-append}
use Rattle.s4_types.specs.declared.spans.Span.{Span}
use Rattle.window.specs.declared.chunks.Chunk.{Chunk}
use Rattle.window.specs.Runs.{Ascend, AllEndFrom, AllEndBefore, AreFewInEachList, is_live}
use Rattle.s4_types.specs.declared.limits.TheConstants.{RUNS_IN_ALL}
use Rattle.std.proofs.lemmas.List.Sums.{length-filter, count_by-le-length}
use Rattle.window.specs.Chunks.{flat, AreWithin, Parted, AllNumbered, AllDated, told, IsSifted, AllSifted, AreSoundChunks}
use Rattle.window.proofs.Ordering.{Ascend-filter, all_filter}
use Rattle.window.proofs.Chunked.{all_append}
use Rattle.s4_model.specs.Sound.{EndsBefore}
use Rattle.window.proofs.Live.{from_later, all_live, live_from, ends_later}
use Rattle.window.proofs.OwnCounts.{few_in_some}

pub told_bound : (cs : List Chunk) → told cs ≤ 2 ^ 64 - 1
told_bound [] = omega arith
told_bound (c ∷ cs) = let le : told cs ≤ 2 ^ 64 - 1 = told_bound cs in omega arith

-- no run ends before what the chunks tell
pub from_told : (cs : List Chunk) → AllDated cs → AllEndFrom (told cs) (flat cs)
from_told [] dated = tt
from_told (c ∷ cs) dated =
    all_append (λ run. min c.earliest (told cs) ≤ run.last) c.runs.items (flat cs)
    (from_later (min c.earliest (told cs)) c.earliest c.runs.items (omega arith) dated.0)
    (from_later (min c.earliest (told cs)) (told cs) (flat cs) (omega arith) (from_told cs dated.1))

-- a chunk of which nothing falls
pub none_falls : (floor : ℕ) (c : Chunk) → AllEndFrom c.earliest c.runs.items → floor ≤ c.earliest → IsSifted floor c c
none_falls floor c dated le = (refl, sym (all_live floor c.runs.items (from_later floor c.earliest c.runs.items le dated)), dated)

-- the first chunks without what fell, the others as they were
pub UpTo : ℕ → ℕ → List Chunk → List Chunk → Type 0
UpTo floor zero cs ds = ds ≡ cs
UpTo floor (suc n) [] ds = ds ≡ []
UpTo floor (suc n) (c ∷ cs) [] = ⊥
UpTo floor (suc n) (c ∷ cs) (d ∷ ds) = IsSifted floor c d × UpTo floor n cs ds

pub up_to_begin : (floor : ℕ) (cs ds : List Chunk) → ds ≡ cs → UpTo floor 0 cs ds
unfolding UpTo
up_to_begin floor cs ds same = same

pub up_to_dated : (floor n k : ℕ) (cs ds : List Chunk) (e : Chunk) → UpTo floor n cs ds → AllDated cs → n ≤ k → k < length ds → AllEndFrom (get_or ds k e).earliest (get_or ds k e).runs.items
unfolding UpTo
up_to_dated floor zero k cs [] e up dated le lt = absurd (omega arith)
up_to_dated floor zero zero cs (d ∷ ds) e up dated le lt = (subst AllDated (sym up) dated).0
up_to_dated floor zero (suc k) [] (d ∷ ds) e up dated le lt = cc
up_to_dated floor zero (suc k) (c ∷ cs) (d ∷ ds) e up dated le lt = let same : ds ≡ cs = cc in up_to_dated floor zero k cs ds e same dated.1 (omega arith) (omega arith)
up_to_dated floor (suc n) k [] ds e up dated le lt = let none : length ds ≡ 0 = ap (λ (xs : List Chunk). length xs) up in absurd (omega arith)
up_to_dated floor (suc n) k (c ∷ cs) [] e up dated le lt = absurd up
up_to_dated floor (suc n) zero (c ∷ cs) (d ∷ ds) e up dated le lt = absurd (omega arith)
up_to_dated floor (suc n) (suc k) (c ∷ cs) (d ∷ ds) e up dated le lt = up_to_dated floor n k cs ds e up.1 dated.1 (omega arith) (omega arith)

up_to_after : (floor n : ℕ) (cs ds : List Chunk) (e fresh : Chunk) → UpTo floor n cs ds → n < length ds → IsSifted floor (get_or ds n e) fresh → UpTo floor (suc n) cs (set ds n fresh)
unfolding UpTo
up_to_after floor zero cs [] e fresh up lt is = absurd (omega arith)
up_to_after floor zero [] (d ∷ ds) e fresh up lt is = cc
up_to_after floor zero (c ∷ cs) (d ∷ ds) e fresh up lt is = (subst (λ x. IsSifted floor x fresh) (let same : d ≡ c = cc in same) is, let same : ds ≡ cs = cc in same)
up_to_after floor (suc n) [] ds e fresh up lt is = let none : length ds ≡ 0 = ap (λ (xs : List Chunk). length xs) up in absurd (omega arith)
up_to_after floor (suc n) (c ∷ cs) [] e fresh up lt is = absurd up
up_to_after floor (suc n) (c ∷ cs) (d ∷ ds) e fresh up lt is = (up.0, up_to_after floor n cs ds e fresh up.1 (omega arith) is)

pub up_to_next : (floor n next : ℕ) (cs ds : List Chunk) (e fresh : Chunk) → next ≡ suc n → UpTo floor n cs ds → n < length ds → IsSifted floor (get_or ds n e) fresh → UpTo floor next cs (set ds n fresh)
up_to_next floor n next cs ds e fresh is up lt sifted = subst (λ k. UpTo floor k cs (set ds n fresh)) (sym is) (up_to_after floor n cs ds e fresh up lt sifted)

pub up_to_end : (floor n : ℕ) (cs ds : List Chunk) → UpTo floor n cs ds → length ds ≤ n → AllSifted floor cs ds
unfolding UpTo
up_to_end floor zero [] [] up le = tt
up_to_end floor zero (c ∷ cs) [] up le = cc
up_to_end floor zero cs (d ∷ ds) up le = absurd (omega arith)
up_to_end floor (suc n) [] [] up le = tt
up_to_end floor (suc n) [] (d ∷ ds) up le = cc
up_to_end floor (suc n) (c ∷ cs) [] up le = up
up_to_end floor (suc n) (c ∷ cs) (d ∷ ds) up le = (up.0, up_to_end floor n cs ds up.1 (omega arith))

-- what is read back of a vector that was written in place
pub written : (n : ℕ) (xs ys : List Chunk) → length xs ≡ n → take n (xs ++ drop (length xs) ys) ≡ xs
written n xs ys size = take-append-le n xs (drop (length xs) ys) (omega arith) ∙ take_all n xs (omega arith)

pub sifted_flat : (floor : ℕ) (cs ds : List Chunk) → AllSifted floor cs ds → flat ds ≡ filter (is_live floor) (flat cs)
sifted_flat floor [] [] all = refl
sifted_flat floor [] (d ∷ ds) all = absurd all
sifted_flat floor (c ∷ cs) [] all = absurd all
sifted_flat floor (c ∷ cs) (d ∷ ds) all =
    ap (λ xs. xs ++ flat ds) all.0.1 ∙ ap (λ xs. filter (is_live floor) c.runs.items ++ xs) (sifted_flat floor cs ds all.1) ∙ sym (filter-append (is_live floor) c.runs.items (flat cs))

pub sifted_parted : (floor low : ℕ) (cs ds : List Chunk) → AllSifted floor cs ds → Parted low cs → Parted low ds
sifted_parted floor low [] [] all parted = tt
sifted_parted floor low [] (d ∷ ds) all parted = absurd all
sifted_parted floor low (c ∷ cs) [] all parted = absurd all
sifted_parted floor low (c ∷ cs) (d ∷ ds) all parted =
    let P : ℕ → List Span → Type 0 = λ n xs. (low ≤ n) × AreWithin low n xs × Parted (n + 1) ds in
    let within : AreWithin low c.up_to (filter (is_live floor) c.runs.items) = all_filter (λ run. (low ≤ run.object) × (run.object ≤ c.up_to)) (is_live floor) c.runs.items parted.1 in
    subst (λ xs. P d.up_to xs) (sym all.0.1) (subst (λ n. P n (filter (is_live floor) c.runs.items)) (sym all.0.0) (parted.0, within, sifted_parted floor (c.up_to + 1) cs ds all.1 parted.2))

pub sifted_dated : (floor : ℕ) (cs ds : List Chunk) → AllSifted floor cs ds → AllDated ds
sifted_dated floor [] [] all = tt
sifted_dated floor [] (d ∷ ds) all = absurd all
sifted_dated floor (c ∷ cs) [] all = absurd all
sifted_dated floor (c ∷ cs) (d ∷ ds) all = (all.0.2, sifted_dated floor cs ds all.1)

-- no more are left than there were
pub few_left : (floor clock old end count : ℕ) (cs ds xs : List Chunk) → AllSifted floor cs ds → xs ≡ ds → AreSoundChunks clock old end count cs → length (flat xs) ≤ RUNS_IN_ALL
few_left floor clock old end count cs ds xs all same sound =
    let size : length (flat xs) ≡ count_by (is_live floor) (flat cs) =
    ap (λ ys. length (flat ys)) same ∙ ap (λ (ys : List Span). length ys) (sifted_flat floor cs ds all) ∙ length-filter (is_live floor) (flat cs) in
    let le : count_by (is_live floor) (flat cs) ≤ length (flat cs) = count_by-le-length (is_live floor) (flat cs) in
    let known : count ≡ length (flat cs) = sound.7 in
    let few : count ≤ RUNS_IN_ALL = sound.8 in
    omega arith

-- what a window keeps when runs are forgotten
pub sound_forgotten : (floor clock old end count later left : ℕ) (cs ds xs ys : List Chunk) → AllSifted floor cs ds → AreSoundChunks clock old end count cs → xs ≡ ds → left ≡ length (flat xs) → ys ≡ ds → later ≡ told ys → AreSoundChunks clock floor later left ds
sound_forgotten floor clock old end count later left cs ds xs ys all sound same counted again is =
    let P : List Span → Type 0 = λ runs. Ascend runs × AllEndBefore clock runs × AllNumbered runs × AllEndFrom floor runs × AreFewInEachList runs in
    let facts : P (flat ds) = subst P (sym (sifted_flat floor cs ds all)) (
      Ascend-filter (is_live floor) (flat cs) sound.0,
      all_filter (EndsBefore clock) (is_live floor) (flat cs) sound.1,
      all_filter (λ run. run.object < 2 ^ 64) (is_live floor) (flat cs) sound.2,
      live_from floor (flat cs),
      few_in_some (is_live floor) (flat cs) sound.9,
    ) in
    let dated : AllDated ds = sifted_dated floor cs ds all in
    let few : length (flat xs) ≤ RUNS_IN_ALL = few_left floor clock old end count cs ds xs all same sound in (
      facts.0,
      facts.1,
      facts.2,
      sifted_parted floor 0 cs ds all sound.3,
      dated,
      facts.3,
      subst (λ n. AllEndFrom n (flat ds)) (sym (is ∙ ap told again)) (from_told ds dated),
      counted ∙ ap (λ zs. length (flat zs)) same,
      omega arith,
      facts.4,
    )

-- and when none ends below the floor
pub sound_left : (floor clock old end count : ℕ) (cs : List Chunk) → floor ≤ end → AreSoundChunks clock old end count cs → AreSoundChunks clock floor end count cs
sound_left floor clock old end count cs le sound =
    (sound.0, sound.1, sound.2, sound.3, sound.4, from_later floor end (flat cs) le sound.6, sound.6, sound.7, sound.8, sound.9)

-- and when the clock moves on
pub sound_later : (clock later floor end count : ℕ) (cs : List Chunk) → clock ≤ later → AreSoundChunks clock floor end count cs → AreSoundChunks later floor end count cs
sound_later clock later floor end count cs le sound =
    (sound.0, ends_later clock later (flat cs) le sound.1, sound.2, sound.3, sound.4, sound.5, sound.6, sound.7, sound.8, sound.9)
