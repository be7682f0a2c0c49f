-- Groups of an image of any version are groups.
use Rattle.std.proofs.Common.{◌≡◌, ℕ, ◌+◌, ◌&&◌, Bool, cond, eqb, ltb, true, false, List, [], ◌∷◌, refl, arith}
use Rattle.std.proofs.lemmas.Bool.{and_parts, and_from, ltb-true, lt-ltb}
use Rattle.s4_types.specs.declared.limits.TheConstants.{CHANGE_ENTRIES}
use Rattle.codec.specs.Entry.{EntryFields}
use Rattle.codec.specs.Versions.{change_entries_by}
use Rattle.codec.specs.declared.versions.ImageVersion.{ImageVersion}
use Rattle.codec.specs.declared.versions.ImageVersion.TheVariants.{First, Second}
use Rattle.undo_redo.specs.Groups.{continues, grouped, grouped_behind}
use Rattle.image_objects.specs.Versions.{grouped_by, grouped_behind_by}

-- one entry more, where fewer may be of a moment
step : (same few fewer goes rest others later last most : Bool) → (few ≡ true → fewer ≡ true) → (rest ≡ true → others ≡ true) → (last ≡ true → most ≡ true)
    → cond same ((few && goes) && rest) (later && last) ≡ true → cond same ((fewer && goes) && others) (later && most) ≡ true
step true few fewer goes rest others later last most less on since h =
    let parts = and_parts (few && goes) rest h in
    let own = and_parts few goes parts.0 in
    and_from (fewer && goes) others (and_from fewer goes (less own.0) own.1) (on parts.1)
step false few fewer goes rest others later last most less on since h =
    let parts = and_parts later last h in
    and_from later most parts.0 (since parts.1)

-- no version has more entries of a moment than there may be now
fewer_now : (v : ImageVersion) (count : ℕ) → ltb count (change_entries_by v) ≡ true → ltb count CHANGE_ENTRIES ≡ true
fewer_now First count h = let few = ltb-true count (change_entries_by First) h in lt-ltb count CHANGE_ENTRIES (omega (arith, few))
fewer_now Second count h = h

behind : (v : ImageVersion) (entries : List EntryFields) (count : ℕ) (e : EntryFields) → grouped_behind_by v count e entries ≡ true → grouped_behind count e entries ≡ true
behind v [] count e h = refl
behind v (f ∷ entries) count e h =
    step (eqb e.moment f.moment) (ltb count (change_entries_by v)) (ltb count CHANGE_ENTRIES) (continues e f) (grouped_behind_by v (count + 1) f entries) (grouped_behind (count + 1) f entries) (ltb e.moment f.moment) (grouped_behind_by v 1 f entries) (grouped_behind 1 f entries)
    (fewer_now v count) (behind v entries (count + 1) f) (behind v entries 1 f) h

pub groups_of_a_version : (v : ImageVersion) (entries : List EntryFields) → grouped_by v entries ≡ true → grouped entries ≡ true
groups_of_a_version v [] h = refl
groups_of_a_version v (e ∷ entries) h = behind v entries 1 e h
