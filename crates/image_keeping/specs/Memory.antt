-- What a folder in memory may have after a crash.
use Rattle.std.specs.Prelude.{◌≡◌, ◌⊎◌, ◌==◌, ◌-◌, ◌^◌, ℕ, ⊤, Bool, true, false, if◌then◌else◌, List, [], ◌∷◌, map}
use Rattle.image_keeping.specs.declared.memory.MemoryFolder.{MemoryFolder}

-- how many calls there will be before one fails, after one more: one fails, and no other after it
abbrev pub calls_after : ℕ → ℕ
calls_after calls = if calls == 0 then 2 ^ 64 - 1 else calls - 1

-- these bytes are among those of some files
abbrev pub IsAmong : List (List ℕ) → List ℕ → Type 0
IsAmong [] c = ⊥
IsAmong (file ∷ files) c = (c ≡ file) ⊎ IsAmong files c

-- what a file leaves that was synced, or wasn't: its bytes, or any
abbrev pub Leaves : (lasts : Bool) → List ℕ → List ℕ → Type 0
Leaves true bytes c = c ≡ bytes
Leaves false bytes c = ⊤

-- what one of some files leaves, or any bytes, where one of them wasn't synced
abbrev pub LeavesOne : (lasts : Bool) → List (List ℕ) → List ℕ → Type 0
LeavesOne true files c = IsAmong files c
LeavesOne false files c = ⊤

-- what the file beside the path of a folder in memory leaves
abbrev pub beside_of : MemoryFolder → List ℕ → Type 0
beside_of f c = Leaves f.beside_lasts f.beside.items c

-- what the file leaves that has the path's name
abbrev pub named_of : MemoryFolder → List ℕ → Type 0
named_of f c = Leaves f.named_lasts f.named.items c

-- what a crash leaves at the path: what one of the earlier files does, or the one that has its name
abbrev pub outcomes_of : MemoryFolder → List ℕ → Type 0
outcomes_of f c = LeavesOne f.earlier_last (map (λ v. v.items) f.earlier.items) c ⊎ named_of f c
