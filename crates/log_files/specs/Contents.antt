-- What calls leave of the bytes of a file that was made.
use Rattle.std.specs.Prelude.{◌==◌, ◌&&◌, ◌||◌, ℕ, Bool, true, false, not, if◌then◌else◌, List, [], ◌∷◌, length, drop, ⊤}
use Rattle.sqlite_disk.specs.Events.{overlaid, padded}
use Rattle.sqlite_disk.specs.History.{Step, wrote, resized, MayLeave}
use Rattle.host_calls.specs.Events.{Event, Made, Written, Cut, Synced}

pub record Contents : Type 0 where
  -- what a read would give
  pub seen : List ℕ
  -- what it would have given at the last sync
  pub synced : List ℕ
  -- what was written since, the newest first
  pub steps : List Step
  -- no sync has failed
  pub is_usable : Bool
  -- a write or a change of the length has failed: what was seen then isn't known
  pub is_torn : Bool
  -- Else a crash may leave any bytes.
  pub is_known : Bool

-- of a file that no call made
abbrev pub unmade : Contents
unmade = record { seen = []; synced = []; steps = []; is_usable = false; is_torn = false; is_known = false }

-- of one that was just made
abbrev pub made : Contents
made = record { seen = []; synced = []; steps = []; is_usable = true; is_torn = false; is_known = true }

-- bytes were taken at an offset
abbrev pub written : ℕ → List ℕ → Contents → Contents
written at [] c = c
written at (byte ∷ bytes) c = record c { seen = overlaid c.seen at (byte ∷ bytes); steps = wrote at (length (byte ∷ bytes)) (byte ∷ bytes) ∷ c.steps }

-- A write failed. Each byte that it was to write, as the first of these says, may be on the disk.
abbrev pub unwritten : ℕ → List (List ℕ) → Contents → Contents
unwritten at [] c = record c { is_torn = true; is_known = false }
unwritten at (bytes ∷ others) c = record c { steps = wrote at (length bytes) bytes ∷ c.steps; is_torn = true }

-- a file got a length, or may have
abbrev pub cut : ℕ → Bool → Contents → Contents
cut len true c = record c { seen = padded c.seen len; steps = resized len ∷ c.steps }
cut len false c = record c { steps = resized len ∷ c.steps; is_torn = true }

-- A file was synced. It isn't known what it has then, where a call before failed.
abbrev pub settled : Bool → Contents → Contents
settled true c = if c.is_torn || not c.is_usable then record c { is_known = false } else record c { synced = c.seen; steps = [] }
settled false c = record c { is_usable = false }

-- a change of the file of a number, by the number that the change is of
abbrev pub changed : (number of : ℕ) → (Contents → Contents) → Contents → Contents
changed number of how c = if of == number then how c else c

-- What a call leaves of the file of a number. The first of these lists is what a write that failed was to write.
abbrev pub after : ℕ → Event → List (List ℕ) → Contents → Contents
after number (Made path mode of true) writes c = changed number of (λ _. made) c
after number (Written of at bytes true) writes c = changed number of (written at bytes) c
after number (Written of at bytes false) writes c = changed number of (unwritten at writes) c
after number (Cut of len ok) writes c = changed number of (cut len ok) c
after number (Synced of ok) writes c = changed number of (settled ok) c
after number call writes c = c

-- of these writes that failed, of whatever file, those before a call
abbrev pub before : Event → List (List ℕ) → List (List ℕ)
before (Written of at bytes false) writes = drop 1 writes
before call writes = writes

-- What calls, of which the newest comes first, leave of the file of a number. What the writes that failed were to write are these lists,
-- the newest first.
unfoldable pub contents : ℕ → (writes : List (List ℕ)) → List Event → Contents
contents number writes [] = unmade
contents number writes (call ∷ earlier) = after number call writes (contents number (before call writes) earlier)

-- what a crash leaves of contents that are known, or aren't
abbrev pub LeavesIf : (is_known : Bool) → Contents → List ℕ → Type 0
LeavesIf true c left = MayLeave true c.seen c.synced c.steps left
LeavesIf false c left = ⊤

-- What a crash leaves. A write that it cuts short leaves each byte below the old end old or new.
abbrev pub Leaves : Contents → List ℕ → Type 0
Leaves c = LeavesIf c.is_known c

-- whether more may be asked of a file
abbrev pub is_open : Contents → Bool
is_open c = c.is_usable && c.is_known
