-- How often a frame is counted on.
use Rattle.std.specs.Prelude.{ℕ, ◌+◌, List, [], ◌∷◌, ◌++◌, if◌then◌else◌, ◌==◌}
use Rattle.segment_word.specs.Frames.{Frame, Pinned, View}

-- how many pins of the list are pins of frame f
abbrev pub pins_in : ℕ → List Pinned → ℕ
pins_in f [] = 0
pins_in f (p ∷ ps) = (if p.number == f then 1 else 0) + pins_in f ps

-- how many pins of frame f all seats know
abbrev pub readers : ℕ → List View → ℕ
readers f [] = 0
readers f (v ∷ vs) = pins_in f v.pins + readers f vs

-- what the first seat, which is the drive's, knows of frames
abbrev pub drive_frames : List View → List Frame
drive_frames [] = []
drive_frames (v ∷ vs) = v.frames

-- the numbers of the pinned frames, the newest last
abbrev pub numbers_of : List Pinned → List ℕ
numbers_of [] = []
numbers_of (p ∷ ps) = numbers_of ps ++ p.number ∷ []
