-- How many pins of a frame all seats know, after one view changes or is added.
use Rattle.std.proofs.Common.{◌≡◌, ◌≢◌, ℕ, zero, suc, ◌+◌, ◌<◌, if◌then◌else◌, ◌==◌, List, [], ◌∷◌, ◌++◌, set, length, refl, sym, ap, ◌∙◌, arith, eq-eqb, ne_eqb}
use mathlib.Core.Option.{some, some-injective, some-ne-none}
use lib.ListN.{get_elem?}
use Rattle.segment_word.specs.Frames.{Pinned, View}
use Rattle.segment_word.specs.Counting.{pins_in, readers, drive_frames}

pub pins_in-append : (f : ℕ) (ps qs : List Pinned) → pins_in f (ps ++ qs) ≡ pins_in f ps + pins_in f qs
pins_in-append f [] qs = omega arith
pins_in-append f (p ∷ ps) qs = let r = pins_in-append f ps qs in omega arith

-- a pin of the frame counts one, a pin of another none
pub counts_one : (a b : ℕ) → a ≡ b → ◌≡◌ {A = ℕ} (if a == b then 1 else 0) 1
counts_one a b e = rw (eq-eqb a b e) refl

pub counts_none : (a b : ℕ) → a ≢ b → ◌≡◌ {A = ℕ} (if a == b then 1 else 0) 0
counts_none a b e = rw (ne_eqb a b e) refl

pub readers-set : (f : ℕ) (views : List View) (id : ℕ) (v w : View) → get_elem? views id ≡ some v → readers f (set views id w) + pins_in f v.pins ≡ readers f views + pins_in f w.pins
readers-set f [] id v w e = absurd (some-ne-none v (sym e))
readers-set f (x ∷ xs) zero v w e = let is : pins_in f x.pins ≡ pins_in f v.pins = ap (λ (r : View). pins_in f r.pins) (some-injective x v e) in omega arith
readers-set f (x ∷ xs) (suc id) v w e = let r = readers-set f xs id v w e in omega arith

pub readers-snoc : (f : ℕ) (views : List View) (w : View) → readers f (views ++ w ∷ []) ≡ readers f views + pins_in f w.pins
readers-snoc f [] w = omega arith
readers-snoc f (x ∷ xs) w = let r = readers-snoc f xs w in omega arith

-- the drive's knowledge stays where a view keeps the frames that it knows
pub frames-set : (views : List View) (id : ℕ) (v w : View) → get_elem? views id ≡ some v → w.frames ≡ v.frames → drive_frames (set views id w) ≡ drive_frames views
frames-set [] id v w e is = refl
frames-set (x ∷ xs) zero v w e is = is ∙ sym (ap (λ (r : View). r.frames) (some-injective x v e))
frames-set (x ∷ xs) (suc id) v w e is = refl

pub frames-snoc : (views : List View) (w : View) → 0 < length (drive_frames views) → drive_frames (views ++ w ∷ []) ≡ drive_frames views
frames-snoc [] w h = absurd (omega arith)
frames-snoc (x ∷ xs) w h = refl

-- the drive's seat is the first
pub frames-first : (views : List View) (id : ℕ) (v : View) → id ≡ 0 → get_elem? views id ≡ some v → drive_frames views ≡ v.frames
frames-first [] id v z e = absurd (some-ne-none v (sym e))
frames-first (x ∷ xs) zero v z e = ap (λ (r : View). r.frames) (some-injective x v e)
frames-first (x ∷ xs) (suc id) v z e = absurd (omega arith)

pub frames-drive : (views : List View) (id : ℕ) (v w : View) → id ≡ 0 → get_elem? views id ≡ some v → drive_frames (set views id w) ≡ w.frames
frames-drive [] id v w z e = absurd (some-ne-none v (sym e))
frames-drive (x ∷ xs) zero v w z e = refl
frames-drive (x ∷ xs) (suc id) v w z e = absurd (omega arith)
