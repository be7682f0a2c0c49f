-- The laws of what is listed as held in a frame, and of the places ahead.
use Rattle.std.specs.Prelude.{◌≡◌, ℕ, ◌≤◌, true, false}
use Rattle.std.specs.List.{Contains}
use Rattle.s4_types.specs.Pointer.{Place}
use Rattle.segment_word.specs.Frames.{is_sealed}
use Rattle.segment_word.specs.Layout.{frame_at}
use Rattle.segment_table.specs.Table.{Table, held_at, is_of}
use Rattle.segment_table.specs.Room.{places_ahead, pointers_in}

-- A place of a sealed frame, at the frame's generation, at which a block of an object is held.
pub record IsListed (t : Table) (o f : ℕ) (p : Place) : Type 0 where
  pub frame : p.frame ≡ f
  pub generation : p.generation ≡ (frame_at t.seat.frames f).generation
  pub payload : (1 ≤ p.block) × (p.block ≤ 15)
  pub sealed : is_sealed (frame_at t.seat.frames f).phase ≡ true
  pub held : is_of o (held_at t p) ≡ true

-- What is listed as held in a frame is held there, and the frame is sealed.
abbrev pub WhatIsListedIsHeld : Type 0
WhatIsListedIsHeld = (t : Table) (o f : ℕ) (p : Place) → Contains (pointers_in t o f) p → IsListed t o f p

-- each held block of an object in a sealed frame is listed
abbrev pub ListsAllHeld : Table → Type 0
ListsAllHeld t = (o : ℕ) (p : Place) → is_sealed (frame_at t.seat.frames p.frame).phase ≡ true → is_of o (held_at t p) ≡ true → Contains (pointers_in t o p.frame) p

-- The places that the next appends take lie in the open frame or in free ones.
abbrev pub PlacesAheadAreInNoSealedFrame : Type 0
PlacesAheadAreInNoSealedFrame = (t : Table) (p : Place) → Contains (places_ahead t) p → is_sealed (frame_at t.seat.frames p.frame).phase ≡ false
