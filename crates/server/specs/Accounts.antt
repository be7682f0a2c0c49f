-- What a run has on its books.
use Rattle.std.specs.Prelude.{ℕ, ◌+◌, Bool, cond, Option, None, Some}

-- the names of two ledgers that nothing is counted in yet, of requests and of changes, and into how many parts each is cut
pub record BlankFields : Type 0 where
  pub requests : ℕ
  pub changes : ℕ
  pub parts : ℕ

-- what both books come to
pub record BookFields : Type 0 where
  pub requests : ℕ
  pub changes : ℕ

-- some parts of both, and what of each is counted on them
pub record PartFields : Type 0 where
  pub parts : ℕ
  pub requests : ℕ
  pub changes : ℕ

-- one part, on which nothing is counted yet
abbrev pub one_part : PartFields
one_part = record { parts = 1; requests = 0; changes = 0 }

-- a request more is counted on them, and a change more where it was accepted
abbrev pub counted : PartFields → Bool → PartFields
counted part is_accepted = record { parts = part.parts; requests = part.requests + 1; changes = part.changes + cond is_accepted 1 0 }

-- how many parts these are, if any
abbrev pub parts_in : Option PartFields → ℕ
parts_in None = 0
parts_in (Some part) = part.parts

-- how many requests are counted on them
abbrev pub requests_in : Option PartFields → ℕ
requests_in None = 0
requests_in (Some part) = part.requests

-- how many changes
abbrev pub changes_in : Option PartFields → ℕ
changes_in None = 0
changes_in (Some part) = part.changes
