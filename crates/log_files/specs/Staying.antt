-- The law of a disk that what is seen may stay.
use Rattle.std.specs.Prelude.{Bool, true, false, refl}
use Rattle.std.proofs.Common.{inl}
use Rattle.log_files.specs.Contents.{Contents, Leaves, LeavesIf}

stays_if : (known : Bool) (c : Contents) → LeavesIf known c c.seen
stays_if true c = inl refl
stays_if false c = tt

-- What is seen is among what a crash leaves.
pub seen_stays : (c : Contents) → Leaves c c.seen
seen_stays c = stays_if c.is_known c
