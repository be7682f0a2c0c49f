-- The sizes of a reply that has an encoding on the wire, and of a drive.
use Rattle.std.specs.Prelude.{ℕ, ◌≢◌, ◌≤◌, length}
use Rattle.s4_types.specs.RefusalNumber.{number_of}
use Rattle.s4_types.specs.declared.limits.TheConstants.{READ_BYTES, ATTRIBUTE_BYTES, AUDIT_ROWS, FEWEST_FRAMES, MOST_FRAMES}
use Rattle.s4_types.specs.declared.replies.Reply.{Reply}
use Rattle.s4_types.specs.declared.replies.Reply.TheVariants.{Refused, Changed, Created, Data, Attr, AuditRows}

-- The reply can be sent, and each reply of a drive can: a refusal that its number alone names, at most the bytes of the
-- longest read, an attribute of an object, at most the rows of the longest audit.
abbrev pub ReplyFits : Reply → Type 0
ReplyFits (Refused refusal) = number_of refusal ≢ 16
ReplyFits (Changed moment) = Unit {0}
ReplyFits (Created object moment) = Unit {0}
ReplyFits (Data bytes) = length bytes ≤ READ_BYTES
ReplyFits (Attr size created changed attribute) = length attribute ≤ ATTRIBUTE_BYTES
ReplyFits (AuditRows rows) = length rows ≤ AUDIT_ROWS

-- a drive can have this many frames
abbrev pub IsFrameCount : ℕ → Type 0
IsFrameCount frames = (FEWEST_FRAMES ≤ frames) × (frames ≤ MOST_FRAMES)
