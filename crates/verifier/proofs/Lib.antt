pub mod AllRows
pub mod SpelledRows
mod Holding
mod Counting
mod Telling
pub mod Frames
mod Ends
pub mod AuditRows
pub mod Faults
pub mod Retold
mod SpanOrder
mod KeptRows
mod Verified
mod Lists
mod Slots
mod ListedRows
mod SavedRows
mod SavedSpans
mod FewRows
pub mod SavedWhole
pub mod OpenedRows
mod OpenedBase
mod OpenedSaved
pub mod SavedFrames
mod OneSpans
mod OneRows
mod OneFrames
mod OneImage
mod SavedTold
mod Encoded
pub mod SeenParts
pub mod SeenWhole
pub mod SeenImage
pub mod SeenBase
