-- The parts of an image, one after the other.
use Rattle.std.proofs.Common.{◌≡◌, ℕ, List, [], ◌++◌, ap}
use Rattle.std.specs.List.{flat_map}
use Rattle.sha2.specs.Sha256.{sha256}
use Rattle.image_parts.specs.declared.headers.Header.{Header}
use Rattle.image_parts.specs.Header.{header_bytes}
use Rattle.image_parts.specs.Frames.{frame_bytes}
use Rattle.image_parts.specs.Rows.{row_bytes}
use Rattle.image_parts.specs.Spans.{span_bytes}
use Rattle.image_parts.specs.Audit.{audit_bytes}
use Rattle.image_parts.specs.Image.{Image, header_of, front_bytes, image_bytes, image_bytes_by}
use Rattle.verifier.proofs.SavedWhole.{front_written}

pub whole_bytes : (image : Image) (h : Header) (out : List ℕ) → h ≡ header_of image
    → out ≡ (((([] ++ header_bytes h) ++ flat_map frame_bytes image.frames) ++ flat_map row_bytes image.rows) ++ flat_map span_bytes image.spans) ++ flat_map audit_bytes image.audit → out ++ sha256 out ≡ image_bytes image
unfolding image_bytes image_bytes_by front_bytes
whole_bytes image h out same is = ap (λ (l : List ℕ). l ++ sha256 l) (front_written image h out same is)
