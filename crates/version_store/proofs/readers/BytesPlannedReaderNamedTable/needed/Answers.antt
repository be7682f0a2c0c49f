use Rattle.std.proofs.Common.{inl, inr, sym, ap, ◌∙◌}
use Rattle.std.specs.List.{list_any}
use Rattle.inode.specs.Contents.{contents_of}
use Rattle.segment_table.specs.Room.{log_of}
use Rattle.time_read.specs.Plans.{is_pinned}
use Rattle.version_store.proofs.Needed.{bytes_agree, pieces_agree}
use Rattle.version_store.proofs.readers.BytesPlannedReaderNamedTable.needed.Goals as goal

pub returns-clause-reads : goal.returns-clause-reads
returns-clause-reads g c = λ table plan i j small agrees is. record {
  pieces = is.pieces ∙ pieces_agree table c.of_bytes.result i j c.args.self.now.offset c.args.self.now.wanted small c.of_bytes.ensures agrees;
  bytes = is.bytes ∙ bytes_agree (contents_of (log_of table).held) c.of_bytes.result i j c.args.self.now.offset c.args.self.now.wanted small c.of_bytes.ensures agrees;
  pins = is.pins;
  seat = is.seat;
  here = is.here;
}

pub returns-clause-refuses : goal.returns-clause-refuses
returns-clause-refuses g c = λ table e i j small agrees is. elim is [
  | inl memory ↦ inl memory
  | inr busy ↦ inr (
    busy.0,
    sym (ap (λ pieces. list_any is_pinned pieces) (pieces_agree table c.of_bytes.result i j c.args.self.now.offset c.args.self.now.wanted small c.of_bytes.ensures agrees)) ∙ busy.1,
  )
]
