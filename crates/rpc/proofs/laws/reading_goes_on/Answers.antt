use Rattle.rpc.specs.Spelling.{SpellsRequest, SpellsReply}
use Rattle.rpc.proofs.StreamLaws.{reads_on, reads_ended}
use Rattle.rpc.proofs.laws.reading_goes_on.Goals as goal

pub returns : goal.returns
returns c = record {
  requests = reads_on SpellsRequest;
  replies = reads_on SpellsReply;
  requests_ended = reads_ended SpellsRequest;
  replies_ended = reads_ended SpellsReply;
}
