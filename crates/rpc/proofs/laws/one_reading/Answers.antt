use Rattle.rpc.specs.Spelling.{SpellsRequest, SpellsReply}
use Rattle.rpc.proofs.StreamLaws.{one_reading}
use Rattle.rpc.proofs.Wire.{one_request, one_reply, request_apart, reply_apart}
use Rattle.rpc.proofs.laws.one_reading.Goals as goal

pub returns : goal.returns
returns c = record {
  requests_apart = request_apart;
  replies_apart = reply_apart;
  requests = one_reading SpellsRequest one_request;
  replies = one_reading SpellsReply one_reply;
}
