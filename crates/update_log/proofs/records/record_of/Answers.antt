use Rattle.std.proofs.Common.{◌∙◌}
use Rattle.update_log.proofs.Recording.{body_is, body_small, content_room, record_is}
use Rattle.update_log.proofs.records.record_of.Goals as goal

pub in_sectors-requires-clause-room : goal.in_sectors-requires-clause-room
in_sectors-requires-clause-room c = content_room c.args.place.now _ c.in_ok-content.content.items c.further_sectors.result c.in_ok-content.ensures.content c.further_sectors.ensures

pub sealed-requires : goal.sealed-requires
sealed-requires c =
    body_small c.args.place.now _ c.deref.result.now
    (body_is c.args.place.now _ c.further_sectors.result c.in_ok-content.content.items c.deref.result.now c.further_sectors.ensures c.in_ok-content.ensures.content (c.deref.ensures.value ∙ c.in_ok-body.ensures))
    c.requires.small

pub returns-clause-bytes : goal.returns-clause-bytes
returns-clause-bytes c =
    record_is c.args.place.now _ c.deref.result.now c.in_ok-record.record.items
    (body_is c.args.place.now _ c.further_sectors.result c.in_ok-content.content.items c.deref.result.now c.further_sectors.ensures c.in_ok-content.ensures.content (c.deref.ensures.value ∙ c.in_ok-body.ensures))
    c.in_ok-record.ensures
