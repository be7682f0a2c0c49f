use Rattle.update_log.proofs.Recording.{padded_made}
use Rattle.update_log.proofs.records.in_sectors.Goals as goal

pub returns : goal.returns
returns c =
    padded_made c.args.count _ c.args.content.items c.resize.new.self.items c.deref.result.now c.new-out.result.items c.lay.new.out.items
    c.requires.room c.args.content.ok.0 c.in_ok-resize.ensures.items c.deref.ensures.value c.new-out.ensures.items c.in_ok-lay.ensures
