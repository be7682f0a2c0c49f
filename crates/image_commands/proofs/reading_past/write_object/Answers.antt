use Rattle.std.proofs.Common.{inl, inr, ⊎_elim}
use Rattle.std.proofs.lemmas.Result.{on_ok_weaker, IfErr-weaker}
use Rattle.s4_types.specs.History.{Base}
use Rattle.segment_table.specs.Room.{log_of}
use Rattle.version_store.specs.Store.{fields_of}
use Rattle.drive.specs.Opened.{base_of}
use Rattle.image_parts.specs.Image.{image_in}
use Rattle.image_commands.proofs.Said.{refused_of}
use Rattle.image_commands.proofs.reading_past.write_object.Goals as goal

pub returns-in-Ok-open : goal.returns-in-Ok-open
returns-in-Ok-open g c =
    let opened = c.in-Ok-open.opened in
    let verified = c.in-Ok.ensures.verified in
    let base : Base = base_of (fields_of log_of opened.store) opened.timeline opened.next opened.audit in
    let told = c.in-Ok-open.ensures.base verified.bytes (image_in verified.bytes) verified.spelled verified.told in
    record {
      object = on_ok_weaker c.write_past.result
          (λ gives. record {
            image = c.in-Ok.image;
            verified = verified;
            base = base;
            told = told;
            gives = gives;
          })
          c.write_past.ensures.version;
      fault = IfErr-weaker c.write_past.result _ _
          (λ fault says. ⊎_elim
          (λ refused. inr (inl (refused_of (g.F.Files.contents c.args.files.now c.args.asked.image.now) c.in-Ok.image verified base told c.args.asked.object c.args.asked.moment fault refused)))
          (λ unwritten. inr (inr unwritten))
          says)
          c.write_past.ensures.fault;
    }
