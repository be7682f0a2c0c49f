use Rattle.std.proofs.Common.{string_bytes}
use Rattle.image_commands.proofs.Fronts.{if_ok_with}
use Rattle.s4d.proofs.Unmigrated.{has_line, refused_so}
use Rattle.s4d.proofs.migrating.migrate_file.Goals as goal

pub returns-in-Err-save_migrated-clause-fault : goal.returns-in-Err-save_migrated-clause-fault
returns-in-Err-save_migrated-clause-fault g c =
    refused_so (g.F.Files.contents c.args.files.now c.args.asked.earlier.now) c.in-Ok-read_earlier.bytes.items c.in-Err-save_migrated.refusal c.in-Ok-read_earlier.ensures.bytes
    c.in-Err-save_migrated.ensures.refusal

pub returns-clause-line : goal.returns-clause-line
returns-clause-line g c =
    let known = g.F.Files.contents c.put_new.new.files c.args.asked.image.now in
    let saved = c.in-Ok-save_migrated.saved in
    let told = c.in-Ok-save_migrated.ensures.line in
    if_ok_with c.put_new.result
    (λ made is read. has_line known saved.bytes.items told.0 (string_bytes made.line) (string_bytes saved.line) c.what_has_no_fault_is_an_image.ensures.read read told.1 told.2 is)
    c.put_new.ensures.line c.put_new.ensures.image
