use Rattle.std.proofs.Common.{◌≡◌, ◌∙◌, List, refl, sym, ap}
use Rattle.std.proofs.lemmas.Result.{on_ok_weaker}
use Rattle.segment_table.specs.Used.{used_at}
use Rattle.history_export.specs.Folders.{NamedFile, with_bytes}
use Rattle.history_export.specs.Manifest.{manifest_name}
use Rattle.image_salvage.specs.declared.giving.Fate.{Fate}
use Rattle.image_salvage.specs.declared.giving.Fate.TheVariants.{Given, Lost, Deleted}
use Rattle.image_salvage.specs.Manifest.{lost_object_line}
use Rattle.image_salvage.specs.Giving.{fate_of, counted_by, with_salvaged}
use Rattle.image_salvage.proofs.RowByRow.{fate_changes, changes_none}
use Rattle.image_salvage.proofs.giving.give_row.Goals as goal

pub returns-in-Given-clause-files : goal.returns-in-Given-clause-files
returns-in-Given-clause-files g c =
    let files = g.F.Folder.files in
    let used = used_at c.args.image.now.table in
    let row = c.args.row.now in
    let inode = c.in-Given.inode in
    let fate : Given inode ≡ fate_of c.args.given.now.last row = sym c.in-Given.is ∙ c.fate_of.ensures in
    on_ok_weaker c.give_object.result
    (λ becomes. fate_changes used c.args.given.now row (Given inode) (with_salvaged used row.object inode) (files c.args.folder.now) (files c.give_object.new.folder) fate (λ f. refl) becomes)
    c.give_object.ensures.files

pub returns-in-Given-clause-given : goal.returns-in-Given-clause-given
returns-in-Given-clause-given g c =
    let used = used_at c.args.image.now.table in
    let row = c.args.row.now in
    let fate : Given c.in-Given.inode ≡ fate_of c.args.given.now.last row = sym c.in-Given.is ∙ c.fate_of.ensures in
    on_ok_weaker c.give_object.result (λ counts. counts ∙ ap (λ (f : Fate). counted_by used row.object f c.args.given.now) fate) c.give_object.ensures.given

pub returns-in-Lost-clause-files : goal.returns-in-Lost-clause-files
returns-in-Lost-clause-files g c =
    let files = g.F.Folder.files in
    let used = used_at c.args.image.now.table in
    let row = c.args.row.now in
    let fate : Lost ≡ fate_of c.args.given.now.last row = sym c.in-Lost.is ∙ c.fate_of.ensures in
    on_ok_weaker c.tell_lost.result
    (λ becomes. fate_changes used c.args.given.now row Lost (with_bytes manifest_name (lost_object_line row.object)) (files c.args.folder.now) (files c.tell_lost.new.folder) fate (λ f. refl) becomes)
    c.tell_lost.ensures.files

pub returns-in-Lost-clause-given : goal.returns-in-Lost-clause-given
returns-in-Lost-clause-given g c =
    let used = used_at c.args.image.now.table in
    let row = c.args.row.now in
    let fate : Lost ≡ fate_of c.args.given.now.last row = sym c.in-Lost.is ∙ c.fate_of.ensures in
    on_ok_weaker c.tell_lost.result (λ counts. counts ∙ ap (λ (f : Fate). counted_by used row.object f c.args.given.now) fate) c.tell_lost.ensures.given

pub returns-in-Deleted-clause-files : goal.returns-in-Deleted-clause-files
returns-in-Deleted-clause-files g c =
    let known = g.F.Folder.files c.args.folder.now in
    let row = c.args.row.now in
    let fate : Deleted ≡ fate_of c.args.given.now.last row = sym c.in-Deleted.is ∙ c.fate_of.ensures in
    fate_changes (used_at c.args.image.now.table) c.args.given.now row Deleted (λ (files : List NamedFile). files) known known fate (λ f. refl) (changes_none (λ (files : List NamedFile). files) known (λ f. refl))

pub returns-in-Deleted-clause-given : goal.returns-in-Deleted-clause-given
returns-in-Deleted-clause-given g c =
    let row = c.args.row.now in
    let fate : Deleted ≡ fate_of c.args.given.now.last row = sym c.in-Deleted.is ∙ c.fate_of.ensures in
    ap (λ (f : Fate). counted_by (used_at c.args.image.now.table) row.object f c.args.given.now) fate
