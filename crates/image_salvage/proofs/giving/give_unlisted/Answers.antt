use Rattle.std.proofs.Common.{◌≡◌, ◌∙◌, ℕ, List, ap}
use Rattle.std.specs.Option.{option_map}
use Rattle.std.proofs.lemmas.Result.{on_ok_weaker}
use Rattle.segment_table.specs.Used.{used_at}
use Rattle.history_view.specs.declared.listing.Listed.{Listed}
use Rattle.history_view.specs.Listing.{listed_of}
use Rattle.history_export.specs.Exports.{with_named}
use Rattle.image_salvage.specs.Contents.{salvaged_bytes, blocks_gone}
use Rattle.image_salvage.specs.Manifest.{unlisted_name, unlisted_line}
use Rattle.image_salvage.proofs.giving.give_unlisted.Goals as goal

pub returns-clause-files : goal.returns-clause-files
returns-clause-files g c =
    let first = g.F.Folder.files c.args.folder.now in
    let used = used_at c.args.image.now.table in
    let o : ℕ = c.args.unlisted.now.object in
    let i = c.args.unlisted.now.inode in
    let name : c.as_str.result.now ≡ unlisted_name o = c.as_str.ensures.value ∙ c.in_ok-name.ensures in
    let content : c.as_slice-2.result.now ≡ salvaged_bytes used o i = c.as_slice-2.ensures.value ∙ c.in_ok-content.ensures.bytes in
    let hashed : c.as_slice.result.now ≡ salvaged_bytes used o i = c.as_slice.ensures.value ∙ c.in_ok-content.ensures.bytes in
    let line : c.as_bytes.result.now ≡ unlisted_line (listed_of o i) (salvaged_bytes used o i) (blocks_gone used o i) c.args.unlisted.now.left_out =
    c.as_bytes.ensures.value ∙ c.in_ok-line.ensures ∙ ap (λ (row : Listed). unlisted_line row c.as_slice.result.now c.gone-gone.result c.args.unlisted.now.left_out) c.listed_of-row.ensures
    ∙ ap (λ (bytes : List ℕ). unlisted_line (listed_of o i) bytes c.gone-gone.result c.args.unlisted.now.left_out) hashed ∙ ap (λ (n : ℕ). unlisted_line (listed_of o i) (salvaged_bytes used o i) n c.args.unlisted.now.left_out) c.gone-gone.ensures in
    on_ok_weaker c.add_named.result
    (λ grown. grown ∙ ap (λ (bytes : List ℕ). option_map (with_named bytes c.as_slice-2.result.now c.as_bytes.result.now) first) name
    ∙ ap (λ (bytes : List ℕ). option_map (with_named (unlisted_name o) bytes c.as_bytes.result.now) first) content
    ∙ ap (λ (bytes : List ℕ). option_map (with_named (unlisted_name o) (salvaged_bytes used o i) bytes) first) line)
    c.add_named.ensures.files
