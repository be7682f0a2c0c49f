use Rattle.std.proofs.Common.{rules, ◌≡◌, ◌++◌, ℕ, List, codes}
use Rattle.std.specs.Io.KnownBytes.{Appends}
use Rattle.std.proofs.KnownBytes.{Appends-trans}
use Rattle.drive.specs.Fields.{state_in, store_of}
use Rattle.history_text.specs.Json.{json_line, listed_data}
use Rattle.history_versions.specs.Lines.{opened, versions_text}
use Rattle.history_versions.proofs.lines.write_with_versions.Goals as goal

pub returns-clause-line : goal.returns-clause-line
returns-clause-line g c =
    let passed = g.W.Sink.passed in
    let s = state_in c.args.drive.now in
    let store = store_of c.args.drive.now in
    let a = passed c.args.writer.now in
    let b = passed c.write_out.new.writer in
    let d = passed c.write_out-2.new.writer in
    let e = passed c.write_versions.new.writer in
    let f = passed c.write_out-3.new.writer in
    let front = opened (json_line (listed_data c.args.asked.now.style c.args.row.now)) in
    let versions = versions_text s store c.args.asked.now c.args.row.now.object in
    let first : Appends a b front = search rules in
    Appends-trans a b f front (codes ",\"versions\":[" ++ (versions ++ codes "]}\n")) first
    (Appends-trans b d f (codes ",\"versions\":[") (versions ++ codes "]}\n") c.in_ok-write_out-2.ensures.bytes
    (Appends-trans d e f versions (codes "]}\n") c.in_ok-write_versions.ensures.versions c.in_ok-write_out-3.ensures.bytes))
