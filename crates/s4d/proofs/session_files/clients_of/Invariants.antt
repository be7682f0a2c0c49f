use Rattle.std.proofs.Common.{◌≡◌, ◌+◌, ◌≤◌, ◌^◌, ◌<◌, ℕ, All, List, [], length, vec_capacity, vec_len}
use Rattle.std.specs.Io.KnownBytes.{Keeps}
use Rattle.std.specs.List.{AllZip}
use Rattle.image_commands.specs.Files.{AreKnown}
use Rattle.s4d.proofs.session_files.clients_of.Given as goal

-- A client for each session so far, with its role and its streams, none of which has failed; there is room for the others.
abbrev pub invariant-loop-session : goal.invariant-loop-session
invariant-loop-session g l = record {
  count : vec_len l.clients ≡ length l.yielded;
  room : length l.fn.sessions.items ≤ vec_capacity l.clients;
  readers : All (λ c. c.reader.failures + 1 < 2 ^ 64) l.clients.items;
  writers : All (λ c. c.writer.failures + 1 < 2 ^ 64) l.clients.items;
  asked : AllZip (λ o c. (c.role ≡ o.session.role) × (g.F.Reader.Read.remaining c.reader.reader ≡ g.F.Reader.Read.remaining o.reader)
      × AreKnown (g.F.Writer.Write.contents c.writer.writer) [] × g.F.Files.writes c.writer.writer o.session.output.now) l.yielded l.clients.items;
  others : (other : List ℕ) → All (λ o. g.F.Files.apart other o.session.output.now) l.fn.sessions.items → Keeps (g.F.Files.contents l.fn.files other) (g.F.Files.contents l.files other);
}
