use Rattle.std.proofs.Common.{◌∙◌, ◌&&◌, ap, not, true, false, Bool}
use Rattle.host_calls.specs.Replay.{replay}
use Rattle.s4serve.proofs.keeping.HostRuntimeKeptFiles.keeper.Goals as goal

-- nothing was called yet, so no sync has failed
pub returns : goal.returns
returns c =
    let same = c.new.ensures.folder ∙ c.removing.ensures in
    let usable = ap (λ f. f.is_usable) same ∙ c.of_host.ensures.usable in
    let sound = ap (λ f. (replay f.calls.log.events).failed) same ∙ c.of_host.ensures.sound in
    record {
      usable = ap (λ (b : Bool). (b && not (replay c.new.result.folder.calls.log.events).failed) && not c.new.result.has_failed) usable
          ∙ ap (λ (b : Bool). (true && not b) && not c.new.result.has_failed) sound
          ∙ ap (λ (b : Bool). (true && not false) && not b) c.new.ensures.failed;
    }
