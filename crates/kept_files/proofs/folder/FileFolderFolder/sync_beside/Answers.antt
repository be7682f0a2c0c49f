use Rattle.std.proofs.Common.{◌∙◌}
use Rattle.host_calls.specs.Replay.{replay}
use Rattle.kept_files.proofs.Steps.{beside_durable, beside_there, on_both, sound_of}
use Rattle.kept_files.proofs.folder.FileFolderFolder.sync_beside.Goals as goal

pub returns-clause-durable : goal.returns-clause-durable
returns-clause-durable g c =
    on_both c.answer_of.result c.sync_file.result _ _ (c.answer_of.ensures ∙ c.has_lasted-self.ensures.well ∙ c.obstacle_in-synced.ensures) c.sync_file.ensures.lasting
    (λ lasting. beside_durable _ _ (replay (g.C.Calls.history c.args.self.now.calls)) (replay (g.C.Calls.history c.sync_file.new.calls)) _ _ c.in-Some.is
    (lasting (sound_of _ _ c.requires)))

pub returns-clause-there : goal.returns-clause-there
returns-clause-there g c =
    on_both c.answer_of.result c.sync_file.result _ _ (c.answer_of.ensures ∙ c.has_lasted-self.ensures.well ∙ c.obstacle_in-synced.ensures) c.sync_file.ensures.lasting
    (λ lasting. beside_there _ _ (replay (g.C.Calls.history c.args.self.now.calls)) (replay (g.C.Calls.history c.sync_file.new.calls)) _ _ c.in-Some.is
    (lasting (sound_of _ _ c.requires)))
