use Rattle.history_text.proofs.json.dates_value.Goals as goal

pub returns : goal.returns
returns c =
    c.object_of.ensures _ (c.with_time.ensures _ _ (c.with_time-made.ensures _ _ c.no_members.ensures c.new-clock.ensures) c.new-floor.ensures)
