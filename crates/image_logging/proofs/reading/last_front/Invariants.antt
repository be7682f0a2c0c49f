use Rattle.std.proofs.Common.{◌≡◌, Some, drop, map}
use Rattle.image_logging.specs.Reading.{followed}
use Rattle.image_logging.proofs.reading.last_front.Given as goal

-- what the other records make of the front so far is what all make of the first
abbrev pub invariant-loop-payload : goal.invariant-loop-payload
invariant-loop-payload l = followed (map (λ p. p.items) (drop l.payload-index l.payloads)) (Some l.front.items) ≡ followed (map (λ p. p.items) l.payloads) (Some l.fn.first.items)
