-- Where blocks go.
use Rattle.std.specs.Prelude.{Bool, if◌then◌else◌, List, [], ◌∷◌, map}
use Rattle.std.specs.List.{list_any}
use Rattle.s4_types.specs.Pointer.{Place}
use Rattle.block_log.specs.Log.{same_place}
use Rattle.migration.specs.declared.moves.Move.{Move}

-- where a place's block goes; a place that isn't among them stays
abbrev pub moved_by : List Move → Place → Place
moved_by [] p = p
moved_by (m ∷ moves) p = if same_place m.from p then m.to else moved_by moves p

-- whether a place's block goes somewhere
abbrev pub is_moved : List Move → Place → Bool
is_moved moves p = list_any (λ m. same_place m.from p) moves

-- the places to which blocks go, in order
abbrev pub new_places : List Move → List Place
new_places moves = map (λ m. m.to) moves

-- The blocks of these places go to the places ahead, in order, as far as there are some.
abbrev pub moves_to : List Place → List Place → List Move
moves_to [] ahead = []
moves_to (p ∷ places) [] = []
moves_to (p ∷ places) (q ∷ ahead) = record { from = p; to = q } ∷ moves_to places ahead
