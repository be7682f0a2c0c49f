-- What the state of a frame that is made names.
use Rattle.segment_word.specs.declared.frame_words.FrameState.{FrameState}
use Rattle.segment_word.specs.declared.frame_words.FrameState.TheVariants.{Free as FreeState, Open as OpenState, Sealed as SealedState, Draining as DrainingState}
use Rattle.segment_word.specs.Frames.{Phase, Free, Open, Sealed, Draining}

-- the phase of a frame in this state
abbrev pub phase_in : FrameState → Phase
phase_in FreeState = Free
phase_in OpenState = Open
phase_in SealedState = Sealed
phase_in DrainingState = Draining
