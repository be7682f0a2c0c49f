mod FramesRead
mod OneFrames
mod TableNames
mod AllRows
mod Faults
mod OneImage
mod PresentRows
