mod CameItems
mod EnclosedTexts
mod FramesRead
mod Items
mod LinesRead
mod Texts
