mod Blanks
mod Going
mod Lines
mod SaidSoFar
mod Seeing
