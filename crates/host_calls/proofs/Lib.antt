pub mod AtHand
pub mod Cutting
pub mod Printed
pub mod SaidSoFar
