pub mod LentMemory
pub mod LooseSteps
