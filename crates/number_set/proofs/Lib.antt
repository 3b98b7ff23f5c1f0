mod Sums
mod Ranks
mod Sets
mod Along
mod Chains
mod Bits
mod Gathered
mod DenseLemmas
