pub mod ReadBack
mod WholeParts
