pub mod Farther
pub mod LevelMargin
pub mod Margin
pub mod SentWord
pub mod Tight
