-- Light: the level of a sample is the one whole number nearest to 256 times it, and an assembler gives out what its readings say.
pub mod Assembling
pub mod Nearest
