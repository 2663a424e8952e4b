-- The answer: from the tables to the walk's end, from there to what `search` and `decode` answer, and demands 2 and 3 of `decode` itself.
pub mod Searching
pub mod Emptiness
pub mod Found
pub mod FirstOut
pub mod DecodeLeast
pub mod DecodeGuard
