-- Answers: orders of refusals, records, requests and their records, and what is written for a file, whole, in pieces, or by one
-- program for the other. What decoding answers is the least word, when it gives up, and demand 3 for the messages that it returns.
pub mod DecodeOrder
pub mod GuardAnswer
pub mod LeastAnswer
pub mod LevelBytes
pub mod OneAnswer
pub mod Orders
pub mod Pieces
pub mod Piped
pub mod Records
pub mod Requests
pub mod Sent
pub mod Sizes
pub mod Texts
pub mod WrittenRecord
