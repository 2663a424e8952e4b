-- The theorems that rest on what an edit of must-fail/ changes. They stand apart from it, so that such an edit is refused for the
-- statement that it makes false, and no statement of specs/ is left unchecked.
pub mod Answers
pub mod Codewords
pub mod Distance
pub mod Guard
pub mod Numbers
pub mod Seats
pub mod Walk
