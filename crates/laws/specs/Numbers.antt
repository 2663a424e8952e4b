-- Numbers: sums, counts, bits, digits and lists over the numbers below a bound. Nothing here knows of codes.
pub mod Apart
pub mod Bits
pub mod BytesOf
pub mod CountBelow
pub mod Counts
pub mod Deposits
pub mod Digits
pub mod Each
pub mod Highest
pub mod LittleEndian
pub mod Placed
pub mod SortedLists
pub mod Stores
pub mod Sums
