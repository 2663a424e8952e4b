-- Sorted rows: the sums that the bits of a group of slots can add, with their patterns, merged slot by slot, and the mirror in a row.
pub mod SlotsInGroup
pub mod MirroredRows
pub mod SortedRows
