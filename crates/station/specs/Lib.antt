-- Layer 1, reading. What a reader must believe, in document 01's order: the limits, the head, the
-- causes, the text and its forms, the one text of a head, reading a head, an event line; then what
-- the code's records stand for, and what each entry answers and leaves.
pub mod Limits
pub mod Head
pub mod Refusal
pub mod Text
pub mod Line
pub mod Decimal
pub mod Form
pub mod Writing
pub mod Reading
pub mod Jobs
pub mod Event
pub mod Types
pub mod Records
pub mod ReadHead
pub mod WriteHead
pub mod Entries
pub mod Wrote
-- Document 02, 2026-01: rows, reading them into a head, and the entries.
pub mod Row
pub mod ReadRows
pub mod RowEntries
-- What only the code's method needs.
pub mod method
