-- What the code's parts are held to, and no reader has to believe: proofs/ shows that it comes to
-- the definitions of specs/.
-- In order: the parts of an event; the lines of a text from a byte on; the part of a whole text;
-- the lines of slots; the part of the listing.
pub mod EventParts
pub mod TextLines
pub mod TextParts
pub mod SlotLines
pub mod ListingParts
