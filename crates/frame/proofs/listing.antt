-- One line of the listing; how long a listing can be; the listing of a whole text.
pub mod OneLine
pub mod ListingSize
pub mod WholeListing
