-- The live entries of a gate's book as a list (book/specs/Listings.antt).
pub use Rattle.book.specs.Listings.{gathered, all_live}
