pub use Rattle.sf_grammar.specs.Spelling
pub use Rattle.sf_grammar.specs.Reading
pub use Rattle.sf_grammar.specs.Placing
pub use Rattle.sf_grammar.specs.Stopping
pub mod Parsing
pub mod Consuming
pub mod Answers
pub mod Progress
