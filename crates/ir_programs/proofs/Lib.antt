pub mod Told
pub mod Counting
pub mod Repeating
pub mod NotKnown
mod SmallTrees
mod Examples
mod ExamplesOfConstants
mod ExamplesOfAnswers
mod ExamplesOfReadable
