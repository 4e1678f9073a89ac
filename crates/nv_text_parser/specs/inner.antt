-- What the parser's functions promise each other, and the text's parser.
pub mod Cursor
pub mod Follow
pub mod Lists
pub mod Operators
pub mod Failing
pub mod Phrases
pub mod ExprPhrases
pub mod Starts
