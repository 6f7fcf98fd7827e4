-- Laws of what the store and the text spell, and of what checking answers. Assumes nothing.
pub mod ClauseLaws
pub mod WordLaws
pub mod CheckParts
