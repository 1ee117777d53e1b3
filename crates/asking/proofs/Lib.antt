-- Laws of a request by a lone worker, and of the counts over many.
pub mod AskLaws
pub mod TallyLaws
