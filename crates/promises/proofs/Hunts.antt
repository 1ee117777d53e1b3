-- What a trial keeps in its worker's record: the set met, and the queue.
pub mod MetSet
pub mod Queue
pub mod Searching
pub mod Hunting
