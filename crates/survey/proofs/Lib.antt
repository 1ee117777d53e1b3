-- Laws of the survey's ways and walks.
pub mod Told
pub mod Pools
pub mod WalkLaws
pub mod MetLaws
pub mod EdgeLaws
pub mod ListLaws
pub mod SoundLaws
pub mod Lives
