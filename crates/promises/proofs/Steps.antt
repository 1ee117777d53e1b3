-- One step of document 01 is one move of the machine, place by place.
pub mod Deciding
pub mod VertexLooks
pub mod VertexSteps
pub mod FindSteps
pub mod EdgeLooks
pub mod EdgeSettles
pub mod EdgeSteps
pub mod ContainsEdge
pub mod TrialMoves
pub mod TrialSteps
pub mod Follow
