pub mod Space
pub mod Agent
pub mod Claim
pub mod Claimants
pub mod WindowEnds
