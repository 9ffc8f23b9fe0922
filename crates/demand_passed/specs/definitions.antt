pub mod FirstFault
pub mod OneClaimant
pub mod Way
