pub mod ClaimantLaws
