-- The theorems over the check that an edit of its definition has to break.
pub mod StretchLaws
pub mod Swept
