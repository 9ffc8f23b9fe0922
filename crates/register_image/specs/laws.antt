pub mod ResetTurns
