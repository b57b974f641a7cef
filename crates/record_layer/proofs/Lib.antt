pub mod Settling
pub mod Completing
pub mod Querying
pub use Rattle.runtime.proofs.RunAttempts
pub use Rattle.runtime.proofs.Sendable
pub mod Folders
