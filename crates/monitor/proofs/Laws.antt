-- Laws of the calls that crates above cite.
pub use Rattle.monitor.proofs.record.Laws.{configured, settings-accepted, decide, moved, elapsed-accepted, uncounted}
pub use Rattle.monitor.proofs.reasons.Laws.{nothing-there}
