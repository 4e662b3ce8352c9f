pub mod AtGate
