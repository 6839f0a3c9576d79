pub mod DatabaseFaults
