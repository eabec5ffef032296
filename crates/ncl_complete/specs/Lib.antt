pub mod RailFaults
