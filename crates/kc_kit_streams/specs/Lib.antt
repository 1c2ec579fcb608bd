pub mod HostReading
