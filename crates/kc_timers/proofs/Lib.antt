pub mod T2Laws
