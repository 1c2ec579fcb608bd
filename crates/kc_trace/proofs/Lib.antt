pub mod Outs
pub mod Printed
