pub mod Words
pub mod Readings
pub mod Amounts
pub mod Events
pub mod Marks
pub mod Forms
pub mod Lines
