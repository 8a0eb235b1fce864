pub mod Scan
pub mod Said
