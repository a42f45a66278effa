pub mod Callees
