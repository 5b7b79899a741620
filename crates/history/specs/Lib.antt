pub mod Step
pub mod Calls
pub mod Text
pub mod Printed
