pub mod Transient
