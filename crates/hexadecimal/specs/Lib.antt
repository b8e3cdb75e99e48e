pub mod Hex
pub mod Unhexed
