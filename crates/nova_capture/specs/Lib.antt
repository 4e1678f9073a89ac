pub mod Number
pub mod Reading
pub mod Pcap
pub mod Blocks
pub mod Record
pub mod Spelling
pub mod Stream
