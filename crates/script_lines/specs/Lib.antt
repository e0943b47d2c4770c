pub mod Device
pub mod Tape
pub mod Noted
pub mod Cut
pub mod Unread
pub mod Lines
pub mod AtHand
