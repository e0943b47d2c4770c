pub mod Beginning
pub mod Histories
pub mod Keeping
pub mod Placing
pub mod Reading
pub mod Replying
