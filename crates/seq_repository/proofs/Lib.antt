pub mod Agendas
pub mod Below
pub mod Entries
pub mod Followed
pub mod Keeping
pub mod Knowing
pub mod Metering
pub mod Numbers
pub mod Pages
pub mod Placing
pub mod Purging
pub mod Readers
pub mod Replying
pub mod Sound
pub mod Walked
pub mod Marks
pub mod Shown
pub mod Showing
pub mod Standing
pub mod Reported
pub mod Slots
pub mod Settled
pub mod Crossing
mod JobCrossing
mod RowsCrossing
pub mod RowsAdded
pub mod Gathering
