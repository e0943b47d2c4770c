pub mod Firsts
pub mod Listing
pub mod Marks
pub mod Numbers
