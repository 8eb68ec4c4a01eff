pub mod Buttons
