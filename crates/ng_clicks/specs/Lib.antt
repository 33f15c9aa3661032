pub mod Clicks
