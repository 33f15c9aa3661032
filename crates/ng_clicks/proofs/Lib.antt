pub mod ClickLoop
