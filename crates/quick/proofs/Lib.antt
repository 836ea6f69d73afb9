pub mod Running
pub mod Working
pub mod Taking
pub mod Finishing
pub mod Beginning
pub mod Carrying
pub mod Imaging
