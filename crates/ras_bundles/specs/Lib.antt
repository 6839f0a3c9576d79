pub mod SystemTexts
pub mod SystemReading
pub mod Numbers
pub mod Checks
pub mod Bundles
pub mod BundleFaults
pub mod Judging
pub mod Worked
