pub mod Shorts
pub mod Feeds
pub mod Splitting
pub mod CutterSteps
pub mod Forms
pub mod SaveNames
pub mod Parsed
pub mod Answered
