pub mod StudyX
pub mod Chain
pub mod OnePart
pub mod Figures
