pub mod Grades
pub mod Appended
pub mod DrawnGrowth
pub mod LabelGrowth
pub mod Tables
