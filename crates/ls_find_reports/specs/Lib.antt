pub mod Printing
pub mod Statuses
pub mod StatusLaws
pub mod Programs
pub mod Words
pub mod Reports
pub mod Sums
