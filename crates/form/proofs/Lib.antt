pub mod Reckoned
pub mod FormLists
pub mod FormLaws
