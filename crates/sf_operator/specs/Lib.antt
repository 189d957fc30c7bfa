pub mod Outcomes
pub mod Kinds
pub mod Breaches
pub mod Answers
pub mod Operations
pub mod FunctionForms
pub mod Remainders
pub mod Laws
