-- The definitions, in the order of 01: relations, descriptions, arrangements, closed tables, the search, the refusals, the sites to try.
pub mod Relations
pub mod Expressions
pub mod Descriptions
pub mod Places
pub mod Tables
pub mod Arrangements
pub mod Closed
pub mod Closing
pub mod Search
pub mod Stages
pub mod Calls
pub mod Cases
