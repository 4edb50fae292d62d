pub mod Headers
pub mod Known
pub mod Laying
pub mod Passes
pub mod Tables
