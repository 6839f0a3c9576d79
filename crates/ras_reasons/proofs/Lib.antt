pub mod NamedFormulas
mod Marks
