pub mod PieceLaws
pub mod UnendedLaws
pub mod EventLaws
