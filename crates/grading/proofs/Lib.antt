pub mod Value
pub mod Order
pub mod Count
pub mod Most
pub mod Grade
pub mod Agreement
