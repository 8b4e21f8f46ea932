-- Groups that meet the conditions, in which the bound is reached; and heights that need as many exchanges as are promised.
pub mod Each
pub mod Radio
pub mod Doubled
