pub mod Calls
pub mod ItemsLaws
pub mod MadeSteps
pub mod MadeTemplates
