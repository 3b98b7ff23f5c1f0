pub mod DocumentOf
pub mod FirstShown
pub mod MethodsLaws
pub mod MethodsOf
pub mod Opening
pub mod PlacesOf
pub mod Within
