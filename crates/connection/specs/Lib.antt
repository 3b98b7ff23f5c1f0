pub mod BackToBack
pub mod Connections
pub mod Conversations
pub mod Inner
pub mod Reports
pub mod Rules
pub mod Settings
