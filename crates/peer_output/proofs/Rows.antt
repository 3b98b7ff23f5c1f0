-- The worked rows.
mod Allowed
mod Cancels
mod Refused
mod Shown
mod Table
mod TableTexts
mod Texts
