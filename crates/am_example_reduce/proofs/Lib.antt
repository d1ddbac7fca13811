mod Lists
mod Scripts
mod Outcomes
