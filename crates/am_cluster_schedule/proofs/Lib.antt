mod Driven
mod Fair
mod Linked
mod InTurn
mod Orders
mod Scheduled
mod Works
