mod Saying
mod Statuses
