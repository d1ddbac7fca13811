mod Asking
mod Hearing
mod Answering
