mod Turns
mod Driving
