mod Taking
mod Playable
mod Knowing
mod Walking
mod Telling
mod OneAnswer
mod Fating
