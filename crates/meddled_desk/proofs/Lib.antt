mod PhaseHeld
mod Others
mod Ends
mod Lifting
