-- the graph, and what an event makes of it
pub mod Graph
pub mod Places
pub mod Effect
-- the rules
pub mod Knowing
pub mod Cleaning
pub mod Rules
pub mod Legal
-- what graphs may be asked to be, and what lasts
pub mod Shaped
pub mod Sound
pub mod Lasting
-- what a desk's next event is asked, for those who make it
pub mod Asking
-- worked histories
pub mod Examples
