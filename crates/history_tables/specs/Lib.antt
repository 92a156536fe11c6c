-- What tables tell of a history, and the room of each desk.
pub mod Telling
pub mod Rooms
