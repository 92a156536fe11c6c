mod AskedNodes
pub mod LaterAsks
