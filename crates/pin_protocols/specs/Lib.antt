pub mod Asks
pub mod Protocols
pub mod Pins
pub mod Flows
pub mod FlowView
