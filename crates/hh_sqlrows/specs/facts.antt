pub mod KeyOrders
pub mod TableFacts
