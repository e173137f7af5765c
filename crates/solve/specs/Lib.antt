pub mod Plans
pub mod Works
pub mod Solutions
