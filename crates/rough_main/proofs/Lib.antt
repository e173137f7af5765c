pub mod Received
pub mod CallLaws
pub mod ProductLaws
