mod Apart
mod Kept
mod NodeTests
mod Maps
