mod Holders
mod Cuts
mod Touching
mod Feeds
