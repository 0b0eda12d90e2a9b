mod Framing
mod Sizes
