mod Pieces
mod Rule
mod Posts
