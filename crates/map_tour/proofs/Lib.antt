mod Told
mod Closing
