mod Carrying
mod Finding
mod Making
mod Serving
