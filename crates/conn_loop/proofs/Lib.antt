mod Answering
mod Meeting
mod Moving
mod Serving
mod Standing
