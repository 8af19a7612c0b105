mod Lines
mod Taking
