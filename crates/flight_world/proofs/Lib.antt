mod Seeing
mod Reaching
mod WorldCalls
