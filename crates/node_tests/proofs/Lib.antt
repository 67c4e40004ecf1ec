mod Crossing
mod Knowing
