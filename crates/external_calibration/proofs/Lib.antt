mod FloatSizes
mod Signs
mod Integers
mod Halves
mod Refused
mod Products
mod Lines
mod Sums
