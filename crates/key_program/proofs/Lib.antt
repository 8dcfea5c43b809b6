mod Digits
mod Doing
mod Pieces
mod Refusing
