mod Standing
mod Spelled
mod Terms
mod Declarations
mod Items
mod Again
